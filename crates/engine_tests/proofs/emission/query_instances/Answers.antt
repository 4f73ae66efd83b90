use Rattle.std.proofs.Common.{length, ap, arith, ◌∙◌}
use Rattle.std.proofs.lemmas.List.{length-map}
use Rattle.pq_query.specs.Instances.{instances_of}
use Rattle.pq_compile.specs.Documents.{named_query_tree}
use Rattle.pq_compile.proofs.Values.{queries_are}
use Rattle.engine_tests.proofs.emission.query_instances.Goals as goal

pub instances-requires : goal.instances-requires
instances-requires c =
    let few = c.requires.lawful.few_queries in
    let same = ap length c.deref.ensures.value in
    let long = length-map c.args.document.now.queries.items named_query_tree in
    omega (arith, few, same, long)

pub returns : goal.returns
returns c = c.in_ok-all.ensures.instances
    ∙ ap (instances_of c.args.document.now.topology) (queries_are c.args.document.now c.deref.result.now c.deref.ensures.value)
