use Rattle.std.proofs.Common.{◌<◌, ◌^◌, length, arith}
use Rattle.std.proofs.lemmas.List.Elements.{All-weaker}
use Rattle.pq_query.specs.Atoms.{query_atoms}
use Rattle.pq_query.specs.Query.{QueryTree}
use Rattle.pq_compile.specs.Documents.{document_tree}
use Rattle.pq_compile.specs.Names.{Named}
use Rattle.pq_compile.proofs.Values.{bare}
use Rattle.engine_tests.proofs.texts.document_of.Goals as goal

pub returns-in-Ok : goal.returns-in-Ok
returns-in-Ok c =
    let d = document_tree c.in-Ok.document in
    let short = c.requires in
    record {
      lawful = c.documents_that_are_read_are_lawful.ensures c.args.text.now d c.in-Ok.ensures.ok;
      atoms = bare (λ q. query_atoms q < 2 ^ 19) d.queries
          (All-weaker (λ (q : Named QueryTree). query_atoms q.1 < length c.args.text.now) (λ (q : Named QueryTree). query_atoms q.1 < 2 ^ 19)
          (λ q few. omega (arith, few, short)) d.queries (c.queries_that_are_read_have_few_atoms.ensures c.args.text.now d c.in-Ok.ensures.ok));
    }
