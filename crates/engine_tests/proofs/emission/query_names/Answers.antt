use Rattle.pq_compile.proofs.InstallLemmas.{names_are}
use Rattle.engine_tests.proofs.emission.query_names.Goals as goal

pub returns : goal.returns
returns c = names_are c.args.document.now c.deref.result.now c.in_ok-names.names.items c.deref.ensures.value c.in_ok-names.ensures
