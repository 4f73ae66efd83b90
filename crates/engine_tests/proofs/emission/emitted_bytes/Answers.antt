use Rattle.std.proofs.Common.{sym, subst}
use Rattle.pq_compile.specs.Prepared.{IsCompilable}
use Rattle.engine_tests.proofs.emission.emitted_bytes.Goals as goal

pub query_instances-requires : goal.query_instances-requires
query_instances-requires c = subst IsCompilable (sym c.document-document.ensures.document) c.document-document.ensures.compilable
