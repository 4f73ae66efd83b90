use Rattle.std.proofs.Common.{sym, subst}
use Rattle.pq_model.specs.Install.{IsLawfulInstall}
use Rattle.engine_tests.proofs.emission.kept_bytes.Goals as goal

pub bytes_of-requires : goal.bytes_of-requires
bytes_of-requires c = subst IsLawfulInstall (sym c.install.ensures.install) c.install.ensures.installed.lawful
