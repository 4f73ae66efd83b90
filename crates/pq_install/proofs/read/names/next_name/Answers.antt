use Rattle.std.proofs.Common.{arith, refl, ◌++◌, ◌∷◌, []}
use Rattle.pq_model.specs.Install.{name_bytes}
use Rattle.pq_install.specs.Names.{IsName, AreReadNames}
use Rattle.pq_install.proofs.Sequences.{none_but}
use Rattle.pq_install.proofs.NameUnits.{unique_name, last_is_name, name_follows}
use Rattle.pq_install.proofs.read.names.next_name.Goals as goal

-- the name that is there is not new
pub returns-then-is_among-clause-err : goal.returns-then-is_among-clause-err
returns-then-is_among-clause-err c =
    let front = rw c.in-Some.is at c.name_at.ensures in (
      refl,
      none_but IsName name_bytes unique_name (λ n. AreReadNames (c.args.before.now ++ n ∷ [])) c.args.bytes.now _ _
          (last_is_name c.args.before.now) front
          (λ are. grind (arith, c.is_among.ensures, (name_follows c.args.before.now _ c.requires front.0).1 are, c.if-is_among.true)),
    )

pub returns-clause-ok : goal.returns-clause-ok
returns-clause-ok c =
    let front = rw c.in-Some.is at c.name_at.ensures in
    ((name_follows c.args.before.now _ c.requires front.0).0 (grind (arith, c.is_among.ensures, c.if-is_among.false)), front.1)
