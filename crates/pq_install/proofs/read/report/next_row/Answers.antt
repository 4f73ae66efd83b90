use Rattle.std.proofs.Common.{arith, refl, ◌++◌, ◌∷◌, []}
use Rattle.pq_model.specs.Install.{row_bytes}
use Rattle.pq_install.specs.Rows.{HasPairs, AreReadRows}
use Rattle.pq_install.proofs.Sequences.{none_but}
use Rattle.pq_install.proofs.RowUnits.{unique_row}
use Rattle.pq_install.proofs.RowLists.{last_has_pairs}
use Rattle.pq_install.proofs.read.report.next_row.Goals as goal

-- no row is there
pub returns-in_default-clause-err : goal.returns-in_default-clause-err
returns-in_default-clause-err c =
    let none = rw c.in_default.is at c.in_ok-row.ensures in
    (refl, λ row rest are e. none row rest (last_has_pairs c.args.queries c.requires.few c.args.before.now row are) e)

-- the row that is there may not follow
pub returns-then-not-may_follow-clause-err : goal.returns-then-not-may_follow-clause-err
returns-then-not-may_follow-clause-err c =
    let front = rw c.in-Some.is at c.in_ok-row.ensures in (
      refl,
      none_but HasPairs row_bytes unique_row (λ row. AreReadRows c.args.queries (c.args.before.now ++ row ∷ [])) c.args.bytes.now
          c.in-Some.row _ (last_has_pairs c.args.queries c.requires.few c.args.before.now) front
          (λ are. grind (arith, c.may_follow.ensures.1 are, c.if-not-may_follow.true)),
    )
