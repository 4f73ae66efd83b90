use Rattle.std.proofs.Common.{◌≡◌}
use Rattle.pq_auto.specs.Refinement.{quotient}
use Rattle.pq_auto.specs.Stored.{stored_machine}
use Rattle.pq_auto.proofs.Whole.{of_parts, is_machine}
use Rattle.pq_auto.proofs.quotient.joined.Goals as goal
use Rattle.pq_auto.proofs.quotient.joined.Goals.{In_ok-accepted}

-- the automaton that was built is that of the classes
built : (c : In_ok-accepted) → stored_machine (record {
  letters = c.letters-letters.result;
  rows = c.in_ok-rows.rows;
  even = c.in_ok-even.even;
  accepted = c.in_ok-accepted.accepted;
}) ≡ quotient c.args.table.now c.args.parts.now
built c =
    let b = stored_machine (record {
      letters = c.letters-letters.result;
      rows = c.in_ok-rows.rows;
      even = c.in_ok-even.even;
      accepted = c.in_ok-accepted.accepted;
    }) in
    of_parts (quotient c.args.table.now c.args.parts.now) b.letters b.rows b.even b.accepted c.letters-letters.ensures c.in_ok-rows.ensures
    c.in_ok-even.ensures c.in_ok-accepted.ensures

pub invariant_of-result : goal.invariant_of-result
invariant_of-result c =
    is_machine c.args.table.now c.args.parts.now c.is_lawful.ensures c.requires
    (stored_machine (record {
      letters = c.letters-letters.result;
      rows = c.in_ok-rows.rows;
      even = c.in_ok-even.even;
      accepted = c.in_ok-accepted.accepted;
    })) (built c)
