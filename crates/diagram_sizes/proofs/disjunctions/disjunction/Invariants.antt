use Rattle.std.proofs.Common.{◌≡◌, ◌<◌, length}
use Rattle.pq_fields.specs.Pred.{pred_trees}
use Rattle.diagram_sizes.specs.Disjunctions.{NameOnly, numbers_of}
use Rattle.diagram_sizes.proofs.disjunctions.disjunction.Given as goal

-- so far there is a lawful test for each turn, and the next place is one of those counted
abbrev pub invariant-loop : goal.invariant-loop
invariant-loop l = record {
  operands : NameOnly (numbers_of l.tested l.count) (pred_trees l.operands.items);
  turns : length l.operands.items ≡ l.counter;
  place : l.place < l.count;
}
