use Rattle.std.proofs.Common.{◌≡◌, ◌≤◌, ◌++◌, map, drop, length}
use Rattle.pq_fields.specs.Pred.{pred_tree}
use Rattle.pq_lower.specs.Added.{tests}
use Rattle.pq_lower.proofs.predicates.push_tests.Given as goal

-- the groups that are left give the other tests
abbrev pub invariant-loop-group : goal.invariant-loop-group
invariant-loop-group l = record {
  tests : map pred_tree l.preds.items ++ tests (drop l.group-index l.groups) (drop l.place l.label) ≡ map pred_tree l.initial.preds.items
      ++ tests l.groups (drop l.initial.place l.label);
  place : drop (length (drop l.group-index l.groups)) (drop l.place l.label) ≡ drop (length l.groups) (drop l.initial.place l.label);
  within : l.place ≤ length l.label;
}
