use Rattle.std.proofs.Common.{◌≡◌, ◌<◌, ◌+◌, ℕ, ◌++◌, ◌-◌, List, length, map, Some}
use Rattle.std.specs.List.{slice_get}
use Rattle.pq_expr.specs.Expr.{ExprTree}
use Rattle.pq_auto.specs.Rests.{Rest, rests, after, AreAlike, AreRestsOf}
use Rattle.pq_auto.specs.Search.{AreNumbers, targets}
use Rattle.pq_auto.proofs.single.expand.Given as goal

abbrev pub invariant-loop-letter : goal.invariant-loop-letter
invariant-loop-letter g l = record {
  within : l.place < length l.states.keys;
  counted : l.steps ≡ l.fn.steps + l.letter;
  alike : AreAlike l.states.keys;
  own : (e : ExprTree) → AreRestsOf e l.fn.states.keys → AreRestsOf e l.states.keys;
  stays : (r : Rest) → slice_get (rests l.fn.states.keys) l.place ≡ Some r → slice_get (rests l.states.keys) l.place ≡ Some r;
  numbers : (r : Rest) → slice_get (rests l.fn.states.keys) l.place ≡ Some r → (more : List ℕ) (new : List Rest) →
      AreNumbers (rests l.states.keys) (targets (after (map (λ v. v.items) l.alphabet)) r l.letter (length l.alphabet - l.letter)) more new →
      AreNumbers (rests l.fn.states.keys) (targets (after (map (λ v. v.items) l.alphabet)) r 0 (length l.alphabet)) (l.row.items ++ more) new;
}
