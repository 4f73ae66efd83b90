-- What more predicates tell of a word.
use Rattle.std.proofs.Common.{◌≡◌, ◌≤◌, ◌<◌, ℕ, zero, suc, List, [], ◌∷◌, ◌++◌, length, refl, arith}
use Rattle.pq_fields.specs.Packet.{Numbers}
use Rattle.pq_fields.specs.Pred.{PredTree}
use Rattle.pq_model.specs.Word.{In, Out, Word}
use Rattle.pq_expr.specs.Expr.{ExprTree, bound}
use Rattle.pq_expr.specs.Language.{holds}
use Rattle.pq_expr.specs.Word.{AgreeBelow}
use Rattle.pq_expr.proofs.Agreement.{holds_alike}
use Rattle.pq_lower.specs.HalfSteps.{half_steps}
use Rattle.pq_lower.proofs.Seen.{truth}

truth_longer : (ps more : List PredTree) (n : ℕ) (x : Numbers) → n < length ps → truth (ps ++ more) n x ≡ truth ps n x
truth_longer [] more n x small = absurd (omega (arith, small))
truth_longer (p ∷ ps) more zero x small = refl
truth_longer (p ∷ ps) more (suc n) x small = truth_longer ps more n x (omega (arith, small))

words_agree : (ps more : List PredTree) (w : Word) → AgreeBelow (length ps) (half_steps (ps ++ more) w) (half_steps ps w)
words_agree ps more [] = tt
words_agree ps more (In x ∷ w) = (refl, (λ n small. truth_longer ps more n x small), words_agree ps more w)
words_agree ps more (Out x ∷ w) = (refl, (λ n small. truth_longer ps more n x small), words_agree ps more w)

pub longer_tells : (e : ExprTree) (ps more : List PredTree) (w : Word) → bound e ≤ length ps → holds e (half_steps (ps ++ more) w) ≡ holds e (half_steps ps w)
longer_tells e ps more w small = holds_alike e (length ps) small (half_steps (ps ++ more) w) (half_steps ps w) (words_agree ps more w)
