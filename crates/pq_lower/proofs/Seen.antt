-- Which words of observations small expressions hold.
use Rattle.std.proofs.Common.{◌≡◌, ℕ, Bool, true, false, ◌||◌, ◌⊎◌, inl, inr, List, [], ◌∷◌, map, get_or, refl, ap, rules}
use Rattle.std.proofs.lemmas.Bool.{and_parts, or_cases}
use Rattle.pq_fields.specs.Packet.{Numbers}
use Rattle.pq_fields.specs.Pred.{PredTree, holds as is_met}
use Rattle.pq_model.specs.Word.{In, Out, Word}
use Rattle.pq_expr.specs.Expr.{Enters, Leaves, ExprTree, exprs, leaf}
use Rattle.pq_expr.specs.Word.{Word as HalfSteps}
use Rattle.pq_expr.specs.Language.{Language, is_empty, in_turn, languages, holds}
use Rattle.pq_expr.proofs.Pieces.{joined_last}
use Rattle.pq_lower.specs.HalfSteps.{half_steps}
use Rattle.pq_lower.specs.Operators.{optional_out}

-- whether the predicate of this number holds of the packet
abbrev pub truth : List PredTree → ℕ → Numbers → Bool
truth ps n x = get_or (map (λ p. is_met p x) ps) n false

-- the predicate of this number holds of every packet
abbrev pub IsAlways : List PredTree → ℕ → Type 0
IsAlways ps t = (x : Numbers) → truth ps t x ≡ true

-- the expressions in turn
abbrev pub turn : List ExprTree → Language
turn es = in_turn (languages (exprs es))

-- an expression in turn with nothing
pub turn_one : (e : ExprTree) (w : HalfSteps) → turn (e ∷ []) w ≡ holds e w
turn_one e w = joined_last (holds e) w

-- the empty word
pub is_none : (ps : List PredTree) (w : Word) → is_empty (half_steps ps w) ≡ true → w ≡ []
is_none ps [] h = refl
is_none ps (o ∷ w) h = absurd (search (h, rules))

-- one half step In
pub one_in : (ps : List PredTree) (n : ℕ) (w : Word) → holds (leaf (Enters n)) (half_steps ps w) ≡ true
    → (x : Numbers) × (w ≡ In x ∷ []) × (truth ps n x ≡ true)
one_in ps n [] h = absurd (search (h, rules))
one_in ps n (In x ∷ w) h = let seen = and_parts (truth ps n x) (is_empty (half_steps ps w)) h in (x, ap (λ v. In x ∷ v) (is_none ps w seen.1), seen.0)
one_in ps n (Out x ∷ w) h = absurd (search (h, rules))

pub in_one : (ps : List PredTree) (n : ℕ) (x : Numbers) → truth ps n x ≡ true → holds (leaf (Enters n)) (half_steps ps (In x ∷ [])) ≡ true
in_one ps n x met = rw met refl

-- one half step Out
pub one_out : (ps : List PredTree) (n : ℕ) (w : Word) → holds (leaf (Leaves n)) (half_steps ps w) ≡ true
    → (x : Numbers) × (w ≡ Out x ∷ []) × (truth ps n x ≡ true)
one_out ps n [] h = absurd (search (h, rules))
one_out ps n (In x ∷ w) h = absurd (search (h, rules))
one_out ps n (Out x ∷ w) h = let seen = and_parts (truth ps n x) (is_empty (half_steps ps w)) h in (x, ap (λ v. Out x ∷ v) (is_none ps w seen.1), seen.0)

pub out_one : (ps : List PredTree) (n : ℕ) (x : Numbers) → truth ps n x ≡ true → holds (leaf (Leaves n)) (half_steps ps (Out x ∷ [])) ≡ true
out_one ps n x met = rw met refl

-- nothing, or an Out
abbrev pub IsLead : Word → Type 0
IsLead u = (u ≡ []) ⊎ ((x : Numbers) × (u ≡ Out x ∷ []))

pub lead_optional : (ps : List PredTree) (t : ℕ) (u : Word) → IsAlways ps t → IsLead u → holds (optional_out t) (half_steps ps u) ≡ true
lead_optional ps t u always (inl none) = rw none refl
lead_optional ps t u always (inr (x, one)) = rw (one, always x) refl

pub optional_lead : (ps : List PredTree) (t : ℕ) (u : Word) → holds (optional_out t) (half_steps ps u) ≡ true → IsLead u
optional_lead ps t u h =
    elim (or_cases (is_empty (half_steps ps u)) (holds (leaf (Leaves t)) (half_steps ps u) || false) h) [
      | inl none ↦ inl (is_none ps u none)
      | inr more ↦ (elim (or_cases (holds (leaf (Leaves t)) (half_steps ps u)) false more) [
        | inl out ↦ (let one = one_out ps t u out in inr (one.0, one.1))
        | inr never ↦ absurd (search (never, rules))
      ])
    ]
