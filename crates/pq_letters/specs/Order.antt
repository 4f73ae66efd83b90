-- Signatures are equal item by item, and equal ones are the same.
use Rattle.std.specs.Prelude.{◌≡◌, ℕ, Bool, true, List, [], ◌∷◌}
use mathlib.Core.Path.{ap, ap₂, refl, sym}
use mathlib.Core.Bool.{beq}
use Rattle.std.specs.Hash as fed
use Rattle.std.proofs.lemmas.Cmp.{lists_equiv}
use Rattle.std.proofs.lemmas.Bool.{true≢false}
use Rattle.std.specs.Cmp.{IsPartialEquivalence, IsEquivalence, bool_eq_equiv, booleans_Decides, first_so, second_so, partial_equiv_from_equiv}
use Rattle.std.specs.Cmp.Lexicographic.{pointwise}

-- whether two signatures are equal
abbrev pub truths_eq : List Bool → List Bool → Bool
truths_eq = pointwise beq

pub truths_equiv : IsEquivalence truths_eq
truths_equiv = lists_equiv bool_eq_equiv

pub truths_per : IsPartialEquivalence truths_eq
truths_per = partial_equiv_from_equiv truths_equiv

-- equal signatures are the same
pub same_truths : (v w : List Bool) → truths_eq v w ≡ true → v ≡ w
same_truths [] [] equal = refl
same_truths [] (y ∷ ys) equal = absurd (true≢false (sym equal))
same_truths (x ∷ xs) [] equal = absurd (true≢false (sym equal))
same_truths (x ∷ xs) (y ∷ ys) equal =
    let first = first_so (beq x y) (pointwise beq xs ys) equal in
    let later = second_so (beq x y) (pointwise beq xs ys) equal in
    ap₂ (λ z zs. z ∷ zs) ((booleans_Decides x y).0 first) (same_truths xs ys later)

-- what `hash` writes of a signature
abbrev pub truths_hash : List Bool → List (List ℕ)
truths_hash = fed.slice fed.bool

-- equal signatures write the same
pub truths_hashes : (v w : List Bool) → truths_eq v w ≡ true → truths_hash v ≡ truths_hash w
truths_hashes v w equal = ap truths_hash (same_truths v w equal)
