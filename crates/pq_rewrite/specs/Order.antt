-- Sets of writes and lists of copies are equal item by item, and equal ones are the same.
use Rattle.std.specs.Prelude.{◌≡◌, ℕ, Bool, true, List, [], ◌∷◌}
use mathlib.Core.Path.{ap, ap₂, refl, sym}
use Rattle.std.proofs.lemmas.Bool.{true≢false}
use Rattle.std.proofs.lemmas.Cmp.{lists_equiv}
use Rattle.std.specs.Hash as fed
use Rattle.std.specs.Cmp.{IsPartialEquivalence, IsEquivalence, first_so, second_so, partial_equiv_from_equiv}
use Rattle.std.specs.Cmp.Lexicographic.{pointwise}
use Rattle.pq_fields.specs.contracts.writes.WritesEq.TheImpl as equivalence
use Rattle.pq_fields.specs.contracts.writes.WritesHash.TheImpl as hashes
use Rattle.pq_fields.specs.Order.{writes_eq}
use Rattle.pq_fields.specs.Writes.{Written}
use Rattle.pq_fields.proofs.Places.{same_writes}

-- lists whose items are equal one by one are the same, where equal items are
pub same_items : {A : Type 0} (E : A → A → Bool) → ((a b : A) → E a b ≡ true → a ≡ b) → (xs ys : List A) → pointwise E xs ys ≡ true → xs ≡ ys
same_items E same [] [] equal = refl
same_items E same [] (y ∷ ys) equal = absurd (true≢false (sym equal))
same_items E same (x ∷ xs) [] equal = absurd (true≢false (sym equal))
same_items E same (x ∷ xs) (y ∷ ys) equal =
    let first = first_so (E x y) (pointwise E xs ys) equal in
    let later = second_so (E x y) (pointwise E xs ys) equal in
    ap₂ (λ z zs. z ∷ zs) (same x y first) (same_items E same xs ys later)

-- whether two sets of writes are equal
abbrev pub set_eq : List Written → List Written → Bool
set_eq = pointwise writes_eq

pub set_equiv : IsEquivalence set_eq
set_equiv = lists_equiv equivalence.Laws.laws-law

pub set_per : IsPartialEquivalence set_eq
set_per = partial_equiv_from_equiv set_equiv

-- equal sets are the same
pub same_set : (v w : List Written) → set_eq v w ≡ true → v ≡ w
same_set = same_items writes_eq (λ a b equal. (same_writes a b).0 equal)

-- what `hash` writes of a set of writes
abbrev pub set_hash : List Written → List (List ℕ)
set_hash = fed.slice (hashes.ghosts).hash_input

-- equal sets write the same
pub set_hashes : (v w : List Written) → set_eq v w ≡ true → set_hash v ≡ set_hash w
set_hashes v w equal = ap set_hash (same_set v w equal)
