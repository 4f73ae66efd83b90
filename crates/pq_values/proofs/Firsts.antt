-- No field is above its limit exactly where no first one is.
use Rattle.std.proofs.Common.{◌≡◌, ◌≤◌, ℕ, Bool, true, false, List, [], ◌∷◌, All, None, Some, if◌then◌else◌, nat_lt, refl, arith}
use Rattle.std.proofs.lemmas.Bool.Decides.{nat_tests}
use Rattle.std.proofs.lemmas.List.Elements.{All-nil, All-cons, All-head, All-tail}
use Rattle.pq_fields.specs.declared.field.Field.{Field}
use Rattle.pq_values.specs.Limits.{Limit, count_for, first_above, first_full, limits}
use Rattle.pq_values.specs.Room.{AreFewStated}
use Rattle.pq_values.specs.Stated.{Stated}

-- some field is not a none
some_is : {A : Type 0} (a : A) → Some a ≡ None → ⊥
some_is a same = absurd cc

few_above : (count : Field → ℕ) (ls : List Limit) → first_above count ls ≡ None → All (λ l. count l.0 ≤ l.1) ls
few_above count [] none = All-nil (λ l. count l.0 ≤ l.1)
few_above count (l ∷ ls) none = by (nat_lt l.1 (count l.0)) refl none (few_above count ls)
  where
    by : (b : Bool) → nat_lt l.1 (count l.0) ≡ b → (if b then Some (l.0, count l.0) else first_above count ls) ≡ None
        → (first_above count ls ≡ None → All (λ k. count k.0 ≤ k.1) ls) → All (λ k. count k.0 ≤ k.1) (l ∷ ls)
    by true above is later = absurd (some_is (l.0, count l.0) is)
    by false within is later = All-cons (λ k. count k.0 ≤ k.1) l ls (grind (arith, nat_tests, within)) (later is)

none_above : (count : Field → ℕ) (ls : List Limit) → All (λ l. count l.0 ≤ l.1) ls → first_above count ls ≡ None
none_above count [] few = refl
none_above count (l ∷ ls) few =
    let here : count l.0 ≤ l.1 = All-head (λ k. count k.0 ≤ k.1) l ls few in
    let within : nat_lt l.1 (count l.0) ≡ false = grind (arith, nat_tests, here) in
    rw within (none_above count ls (All-tail (λ k. count k.0 ≤ k.1) l ls few))

pub few_stated : (ss : List Stated) → first_full ss ≡ None → AreFewStated ss
few_stated ss none = few_above (λ f. count_for f ss) limits none

pub none_full : (ss : List Stated) → AreFewStated ss → first_full ss ≡ None
none_full ss few = none_above (λ f. count_for f ss) limits few
