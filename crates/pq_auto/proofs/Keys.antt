-- Keys that are lists of numbers, in a set.
use Rattle.std.proofs.Common.{◌≡◌, ℕ, zero, suc, Bool, true, false, ◌&&◌, ◌||◌, if◌then◌else◌, not, ◌+◌, arith, nat_eq, cond, List, [], ◌∷◌}
use Rattle.std.proofs.Common.{◌++◌, length, Some, inl, inr, Vec, Global, refl, sym, ap, ap₂, ◌∙◌}
use Rattle.std.specs.List.{slice_get, list_any, position_or_len, IsDistinct, AllByRecursion}
use Rattle.std.specs.Cmp.Lexicographic.{pointwise}
use Rattle.std.proofs.lemmas.Bool.{eq-eqb, eqb-true, and_parts}
use Rattle.std.proofs.lemmas.List.{map-append, length-map}
use Rattle.indexmap.specs.IndexSet.{insert_key}
use Rattle.pq_auto.specs.Search.{IsNumber, IsOnce}
use Rattle.pq_auto.specs.Tables.{lists}

-- lists that compare as equal are one
pub exact : (xs ys : List ℕ) → pointwise nat_eq xs ys ≡ true → xs ≡ ys
exact [] [] h = refl
exact [] (y ∷ ys) h = absurd cc
exact (x ∷ xs) [] h = absurd cc
exact (x ∷ xs) (y ∷ ys) h = let p = and_parts (nat_eq x y) (pointwise nat_eq xs ys) h in ap₂ (λ z zs. z ∷ zs) (eqb-true x y p.0) (exact xs ys p.1)

-- a list compares as equal to itself
itself : (xs : List ℕ) → pointwise nat_eq xs xs ≡ true
itself [] = refl
itself (x ∷ xs) = ap₂ (λ a b. a && b) (eq-eqb x x refl) (itself xs)

-- stored lists that are equal
abbrev pub same_list : Vec ℕ Global → Vec ℕ Global → Bool
same_list x y = pointwise nat_eq x.items y.items

-- a stored list
pub stored_at : (keys : List (Vec ℕ Global)) (i : ℕ) (k : Vec ℕ Global) → slice_get keys i ≡ Some k → slice_get (lists keys) i ≡ Some k.items
stored_at [] i k h = absurd cc
stored_at (x ∷ keys) zero k h = cc
stored_at (x ∷ keys) (suc i) k h = stored_at keys i k h

-- a test that nothing passes finds no place
pub none_found : {X : Type 0} (p : X → Bool) (xs : List X) → list_any p xs ≡ false → position_or_len p xs ≡ length xs
none_found p [] h = refl
none_found p (x ∷ xs) h = by (p x) h (none_found p xs)
  where
    by : (b : Bool) → (b || list_any p xs) ≡ false → (list_any p xs ≡ false → position_or_len p xs ≡ length xs)
        → cond (not b) (1 + position_or_len p xs) 0 ≡ suc (length xs)
    by true fails rest = absurd cc
    by false fails rest = rw (rest fails) (omega arith)

-- an insertion numbers the key
pub numbers : (old new : List (Vec ℕ Global)) (k : Vec ℕ Global) (n : ℕ) → new ≡ insert_key same_list old k
    → (s : Vec ℕ Global) × (slice_get new n ≡ Some s) × (same_list k s ≡ true) → n ≡ position_or_len (same_list k) old
    → IsNumber (lists old) k.items n (lists new)
numbers old new k n inserted stored index = by (list_any (same_list k) old) refl
  where
    by : (b : Bool) → list_any (same_list k) old ≡ b → IsNumber (lists old) k.items n (lists new)
    by true is =
        let same : new ≡ old = inserted ∙ ap (λ b. if b then old else old ++ k ∷ []) is in
        inl (
          ap lists same,
          ap (λ ks. slice_get (lists ks) n) (sym same) ∙ stored_at new n stored.0 stored.1
              ∙ ap Some (sym (exact k.items stored.0.items stored.2)),
        )
    by false is =
        let grown : new ≡ old ++ k ∷ [] = inserted ∙ ap (λ b. if b then old else old ++ k ∷ []) is in
        inr (ap lists grown ∙ map-append (λ v. v.items) old (k ∷ []), index ∙ none_found (same_list k) old is ∙ sym (length-map old (λ v. v.items)))

-- no test passes and fails
pub not_both : (b : Bool) → b ≡ false → b ≡ true → ⊥
not_both true fails passes = cc
not_both false fails passes = cc

-- a stored list from which all of these differ is none of them
differs : (x : Vec ℕ Global) (ys : List (Vec ℕ Global)) → AllByRecursion (λ y. same_list x y ≡ false) ys → (j : ℕ) → slice_get (lists ys) j ≡ Some x.items → ⊥
differs x [] all j at = cc
differs x (y ∷ ys) all zero at =
    let same : y.items ≡ x.items = cc in
    let fails : pointwise nat_eq x.items x.items ≡ false = ap (pointwise nat_eq x.items) (sym same) ∙ all.0 in
    not_both (pointwise nat_eq x.items x.items) fails (itself x.items)
differs x (y ∷ ys) all (suc j) at = differs x ys all.1 j at

-- of keys of which none is equal to a later one, each has one place
pub each_once : (keys : List (Vec ℕ Global)) → IsDistinct same_list keys → IsOnce (lists keys)
unfolding IsDistinct
each_once [] distinct i j k at_i at_j = absurd cc
each_once (x ∷ keys) distinct zero zero k at_i at_j = refl
each_once (x ∷ keys) distinct zero (suc j) k at_i at_j = absurd (differs x keys distinct.0 j (at_j ∙ sym at_i))
each_once (x ∷ keys) distinct (suc i) zero k at_i at_j = absurd (differs x keys distinct.0 i (at_i ∙ sym at_j))
each_once (x ∷ keys) distinct (suc i) (suc j) k at_i at_j = ap suc (each_once keys distinct.1 i j k at_i at_j)
