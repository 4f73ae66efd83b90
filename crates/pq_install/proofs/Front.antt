-- A spelling at the front of bytes is the only one there.
use Rattle.std.specs.Prelude.{◌≡◌, ℕ, ◌<◌, List, [], ◌∷◌, ◌++◌, All, length, refl}
use Rattle.std.proofs.Common.{arith, sym, ap, ◌∙◌, append_assoc}
use Rattle.std.specs.Int.{w16, w32, w64, to_be_bytes, from_be_bytes}
use Rattle.std.specs.List.{flat_map}
use Rattle.std.proofs.lemmas.Nat.{from_be_bytes-to_be_bytes_2, from_be_bytes-to_be_bytes_4, from_be_bytes-to_be_bytes_8}
use Rattle.std.proofs.lemmas.List.Elements.{All-tail}
use Rattle.pq_install.specs.Front.{NoneAtFront, IsU16, IsU32, IsU64}

-- no two values with the property are spelled at one front
abbrev pub Unique : {X : Type 0} → (X → Type 0) → (X → List ℕ) → Type 0
Unique {X} P spell = (x y : X) (a b : List ℕ) → P x → P y → spell x ++ a ≡ spell y ++ b → (x ≡ y) × (a ≡ b)

-- fronts of one length are the same
pub same_fronts : (xs ys a b : List ℕ) → length xs ≡ length ys → xs ++ a ≡ ys ++ b → (xs ≡ ys) × (a ≡ b)
same_fronts [] [] a b same e = (refl, e)
same_fronts [] (y ∷ ys) a b same e = absurd (omega (arith, same))
same_fronts (x ∷ xs) [] a b same e = absurd (omega (arith, same))
same_fronts (x ∷ xs) (y ∷ ys) a b same e =
    let later = same_fronts xs ys a b (omega (arith, same)) cc in
    let head : x ≡ y = cc in
    (rw (head, later.0) refl, later.1)

pub unique_u16 : Unique IsU16 (to_be_bytes w16)
unique_u16 x y a b fx fy e =
    let same = same_fronts (to_be_bytes w16 x) (to_be_bytes w16 y) a b refl e in
    (sym (from_be_bytes-to_be_bytes_2 x fx) ∙ (ap (from_be_bytes w16) same.0 ∙ from_be_bytes-to_be_bytes_2 y fy), same.1)

pub unique_u32 : Unique IsU32 (to_be_bytes w32)
unique_u32 x y a b fx fy e =
    let same = same_fronts (to_be_bytes w32 x) (to_be_bytes w32 y) a b refl e in
    (sym (from_be_bytes-to_be_bytes_4 x fx) ∙ (ap (from_be_bytes w32) same.0 ∙ from_be_bytes-to_be_bytes_4 y fy), same.1)

pub unique_u64 : Unique IsU64 (to_be_bytes w64)
unique_u64 x y a b fx fy e =
    let same = same_fronts (to_be_bytes w64 x) (to_be_bytes w64 y) a b refl e in
    (sym (from_be_bytes-to_be_bytes_8 x fx) ∙ (ap (from_be_bytes w64) same.0 ∙ from_be_bytes-to_be_bytes_8 y fy), same.1)

-- where a list is that is shorter than another, a further value of the other is after it
pub longer_goes_on : {X : Type 0} (P : X → Type 0) (spell : X → List ℕ) → Unique P spell → (xs ys : List X) (rest more : List ℕ) → All P xs
    → All P ys → length xs < length ys → flat_map spell xs ++ rest ≡ flat_map spell ys ++ more → NoneAtFront P spell rest → ⊥
longer_goes_on P spell unique [] [] rest more px py shorter e none = omega (arith, shorter)
longer_goes_on P spell unique [] (y ∷ ys) rest more px py shorter e none = none y (flat_map spell ys ++ more) (py 0 y (omega arith)) (e
    ∙ append_assoc (spell y) (flat_map spell ys) more)
longer_goes_on P spell unique (x ∷ xs) [] rest more px py shorter e none = omega (arith, shorter)
longer_goes_on P spell unique (x ∷ xs) (y ∷ ys) rest more px py shorter e none =
    let same = unique x y (flat_map spell xs ++ rest) (flat_map spell ys ++ more) (px 0 x (omega arith)) (py 0 y (omega arith))
    (sym (append_assoc (spell x) (flat_map spell xs) rest) ∙ (e ∙ append_assoc (spell y) (flat_map spell ys) more)) in
    longer_goes_on P spell unique xs ys rest more (All-tail P x xs px) (All-tail P y ys py) (omega (arith, shorter)) same.1 none

-- so two lists of one length are the same
pub unique_list : {X : Type 0} (P : X → Type 0) (spell : X → List ℕ) → Unique P spell → (xs ys : List X) (rest more : List ℕ) → All P xs
    → All P ys → length xs ≡ length ys → flat_map spell xs ++ rest ≡ flat_map spell ys ++ more → (xs ≡ ys) × (rest ≡ more)
unique_list P spell unique [] [] rest more px py same e = (refl, e)
unique_list P spell unique [] (y ∷ ys) rest more px py same e = absurd (omega (arith, same))
unique_list P spell unique (x ∷ xs) [] rest more px py same e = absurd (omega (arith, same))
unique_list P spell unique (x ∷ xs) (y ∷ ys) rest more px py same e =
    let first = unique x y (flat_map spell xs ++ rest) (flat_map spell ys ++ more) (px 0 x (omega arith)) (py 0 y (omega arith))
    (sym (append_assoc (spell x) (flat_map spell xs) rest) ∙ (e ∙ append_assoc (spell y) (flat_map spell ys) more)) in
    let later = unique_list P spell unique xs ys rest more (All-tail P x xs px) (All-tail P y ys py) (omega (arith, same)) first.1 in
    (rw (first.0, later.0) refl, later.1)
