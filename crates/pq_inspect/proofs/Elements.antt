-- The text of a list that is written element by element.
use Rattle.std.specs.Prelude.{◌≡◌, ℕ, ◌+◌, ◌<◌, ◌≤◌, nat_lt, true, List, [], ◌∷◌, ◌++◌, map, length, drop, get_or, zip}
use Rattle.std.proofs.Common.{arith, ap, sym, append_assoc, ◌∙◌}
use Rattle.std.proofs.lemmas.List.{at_drop_more}
use Rattle.std.proofs.Math.ListN.{drop_of_length-le}
use Rattle.serde_json.specs.Data.{Data}
use Rattle.serde_json.specs.View.{items_of}
use Rattle.serde_json.specs.Written.{compact_text, comma_if, items_text}

-- the text with elements that are left, the first of which is at this index, and the closing bracket
abbrev pub with_rest : {A : Type 0} → (A → Data) → List ℕ → ℕ → List A → List ℕ
with_rest shown written i xs = written ++ items_text (nat_lt 0 i) (items_of (map shown xs))

is_later : (i : ℕ) → nat_lt 0 (i + 1) ≡ true
is_later i = grind arith

regroup : (a b c d : List ℕ) → ((a ++ b) ++ c) ++ d ≡ a ++ (b ++ (c ++ d))
regroup a b c d = simp append_assoc

-- the first of the elements that are left is written
pub first_written : {A : Type 0} (shown : A → Data) (x : A) (xs : List A) (i : ℕ) (written : List ℕ)
    → with_rest shown ((written ++ comma_if (nat_lt 0 i)) ++ compact_text (shown x)) (i + 1) xs ≡ with_rest shown written i (x ∷ xs)
first_written shown x xs i written =
    rw (is_later i) (regroup written (comma_if (nat_lt 0 i)) (compact_text (shown x)) (items_text true (items_of (map shown xs))))

-- the element at the index is written
pub next_written : {A : Type 0} (shown : A → Data) (xs : List A) (i : ℕ) (x : A) (written whole : List ℕ)
    → with_rest shown written i (drop i xs) ≡ whole → i < length xs → x ≡ get_or xs i x
    → with_rest shown ((written ++ comma_if (nat_lt 0 i)) ++ compact_text (shown x)) (i + 1) (drop (i + 1) xs) ≡ whole
next_written shown xs i x written whole before below read =
    let opened = at_drop_more (with_rest shown written i) xs i x below
    ∙ ap (λ (y : _). with_rest shown written i (y ∷ drop (i + 1) xs)) (sym read) in
    first_written shown x (drop (i + 1) xs) i written ∙ sym opened ∙ before

-- all elements are written
pub all_written : {A : Type 0} (shown : A → Data) (xs : List A) (i : ℕ) (written whole : List ℕ)
    → with_rest shown written i (drop i xs) ≡ whole → length xs ≤ i → written ++ 93 ∷ [] ≡ whole
all_written shown xs i written whole before all = rw (drop_of_length-le xs all) at before

-- the first of two lists side by side is written, where only what is left of the second is kept
pub pair_written : {A B : Type 0} (shown : A × B → Data) (xs : List A) (i : ℕ) (x : A) (y : B) (ys : List B) (written whole : List ℕ)
    → with_rest shown written i (zip (drop i xs) (y ∷ ys)) ≡ whole → i < length xs → x ≡ get_or xs i x
    → with_rest shown ((written ++ comma_if (nat_lt 0 i)) ++ compact_text (shown (x, y))) (i + 1) (zip (drop (i + 1) xs) ys) ≡ whole
pair_written {A} shown xs i x y ys written whole before below read =
    let F : List A → List ℕ = λ rest. with_rest shown written i (zip rest (y ∷ ys)) in
    let opened = at_drop_more F xs i x below ∙ ap (λ (first : A). F (first ∷ drop (i + 1) xs)) (sym read) in
    first_written shown (x, y) (zip (drop (i + 1) xs) ys) i written ∙ sym opened ∙ before
