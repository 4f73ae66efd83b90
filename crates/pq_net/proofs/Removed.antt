-- An item taken out of a list of which the first ones don't count.
use Rattle.std.proofs.Common.{◌≡◌, ◌+◌, ◌<◌, ◌≤◌, ℕ, suc, List, ◌++◌, ap, ap₂, sym, ◌∙◌, arith, drop, take, length}
use Rattle.std.specs.List.{remove}
use Rattle.std.proofs.lemmas.List.{drop-append-le, drop-drop, drop-take, length-take}

pub first_removed : {X : Type 0} (first : ℕ) (xs : List X) → drop (first + 1) xs ≡ remove (drop first xs) 0
first_removed first xs = sym (drop-drop 1 first xs)

pub later_removed : {X : Type 0} (first place : ℕ) (xs : List X) → first + place < length xs
    → drop first (remove xs (first + place)) ≡ remove (drop first xs) place
later_removed first place xs within =
    let short : first ≤ length (take (first + place) xs) = omega (arith, within, length-take (first + place) xs) in
    let same : suc (first + place) ≡ first + suc place = omega arith in
    drop-append-le first (take (first + place) xs) (drop (suc (first + place)) xs) short
    ∙ ap₂ (λ a b. a ++ b) (drop-take first place xs) (ap (λ n. drop n xs) same ∙ sym (drop-drop (suc place) first xs))
