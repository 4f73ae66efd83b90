-- What a read from a list of bytes gives and takes.
use Rattle.std.proofs.Common.{◌≡◌, ℕ, ◌<◌, min, List, [], ◌++◌, length, take, drop, sym, ap, ◌∙◌, arith, take_at, length-take-le}
use Rattle.std.proofs.Common.{take-append-drop, drop_of_length-le}

-- n bytes, as many as are left, fit and may come at once, come from the front of what is left, and there is none only at the end or without room
pub front_is_read : (left into : List ℕ) (n most : ℕ) → 0 < most → n ≡ min (min (length left) (length into)) most
    → (left ≡ take n (take n left ++ drop n into) ++ drop n left) × (n ≡ 0 → 0 < length (take n left ++ drop n into) → drop n left ≡ [])
front_is_read left into n most some count =
    let given : take n (take n left ++ drop n into) ≡ take n left = take_at _ _ n (length-take-le n left (omega arith)) in
    (sym (take-append-drop n left) ∙ ap (λ l. l ++ drop n left) (sym given), λ none room. drop_of_length-le left (search (arith)))
