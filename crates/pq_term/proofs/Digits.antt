-- Values of digits.
use Rattle.std.proofs.Common.{◌≡◌, ℕ, ◌+◌, ◌*◌, ◌^◌, ◌<◌, ◌≤◌, true, List, [], ◌∷◌, length, get_or, drop, suc, ap, sym, ◌∙◌, arith}
use Rattle.std.specs.List.{list_all}
use Rattle.std.proofs.Math.ListN.{drop_of_length-le}
use Rattle.std.proofs.Math.Seq.{drop-cons}
use Rattle.std.proofs.Math.Nat.{pow-succ', le-mul_of_pos_right, mul_assoc, mul-le-mul_right, pow-le-pow_right}
use Rattle.std.proofs.lemmas.Bool.{and_parts, ltb-true, leb-true}
use Rattle.pq_term.specs.Numbers.{digit_value, is_digit, is_hex, value_after, value_of}

-- more digits make no smaller value
pub value_grows : (base so_far : ℕ) (digits : List ℕ) → 0 < base → so_far ≤ value_after base so_far digits
value_grows base so_far [] positive = omega arith
value_grows base so_far (b ∷ bs) positive =
    let more : so_far ≤ so_far * base = le-mul_of_pos_right so_far positive in
    omega (arith, more, value_grows base (so_far * base + digit_value b) bs positive)

-- where no digit is left, the value is whole
pub value_at_end : (base so_far : ℕ) (digits : List ℕ) (i : ℕ) → length digits ≤ i
    → value_after base so_far (drop i digits) ≡ value_of base digits → so_far ≡ value_of base digits
value_at_end base so_far digits i end left = ap (value_after base so_far) (sym (drop_of_length-le digits end)) ∙ left

-- a value that is too big with the next digit is too big with all of them
pub too_big : (base so_far : ℕ) (digits : List ℕ) (i : ℕ) → 0 < base → i < length digits
    → value_after base so_far (drop i digits) ≡ value_of base digits → (so_far * base + digit_value (get_or digits i 0) < 2 ^ 64 → ⊥)
    → value_of base digits < 2 ^ 64 → ⊥
too_big base so_far digits i positive more left big fits =
    let split = ap (value_after base so_far) (sym (drop-cons digits i 0 more)) ∙ left in
    big (omega (arith, split, value_grows base (so_far * base + digit_value (get_or digits i 0)) (drop (suc i) digits) positive, fits))

-- each hexadecimal digit multiplies the bound by sixteen
pub hexadecimal_below : (so_far : ℕ) (digits : List ℕ) → list_all (is_digit 16) digits ≡ true → value_after 16 so_far digits < (so_far + 1) * 16 ^ length digits
hexadecimal_below so_far [] all = omega arith
hexadecimal_below so_far (b ∷ bs) all =
    let parts = and_parts (is_digit 16 b) (list_all (is_digit 16) bs) all in
    let digit : digit_value b < 16 = ltb-true _ _ (and_parts _ _ parts.0).1 in
    let below = hexadecimal_below (so_far * 16 + digit_value b) bs parts.1 in
    let bound : so_far * 16 + digit_value b + 1 ≤ (so_far + 1) * 16 = omega (arith, digit) in
    let scaled = mul-le-mul_right (16 ^ length bs) bound in
    let power : (so_far + 1) * 16 ^ suc (length bs) ≡ (so_far + 1) * 16 * 16 ^ length bs =
    ap (λ n. (so_far + 1) * n) (pow-succ' 16 (length bs)) ∙ sym (mul_assoc (so_far + 1) 16 (16 ^ length bs)) in
    omega (arith, below, scaled, power)

-- sixteen hexadecimal digits fit 64 bits
pub hexadecimal_fits : (digits : List ℕ) → is_hex 1 16 digits ≡ true → value_of 16 digits < 2 ^ 64
hexadecimal_fits digits hex =
    let parts = and_parts _ (list_all (is_digit 16) digits) hex in
    let few : length digits ≤ 16 = leb-true _ _ (and_parts _ _ parts.0).1 in
    let power : 16 ^ length digits ≤ 16 ^ 16 = pow-le-pow_right (omega arith) few in
    omega (arith, hexadecimal_below 0 digits parts.1, power)
