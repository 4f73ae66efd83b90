-- A value and a mask stay lawful with one bit more.
use Rattle.std.proofs.Common.{◌≡◌, ℕ, suc, ◌+◌, ◌-◌, ◌*◌, ◌^◌, ◌<◌, ◌≤◌, Bool, true, false, Some, None, sym, ap, subst, ◌∙◌, arith}
use Rattle.std.specs.Prelude.{bit_and, IfSome}
use Rattle.std.specs.Int.Bits.{and_self}
use Rattle.std.specs.declared.option.Option.{Option}
use Rattle.std.proofs.Math.Nat.{pow-succ', lt_of_mul-lt-mul_right, mul-le-mul_right}
use Rattle.std.proofs.lemmas.Nat.{and_block, and_le_l, pow_pos, pow-add}
use Rattle.pq_model.specs.MatchFields.{IsMasked}
use Rattle.pq_layout.specs.Entries.{masked_with, stated_with}
use Rattle.pq_lookup.proofs.MaskedBits.{AreWhole, IsWhole}

-- half of a power
half : (k : ℕ) → 2 ^ suc k ≡ 2 ^ k + 2 ^ k
half k = pow-succ' 2 k ∙ omega arith

-- numbers above a place have in common what their fronts have
common : (k p q d e : ℕ) → d < 2 ^ suc k → e < 2 ^ suc k → bit_and (p * 2 ^ suc k) (q * 2 ^ suc k) ≡ p * 2 ^ suc k → bit_and d e ≡ d
    → bit_and (p * 2 ^ suc k + d) (q * 2 ^ suc k + e) ≡ p * 2 ^ suc k + d
common k p q d e dl el same low =
    let some = pow_pos (suc k) in
    let none : bit_and 0 0 ≡ 0 = and_self 0 in
    let front : bit_and (p * 2 ^ suc k + 0) (q * 2 ^ suc k + 0) ≡ bit_and p q * 2 ^ suc k + bit_and 0 0 = and_block (suc k) p q 0 0 some some in
    let left : p * 2 ^ suc k + 0 ≡ p * 2 ^ suc k = omega arith in
    let right : q * 2 ^ suc k + 0 ≡ q * 2 ^ suc k = omega arith in
    let zeros : bit_and (p * 2 ^ suc k + 0) (q * 2 ^ suc k + 0) ≡ bit_and (p * 2 ^ suc k) (q * 2 ^ suc k) = (λ i. bit_and (left i) (right i)) in
    let fronts : bit_and p q * 2 ^ suc k ≡ p * 2 ^ suc k = omega (arith, front, none, same, zeros) in
    and_block (suc k) p q d e dl el ∙ omega (arith, fronts, low)

-- there is room below a power
room : (w k q : ℕ) → k < w → q * 2 ^ suc k < 2 ^ w → q * 2 ^ suc k + 2 ^ k < 2 ^ w
room w k q within below =
    let split : 2 ^ w ≡ 2 ^ (w - suc k) * 2 ^ suc k = (let e : w ≡ w - suc k + suc k = omega arith in ap (λ p. 2 ^ p) e ∙ pow-add 2 (w - suc k) (suc k)) in
    let less : q < 2 ^ (w - suc k) = lt_of_mul-lt-mul_right (2 ^ suc k) (subst (λ b. q * 2 ^ suc k < b) split below) in
    let more : suc q * 2 ^ suc k ≤ 2 ^ (w - suc k) * 2 ^ suc k = mul-le-mul_right (2 ^ suc k) (omega arith) in
    let some = pow_pos k in
    let double = half k in
    omega (arith, more, split, some, double)

-- one bit more below the others
masked_more : (w k : ℕ) (b : Bool) (a : ℕ × ℕ) → k < w → IsWhole (suc k) a → a.1 < 2 ^ w → bit_and a.0 a.1 ≡ a.0 → IsMasked w (masked_with (2 ^ k) b a)
masked_more w k b a within whole below same = by b
  where
    p : ℕ
    p = whole.value

    q : ℕ
    q = whole.mask

    fronts : bit_and (p * 2 ^ suc k) (q * 2 ^ suc k) ≡ p * 2 ^ suc k
    fronts = (λ i. bit_and (sym whole.value_is i) (sym whole.mask_is i)) ∙ same ∙ whole.value_is

    fits : a.1 + 2 ^ k < 2 ^ w
    fits = subst (λ m. m + 2 ^ k < 2 ^ w) (sym whole.mask_is) (room w k q within (subst (λ m. m < 2 ^ w) whole.mask_is below))

    less : 2 ^ k < 2 ^ suc k
    less = omega (arith, half k, pow_pos k)

    by : (b : Bool) → IsMasked w (masked_with (2 ^ k) b a)
    by true = (
      omega (arith, pow_pos k),
      fits,
      (λ i. bit_and (whole.value_is i + 2 ^ k) (whole.mask_is i + 2 ^ k)) ∙ common k p q (2 ^ k) (2 ^ k) less less fronts (and_self (2 ^ k)) ∙ ap
          (λ v. v + 2 ^ k) (sym whole.value_is),
    )
    by false =
        let none : bit_and 0 (2 ^ k) ≡ 0 = omega (arith, and_le_l 0 (2 ^ k)) in
        let zero_more : p * 2 ^ suc k ≡ p * 2 ^ suc k + 0 = omega arith in
        let last : bit_and (p * 2 ^ suc k) (q * 2 ^ suc k + 2 ^ k) ≡ p * 2 ^ suc k =
        ap (λ v. bit_and v (q * 2 ^ suc k + 2 ^ k)) zero_more ∙ common k p q 0 (2 ^ k) (pow_pos (suc k)) less fronts none ∙ sym zero_more in
        (omega (arith, pow_pos k), fits, (λ i. bit_and (whole.value_is i) (whole.mask_is i + 2 ^ k)) ∙ last ∙ sym whole.value_is)

-- where no bit is stated, there is one then
pub stated_more : (w k : ℕ) (b : Bool) (o : Option (ℕ × ℕ)) → k < w → AreWhole (suc k) o → IfSome o (IsMasked w) → IfSome (stated_with (2 ^ k) b o) (IsMasked w)
stated_more w k b None within whole masked =
    masked_more w k b (0, 0) within (record { value = 0; value_is = omega arith; mask = 0; mask_is = omega arith }) (pow_pos w) (and_self 0)
stated_more w k b (Some a) within whole masked = masked_more w k b a within whole masked.1 masked.2
