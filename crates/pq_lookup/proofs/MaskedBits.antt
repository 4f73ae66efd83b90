-- A value and a mask with one bit more, below all bits that were stated before.
use Rattle.std.proofs.Common.{◌≡◌, ℕ, suc, ◌+◌, ◌-◌, ◌*◌, ◌/◌, ◌%◌, ◌^◌, ◌<◌, ◌≤◌, Bool, true, false, not, if◌then◌else◌, Some, None, refl}
use Rattle.std.proofs.Common.{sym, ap, ◌∙◌, arith, eqb-true}
use Rattle.std.specs.Prelude.{◌==◌, ◌&&◌, bit_and}
use Rattle.std.specs.Int.{bit_at}
use Rattle.std.proofs.Math.Nat.{pow-succ', mul-div_cancel_left, mod-add-div, mod-lt, mul_comm, mul_assoc}
use Rattle.std.proofs.lemmas.Nat.{and_block, and_le_r, pow_pos, pow-add}
use Rattle.std.proofs.lemmas.Nat.Bits.{and_pow, bit_at_cat_low, bit_at-lt}
use Rattle.std.proofs.lemmas.Bool.{eq-eqb}
use Rattle.std.proofs.lemmas.Bool.Decides.{nat_tests}
use Rattle.std.specs.declared.option.Option.{Option}
use Rattle.pq_model.specs.MatchFields.{agrees_masked}
use Rattle.pq_layout.specs.Entries.{masked_with, stated_with}

-- a test that is two tests
pub two_tests : (a b c : Bool) → (a ≡ true → (b ≡ true) × (c ≡ true)) → (b ≡ true → c ≡ true → a ≡ true) → a ≡ b && c
two_tests true b c into back = let p = into refl in cc
two_tests false true true into back = back refl refl
two_tests false true false into back = refl
two_tests false false c into back = refl

-- the test of a bit, or that it isn't set
abbrev pub sided : Bool → Bool → Bool
sided b c = if b then c else not c

-- a bit as a number
digit : Bool → ℕ
digit true = 1
digit false = 0

digit_below : (b : Bool) → digit b < 2
unfolding digit
digit_below true = omega arith
digit_below false = omega arith

-- a number below 2 is the digit just where it is 1 or isn't
digit_tells : (d : ℕ) → d < 2 → (b : Bool) → d == digit b ≡ sided b (d == 1)
unfolding digit
digit_tells d below true = refl
digit_tells d below false = grind (arith, nat_tests)

-- nothing is in common with 0
and_zero : (n : ℕ) → bit_and n 0 ≡ 0
and_zero n = omega (arith, and_le_r n 0)

module _ (k n M : ℕ) where
  -- the number's part above the bit, and the rest
  parted : n ≡ n / 2 ^ suc k * 2 ^ suc k + n % 2 ^ suc k
  parted = omega (arith, mod-add-div n (2 ^ suc k), mul_comm (n / 2 ^ suc k) (2 ^ suc k))

  some : 0 < 2 ^ suc k
  some = pow_pos (suc k)

  -- what is in common with a mask above the bit
  common_above : bit_and n (M * 2 ^ suc k) ≡ bit_and (n / 2 ^ suc k) M * 2 ^ suc k
  common_above =
      let block = and_block (suc k) (n / 2 ^ suc k) M (n % 2 ^ suc k) 0 (mod-lt n some) some in
      let left : bit_and n (M * 2 ^ suc k) ≡ bit_and (n / 2 ^ suc k * 2 ^ suc k + n % 2 ^ suc k) (M * 2 ^ suc k + 0) =
      ap (λ m. bit_and m (M * 2 ^ suc k)) parted ∙ ap (bit_and (n / 2 ^ suc k * 2 ^ suc k + n % 2 ^ suc k)) (omega arith) in
      left ∙ block ∙ omega (arith, and_zero (n % 2 ^ suc k))

  -- with one bit more the number's bit is added
  common_more : bit_and n (M * 2 ^ suc k + 2 ^ k) ≡ bit_and n (M * 2 ^ suc k) + bit_at n k * 2 ^ k
  common_more =
      let less : 2 ^ k < 2 ^ suc k = omega (arith, pow-succ' 2 k, pow_pos k) in
      let block = and_block (suc k) (n / 2 ^ suc k) M (n % 2 ^ suc k) (2 ^ k) (mod-lt n some) less in
      let bit : bit_at n k ≡ bit_at (n % 2 ^ suc k) k = ap (λ m. bit_at m k) parted ∙ bit_at_cat_low (n / 2 ^ suc k) (suc k) (n % 2 ^ suc k) k (omega arith) in
      ap (λ m. bit_and m (M * 2 ^ suc k + 2 ^ k)) parted ∙ block
      ∙ ap (λ m. bit_and (n / 2 ^ suc k) M * 2 ^ suc k + m) (and_pow (n % 2 ^ suc k) k ∙ ap (λ d. d * 2 ^ k) (sym bit))
      ∙ ap (λ m. m + bit_at n k * 2 ^ k) (sym common_above)

-- doubles of a power with a digit are equal just where both are
digits_tell : (P B V d c : ℕ) → 0 < P → d < 2 → c < 2 → B * (P * 2) + d * P == V * (P * 2) + c * P ≡ (B * (P * 2) == V * (P * 2)) && (d == c)
digits_tell P B V d c some dl cl = two_tests _ _ _ into back
  where
    left : B * (P * 2) + d * P ≡ P * (2 * B + d)
    left = omega arith

    right : V * (P * 2) + c * P ≡ P * (2 * V + c)
    right = omega arith

    into : B * (P * 2) + d * P == V * (P * 2) + c * P ≡ true → (B * (P * 2) == V * (P * 2) ≡ true) × (d == c ≡ true)
    into h =
        let same : 2 * B + d ≡ 2 * V + c = sym (mul-div_cancel_left (2 * B + d) some) ∙ ap (λ m. m / P) (sym left ∙ eqb-true _ _ h ∙ right)
        ∙ mul-div_cancel_left (2 * V + c) some in
        let whole : B ≡ V = omega arith in
        (eq-eqb (B * (P * 2)) (V * (P * 2)) (ap (λ m. m * (P * 2)) whole), eq-eqb d c (omega arith))

    back : B * (P * 2) == V * (P * 2) ≡ true → d == c ≡ true → B * (P * 2) + d * P == V * (P * 2) + c * P ≡ true
    back h k = eq-eqb _ _ (let e = eqb-true _ _ h in let f = eqb-true _ _ k in cc)

-- the value and the mask are multiples of a power
pub record IsWhole (k : ℕ) (a : ℕ × ℕ) : Type 0 where
  pub value : ℕ
  pub value_is : a.0 ≡ value * 2 ^ k
  pub mask : ℕ
  pub mask_is : a.1 ≡ mask * 2 ^ k

-- what is stated is so
abbrev pub AreWhole : ℕ → Option (ℕ × ℕ) → Type 0
AreWhole k None = Unit {0}
AreWhole k (Some a) = IsWhole k a

masked_value : (w : ℕ) (b : Bool) (a : ℕ × ℕ) → (masked_with w b a).0 ≡ a.0 + digit b * w
unfolding digit
masked_value w true a = omega arith
masked_value w false a = omega arith

masked_mask : (w : ℕ) (b : Bool) (a : ℕ × ℕ) → (masked_with w b a).1 ≡ a.1 + w
masked_mask w true a = refl
masked_mask w false a = refl

-- one bit more is one test more
masked_agrees : (k n : ℕ) (b : Bool) (a : ℕ × ℕ) → IsWhole (suc k) a → bit_and n (masked_with (2 ^ k) b a).1 == (masked_with (2 ^ k) b a).0
    ≡ (bit_and n a.1 == a.0) && sided b (bit_at n k == 1)
masked_agrees k n b a whole =
    let double : 2 ^ suc k ≡ 2 ^ k * 2 = pow-succ' 2 k ∙ mul_comm 2 (2 ^ k) in
    let mask : (masked_with (2 ^ k) b a).1 ≡ whole.mask * 2 ^ suc k + 2 ^ k = masked_mask (2 ^ k) b a ∙ ap (λ m. m + 2 ^ k) whole.mask_is in
    let value : (masked_with (2 ^ k) b a).0 ≡ whole.value * (2 ^ k * 2) + digit b * 2 ^ k =
    masked_value (2 ^ k) b a ∙ ap (λ m. m + digit b * 2 ^ k) (whole.value_is ∙ ap (λ p. whole.value * p) double) in
    let above : bit_and n (whole.mask * 2 ^ suc k) ≡ bit_and (n / 2 ^ suc k) whole.mask * (2 ^ k * 2) = common_above k n whole.mask
    ∙ ap (λ p. bit_and (n / 2 ^ suc k) whole.mask * p) double in
    let common : bit_and n (masked_with (2 ^ k) b a).1 ≡ bit_and (n / 2 ^ suc k) whole.mask * (2 ^ k * 2) + bit_at n k * 2 ^ k =
    ap (bit_and n) mask ∙ common_more k n whole.mask ∙ ap (λ m. m + bit_at n k * 2 ^ k) above in
    let before : bit_and n a.1 ≡ bit_and (n / 2 ^ suc k) whole.mask * (2 ^ k * 2) = ap (bit_and n) whole.mask_is ∙ above in
    let front : a.0 ≡ whole.value * (2 ^ k * 2) = whole.value_is ∙ ap (λ p. whole.value * p) double in
    (λ i. common i == value i)
    ∙ digits_tell (2 ^ k) (bit_and (n / 2 ^ suc k) whole.mask) whole.value (bit_at n k) (digit b) (pow_pos k) (bit_at-lt n k) (digit_below b)
    ∙ (λ i. (sym before i == sym front i) && digit_tells (bit_at n k) (bit_at-lt n k) b i)

none_whole : (k : ℕ) → IsWhole k (0, 0)
none_whole k = record { value = 0; value_is = omega arith; mask = 0; mask_is = omega arith }

pub stated_agrees : (k n : ℕ) (b : Bool) (o : Option (ℕ × ℕ)) → AreWhole (suc k) o
    → agrees_masked (stated_with (2 ^ k) b o) n ≡ agrees_masked o n && sided b (bit_at n k == 1)
stated_agrees k n b None whole = masked_agrees k n b (0, 0) (none_whole (suc k)) ∙ ap (λ m. (m == 0) && sided b (bit_at n k == 1)) (and_zero n)
stated_agrees k n b (Some a) whole = masked_agrees k n b a whole

-- multiples of a power are multiples of a smaller one
less_whole : (j k : ℕ) (a : ℕ × ℕ) → j ≤ k → IsWhole k a → IsWhole j a
less_whole j k a less whole = record {
  value = whole.value * 2 ^ (k - j);
  value_is = whole.value_is ∙ ap (λ p. whole.value * p) split ∙ sym (mul_assoc whole.value (2 ^ (k - j)) (2 ^ j));
  mask = whole.mask * 2 ^ (k - j);
  mask_is = whole.mask_is ∙ ap (λ p. whole.mask * p) split ∙ sym (mul_assoc whole.mask (2 ^ (k - j)) (2 ^ j));
}
  where
    split : 2 ^ k ≡ 2 ^ (k - j) * 2 ^ j
    split = let e : k ≡ k - j + j = omega arith in ap (λ p. 2 ^ p) e ∙ pow-add 2 (k - j) j

-- the power itself is one
masked_whole : (k : ℕ) (b : Bool) (a : ℕ × ℕ) → IsWhole k a → IsWhole k (masked_with (2 ^ k) b a)
masked_whole k b a whole = record {
  value = whole.value + digit b;
  value_is = masked_value (2 ^ k) b a ∙ omega (arith, whole.value_is);
  mask = whole.mask + 1;
  mask_is = masked_mask (2 ^ k) b a ∙ omega (arith, whole.mask_is);
}

pub stated_whole : (j k : ℕ) (b : Bool) (o : Option (ℕ × ℕ)) → j ≤ k → AreWhole (suc k) o → AreWhole j (stated_with (2 ^ k) b o)
stated_whole j k b None less whole = less_whole j k (masked_with (2 ^ k) b (0, 0)) less (masked_whole k b (0, 0) (none_whole k))
stated_whole j k b (Some a) less whole = less_whole j k (masked_with (2 ^ k) b a) less (masked_whole k b a (less_whole k (suc k) a (omega arith) whole))
