-- Numbers that are joined from bits, the first bit the highest.
use Rattle.std.proofs.Common.{ℕ, zero, suc, ◌+◌, ◌-◌, ◌*◌, ◌/◌, ◌%◌, ◌^◌, ◌<◌, ◌≡◌, ◌∙◌, Bool, true, false, refl, ap, sym, arith}
use Rattle.std.specs.Prelude.{◌==◌}
use Rattle.std.proofs.Math.Nat.{pow-succ', div-div-eq-div-mul, div-one}
use Rattle.std.proofs.lemmas.Nat.{div-mul-add, mod-mul-add}

-- a bit as a number
pub digit : Bool → ℕ
digit true = 1
digit false = 0

-- it is 0 or 1
pub digit_below : (b : Bool) → digit b < 2
unfolding digit
digit_below true = omega arith
digit_below false = omega arith

-- it is 1 just for a set bit
digit_is : (b : Bool) → digit b == 1 ≡ b
unfolding digit
digit_is true = refl
digit_is false = refl

-- the number with these bits, this many
pub joined : (ℕ → Bool) → ℕ → ℕ
joined bits zero = 0
joined bits (suc k) = joined bits k * 2 + digit (bits k)

-- a number of this many bits is below the power of two
pub joined_below : (bits : ℕ → Bool) (k : ℕ) → joined bits k < 2 ^ k
unfolding joined
joined_below bits zero = omega arith
joined_below bits (suc k) = omega (arith, joined_below bits k, digit_below (bits k), pow-succ' 2 k)

-- without its last bits a number has the bits before them
joined_cut : (bits : ℕ → Bool) (k d n : ℕ) → n ≡ k + d → joined bits n / 2 ^ d ≡ joined bits k
unfolding joined
joined_cut bits k zero n h = let e : n ≡ k = omega arith in rw e (div-one (joined bits k))
joined_cut bits k (suc d) zero h = absurd (omega arith)
joined_cut bits k (suc d) (suc n) h =
    ap (λ m. joined bits (suc n) / m) (pow-succ' 2 d)
    ∙ sym (div-div-eq-div-mul (joined bits (suc n)) 2 (2 ^ d))
    ∙ ap (λ m. m / 2 ^ d) (div-mul-add (joined bits n) 2 (digit (bits n)) (digit_below (bits n)))
    ∙ joined_cut bits k d n (omega arith)

-- the number has the bits that it is joined from
pub joined_bit : (bits : ℕ → Bool) (w i : ℕ) → i < w → joined bits w / 2 ^ (w - 1 - i) % 2 == 1 ≡ bits i
unfolding joined
joined_bit bits w i h =
    let cut : joined bits w / 2 ^ (w - 1 - i) ≡ joined bits i * 2 + digit (bits i) =
    joined_cut bits (suc i) (w - 1 - i) w (omega arith) in
    ap (λ n. n % 2 == 1) cut
    ∙ ap (λ n. n == 1) (mod-mul-add (joined bits i) 2 (digit (bits i)) (digit_below (bits i)))
    ∙ digit_is (bits i)
