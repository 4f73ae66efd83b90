-- Leading bits of numbers, one bit after another.
use Rattle.std.proofs.Common.{ℕ, suc, ◌+◌, ◌-◌, ◌/◌, ◌%◌, ◌^◌, ◌<◌, ◌≤◌, ◌≡◌, ◌∙◌, ap, sym, inl, inr, arith}
use Rattle.std.specs.Prelude.{◌==◌}
use Rattle.std.proofs.Math.Nat.{div-div-eq-div-mul, div-eq_of_lt, div-one}
use Rattle.std.proofs.lemmas.Nat.{pow-add}
use Rattle.std.proofs.lemmas.Bool.{true≢false}
use Rattle.std.proofs.lemmas.Bool.Decides.{eqb_tells}
use Rattle.pq_fields.specs.declared.field.Field.{Field}
use Rattle.pq_fields.specs.Packet.{width_of}
use Rattle.pq_fields.specs.Pred.{leading}
use Rattle.pq_apply.specs.Atoms.{bit_at}

-- dividing by a power of two is dividing twice
divided_twice : (n p q r : ℕ) → r ≡ p + q → n / 2 ^ r ≡ n / 2 ^ p / 2 ^ q
divided_twice n p q r h =
    ap (λ k. n / 2 ^ k) h ∙ (ap (λ k. n / k) (pow-add 2 p q) ∙ sym (div-div-eq-div-mul n (2 ^ p) (2 ^ q)))

-- numbers with equal leading bits have equal fewer leading bits
pub fewer : (f : Field) (m n k d : ℕ) → k + d ≤ width_of f → leading f (k + d) m ≡ leading f (k + d) n → leading f k m ≡ leading f k n
fewer f m n k d fits same =
    divided_twice m (width_of f - (k + d)) d (width_of f - k) (omega arith)
    ∙ (ap (λ a. a / 2 ^ d) same ∙ sym (divided_twice n (width_of f - (k + d)) d (width_of f - k) (omega arith)))

-- numbers that fit the field agree in no leading bits
pub none_lead : (f : Field) (n : ℕ) → n < 2 ^ width_of f → leading f 0 n ≡ 0
none_lead f n h = let e : width_of f - 0 ≡ width_of f = omega arith in ap (λ k. n / 2 ^ k) e ∙ div-eq_of_lt h

-- all leading bits are the number
pub all_lead : (f : Field) (n : ℕ) → leading f (width_of f) n ≡ n
all_lead f n = let e : width_of f - width_of f ≡ 0 = omega arith in ap (λ k. n / 2 ^ k) e ∙ div-one n

-- without the last of its leading bits a number has one fewer
one_more : (f : Field) (n k : ℕ) → k < width_of f → leading f k n ≡ leading f (suc k) n / 2
one_more f n k h = divided_twice n (width_of f - suc k) 1 (width_of f - k) (omega arith)

-- that last one is the bit at its place
bit_leads : (f : Field) (n k : ℕ) → k < width_of f → bit_at f n k ≡ (leading f (suc k) n % 2 == 1)
bit_leads f n k h = let e : width_of f - 1 - k ≡ width_of f - suc k = omega arith in ap (λ p. n / 2 ^ p % 2 == 1) e

-- numbers that are odd together leave the same remainder
parities : (a b : ℕ) → (a % 2 == 1) ≡ (b % 2 == 1) → a % 2 ≡ b % 2
parities a b same = elim (eqb_tells (a % 2) 1) [
  | inl odd ↦ elim (eqb_tells (b % 2) 1) [ inl too ↦ odd.1 ∙ sym too.1 | inr even ↦ absurd (true≢false (sym odd.0 ∙ (same ∙ even.0))) ]
  | inr even ↦ elim (eqb_tells (b % 2) 1) [
    | inl odd ↦ absurd (true≢false (sym odd.0 ∙ (sym same ∙ even.0)))
    | inr too ↦ let one = even.1 in let two = too.1 in omega arith
  ]
]

-- numbers with equal leading bits and an equal bit after have one more in common
pub bit_joins : (f : Field) (m n k : ℕ) → k < width_of f → leading f k m ≡ leading f k n → bit_at f m k ≡ bit_at f n k
    → leading f (suc k) m ≡ leading f (suc k) n
bit_joins f m n k h same bit =
    let parity = parities (leading f (suc k) m) (leading f (suc k) n) (sym (bit_leads f m k h) ∙ (bit ∙ bit_leads f n k h)) in
    let left = one_more f m k h in
    let right = one_more f n k h in
    omega arith

-- numbers with equal leading bits have an equal last one
pub bit_follows : (f : Field) (m n k : ℕ) → k < width_of f → leading f (suc k) m ≡ leading f (suc k) n → bit_at f m k ≡ bit_at f n k
bit_follows f m n k h same = bit_leads f m k h ∙ (ap (λ a. a % 2 == 1) same ∙ sym (bit_leads f n k h))
