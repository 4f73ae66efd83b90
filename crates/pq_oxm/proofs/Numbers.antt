-- A number that is spelled in bytes is read back from them.
use Rattle.std.proofs.Common.{◌≡◌, ℕ, ◌+◌, ◌*◌, ◌/◌, ◌%◌, ◌^◌, ◌<◌, List, length, refl, sym, ap, ◌∙◌, arith}
use Rattle.std.specs.Int.{w16, w32, w64, w128, from_be_bytes, to_be_bytes}
use Rattle.std.proofs.lemmas.Nat.{from_be_bytes-to_be_bytes_2, from_be_bytes-to_be_bytes_4, from_be_bytes-to_be_bytes_8}
use Rattle.std.proofs.Math.Nat.{div-div-eq-div-mul, mul_assoc, mul_comm, add-mul}
use Rattle.pq_model.specs.Spelling.{byte, mac_bytes}
use Rattle.pq_oxm.specs.Reading.{byte_number, mac_number}

-- a spelling of numbers below a limit in this many bytes, and how they are read
pub record Reads (size limit : ℕ) (bytes : ℕ → List ℕ) (number : List ℕ → ℕ) : Type 0 where
  pub long : (n : ℕ) → length (bytes n) ≡ size
  pub again : (n : ℕ) → n < limit → number (bytes n) ≡ n

pub reads_byte : Reads 1 (2 ^ 8) byte byte_number
reads_byte = record { long = λ n. refl; again = λ n below. refl }

pub reads_16 : Reads 2 (2 ^ 16) (to_be_bytes w16) (from_be_bytes w16)
reads_16 = record { long = λ n. refl; again = from_be_bytes-to_be_bytes_2 }

pub reads_32 : Reads 4 (2 ^ 32) (to_be_bytes w32) (from_be_bytes w32)
reads_32 = record { long = λ n. refl; again = from_be_bytes-to_be_bytes_4 }

mac_again : (n : ℕ) → n < 2 ^ 48 → mac_number (mac_bytes n) ≡ n
mac_again n below =
    let whole : from_be_bytes w64 (to_be_bytes w64 n) ≡ n = from_be_bytes-to_be_bytes_8 n (omega arith) in
    let high : n / 72057594037927936 ≡ 0 = omega arith in
    let next : n / 281474976710656 ≡ 0 = omega arith in
    rw (high, next) at whole

pub reads_mac : Reads 6 (2 ^ 48) mac_bytes mac_number
reads_mac = record { long = λ n. refl; again = mac_again }

spread : (r q p : ℕ) → q * (p * 256) + r * p ≡ (r + q * 256) * p
spread r q p = omega (arith, sym (mul_assoc q p 256), add-mul r (q * 256) p, mul_assoc q 256 p, mul_comm 256 p)

-- the higher bytes and the next byte together
next_byte : (n p above : ℕ) → above ≡ p * 256 → n / above * above + n / p % 256 * p ≡ n / p * p
next_byte n p above is =
    let split : n / p ≡ n / p % 256 + n / (p * 256) * 256 = omega (arith, div-div-eq-div-mul n p 256) in
    rw is (spread (n / p % 256) (n / (p * 256)) p ∙ ap (λ (x : ℕ). x * p) (sym split))

again_128 : (n : ℕ) → n < 2 ^ 128 → from_be_bytes w128 (to_be_bytes w128 n) ≡ n
again_128 n below =
    let top : n / 256 ^ 15 % 256 ≡ n / 256 ^ 15 = omega arith in
    rw (
      top,
      next_byte n (256 ^ 14) (256 ^ 15) refl,
      next_byte n (256 ^ 13) (256 ^ 14) refl,
      next_byte n (256 ^ 12) (256 ^ 13) refl,
      next_byte n (256 ^ 11) (256 ^ 12) refl,
      next_byte n (256 ^ 10) (256 ^ 11) refl,
      next_byte n (256 ^ 9) (256 ^ 10) refl,
      next_byte n (256 ^ 8) (256 ^ 9) refl,
      next_byte n (256 ^ 7) (256 ^ 8) refl,
      next_byte n (256 ^ 6) (256 ^ 7) refl,
      next_byte n (256 ^ 5) (256 ^ 6) refl,
      next_byte n (256 ^ 4) (256 ^ 5) refl,
      next_byte n (256 ^ 3) (256 ^ 4) refl,
      next_byte n (256 ^ 2) (256 ^ 3) refl,
      next_byte n 256 (256 ^ 2) refl,
    ) (omega arith)

pub reads_128 : Reads 16 (2 ^ 128) (to_be_bytes w128) (from_be_bytes w128)
reads_128 = record { long = λ n. refl; again = again_128 }
