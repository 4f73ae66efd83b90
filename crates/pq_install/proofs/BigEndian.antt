-- Numbers that are read from the front of bytes.
use Rattle.std.specs.Prelude.{◌≡◌, ℕ, ◌<◌, ◌≤◌, ◌^◌, List, length, take, drop, get_or}
use Rattle.std.proofs.Common.{arith, sym, inl, inr, refl}
use Rattle.std.specs.Int.{Width, w16, w32, w64, byte_len, to_be_bytes, from_be_bytes}
use Rattle.std.proofs.lemmas.Bool.{cases_lt}
use Rattle.std.proofs.lemmas.List.{take-append-drop, length-take, get_or-take, get_or_past}
use Rattle.std.proofs.lemmas.Nat.{be_bytes_2, be_bytes_4, be_bytes_8}
use Rattle.pq_install.specs.Front.{IsAtFront, IsU16, IsU32, IsU64}

-- each is a byte
abbrev pub AreBytes : List ℕ → Type 0
AreBytes bytes = (i : ℕ) → get_or bytes i 0 < 256

front_are_bytes : (n : ℕ) (bytes : List ℕ) → AreBytes bytes → AreBytes (take n bytes)
front_are_bytes n bytes fit i =
    elim (cases_lt i n) [
      | inl below ↦ rw (get_or-take n bytes i 0 below) (fit i)
      | inr past ↦ rw (get_or_past (take n bytes) i 0 (omega (arith, length-take n bytes))) (omega arith)
    ]

-- the number in the first bytes is spelled there
module _ (w : Width) (limit : ℕ) (back : (bs : List ℕ) → length bs ≡ byte_len w → AreBytes bs → to_be_bytes w (from_be_bytes w bs) ≡ bs)
    (below : (bs : List ℕ) → AreBytes bs → from_be_bytes w bs < limit) where
  at_front : (bytes front rest : List ℕ) (n : ℕ) → AreBytes bytes → front ≡ take (byte_len w) bytes → rest ≡ drop (byte_len w) bytes
      → byte_len w ≤ length bytes → n ≡ from_be_bytes w front → IsAtFront (λ n. n < limit) (to_be_bytes w) bytes n rest
  at_front bytes front rest n fit front_is rest_is long n_is =
      let fit_front = front_are_bytes (byte_len w) bytes fit in
      let spelled : to_be_bytes w (from_be_bytes w (take (byte_len w) bytes)) ≡ take (byte_len w) bytes =
      back (take (byte_len w) bytes) (omega (arith, length-take (byte_len w) bytes, long)) fit_front in
      rw (n_is, front_is, rest_is) (below (take (byte_len w) bytes) fit_front, rw spelled (sym (take-append-drop (byte_len w) bytes)))

pub u16_at_front : (bytes front rest : List ℕ) (n : ℕ) → AreBytes bytes → front ≡ take 2 bytes → rest ≡ drop 2 bytes → 2 ≤ length bytes
    → n ≡ from_be_bytes w16 front → IsAtFront IsU16 (to_be_bytes w16) bytes n rest
u16_at_front = at_front w16 (2 ^ 16) (λ bs len fit. be_bytes_2 bs _ len fit refl) (λ bs fit. omega (arith, fit 0, fit 1))

pub u32_at_front : (bytes front rest : List ℕ) (n : ℕ) → AreBytes bytes → front ≡ take 4 bytes → rest ≡ drop 4 bytes → 4 ≤ length bytes
    → n ≡ from_be_bytes w32 front → IsAtFront IsU32 (to_be_bytes w32) bytes n rest
u32_at_front = at_front w32 (2 ^ 32) (λ bs len fit. be_bytes_4 bs _ len fit refl) (λ bs fit. omega (arith, fit 0, fit 1, fit 2, fit 3))

pub u64_at_front : (bytes front rest : List ℕ) (n : ℕ) → AreBytes bytes → front ≡ take 8 bytes → rest ≡ drop 8 bytes → 8 ≤ length bytes
    → n ≡ from_be_bytes w64 front → IsAtFront IsU64 (to_be_bytes w64) bytes n rest
u64_at_front = at_front w64 (2 ^ 64) (λ bs len fit. be_bytes_8 bs _ len fit refl)
    (λ bs fit. omega (arith, fit 0, fit 1, fit 2, fit 3, fit 4, fit 5, fit 6, fit 7))
