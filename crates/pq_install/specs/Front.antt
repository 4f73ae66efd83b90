-- What is at the front of bytes.
use Rattle.std.specs.Prelude.{◌≡◌, ℕ, ◌<◌, ◌^◌, List, ◌++◌, All, length}
use Rattle.std.specs.Int.{Width, to_be_bytes}
use Rattle.std.specs.List.{flat_map}

-- no value with the property is spelled at the front
abbrev pub NoneAtFront : {X : Type 0} → (X → Type 0) → (X → List ℕ) → List ℕ → Type 0
NoneAtFront {X} P spell bytes = (x : X) (rest : List ℕ) → P x → bytes ≡ spell x ++ rest → ⊥

-- a value with the property is spelled at the front, and these bytes are after it
abbrev pub IsAtFront : {X : Type 0} → (X → Type 0) → (X → List ℕ) → List ℕ → X → List ℕ → Type 0
IsAtFront P spell bytes x rest = P x × (bytes ≡ spell x ++ rest)

-- a number of 16, 32 or 64 bits
abbrev pub IsU16 : ℕ → Type 0
IsU16 n = n < 2 ^ 16

abbrev pub IsU32 : ℕ → Type 0
IsU32 n = n < 2 ^ 32

abbrev pub IsU64 : ℕ → Type 0
IsU64 n = n < 2 ^ 64

-- this many values with the property
abbrev pub AreCounted : {X : Type 0} → (X → Type 0) → ℕ → List X → Type 0
AreCounted P count xs = (length xs ≡ count) × All P xs

-- as many values with the property as the count can say
abbrev pub AreFew : {X : Type 0} → (ℕ → Type 0) → (X → Type 0) → List X → Type 0
AreFew Fits P xs = Fits (length xs) × All P xs

-- values after the count of them
abbrev pub counted_by : {X : Type 0} → Width → (X → List ℕ) → List X → List ℕ
counted_by w spell xs = to_be_bytes w (length xs) ++ flat_map spell xs
