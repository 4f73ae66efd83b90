-- What a search by a number tells.
use Rattle.std.specs.Prelude.{◌≡◌, ◌≢◌, ℕ, ◌<◌, List, All, length}
use Rattle.std.specs.List.{HoldsAt}

-- the value with this number is at this place
abbrev pub IsAt : {A : Type 0} → (A → ℕ) → List A → ℕ → ℕ → Type 0
IsAt number xs n i = (i < length xs) × HoldsAt (λ x. number x ≡ n) xs i

-- no value has this number
abbrev pub IsNowhere : {A : Type 0} → (A → ℕ) → List A → ℕ → Type 0
IsNowhere number xs n = All (λ x. number x ≢ n) xs
