-- What is at a place in bytes.
use Rattle.std.specs.Prelude.{◌≡◌, ℕ, List, length, take, drop}

-- the bytes from the place on begin with the piece
abbrev pub StandsAt : List ℕ → ℕ → List ℕ → Type 0
StandsAt bytes at piece = take (length piece) (drop at bytes) ≡ piece
