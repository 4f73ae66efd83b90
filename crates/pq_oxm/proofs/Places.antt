-- A piece that is at a place.
use Rattle.std.proofs.Common.{◌≡◌, ℕ, ◌≤◌, ◌-◌, List, ◌++◌, length, take, drop, refl, sym, ap, ◌∙◌, arith}
use Rattle.std.proofs.lemmas.List.{take-append-drop, take_at, length-take, length-drop}
use Rattle.pq_oxm.specs.Standing.{StandsAt}

-- the bytes from the place on are the piece and what follows it
pub followed : (bytes : List ℕ) (at : ℕ) (piece : List ℕ) → StandsAt bytes at piece → drop at bytes ≡ piece ++ drop (length piece) (drop at bytes)
followed bytes at piece stands = sym (take-append-drop (length piece) (drop at bytes)) ∙ ap (λ front. front ++ drop (length piece) (drop at bytes)) stands

pub stands : (bytes : List ℕ) (at : ℕ) (piece more : List ℕ) → drop at bytes ≡ piece ++ more → StandsAt bytes at piece
stands bytes at piece more is = ap (take (length piece)) is ∙ take_at piece more (length piece) refl

-- it ends within the bytes
pub ends : (bytes : List ℕ) (at : ℕ) (piece : List ℕ) → StandsAt bytes at piece → length piece ≤ length bytes - at
ends bytes at piece stands = omega (arith, ap length stands, length-take (length piece) (drop at bytes), length-drop at bytes)
