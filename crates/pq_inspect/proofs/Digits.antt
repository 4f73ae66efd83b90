-- A hexadecimal digit stands in a JSON string as it is.
use Rattle.std.specs.Prelude.{◌≡◌, ℕ, ◌<◌, ◌≤◌, [], ◌∷◌}
use Rattle.std.proofs.Common.{arith}
use Rattle.json.specs.Print.{escape_byte}
use Rattle.json.proofs.Printed.Strings.{escape_byte_plain}

pub decimal_plain : (x : ℕ) → 48 ≤ x → x < 58 → escape_byte x ≡ x ∷ []
decimal_plain x above below = escape_byte_plain x (λ quote. omega (arith, above, quote)) (λ slash. omega (arith, below, slash)) (omega (arith, above))

pub letter_plain : (x : ℕ) → 97 ≤ x → escape_byte x ≡ x ∷ []
letter_plain x above = escape_byte_plain x (λ quote. omega (arith, above, quote)) (λ slash. omega (arith, above, slash)) (omega (arith, above))
