-- There are at most as many tokens as bytes.
use Rattle.std.proofs.Common.{◌≡◌, ◌+◌, ◌-◌, ◌≤◌, ◌==◌, ℕ, suc, Bool, true, false, not, if◌then◌else◌, List, [], ◌∷◌, length, drop, subst, arith, length-drop}
use Rattle.std.specs.Str.{byte}
use Rattle.pq_term.specs.declared.token.Token.{Token}
use Rattle.pq_term.specs.declared.token.Next.TheVariants.{Token as Found, End}
use Rattle.pq_term.specs.Division.{IsDividedUpTo}
use Rattle.pq_term.specs.Bytes.{is_blank}
use Rattle.pq_term.specs.Tokens.{IsWithin, after_blanks, next_of}
use Rattle.pq_term.proofs.Within.{within_text}

blanks_less : (inside : Bool) (bs : List ℕ) → length (after_blanks inside bs) ≤ length bs
blanks_less inside [] = omega arith
blanks_less false (b ∷ bs) = by (is_blank b) (b == byte "#") (blanks_less false bs) (blanks_less true bs)
  where
    by : (blank comment : Bool) → length (after_blanks false bs) ≤ length bs → length (after_blanks true bs) ≤ length bs
        → length (if blank then after_blanks false bs else (if comment then after_blanks true bs else b ∷ bs)) ≤ suc (length bs)
    by true comment h k = omega (arith, h)
    by false true h k = omega (arith, k)
    by false false h k = omega arith
blanks_less true (b ∷ bs) = let more = blanks_less (not (b == byte "\n")) bs in omega (arith, more)

next_within : (bytes : List ℕ) (at : ℕ) → at ≤ length bytes → IsWithin at (length bytes) (next_of bytes at)
next_within bytes at within =
    let rest = after_blanks false (drop at bytes) in
    let less = blanks_less false (drop at bytes) in
    let left = length-drop at bytes in
    let place : length bytes - length rest + length rest ≡ length bytes = omega (arith, less, left) in
    subst (λ end. IsWithin at end (next_of bytes at)) place (within_text at (length bytes - length rest) rest (omega (arith, less, left, within)))

-- from a place on there are at most as many tokens as bytes
pub few_tokens : (bytes : List ℕ) (at : ℕ) (ts : List Token) → at ≤ length bytes → IsDividedUpTo bytes at ts End → at + length ts ≤ length bytes
few_tokens bytes at [] within divided = omega (arith, within)
few_tokens bytes at (t ∷ ts) within (found, rest) =
    let lies : IsWithin at (length bytes) (Found t) = subst (IsWithin at (length bytes)) found (next_within bytes at within) in
    let more = few_tokens bytes (t.at + t.len) ts lies.2 rest in
    omega (arith, lies.0, lies.1, more)
