-- The name of a switch that is read is a name.
use Rattle.std.specs.Prelude.{◌≡◌, ℕ, ◌+◌, ◌%◌, ◌<◌, ◌^◌, Bool, true, false, ◌==◌, List, [], ◌∷◌, ◌++◌, length, nat_lt, decimal, refl, codes}
use Rattle.std.proofs.Common.{arith}
use Rattle.std.specs.Char.{is_ascii_digit}
use Rattle.std.specs.List.{list_all}
use Rattle.std.proofs.lemmas.Bool.Decides.{nat_tests}
use Rattle.std.proofs.lemmas.Fmt.{decimal_by_steps, decimal_nonempty, length-decimal-le}
use Rattle.std.proofs.lemmas.List.Folds.{list_all-append}
use Rattle.std.proofs.lemmas.Bool.{and_parts}
use Rattle.pq_term.specs.Bytes.{is_word_byte}
use Rattle.pq_term.specs.Names.{is_name}

-- each is a digit
abbrev are_digits : List ℕ → Bool
are_digits = list_all is_ascii_digit

decimal_is_digits : (n : ℕ) → n < 2 ^ 64 → are_digits (decimal n) ≡ true
decimal_is_digits = decimal_by_steps (λ n ds. are_digits ds ≡ true) (λ n small. grind (arith, nat_tests))
    (λ n ds large digits. rw (list_all-append is_ascii_digit ds ((48 + n % 10) ∷ []), digits) (grind (arith, nat_tests)))

digit_is_word_byte : (d : ℕ) → is_ascii_digit d ≡ true → is_word_byte d ≡ true
digit_is_word_byte d e = rw e refl

digits_are_word_bytes : (ds : List ℕ) → are_digits ds ≡ true → list_all is_word_byte ds ≡ true
digits_are_word_bytes [] e = refl
digits_are_word_bytes (d ∷ ds) e =
    let parts = and_parts (is_ascii_digit d) (are_digits ds) e in
    rw (digit_is_word_byte d parts.0, digits_are_word_bytes ds parts.1) refl

-- `n` and digits are a word that is not reserved
name_of_digits : (ds : List ℕ) → are_digits ds ≡ true → 0 < length ds → length ds < 32 → is_name (codes "n" ++ ds) ≡ true
name_of_digits [] digits some few = absurd (omega (arith, some))
name_of_digits (d ∷ ds) digits some few =
    let parts = and_parts (is_ascii_digit d) (are_digits ds) digits in
    let short : nat_lt (length (d ∷ ds)) 32 ≡ true = grind (arith, nat_tests, few) in
    let no_o : (111 == d) ≡ false = grind (arith, nat_tests, parts.0) in
    rw (short, digits_are_word_bytes (d ∷ ds) digits, no_o) refl

pub named : (n : ℕ) → n < 2 ^ 64 → is_name (codes "n" ++ decimal n) ≡ true
named n fit = name_of_digits (decimal n) (decimal_is_digits n fit) (decimal_nonempty n fit)
    (omega (arith, length-decimal-le 20 n (omega arith) (omega (arith, fit)) fit))
