-- A name is UTF-8, since each of its bytes is ASCII.
use Rattle.std.specs.Prelude.{◌≡◌, ℕ, zero, suc, ◌<◌, ◌&&◌, not, true, nat_lt, List, [], ◌∷◌, length}
use Rattle.std.specs.List.{list_all}
use Rattle.std.specs.Str.{IsAscii, IsUtf8}
use Rattle.std.specs.Char.{is_ascii_alphabetic}
use Rattle.std.proofs.Common.{arith}
use Rattle.std.proofs.lemmas.Bool.{and_parts}
use Rattle.std.proofs.lemmas.Str.{IsUtf8-from_ascii}
use Rattle.pq_term.specs.Bytes.{is_word_byte}
use Rattle.pq_term.specs.Forms.{is_word}
use Rattle.pq_term.specs.Names.{is_name, is_reserved}

letter_below : (b : ℕ) → is_ascii_alphabetic b ≡ true → b < 128
letter_below b h = grind arith

word_byte_below : (b : ℕ) → is_word_byte b ≡ true → b < 128
word_byte_below b h = grind arith

word_bytes_are_ascii : (bs : List ℕ) → list_all is_word_byte bs ≡ true → IsAscii bs
word_bytes_are_ascii [] h i = omega arith
word_bytes_are_ascii (b ∷ bs) h zero = word_byte_below b (and_parts (is_word_byte b) (list_all is_word_byte bs) h).0
word_bytes_are_ascii (b ∷ bs) h (suc i) = word_bytes_are_ascii bs (and_parts (is_word_byte b) (list_all is_word_byte bs) h).1 i

word_parts : (b : ℕ) (bs : List ℕ) → is_word (b ∷ bs) ≡ true → ((is_ascii_alphabetic b && nat_lt (length bs) 32) ≡ true) × (list_all is_word_byte bs ≡ true)
word_parts b bs h = and_parts (is_ascii_alphabetic b && nat_lt (length bs) 32) (list_all is_word_byte bs) h

word_is_ascii : (bs : List ℕ) → is_word bs ≡ true → IsAscii bs
word_is_ascii [] h i = omega arith
word_is_ascii (b ∷ bs) h zero = letter_below b (and_parts (is_ascii_alphabetic b) (nat_lt (length bs) 32) (word_parts b bs h).0).0
word_is_ascii (b ∷ bs) h (suc i) = word_bytes_are_ascii bs (word_parts b bs h).1 i

pub name_is_utf8 : (bs : List ℕ) → is_name bs ≡ true → IsUtf8 bs
name_is_utf8 bs h = IsUtf8-from_ascii bs (word_is_ascii bs (and_parts (is_word bs) (not (is_reserved bs)) h).0)
