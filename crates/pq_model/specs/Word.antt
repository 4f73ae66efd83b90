-- Observations of a packet on its way, words of them, and the order of words (after NSDI 2016, Compiling Path Queries).
use Rattle.std.specs.Prelude.{ℕ, Bool, true, false, List, [], ◌∷◌, length}
use Rattle.std.specs.List.{flat_map}
use Rattle.pq_fields.specs.Packet.{Numbers, numbers, is_before}

-- a packet as it enters a switch, or as it leaves it; a hop that sends nothing is observed as an Out at port 0, which no switch has
pub data Observation : Type 0 where
  In : (packet : Numbers) → Observation
  Out : (packet : Numbers) → Observation

abbrev pub Word : Type 0
Word = List Observation

abbrev pub observed_packet : Observation → Numbers
observed_packet (In x) = x
observed_packet (Out x) = x

-- whether observations alternate; the flag says that the next is an In
abbrev pub alternates : Bool → Word → Bool
alternates enters [] = true
alternates true (In x ∷ w) = alternates false w
alternates true (Out x ∷ w) = false
alternates false (In x ∷ w) = false
alternates false (Out x ∷ w) = alternates true w

-- a word alternates and begins with In
abbrev pub is_word : Word → Bool
is_word w = alternates true w

-- words are in the order of their length, and then of their packets, the first that differs deciding
abbrev pub word_numbers : Word → List ℕ
word_numbers w = length w ∷ flat_map (λ o. numbers (observed_packet o)) w

abbrev pub word_is_before : Word → Word → Bool
word_is_before v w = is_before (word_numbers v) (word_numbers w)
