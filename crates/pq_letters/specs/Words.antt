-- Words of packets and words of letters.
use Rattle.std.specs.Prelude.{ℕ, Bool, List, ◌∷◌, length, map}
use Rattle.std.specs.Option.{unwrap_or}
use Rattle.std.proofs.Math.ListN.{get_or}
use Rattle.pq_fields.specs.Packet.{Numbers, is_before, zero_packet}
use Rattle.pq_model.specs.Word.{Word, Observation, In, Out, observed_packet}
use Rattle.pq_letters.specs.Letters.{LettersValue, letter_at}

-- the number of a packet's letter
abbrev pub letter_number : LettersValue → Numbers → ℕ
letter_number a x = unwrap_or (letter_at a x) 0

-- the letters of the packets that a word observes
abbrev pub letters_of : LettersValue → Word → List ℕ
letters_of a w = map (λ o. letter_number a (observed_packet o)) w

-- the observation with the least packet of its letter
abbrev pub least_observation : LettersValue → Observation → Observation
least_observation a (In x) = In (get_or a.least (letter_number a x) zero_packet)
least_observation a (Out x) = Out (get_or a.least (letter_number a x) zero_packet)

-- the word with the least packet of each letter
abbrev pub least_word : LettersValue → Word → Word
least_word a w = map (least_observation a) w

-- words of letters are in the order of their length, and then of their letters, the first that differs deciding
abbrev pub letters_are_before : List ℕ → List ℕ → Bool
letters_are_before u v = is_before (length u ∷ u) (length v ∷ v)
