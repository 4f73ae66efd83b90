-- The tags of packets: one for each class of words.
use Rattle.std.specs.Prelude.{ℕ, suc, ◌-◌, Bool, not, [], length, nat_lt, if◌then◌else◌}
use Rattle.std.proofs.Math.ListN.{get_or}
use Rattle.pq_auto.specs.Machine.{Machine, accepted_at, is_even_at}
use Rattle.pq_letters.specs.Letters.{LettersValue}
use Rattle.pq_letters.specs.Words.{letter_number}
use Rattle.pq_layout.specs.Tagging.{Tagging, is_empty}
use Rattle.pq_rewrite.specs.declared.trees.Arrive.{Arrive}

-- class c has the tag c + 1
abbrev pub tagging_of : LettersValue → Machine → Tagging
tagging_of a m = record {
  count = length m.rows;
  after = λ t x. suc (get_or (get_or m.rows (t - 1) []) (letter_number a x) 0);
  is_even = λ t. is_even_at m (t - 1);
  accepted = λ t. accepted_at m (t - 1);
}

-- the class after one more letter, of those that the machine has
abbrev pub next_class : Machine → ℕ → ℕ → ℕ
next_class m c l = if nat_lt l m.letters then get_or (get_or m.rows c []) l 0 else c

-- whether an instance holds the words of the class
abbrev pub captures_at : Machine → ℕ → Bool
captures_at m c = not (is_empty (accepted_at m c))

-- a packet with one more letter has arrived
abbrev pub arrive_at : Machine → ℕ → ℕ → Arrive
arrive_at m c l = record { tag = suc (next_class m c l); capture = captures_at m (next_class m c l) }
