-- A packet of which some numbers are stated, word after word.
use Rattle.std.specs.Prelude.{ℕ, ◌+◌, List, [], ◌∷◌, nat_le, if◌then◌else◌, option_and_then, option_map, Option, Some, None}
use Rattle.std.specs.Str.{byte}
use Rattle.pq_model.specs.Tagged.{TaggedPacket}
use Rattle.pq_schedule.specs.declared.injection.Stated.{Stated as Partial}
use Rattle.pq_term.specs.Groups.{before_separator, behind_separator}
use Rattle.pq_schedule.specs.declared.key.Key.{Key}
use Rattle.pq_schedule.specs.Lines.{key_named, key_number, place_of, with_key}

-- the packet with the number under one more key, which may not be before the least place
abbrev pub stated_under : Partial → Option Key → Option (List ℕ) → Option Partial
stated_under x None value = None
stated_under x (Some key) None = None
stated_under x (Some key) (Some value) =
    if nat_le x.next (place_of key) then option_map (λ p. record { packet = p; next = place_of key + 1 })
    (option_map (λ n. with_key key n x.packet) (key_number key value))
    else None

-- the packet with what one more word states
abbrev pub stated_by : Partial → List ℕ → Option Partial
stated_by x word = stated_under x (key_named (before_separator (byte "=") word)) (behind_separator (byte "=") word)

-- the packet with what all words state
abbrev pub stated_all : Partial → List (List ℕ) → Option TaggedPacket
stated_all x [] = Some x.packet
stated_all x (word ∷ words) = option_and_then (λ y. stated_all y words) (stated_by x word)
