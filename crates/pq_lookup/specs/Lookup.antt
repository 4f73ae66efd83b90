-- What lists of matches and leaves answer for a packet.
use Rattle.std.specs.Prelude.{◌≡◌, ◌≢◌, ℕ, List, [], ◌∷◌, if◌then◌else◌}
use Rattle.std.specs.declared.option.Option.{Option}
use Rattle.std.specs.declared.option.Option.TheVariants.{None, Some}
use Rattle.pq_model.specs.MatchFields.{MatchFields, covers, vlan_word}
use Rattle.pq_model.specs.Tagged.{TaggedPacket}
use Rattle.pq_store.specs.Tree.{Tree, value}
use Rattle.pq_layout.specs.Entries.{matches_below, vlan_match}
use Rattle.pq_layout.specs.Sound.{IsMatchable}

-- the first element whose match covers the packet
abbrev pub first_covering : {L : Type 0} → TaggedPacket → List (MatchFields × L) → Option (MatchFields × L)
first_covering x [] = None
first_covering x (e ∷ es) = if covers e.0 x then Some e else first_covering x es

-- the first element whose match covers the packet has this leaf, and its match is of packets with this VLAN_VID word
abbrev pub Answers : {L : Type 0} → TaggedPacket → List (MatchFields × L) → ℕ → L → Type 0
Answers x es word l = (m : MatchFields) × (first_covering x es ≡ Some (m, l)) × (m.vlan ≡ Some word)

-- of the matches and leaves of a tree, the first that covers a packet with the tree's word has the leaf that the packet reaches
abbrev pub EntriesAnswer : Type 0 → Type 0
EntriesAnswer L =
    (t : Tree L) (word : ℕ) (x : TaggedPacket) → IsMatchable t → vlan_word x.vlan ≡ word
    → Answers x (matches_below (vlan_match word) t) word (value t x.packet)

-- and none covers a packet with another word
abbrev pub EntriesPassOver : Type 0 → Type 0
EntriesPassOver L =
    (t : Tree L) (word : ℕ) (x : TaggedPacket) → IsMatchable t → vlan_word x.vlan ≢ word
    → first_covering x (matches_below (vlan_match word) t) ≡ None
