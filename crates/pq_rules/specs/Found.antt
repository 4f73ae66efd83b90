-- Entries as they are found: matches, each with the id of its leaf.
use Rattle.std.specs.Prelude.{◌≡◌, ◌⊎◌, ℕ, List, [], ◌∷◌, ◌++◌, Some, slice_get}
use Rattle.std.specs.declared.option.Option.{Option}
use Rattle.std.specs.declared.option.Option.TheVariants.{None}
use Rattle.std.specs.List.{AllZip, flat_map}
use Rattle.pq_model.specs.MatchFields.{MatchFields, IsTagWord, vlan_word}
use Rattle.pq_model.specs.Tagged.{TaggedPacket}
use Rattle.pq_store.specs.Tree.{Tree, value}
use Rattle.pq_store.specs.Tree.Tree.{Tip}
use Rattle.pq_store.specs.Store.{HasAt}
use Rattle.pq_layout.specs.Entries.{matches_below, vlan_match}
use Rattle.pq_layout.specs.Sound.{IsMatchable}
use Rattle.pq_lookup.specs.Lookup.{first_covering}

-- a tree with its VLAN_VID word, where there is one
abbrev pub with_word : {L : Type 0} → ℕ → Option (Tree L) → List (ℕ × Tree L)
with_word word None = []
with_word word (Some t) = (word, t) ∷ []

-- the trees at ids, with their VLAN_VID words
abbrev pub trees_with : {L : Type 0} → List (Tree L) → List (ℕ × ℕ) → List (ℕ × Tree L)
trees_with ts ids = flat_map (λ p. with_word p.0 (slice_get ts p.1)) ids

-- the matches and leaves of trees, tree after tree
abbrev pub matches_of : {L : Type 0} → List (ℕ × Tree L) → List (MatchFields × L)
matches_of trees = flat_map (λ p. matches_below (vlan_match p.0) p.1) trees

-- the words of packets without a VLAN header, and with a tag
abbrev pub IsKeyWord : ℕ → Type 0
IsKeyWord word = (word ≡ 0) ⊎ IsTagWord word

-- an id of a tree that entries can stand for, with a lawful word
abbrev pub IsRoot : {L : Type 0} → List (Tree L) → ℕ × ℕ → Type 0
IsRoot ts p = IsKeyWord p.0 × HasAt IsMatchable ts p.1

-- the match, and an id of its leaf
abbrev pub IsFound : {L : Type 0} → List (Tree L) → MatchFields × L → MatchFields × ℕ → Type 0
IsFound ts m e = (e.0 ≡ m.0) × (slice_get ts e.1 ≡ Some (Tip m.1))

-- position by position the matches, and ids of their leaves
abbrev pub AreFound : {L : Type 0} → List (Tree L) → List (MatchFields × L) → List (MatchFields × ℕ) → Type 0
AreFound ts ms es = AllZip (IsFound ts) ms es

-- they are found after what was found before
abbrev pub Finds : {L : Type 0} → List (Tree L) → List (MatchFields × L) → List (MatchFields × ℕ) → List (MatchFields × ℕ) → Type 0
Finds ts ms old new = (more : List (MatchFields × ℕ)) × (new ≡ old ++ more) × AreFound ts ms more

-- the first match that covers a packet with the VLAN_VID word gives the leaf that the packet reaches
abbrev pub FirstTells : {L : Type 0} → List (Tree L) → Tree L → ℕ → List (MatchFields × ℕ) → Type 0
FirstTells ts t word es =
    (x : TaggedPacket) → vlan_word x.vlan ≡ word → (e : MatchFields × ℕ) × (first_covering x es ≡ Some e) × (slice_get ts e.1 ≡ Some (Tip (value t x.packet)))
