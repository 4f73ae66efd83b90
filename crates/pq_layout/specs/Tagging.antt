-- Tags of words, and how they follow what is observed.
use Rattle.std.specs.Prelude.{◌≡◌, ◌↔◌, ◌≤◌, ℕ, zero, suc, Bool, true, false, not, List, [], ◌∷◌, ◌++◌}
use Rattle.std.specs.List.{Contains, filter}
use Rattle.pq_fields.specs.Packet.{Numbers}
use Rattle.pq_model.specs.Classes.{Languages, HasClasses, IsPath, IsTag, has_even_length}
use Rattle.pq_model.specs.Lawful.{Ascends}
use Rattle.pq_model.specs.Word.{Word, observed_packet}

-- tags from 1 to a count: the tag after one more observed packet, whether words of the tag have even length, and the numbers of the instances that hold them
pub record Tagging : Type 0 where
  pub count : ℕ
  pub after : ℕ → Numbers → ℕ
  pub is_even : ℕ → Bool
  pub accepted : ℕ → List ℕ

abbrev pub is_empty : {A : Type 0} → List A → Bool
is_empty [] = true
is_empty (x ∷ xs) = false

-- whether an instance holds the words of the tag
abbrev pub captures : Tagging → ℕ → Bool
captures g t = not (is_empty (g.accepted t))

-- the tag after these observations, from a tag on
abbrev pub tag_from : Tagging → ℕ → Word → ℕ
tag_from g t [] = t
tag_from g t (o ∷ w) = tag_from g (g.after t (observed_packet o)) w

-- the tag of a word; that of the empty word is 1
abbrev pub tag_of : Tagging → Word → ℕ
tag_of g w = tag_from g 1 w

-- the numbers from 1 to this one
abbrev pub up_to : ℕ → List ℕ
up_to zero = []
up_to (suc n) = up_to n ++ suc n ∷ []

-- the tags of words of even length, and of odd length, ascending
abbrev pub even_tags : Tagging → List ℕ
even_tags g = filter g.is_even (up_to g.count)

abbrev pub odd_tags : Tagging → List ℕ
odd_tags g = filter (λ t. not (g.is_even t)) (up_to g.count)

-- what a tagging says of a word of packets: its tag, its parity, and which instances hold it, ascending
pub record IsTagged (Ls : Languages) (g : Tagging) (w : Word) : Type 0 where
  pub tag : IsTag Ls w (tag_of g w)
  pub within : (1 ≤ tag_of g w) × (tag_of g w ≤ g.count)
  pub even : g.is_even (tag_of g w) ≡ has_even_length w
  pub ascending : Ascends (g.accepted (tag_of g w))
  pub held : (i : ℕ) → Contains (g.accepted (tag_of g w)) i ↔ Ls i w

-- the tags are those of the classes of words of packets, and each is that of some word
pub record IsTagging (Ls : Languages) (g : Tagging) : Type 0 where
  pub classes : HasClasses Ls g.count
  pub tagged : (w : Word) → IsPath w → IsTagged Ls g w
  pub reached : (t : ℕ) → 1 ≤ t → t ≤ g.count → (w : Word) × IsPath w × (tag_of g w ≡ t)
