-- Markings of words by numbers that tell apart at least what languages tell apart.
use Rattle.std.specs.Prelude.{◌≡◌, ◌↔◌, ◌<◌, ◌≤◌, ℕ, List, [], ◌∷◌, ◌++◌, length, Some, slice_get, All}
use Rattle.pq_model.specs.Buckets.{Instance}
use Rattle.pq_model.specs.Classes.{AreSame, HasClasses, IsPath, Languages, has_even_length}
use Rattle.pq_model.specs.Word.{Observation, Word}
use Rattle.pq_query.specs.Languages.{IsHeld}
use Rattle.pq_query.specs.Query.{QueryTree}
use Rattle.pq_layout.specs.Tagging.{IsTagging, Tagging, tag_of}

-- words of packets with equal marks have lengths of equal parity
abbrev pub KeepsParity : (Word → ℕ) → Type 0
KeepsParity mark = (u v : Word) → IsPath u → IsPath v → mark u ≡ mark v → has_even_length u ≡ has_even_length v

-- the same instances hold them
abbrev pub KeepsHeld : Languages → (Word → ℕ) → Type 0
KeepsHeld Ls mark = (u v : Word) → IsPath u → IsPath v → mark u ≡ mark v → (i : ℕ) → Ls i u ↔ Ls i v

-- and after each same observation their marks are equal again
abbrev pub IsCarriedOn : (Word → ℕ) → Type 0
IsCarriedOn mark = (u v : Word) (o : Observation) → IsPath (u ++ o ∷ []) → IsPath (v ++ o ∷ []) → mark u ≡ mark v → mark (u ++ o ∷ []) ≡ mark (v ++ o ∷ [])

-- all three
pub record IsMarking (Ls : Languages) (mark : Word → ℕ) : Type 0 where
  pub parity : KeepsParity mark
  pub held : KeepsHeld Ls mark
  pub carried : IsCarriedOn mark

-- words of packets that aren't the same have different marks
abbrev pub TellsApart : Languages → (Word → ℕ) → Type 0
TellsApart Ls mark = (u v : Word) → IsPath u → IsPath v → mark u ≡ mark v → AreSame Ls u v

-- this many words of packets have different marks
pub record HasMarks (mark : Word → ℕ) (n : ℕ) : Type 0 where
  pub words : List Word
  pub count : length words ≡ n
  pub paths : All IsPath words
  pub differ : (i j : ℕ) (u v : Word) → slice_get words i ≡ Some u → slice_get words j ≡ Some v → mark u ≡ mark v → i ≡ j

-- there are at least as many marks as classes
abbrev pub HasMarkPerClass : Languages → (Word → ℕ) → Type 0
HasMarkPerClass Ls mark = (n : ℕ) → HasClasses Ls n → HasMarks mark n

-- so if all marks are below a number, there are at most this many classes
abbrev pub HasClassPerMark : Languages → (Word → ℕ) → Type 0
HasClassPerMark Ls mark = (n m : ℕ) → HasClasses Ls n → ((w : Word) → IsPath w → mark w < m) → n ≤ m

-- the tags of the words of queries are a marking, by the numbers from 1 to their count
abbrev pub TagsMark : Type 0
TagsMark =
    (qs : List QueryTree) (is : List Instance) (g : Tagging) → IsTagging (IsHeld qs is) g
    → IsMarking (IsHeld qs is) (tag_of g) × ((w : Word) → IsPath w → (1 ≤ tag_of g w) × (tag_of g w ≤ g.count))
