-- Classes of words of packets, and the tags of words (after Myhill and Nerode).
use Rattle.std.specs.Prelude.{◌≡◌, ◌↔◌, ℕ, suc, Bool, true, false, not, List, [], ◌∷◌, ◌++◌, length, Some, slice_get, All}
use Rattle.std.specs.List.{Any, Contains}
use Rattle.pq_fields.specs.Packet.{Fit}
use Rattle.pq_model.specs.Word.{Word, is_word, observed_packet, word_is_before}

-- each packet that the word observes fits
abbrev pub AllObservedFit : Word → Type 0
AllObservedFit w = All (λ o. Fit (observed_packet o)) w

-- a word of packets
abbrev pub IsPath : Word → Type 0
IsPath w = (is_word w ≡ true) × AllObservedFit w

-- the word has even length
abbrev pub has_even_length : Word → Bool
has_even_length [] = true
has_even_length (o ∷ w) = not (has_even_length w)

-- for each instance, by its number, the words that it holds
abbrev pub Languages : Type 1
Languages = ℕ → Word → Type 0

-- the lengths of u and v have equal parity, and of every extension of both, the empty one included, each instance holds both results or neither
pub record AreSame (Ls : Languages) (u v : Word) : Type 0 where
  pub parity : has_even_length u ≡ has_even_length v
  pub held : (e : Word) → IsPath (u ++ e) → IsPath (v ++ e) → (i : ℕ) → Ls i (u ++ e) ↔ Ls i (v ++ e)

-- there are this many words, no two of them the same, and every word is the same as one of them
pub record HasClasses (Ls : Languages) (n : ℕ) : Type 0 where
  pub words : List Word
  pub count : length words ≡ n
  pub paths : All IsPath words
  pub differ : (i j : ℕ) (u v : Word) → slice_get words i ≡ Some u → slice_get words j ≡ Some v → AreSame Ls u v → i ≡ j
  pub every : (w : Word) → IsPath w → Any (AreSame Ls w) words

-- the word is the least of its class
pub record IsLeast (Ls : Languages) (u : Word) : Type 0 where
  pub path : IsPath u
  pub least : (v : Word) → IsPath v → AreSame Ls u v → word_is_before v u ≡ false

-- the tag of a word is one more than the number of classes whose least word is smaller than the least word of its class
pub record IsTag (Ls : Languages) (w : Word) (tag : ℕ) : Type 0 where
  pub least : Word
  pub same : AreSame Ls w least
  pub is_least : IsLeast Ls least
  pub smaller : List Word
  pub once : (i j : ℕ) (u : Word) → slice_get smaller i ≡ Some u → slice_get smaller j ≡ Some u → i ≡ j
  pub exact : (u : Word) → Contains smaller u ↔ (IsLeast Ls u × (word_is_before u least ≡ true))
  pub counted : tag ≡ suc (length smaller)
