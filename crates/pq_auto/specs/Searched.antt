-- How far a search breadth first has come, letters ascending: each key has its least word, and keys ascend by it.
use Rattle.std.specs.Prelude.{ℕ, ◌<◌, ◌≡◌, ◌⊎◌, Some, List, [], ◌∷◌, ◌++◌, length, map}
use Rattle.std.specs.List.{slice_get}
use Rattle.std.proofs.Math.ListN.{get_or}
use Rattle.pq_auto.specs.Machine.{AllBelow}
use Rattle.pq_auto.specs.Numbering.{IsBefore}
use Rattle.pq_auto.specs.Search.{run}

-- the word is the other one, or before it
abbrev pub IsAtMost : List ℕ → List ℕ → Type 0
IsAtMost u v = (u ≡ v) ⊎ IsBefore u v

-- all words are before this one
abbrev pub AreBefore : List (List ℕ) → List ℕ → Type 0
AreBefore words v = (s : ℕ) (w : List ℕ) → slice_get words s ≡ Some w → IsBefore w v

module _ {K : Type 0} (goes : K → ℕ → K) (begin : K) (letters : ℕ) where
  -- each key has a word that leads to it, and the words ascend
  pub record HaveWords (keys : List K) (words : List (List ℕ)) : Type 0 where
    pub lead : map (run goes begin) words ≡ keys
    pub first : slice_get words 0 ≡ Some []
    pub below : (s : ℕ) (w : List ℕ) → slice_get words s ≡ Some w → AllBelow letters w
    pub ascend : (s t : ℕ) (v w : List ℕ) → s < t → slice_get words s ≡ Some v → slice_get words t ≡ Some w → IsBefore v w

  -- the number stands for the key that the letter leads to, whose word is at most the given one with the letter
  pub record IsEntry (keys : List K) (words : List (List ℕ)) (k : K) (u : List ℕ) (l n : ℕ) : Type 0 where
    pub key : slice_get keys n ≡ Some (goes k l)
    pub word : List ℕ
    pub at : slice_get words n ≡ Some word
    pub most : IsAtMost word (u ++ l ∷ [])

  -- a row leads from its key to the keys of its letters
  pub record IsRow (keys : List K) (words : List (List ℕ)) (s : ℕ) (row : List ℕ) : Type 0 where
    pub key : K
    pub word : List ℕ
    pub key_at : slice_get keys s ≡ Some key
    pub word_at : slice_get words s ≡ Some word
    pub long : length row ≡ letters
    pub entries : (l : ℕ) → l < letters → IsEntry keys words key word l (get_or row l 0)

  -- as far as the search has come: all keys that were met, and the rows of the first of them
  pub record IsSearched (keys : List K) (rows : List (List ℕ)) : Type 0 where
    pub words : List (List ℕ)
    pub have : HaveWords keys words
    pub each : (s : ℕ) (row : List ℕ) → slice_get rows s ≡ Some row → IsRow keys words s row
    pub ahead : (w : List ℕ) → slice_get words (length rows) ≡ Some w → AreBefore words (w ++ 0 ∷ [])
