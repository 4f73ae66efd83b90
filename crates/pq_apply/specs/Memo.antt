-- What a table of things made remembers.
use Rattle.std.specs.Prelude.{ℕ, ◌≡◌, Bool, Some, ◌==◌, ◌&&◌}
use Rattle.indexmap.specs.IndexMap.{IndexMap, get}

-- two pairs of ids are one
abbrev pub same_pair : ℕ × ℕ → ℕ × ℕ → Bool
same_pair p q = (p.0 == q.0) && (p.1 == q.1)

-- two triples of ids are one
abbrev pub same_triple : ℕ × ℕ × ℕ → ℕ × ℕ × ℕ → Bool
same_triple p q = ((p.0 == q.0) && (p.1 == q.1)) && (p.2 == q.2)

-- each id in the table is one that is made for its key
abbrev pub Remembers : {K S : Type 0} → (K → K → Bool) → (K → ℕ → Type 0) → IndexMap K ℕ S → Type 0
Remembers {K} eq Made done = (key : K) (id : ℕ) → get eq done key ≡ Some id → Made key id
