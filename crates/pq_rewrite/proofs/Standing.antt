-- What is said of the tree at a place.
use Rattle.std.proofs.Common.{ℕ, ◌<◌, ◌≡◌, List, length, Some, subst}
use Rattle.std.specs.Prelude.{slice_get}
use Rattle.std.proofs.lemmas.Option.{slice_get_within}
use Rattle.pq_store.specs.Store.{HasAt, Keeps}
use Rattle.pq_store.specs.Tree.{Tree}

module _ {L : Type 0} (P : Tree L → Type 0) where
  -- a tree at a place is within
  pub has_within : (ts : List (Tree L)) (k : ℕ) → HasAt P ts k → k < length ts
  has_within ts k has = slice_get_within ts k has.0 has.1

  -- the tree there has what is said of it
  pub has_there : (ts : List (Tree L)) (k : ℕ) (t : Tree L) → HasAt P ts k → slice_get ts k ≡ Some t → P t
  has_there ts k t has is =
      let there = has.1 in
      let same : has.0 ≡ t = cc in
      subst P same has.2

  -- and stays
  pub has_still : (old new : List (Tree L)) (k : ℕ) → Keeps old new → HasAt P old k → HasAt P new k
  has_still old new k keeps has = (has.0, keeps k has.0 has.1, has.2)
