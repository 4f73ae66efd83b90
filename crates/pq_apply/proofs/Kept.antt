-- The trees at the places of a store that grows.
use Rattle.std.proofs.Common.{ℕ, ◌<◌, ◌≡◌, ◌∙◌, List, Some, sym, subst}
use Rattle.std.specs.Prelude.{length, slice_get}
use Rattle.std.proofs.lemmas.Option.{slice_get_within}
use Rattle.pq_store.specs.declared.test.Test.{Test}
use Rattle.pq_store.specs.Tree.{Tree}
use Rattle.pq_store.specs.Store.{Keeps, IsJoinable}
use Rattle.pq_lists.proofs.Places.{at_place}

module _ {L : Type 0} where
  -- what keeps its trees twice keeps them
  pub keeps_on : (a b c : List (Tree L)) → Keeps a b → Keeps b c → Keeps a c
  keeps_on a b c first then k t is = then k t (first k t is)

  -- a place stays within
  pub within_still : (old new : List (Tree L)) (k : ℕ) → Keeps old new → k < length old → k < length new
  within_still old new k keeps within = let t = at_place old k within in slice_get_within new k t.0 (keeps k t.0 t.1)

  -- the tree at an old place was there before
  pub tree_before : (old new : List (Tree L)) (k : ℕ) (t : Tree L) → Keeps old new → k < length old → slice_get new k ≡ Some t → slice_get old k ≡ Some t
  tree_before old new k t keeps within is =
      let u = at_place old k within in
      let there : slice_get new k ≡ Some u.0 = keeps k u.0 u.1 in
      u.1 ∙ (sym there ∙ is)

  -- the sides at two places may be joined where these trees are there and may be
  pub sides_join : (ts : List (Tree L)) (s : Test) (i j : ℕ) (y n : Tree L) → slice_get ts i ≡ Some y → slice_get ts j ≡ Some n → IsJoinable s y n
      → (a b : Tree L) → slice_get ts i ≡ Some a → slice_get ts j ≡ Some b → IsJoinable s a b
  sides_join ts s i j y n y_is n_is joinable a b a_is b_is =
      let e : y ≡ a = cc in
      let f : n ≡ b = cc in
      subst (λ u. IsJoinable s u b) e (subst (IsJoinable s y) f joinable)
