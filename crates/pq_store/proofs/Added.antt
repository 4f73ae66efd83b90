-- What an insertion adds to the trees of a store.
use Rattle.std.proofs.Common.{◌≡◌, ◌∙◌, ℕ, ◌⊎◌, inl, inr, Bool, true, false, List, [], ◌∷◌, ◌++◌, Some, if◌then◌else◌, ap, subst}
use Rattle.std.specs.Prelude.{slice_get}
use Rattle.std.specs.List.{list_any}
use Rattle.indexmap.specs.IndexSet.{insert_key}
use Rattle.pq_store.specs.declared.cell.Cell.{Cell}
use Rattle.pq_store.specs.Tree.{Tree}
use Rattle.pq_store.specs.Store.{AddsOnly}
use Rattle.pq_store.specs.Arena.{trees, IsArena, tree_of, CanStand}
use Rattle.pq_store.proofs.Arenas.{grows, is_canonical}
use Rattle.pq_lists.proofs.Places.{older_or_last}
use Rattle.pq_store.proofs.Parts.{one_place}

module _ {L : Type 0} where
  -- each tree was there before the insertion, or is the cell's
  old_or_own : (eq : Cell L → Cell L → Bool) (cs : List (Cell L)) (c : Cell L) (stand : CanStand (trees cs) c) (k : ℕ) (t : Tree L)
      → slice_get (trees (insert_key eq cs c)) k ≡ Some t → (slice_get (trees cs) k ≡ Some t) ⊎ (t ≡ stand.tree)
  old_or_own eq cs c stand k t = by (list_any (eq c) cs)
    where
      by : (there : Bool) → slice_get (trees (if there then cs else cs ++ c ∷ [])) k ≡ Some t → (slice_get (trees cs) k ≡ Some t) ⊎ (t ≡ stand.tree)
      by true at = inl at
      by false at =
          elim (older_or_last (trees cs) stand.tree k t (subst (λ (ts : List (Tree L)). slice_get ts k ≡ Some t) (grows cs c stand.tree stand.is) at)) [
            | inl old ↦ inl old
            | inr own ↦ inr own.1
          ]

  -- an insertion adds no tree but that of the id at which the cell's tree is
  pub adds_own : (eq : Cell L → Cell L → Bool) (cs new : List (Cell L)) (c : Cell L) (id : ℕ) → CanStand (trees cs) c → IsArena new
      → new ≡ insert_key eq cs c → slice_get (trees new) id ≡ tree_of (trees cs) c → AddsOnly (trees cs) (trees new) id
  adds_own eq cs new c id stand arena inserted at_id k t at =
      elim (old_or_own eq cs c stand k t (subst (λ (ds : List (Cell L)). slice_get (trees ds) k ≡ Some t) inserted at)) [
        | inl old ↦ inl old
        | inr own ↦ inr (one_place (trees new) (is_canonical new arena) k id stand.tree (at ∙ ap Some own) (at_id ∙ stand.is))
      ]
