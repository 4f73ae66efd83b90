-- What the calls on the cells of a sum ask and give.
use Rattle.std.proofs.Common.{ℕ, ◌≡◌, ◌∙◌, List, [], ◌∷◌, ◌++◌, take, length, replicate, refl, sym, ap, subst}
use Rattle.std.proofs.Math.Seq.{take-append_seam}
use Rattle.pq_fields.specs.Writes.{Written}
use Rattle.pq_model.specs.Topology.{Topology}
use Rattle.pq_store.specs.Store.{Keeps}
use Rattle.pq_store.specs.Tree.{Tree}
use Rattle.pq_sum.specs.Cells.{IsOpened, IsPut, MayOpen, MayPut}
use Rattle.pq_sum.specs.Sum.{GivesNone, IsChanged, IsFilled, IsSumTree, MayChange, MayFill}
use Rattle.pq_sum.proofs.Filling.{none_filled, parts_still}
use Rattle.pq_sum.proofs.Moving.{put_change, put_sum}

abbrev Trees : Type 0
Trees = List (Tree (List Written))

-- the cells that were lent are those that come back
pub lent : (xs ys : List ℕ) (n : ℕ) → length xs ≡ n → take n (xs ++ ys) ≡ xs
lent xs ys n is = ap (λ k. take k (xs ++ ys)) (sym is) ∙ take-append_seam xs ys

module _ (ts mid : Trees) (keeps : Keeps ts mid) (none : ℕ) (gives_none : GivesNone mid none) (cells nodes : List ℕ) (is : cells ≡ replicate 2047 none) where
  empty_cells : (T : Topology) → IsSumTree T mid 10 cells []
  empty_cells T = subst (λ l. IsSumTree T mid 10 l []) (sym is) (none_filled T mid none gives_none 10 2047 refl)

  -- cells that all give nothing may be filled
  pub may_fill : MayOpen ts nodes → MayFill mid cells nodes
  may_fill may = record {
    topology = may.topology;
    height = 10;
    parts = may.parts;
    empty = empty_cells may.topology;
    each = parts_still may.topology ts mid keeps may.parts nodes may.each;
    few = may.few;
    fits = may.fits;
  }

  -- and are the sum then
  pub is_opened : (now : Trees) (new_cells : List ℕ) → IsFilled mid cells nodes now new_cells → IsOpened ts nodes now new_cells
  is_opened now new_cells filled T ps each few fits = filled T 10 ps (empty_cells T) (parts_still T ts mid keeps ps nodes each) few fits

module _ (ts mid : Trees) (keeps : Keeps ts mid) (cells : List ℕ) (slot node : ℕ) where
  -- a part may be put
  pub put_may_change : MayPut ts cells slot node → MayChange mid cells slot node
  put_may_change may = record {
    topology = may.topology;
    height = 10;
    parts = may.parts;
    new = may.part ∷ [];
    tree = put_sum may.topology ts mid keeps cells slot node may.parts may.part may.put;
    change = put_change may.topology ts mid keeps cells slot node may.parts may.part may.put;
  }

  -- and the sum is that with it
  pub is_put : (now : Trees) (new_cells : List ℕ) → IsChanged mid cells slot node now new_cells → IsPut ts cells slot node now new_cells
  is_put now new_cells changed T ps p put =
      changed T 10 ps (p ∷ []) (put_sum T ts mid keeps cells slot node ps p put) (put_change T ts mid keeps cells slot node ps p put)
