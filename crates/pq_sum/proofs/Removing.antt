-- A part taken out of a sum.
use Rattle.std.proofs.Common.{ℕ, suc, ◌+◌, ◌*◌, ◌^◌, ◌-◌, ◌<◌, ◌≤◌, ◌≡◌, List, [], ◌++◌, take, drop, length, sym, ap, subst, arith}
use Rattle.std.specs.Prelude.{All}
use Rattle.std.proofs.lemmas.List.{length-take, take-append-drop, take_all}
use Rattle.std.proofs.lemmas.List.Elements.{All-append}
use Rattle.pq_fields.specs.Writes.{Written}
use Rattle.pq_model.specs.Topology.{Topology}
use Rattle.pq_policy.specs.Policy.{PolicyTree}
use Rattle.pq_store.specs.Store.{Keeps}
use Rattle.pq_store.specs.Tree.{Tree}
use Rattle.pq_store.proofs.RoomLemmas.{room_for}
use Rattle.pq_rewrite.proofs.Halves.{all_halves}
use Rattle.pq_rewrite.proofs.Standing.{has_still}
use Rattle.pq_forward.specs.Forward.{IsPolicyWithin}
use Rattle.pq_meaning.specs.Parts.{FitAsParts, IsUnionOfParts}
use Rattle.pq_sum.specs.Cells.{IsRemovable, MayRemove, removed}
use Rattle.pq_sum.specs.Sum.{GivesNone, HasLeaf, IsChange, IsChanged, IsCounted, IsLeaf, IsSumTree, MayChange, UnitesParts, replaced}
use Rattle.pq_sum.proofs.Moving.{one_last, removed_before, removed_last, without_last}
use Rattle.pq_sum.proofs.Trees.{parts_of, tree_still}
use Rattle.pq_sum.proofs.Unions.{halves_fit, none_unites}

abbrev Trees : Type 0
Trees = List (Tree (List Written))

-- some of the parts fit where all do, in whatever order
fits_replaced : (T : Topology) (ps : List PolicyTree) (slot last : ℕ) → FitAsParts T ps → FitAsParts T (replaced slot (drop last ps) ps)
fits_replaced T ps slot last fits = room_for (λ ns (topology, within).
    let P = IsPolicyWithin ns in
    let at_slot = all_halves P (take slot ps) (drop slot ps) (subst (λ l. All P l) (sym (take-append-drop slot ps)) within) in
    let behind = all_halves P (take (suc slot) ps) (drop (suc slot) ps) (subst (λ l. All P l) (sym (take-append-drop (suc slot) ps)) within) in
    let at_last = all_halves P (take last ps) (drop last ps) (subst (λ l. All P l) (sym (take-append-drop last ps)) within) in (
      topology,
      All-append P (take slot ps) (drop last ps ++ drop (suc slot) ps) at_slot.0
          (All-append P (drop last ps) (drop (suc slot) ps) at_last.1 behind.1),
    )) fits

module _ (T : Topology) (ts mid : Trees) (keeps : Keeps ts mid) (cells : List ℕ) (slot last none : ℕ) (ps : List PolicyTree)
    (remove : IsRemovable T ts cells slot last ps) (gives_none : GivesNone mid none) where
  pub last_tree : IsSumTree T mid 10 cells ps
  last_tree = tree_still T ts mid keeps 10 cells ps remove.sum

  many : length ps ≤ 2 ^ 10
  many = parts_of T ts 10 cells ps remove.sum

  -- the last slot is emptied
  pub last_change : IsChange T mid (2 ^ 10) ps last none []
  last_change = record {
    gives = none_unites T mid none gives_none;
    replaces = record {
      few = omega arith;
      within = let all = remove.all in omega (arith, all);
      room = let all = remove.all in let most = many in omega (arith, all, most);
      last = λ empty. remove.all;
    };
    fits = subst (FitAsParts T) (sym (without_last ps slot last remove.all)) (halves_fit T last ps remove.fits).0;
  }

  module _ (now : Trees) (still : Keeps mid now) (moved : ℕ) (leaf : IsLeaf cells last moved) (before : slot < last) where
    -- and its part put into the slot
    pub moved_change : IsChange T now (2 ^ 10) (replaced last [] ps) slot moved (drop last ps)
    moved_change =
        let all = remove.all in
        let one = one_last ps slot last all in
        let few = length-take last ps in
        let most = many in
        let short = ap (λ l. length l) (without_last ps slot last all) in
        record {
          gives = has_still (IsUnionOfParts T (drop last ps)) mid now moved still (has_still (IsUnionOfParts T (drop last ps)) ts mid moved keeps
              (subst (λ qs. UnitesParts T ts qs moved) (take_all 1 (drop last ps) (omega (arith, one))) (leaf T ts 10 ps remove.sum (omega (arith, all)))));
          replaces = record {
            few = omega (arith, one);
            within = omega (arith, few, short, all, before);
            room = omega (arith, all, most, before);
            last = λ empty. absurd (let no = ap (λ l. length l) empty in omega (arith, no, one));
          };
          fits = subst (FitAsParts T) (sym (removed_before ps slot last all before))
              (subst (λ n. FitAsParts T (take n (replaced slot (drop n ps) ps))) (sym (last_place ps slot last all))
              (halves_fit T last (replaced slot (drop last ps) ps) (fits_replaced T ps slot last remove.fits)).0);
        }
      where
        last_place : (qs : List PolicyTree) (i n : ℕ) → length qs ≡ suc n → length qs - 1 ≡ n
        last_place qs i n is = omega (arith, is)

-- What the calls ask and give.

module _ (ts mid : Trees) (keeps : Keeps ts mid) (cells : List ℕ) (slot last none : ℕ) (gives_none : GivesNone mid none) where
  pub may_take_last : MayRemove ts cells slot last → MayChange mid cells last none
  may_take_last may = record {
    topology = may.topology;
    height = 10;
    parts = may.parts;
    new = [];
    tree = last_tree may.topology ts mid keeps cells slot last none may.parts may.remove gives_none;
    change = last_change may.topology ts mid keeps cells slot last none may.parts may.remove gives_none;
  }

  pub has_last : MayRemove ts cells slot last → HasLeaf cells last
  has_last may = record {
    topology = may.topology;
    trees = ts;
    height = 10;
    parts = may.parts;
    tree = may.remove.sum;
    within = let all = may.remove.all in omega (arith, all);
  }

  module _ (now : Trees) (still : Keeps mid now) (new_cells : List ℕ) (moved : ℕ) (leaf : IsLeaf cells last moved)
      (changed : IsChanged mid cells last none now new_cells) where
    pub may_move_last : slot < last → MayRemove ts cells slot last → MayChange now new_cells slot moved
    may_move_last before may = record {
      topology = may.topology;
      height = 10;
      parts = replaced last [] may.parts;
      new = drop last may.parts;
      tree = changed may.topology 10 may.parts []
          (last_tree may.topology ts mid keeps cells slot last none may.parts may.remove gives_none)
          (last_change may.topology ts mid keeps cells slot last none may.parts may.remove gives_none);
      change = moved_change may.topology ts mid keeps cells slot last none may.parts may.remove gives_none now still moved leaf before;
    }

    module _ (T : Topology) (ps : List PolicyTree) (remove : IsRemovable T ts cells slot last ps) where
      pub taken_last : slot ≡ last → IsSumTree T now 10 new_cells (removed slot ps)
      taken_last same =
          subst (IsSumTree T now 10 new_cells) (removed_last ps slot last remove.all same)
          (changed T 10 ps [] (last_tree T ts mid keeps cells slot last none ps remove gives_none)
          (last_change T ts mid keeps cells slot last none ps remove gives_none))

      pub moved_last : slot < last → (end : Trees) (end_cells : List ℕ) → IsChanged now new_cells slot moved end end_cells
          → IsSumTree T end 10 end_cells (removed slot ps)
      moved_last before end end_cells changed_again =
          subst (IsSumTree T end 10 end_cells) (removed_before ps slot last remove.all before)
          (changed_again T 10 (replaced last [] ps) (drop last ps)
          (changed T 10 ps [] (last_tree T ts mid keeps cells slot last none ps remove gives_none)
          (last_change T ts mid keeps cells slot last none ps remove gives_none))
          (moved_change T ts mid keeps cells slot last none ps remove gives_none now still moved leaf before))

  -- The steps.

  module _ (T : Topology) (ps : List PolicyTree) (remove : IsRemovable T ts cells slot last ps) (k : ℕ) (few : length ps ≤ 2 ^ k) where
    short : length (replaced last [] ps) ≤ 2 ^ k
    short =
        let all = remove.all in
        let same = ap (λ l. length l) (without_last ps slot last all) in
        let less = length-take last ps in
        omega (arith, all, same, less, few)

    pub last_counted : (before after : ℕ) → IsCounted mid cells last none before after → after ≤ before + k
    last_counted before after counted =
        counted T 10 ps [] (last_tree T ts mid keeps cells slot last none ps remove gives_none)
        (last_change T ts mid keeps cells slot last none ps remove gives_none) k few short

    pub moved_counted : (now : Trees) → Keeps mid now → (new_cells : List ℕ) (moved : ℕ) → IsLeaf cells last moved
        → IsChanged mid cells last none now new_cells → slot < last
        → (before between after : ℕ) → IsCounted mid cells last none before between → IsCounted now new_cells slot moved between after → after ≤ before + 2 * k
    moved_counted now still new_cells moved leaf changed far before between after counted counted_again =
        let first = last_counted before between counted in
        let tree = changed T 10 ps [] (last_tree T ts mid keeps cells slot last none ps remove gives_none)
        (last_change T ts mid keeps cells slot last none ps remove gives_none) in
        let change = moved_change T ts mid keeps cells slot last none ps remove gives_none now still moved leaf far in
        let same = ap (λ l. length l) (removed_before ps slot last remove.all far) in
        let less = length-take (length ps - 1) (replaced slot (drop (length ps - 1) ps) ps) in
        let all = remove.all in
        let second = counted_again T 10 (replaced last [] ps) (drop last ps) tree change k short (omega (arith, same, less, all, few)) in
        omega (arith, first, second)
