-- A sum in another store, and parts taken out.
use Rattle.std.proofs.Common.{ℕ, zero, suc, ◌^◌, ◌-◌, ◌<◌, ◌≡◌, ◌∙◌, List, [], ◌∷◌, ◌++◌, take, drop, length, refl, sym, ap, subst, arith}
use Rattle.std.specs.Prelude.{All, slice_get}
use Rattle.std.specs.List.{AllZip}
use Rattle.std.proofs.lemmas.List.{append-nil, drop_all, length-drop, take-append-drop}
use Rattle.std.proofs.lemmas.List.Elements.{All-cons, All-nil, All-append}
use Rattle.pq_fields.specs.Writes.{Written}
use Rattle.pq_model.specs.Topology.{Topology}
use Rattle.pq_policy.specs.Policy.{PolicyTree}
use Rattle.pq_store.specs.Store.{Keeps}
use Rattle.pq_store.specs.Tree.{Tree}
use Rattle.pq_rewrite.proofs.Standing.{has_still, has_within}
use Rattle.pq_meaning.specs.Parts.{IsUnionOfParts}
use Rattle.pq_sum.specs.Cells.{IsPuttable, removed}
use Rattle.pq_sum.specs.Sum.{IsChange, IsSumTree, UnitesParts, replaced}
use Rattle.pq_sum.proofs.Replaced.{take_before}
use Rattle.pq_sum.proofs.Trees.{tree_still}

abbrev Trees : Type 0
Trees = List (Tree (List Written))

-- Compaction.

module _ {A B : Type 0} (R : A → B → Type 0) where
  -- pairs of two lists in turn
  record Parted (xs ys : List A) (zs : List B) : Type 0 where
    front : List B
    back : List B
    is : zs ≡ front ++ back
    first : AllZip R xs front
    behind : AllZip R ys back

  parted : (xs ys : List A) (zs : List B) → AllZip R (xs ++ ys) zs → Parted xs ys zs
  parted [] ys zs all = record { front = []; back = zs; is = refl; first = tt; behind = all }
  parted (x ∷ xs) ys [] all = absurd all
  parted (x ∷ xs) ys (z ∷ zs) all =
      let more = parted xs ys zs all.1 in
      record { front = z ∷ more.front; back = more.back; is = ap (λ l. z ∷ l) more.is; first = (all.0, more.first); behind = more.behind }

-- the trees at places of one list are those at places of another
abbrev Moved : Trees → Trees → List ℕ → List ℕ → Type 0
Moved old now cells ids = AllZip (λ root id. slice_get now id ≡ slice_get old root) cells ids

module _ (T : Topology) (old now : Trees) where
  unites_moved : (ps : List PolicyTree) (root id : ℕ) → slice_get now id ≡ slice_get old root → UnitesParts T old ps root → UnitesParts T now ps id
  unites_moved ps root id same (t, there, is) = (t, same ∙ there, is)

  -- a sum moves with its cells
  pub tree_moved : (h : ℕ) (cells ids : List ℕ) (ps : List PolicyTree) → Moved old now cells ids → IsSumTree T old h cells ps → IsSumTree T now h ids ps
  tree_moved zero cells ids ps all tree = by ids (subst (λ l. Moved old now l ids) tree.is all)
    where
      by : (is : List ℕ) → Moved old now (tree.root ∷ []) is → IsSumTree T now zero is ps
      by [] none = absurd none
      by (i ∷ []) one = record { root = i; is = refl; total = unites_moved ps tree.root i one.0 tree.total; few = tree.few }
      by (i ∷ j ∷ is) more = absurd more.1
  tree_moved (suc h) cells ids ps all tree =
      by (λ front moved. tree_moved h tree.front front (take (2 ^ h) ps) moved tree.first)
      (λ back moved. tree_moved h tree.back back (drop (2 ^ h) ps) moved tree.behind)
      ids (subst (λ l. Moved old now l ids) tree.is all)
    where
      by : ((front : List ℕ) → Moved old now tree.front front → IsSumTree T now h front (take (2 ^ h) ps))
          → ((back : List ℕ) → Moved old now tree.back back → IsSumTree T now h back (drop (2 ^ h) ps))
          → (is : List ℕ) → Moved old now (tree.root ∷ (tree.front ++ tree.back)) is → IsSumTree T now (suc h) is ps
      by first behind [] none = absurd none
      by first behind (i ∷ is) some =
          let halves = parted (λ root id. slice_get now id ≡ slice_get old root) tree.front tree.back is some.1 in
          record {
            root = i;
            front = halves.front;
            back = halves.back;
            is = ap (λ l. i ∷ l) halves.is;
            total = unites_moved ps tree.root i some.0 tree.total;
            first = first halves.front halves.first;
            behind = behind halves.back halves.behind;
          }

-- the cells of a sum are ids of its store
pub cells_within : (T : Topology) (ts : Trees) (h : ℕ) (cells : List ℕ) (ps : List PolicyTree) → IsSumTree T ts h cells ps → All (λ id. id < length ts) cells
cells_within T ts zero cells ps tree =
    subst (λ l. All (λ id. id < length ts) l) (sym tree.is)
    (All-cons (λ id. id < length ts) tree.root [] (has_within (IsUnionOfParts T ps) ts tree.root tree.total) (All-nil (λ id. id < length ts)))
cells_within T ts (suc h) cells ps tree =
    subst (λ l. All (λ id. id < length ts) l) (sym tree.is)
    (All-cons (λ id. id < length ts) tree.root (tree.front ++ tree.back) (has_within (IsUnionOfParts T ps) ts tree.root tree.total)
    (All-append (λ id. id < length ts) tree.front tree.back
    (cells_within T ts h tree.front (take (2 ^ h) ps) tree.first) (cells_within T ts h tree.back (drop (2 ^ h) ps) tree.behind)))

-- A part put into a slot.

module _ (T : Topology) (ts mid : Trees) (keeps : Keeps ts mid) (cells : List ℕ) (slot node : ℕ) (ps : List PolicyTree) (p : PolicyTree)
    (put : IsPuttable T ts cells slot node ps p) where
  pub put_sum : IsSumTree T mid 10 cells ps
  put_sum = tree_still T ts mid keeps 10 cells ps put.sum

  pub put_change : IsChange T mid (2 ^ 10) ps slot node (p ∷ [])
  put_change = record {
    gives = has_still (IsUnionOfParts T (p ∷ [])) ts mid node keeps put.gives;
    replaces = record {
      few = omega arith;
      within = put.within;
      room = put.room;
      last = λ none. absurd (let no = ap (λ l. length l) none in omega (arith, no));
    };
    fits = put.fits;
  }

-- A part taken out.

module _ {X : Type 0} (xs : List X) (slot last : ℕ) (all : length xs ≡ suc last) where
  pub last_is : length xs - 1 ≡ last
  last_is = omega (arith, all)

  pub one_last : length (drop last xs) ≡ 1
  one_last = let rest = length-drop last xs in omega (arith, rest, all)

  -- without the last
  pub without_last : replaced last [] xs ≡ take last xs
  without_last = ap (λ l. take last xs ++ l) (drop_all (suc last) xs (omega (arith, all))) ∙ append-nil (take last xs)

  -- the last is taken out
  pub removed_last : slot ≡ last → replaced last [] xs ≡ removed slot xs
  removed_last same =
      without_last ∙ sym (ap (λ n. take n (replaced slot (drop n xs) xs)) last_is ∙ (ap (λ i. take last (replaced i (drop last xs) xs)) same
      ∙ ap (λ l. take last (take last xs ++ l)) (ap (λ l. drop last xs ++ l) (drop_all (suc last) xs (omega (arith, all))) ∙ append-nil (drop last xs))
      ∙ ap (λ l. take last l) (take-append-drop last xs)))

  -- the last is put in place of one before it
  pub removed_before : slot < last → replaced slot (drop last xs) (replaced last [] xs) ≡ removed slot xs
  removed_before before =
      ap (λ l. replaced slot (drop last xs) l) without_last
      ∙ (sym (take_before last slot (drop last xs) xs before (omega (arith, one_last)) (omega (arith, all, before))
      (λ none. absurd (let no = ap (λ l. length l) none in omega (arith, no, one_last))))
      ∙ sym (ap (λ n. take n (replaced slot (drop n xs) xs)) last_is))
