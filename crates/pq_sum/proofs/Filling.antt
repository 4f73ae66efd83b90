-- Leaves put into an empty tree.
use Rattle.std.proofs.Common.{ℕ, zero, suc, ◌+◌, ◌*◌, ◌^◌, ◌/◌, ◌-◌, ◌<◌, ◌≤◌, ◌≡◌, ◌∙◌, List, [], ◌∷◌, ◌++◌, take, drop, length, get_or}
use Rattle.std.proofs.Common.{min, replicate, refl, sym, ap, subst, arith}
use Rattle.std.specs.List.{AllZip}
use Rattle.std.proofs.lemmas.List.{drop_min, length-drop, length-take, replicate-append-replicate, take_min}
use Rattle.pq_fields.specs.Writes.{Written}
use Rattle.pq_model.specs.Topology.{Topology}
use Rattle.pq_policy.specs.Policy.{PolicyTree}
use Rattle.pq_store.specs.Store.{Keeps}
use Rattle.pq_store.specs.Tree.{Tree}
use Rattle.pq_rewrite.proofs.Standing.{has_still}
use Rattle.pq_meaning.specs.Parts.{FitAsParts, IsUnionOfParts}
use Rattle.pq_sum.specs.Sum.{AreHalves, AreParts, GivesNone, IsFilled, IsSumTree, MayFill, MayJoin, UnitesParts}
use Rattle.pq_sum.proofs.Changing.{roots_may_join, tree_of}
use Rattle.pq_sum.proofs.Replaced.{drop_none, take_none}
use Rattle.pq_sum.proofs.Trees.{cells_of, double, halves_of, root_of, some_cell, some_slots, tree_still}
use Rattle.pq_sum.proofs.Unions.{halves_fit, none_unites}

abbrev Trees : Type 0
Trees = List (Tree (List Written))

-- Pairs in halves.

module _ {A B : Type 0} (R : A → B → Type 0) where
  zip_take : (n : ℕ) (xs : List A) (ys : List B) → AllZip R xs ys → AllZip R (take n xs) (take n ys)
  zip_take zero xs ys all = tt
  zip_take (suc n) [] [] all = tt
  zip_take (suc n) (x ∷ xs) [] all = absurd all
  zip_take (suc n) [] (y ∷ ys) all = absurd all
  zip_take (suc n) (x ∷ xs) (y ∷ ys) all = (all.0, zip_take n xs ys all.1)

  zip_drop : (n : ℕ) (xs : List A) (ys : List B) → AllZip R xs ys → AllZip R (drop n xs) (drop n ys)
  zip_drop zero xs ys all = all
  zip_drop (suc n) [] [] all = tt
  zip_drop (suc n) (x ∷ xs) [] all = absurd all
  zip_drop (suc n) [] (y ∷ ys) all = absurd all
  zip_drop (suc n) (x ∷ xs) (y ∷ ys) all = zip_drop n xs ys all.1

  zip_none : (xs : List A) (ys : List B) → length ys ≡ 0 → AllZip R xs ys → xs ≡ []
  zip_none [] ys none all = refl
  zip_none (x ∷ xs) [] none all = absurd all
  zip_none (x ∷ xs) (y ∷ ys) none all = absurd (omega (arith, none))

-- parts stay where their diagrams do
pub parts_still : (T : Topology) (old now : Trees) → Keeps old now → (ps : List PolicyTree) (ids : List ℕ) → AreParts T old ps ids → AreParts T now ps ids
parts_still T old now keeps [] [] all = tt
parts_still T old now keeps (p ∷ ps) [] all = absurd all
parts_still T old now keeps [] (i ∷ ids) all = absurd all
parts_still T old now keeps (p ∷ ps) (i ∷ ids) all = (has_still (IsUnionOfParts T (p ∷ [])) old now i keeps all.0, parts_still T old now keeps ps ids all.1)

-- an empty tree is that of no parts
pub filled_none : (T : Topology) (ts : Trees) (h : ℕ) (cells nodes : List ℕ) (ps : List PolicyTree) → length nodes ≡ 0
    → IsSumTree T ts h cells [] → AreParts T ts ps nodes → IsSumTree T ts h cells ps
filled_none T ts h cells nodes ps none empty each =
    subst (IsSumTree T ts h cells) (sym (zip_none (λ p id. UnitesParts T ts (p ∷ []) id) ps nodes none each)) empty

-- a tree of one slot is that of one part
pub filled_slot : (T : Topology) (ts : Trees) (h : ℕ) (cells new_cells nodes : List ℕ) (ps : List PolicyTree) (x : ℕ)
    → length cells ≡ 1 → 1 ≤ length nodes → x ≡ get_or nodes 0 x → new_cells ≡ x ∷ [] → IsSumTree T ts h cells [] → AreParts T ts ps nodes → length ps ≤ 2 ^ h
    → IsSumTree T ts h new_cells ps
filled_slot T ts zero cells new_cells nodes ps x one some at is empty each few = by ps nodes some at each few
  where
    by : (qs : List PolicyTree) (ns : List ℕ) → 1 ≤ length ns → x ≡ get_or ns 0 x → AreParts T ts qs ns → length qs ≤ 2 ^ zero
        → IsSumTree T ts zero new_cells qs
    by qs [] long first all short = absurd (omega arith)
    by [] (n ∷ ns) long first all short = absurd all
    by (q ∷ []) (n ∷ ns) long first all short = record { root = x; is = is; total = subst (UnitesParts T ts (q ∷ [])) (sym first) all.0; few = omega arith }
    by (q ∷ r ∷ qs) (n ∷ ns) long first all short = absurd (omega arith)
filled_slot T ts (suc h) cells new_cells nodes ps x one some at is empty each few =
    let all = cells_of T ts (suc h) cells [] empty in
    let twice = double h in
    let more = some_slots h in
    absurd (omega (arith, all, twice, more, one))

-- what is put into both halves of an empty tree
pub record AreToFill (T : Topology) (ts : Trees) (h : ℕ) (front back first behind : List ℕ) (ps : List PolicyTree) : Type 0 where
  pub empty_front : IsSumTree T ts h front []
  pub empty_back : IsSumTree T ts h back []
  pub each_first : AreParts T ts (take (2 ^ h) ps) first
  pub each_behind : AreParts T ts (drop (2 ^ h) ps) behind
  pub few_first : length (take (2 ^ h) ps) ≤ 2 ^ h
  pub few_behind : length (drop (2 ^ h) ps) ≤ 2 ^ h
  pub fits : FitAsParts T (take (2 ^ h) ps) × FitAsParts T (drop (2 ^ h) ps)

pub to_fill : (T : Topology) (ts : Trees) (h : ℕ) (cells front back nodes first behind : List ℕ) (ps : List PolicyTree) (n : ℕ)
    → front ≡ take (length (drop 1 cells) / 2) (drop 1 cells) → back ≡ drop (length (drop 1 cells) / 2) (drop 1 cells)
    → n ≡ min (length nodes) (length front / 2 + 1) → first ≡ take n nodes → behind ≡ drop n nodes
    → IsSumTree T ts (suc h) cells [] → AreParts T ts ps nodes → length ps ≤ 2 ^ suc h → FitAsParts T ps → AreToFill T ts h front back first behind ps
to_fill T ts h cells front back nodes first behind ps n is_front is_back cut is_first is_behind tree each few fits =
    let halves = halves_of T ts h cells [] tree front back is_front is_back in
    let in_front : IsSumTree T ts h front [] = subst (IsSumTree T ts h front) (take_none (2 ^ h)) halves.first in
    let in_back : IsSumTree T ts h back [] = subst (IsSumTree T ts h back) (drop_none (2 ^ h)) halves.behind in
    let all = cells_of T ts h front [] in_front in
    let some = some_slots h in
    let at : n ≡ min (2 ^ h) (length nodes) = omega (arith, cut, all, some) in
    let front_is : first ≡ take (2 ^ h) nodes = is_first ∙ (ap (λ m. take m nodes) at ∙ take_min (2 ^ h) nodes) in
    let back_is : behind ≡ drop (2 ^ h) nodes = is_behind ∙ (ap (λ m. drop m nodes) at ∙ drop_min (2 ^ h) nodes) in
    let short = length-take (2 ^ h) ps in
    let rest = length-drop (2 ^ h) ps in
    let twice = double h in
    record {
      empty_front = in_front;
      empty_back = in_back;
      each_first = subst (AreParts T ts (take (2 ^ h) ps)) (sym front_is) (zip_take (λ p id. UnitesParts T ts (p ∷ []) id) (2 ^ h) ps nodes each);
      each_behind = subst (AreParts T ts (drop (2 ^ h) ps)) (sym back_is) (zip_drop (λ p id. UnitesParts T ts (p ∷ []) id) (2 ^ h) ps nodes each);
      few_first = omega (arith, short);
      few_behind = omega (arith, rest, twice, few);
      fits = halves_fit T (2 ^ h) ps fits;
    }

-- Both halves of what may be filled.

pub record MayFillHalves (ts : Trees) (front back first behind : List ℕ) : Type 0 where
  pub topology : Topology
  pub height : ℕ
  pub parts : List PolicyTree
  pub fill : AreToFill topology ts height front back first behind parts
  pub fits : FitAsParts topology parts

pub may_fill_halves : (ts : Trees) (cells front back nodes first behind : List ℕ) (n : ℕ) → (length cells ≡ 1 → ⊥)
    → front ≡ take (length (drop 1 cells) / 2) (drop 1 cells) → back ≡ drop (length (drop 1 cells) / 2) (drop 1 cells)
    → n ≡ min (length nodes) (length front / 2 + 1) → first ≡ take n nodes → behind ≡ drop n nodes
    → MayFill ts cells nodes → MayFillHalves ts front back first behind
may_fill_halves ts cells front back nodes first behind n more is_front is_back cut is_first is_behind may = by may.height may.empty may.few
  where
    by : (h : ℕ) → IsSumTree may.topology ts h cells [] → length may.parts ≤ 2 ^ h → MayFillHalves ts front back first behind
    by zero tree few = absurd (more (ap (λ l. length l) tree.is))
    by (suc h) tree few = record {
      topology = may.topology;
      height = h;
      parts = may.parts;
      fill = to_fill may.topology ts h cells front back nodes first behind may.parts n is_front is_back cut is_first is_behind tree may.each few may.fits;
      fits = may.fits;
    }

module _ (old mid : Trees) (front back first behind : List ℕ) (may : MayFillHalves old front back first behind) where
  -- the first half may be filled
  pub may_fill_first : MayFill old front first
  may_fill_first = record {
    topology = may.topology;
    height = may.height;
    parts = take (2 ^ may.height) may.parts;
    empty = may.fill.empty_front;
    each = may.fill.each_first;
    few = may.fill.few_first;
    fits = may.fill.fits.0;
  }

  -- and the second after it
  pub may_fill_second : Keeps old mid → MayFill mid back behind
  may_fill_second keeps = record {
    topology = may.topology;
    height = may.height;
    parts = drop (2 ^ may.height) may.parts;
    empty = tree_still may.topology old mid keeps may.height back [] may.fill.empty_back;
    each = parts_still may.topology old mid keeps (drop (2 ^ may.height) may.parts) behind may.fill.each_behind;
    few = may.fill.few_behind;
    fits = may.fill.fits.1;
  }

-- both are filled
both_filled : (T : Topology) (old mid now : Trees) (h : ℕ) (front back first behind new_front new_back : List ℕ) (ps : List PolicyTree)
    → Keeps old mid → Keeps mid now → IsFilled old front first mid new_front → IsFilled mid back behind now new_back
    → AreToFill T old h front back first behind ps → AreHalves T now h new_front new_back ps
both_filled T old mid now h front back first behind new_front new_back ps keeps_old keeps_mid fills_first fills_second fill = record {
  first = tree_still T mid now keeps_mid h new_front (take (2 ^ h) ps)
      (fills_first T h (take (2 ^ h) ps) fill.empty_front fill.each_first fill.few_first fill.fits.0);
  behind = fills_second T h (drop (2 ^ h) ps) (tree_still T old mid keeps_old h back [] fill.empty_back)
      (parts_still T old mid keeps_old (drop (2 ^ h) ps) behind fill.each_behind) fill.few_behind fill.fits.1;
}

module _ (old mid now : Trees) (front back first behind new_front new_back : List ℕ) (keeps_old : Keeps old mid) (keeps_mid : Keeps mid now)
    (fills_first : IsFilled old front first mid new_front) (fills_second : IsFilled mid back behind now new_back) where
  -- so their roots may come together
  pub filled_may_join : MayFillHalves old front back first behind → (x y : ℕ) → x ≡ get_or new_front 0 x → y ≡ get_or new_back 0 y → MayJoin now x y
  filled_may_join may x y at_x at_y =
      roots_may_join may.topology now may.height new_front new_back may.parts x y at_x at_y
      (both_filled may.topology old mid now may.height front back first behind new_front new_back may.parts keeps_old keeps_mid fills_first
      fills_second may.fill) may.fits

  pub filled_front : MayFillHalves old front back first behind → 0 < length new_front
  filled_front may =
      let both = both_filled may.topology old mid now may.height front back first behind new_front new_back may.parts keeps_old keeps_mid
      fills_first fills_second may.fill in
      let some = some_cell may.topology now may.height new_front (take (2 ^ may.height) may.parts) both.first in
      omega (arith, some)

  -- and with their union they are a tree
  pub whole_filled : (last : Trees) (cells nodes new_cells : List ℕ) (n x y root : ℕ) → (length cells ≡ 1 → ⊥)
      → front ≡ take (length (drop 1 cells) / 2) (drop 1 cells) → back ≡ drop (length (drop 1 cells) / 2) (drop 1 cells)
      → n ≡ min (length nodes) (length front / 2 + 1) → first ≡ take n nodes → behind ≡ drop n nodes
      → x ≡ get_or new_front 0 x → y ≡ get_or new_back 0 y → Keeps now last
      → ((T : Topology) (ps qs : List PolicyTree) → UnitesParts T now ps x → UnitesParts T now qs y → UnitesParts T last (ps ++ qs) root)
      → new_cells ≡ root ∷ (new_front ++ new_back) → IsFilled old cells nodes last new_cells
  whole_filled last cells nodes new_cells n x y root more is_front is_back cut is_first is_behind at_x at_y keeps joined is T zero ps empty each few fits =
      absurd (more (ap (λ l. length l) empty.is))
  whole_filled last cells nodes new_cells n x y root more is_front is_back cut is_first is_behind at_x at_y keeps joined is T (suc h) ps empty each few fits =
      let fill = to_fill T old h cells front back nodes first behind ps n is_front is_back cut is_first is_behind empty each few fits in
      let both = both_filled T old mid now h front back first behind new_front new_back ps keeps_old keeps_mid fills_first fills_second fill in
      tree_of T now last h new_front new_back new_cells ps root keeps both
      (joined T (take (2 ^ h) ps) (drop (2 ^ h) ps) (root_of T now h new_front (take (2 ^ h) ps) x at_x both.first)
      (root_of T now h new_back (drop (2 ^ h) ps) y at_y both.behind)) is

-- Cells that all give nothing are an empty tree.
pub none_filled : (T : Topology) (ts : Trees) (none : ℕ) → GivesNone ts none → (h n : ℕ) → n + 1 ≡ 2 * 2 ^ h → IsSumTree T ts h (replicate n none) []
none_filled T ts none is zero n many = record {
  root = none;
  is = let one : n ≡ 1 = omega (arith, many) in ap (λ k. replicate k none) one;
  total = none_unites T ts none is;
  few = omega arith;
}
none_filled T ts none is (suc h) n many =
    let half = 2 * 2 ^ h - 1 in
    let some = some_slots h in
    let twice = double h in
    let cells : n ≡ suc (half + half) = omega (arith, many, some, twice) in
    let below = none_filled T ts none is h half (omega (arith, some)) in
    record {
      root = none;
      front = replicate half none;
      back = replicate half none;
      is = ap (λ k. replicate k none) cells ∙ ap (λ l. none ∷ l) (sym (replicate-append-replicate half half none));
      total = none_unites T ts none is;
      first = subst (IsSumTree T ts h (replicate half none)) (sym (take_none (2 ^ h))) below;
      behind = subst (IsSumTree T ts h (replicate half none)) (sym (drop_none (2 ^ h))) below;
    }
