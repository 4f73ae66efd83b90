-- A leaf put into a tree, and into one of two halves.
use Rattle.std.proofs.Common.{ℕ, zero, suc, ◌+◌, ◌^◌, ◌/◌, ◌<◌, ◌≤◌, ◌≡◌, List, [], ◌∷◌, ◌++◌, take, drop, length, length-append, get_or}
use Rattle.std.proofs.Common.{inl, inr, refl, sym, ap, subst, arith}
use Rattle.std.specs.Prelude.{◌⊎◌, slice_set}
use Rattle.std.proofs.Math.Nat.{pow-le-pow_right}
use Rattle.std.proofs.lemmas.List.{append-nil, drop_all, length-drop, length-take, take-append-drop}
use Rattle.pq_fields.specs.Writes.{Written}
use Rattle.pq_model.specs.Topology.{Topology}
use Rattle.pq_policy.specs.Policy.{PolicyTree}
use Rattle.pq_store.specs.Store.{Keeps}
use Rattle.pq_store.specs.Tree.{Tree}
use Rattle.pq_meaning.specs.Parts.{FitAsParts}
use Rattle.pq_sum.specs.Sum.{AreChanged, AreCounted, AreHalves, IsChange, IsChanged, IsCounted, IsReplacement, IsSumTree, MayChange}
use Rattle.pq_sum.specs.Sum.{MayChangeHalf, MayJoin, UnitesParts, replaced}
use Rattle.pq_sum.proofs.Replaced.{drop_before, drop_behind, take_before, take_behind}
use Rattle.pq_sum.proofs.Trees.{cells_of, double, halves_of, parts_of, root_of, some_cell, some_slots, tree_still}
use Rattle.pq_sum.proofs.Unions.{halves_fit}

-- The numbers.

abbrev Trees : Type 0
Trees = List (Tree (List Written))

-- more slots for a greater height
wider : (k h : ℕ) → k ≤ h → 2 ^ k ≤ 2 ^ h
wider k h le = pow-le-pow_right {n = 2} (omega arith) {i = k} {j = h} le

at_most : (k h : ℕ) → (k ≤ h) ⊎ (h < k)
at_most zero h = inl (omega arith)
at_most (suc k) zero = inr (omega arith)
at_most (suc k) (suc h) = elim (at_most k h) [ inl le ↦ inl (omega (arith, le)) | inr gt ↦ inr (omega (arith, gt)) ]

module _ (ps new : List PolicyTree) (slot : ℕ) where
  -- how many parts there are after a change
  replaced_length : length (replaced slot new ps) ≡ length (take slot ps) + (length new + length (drop (suc slot) ps))
  replaced_length =
      let outer = length-append (take slot ps) (new ++ drop (suc slot) ps) in
      let inner = length-append new (drop (suc slot) ps) in
      omega (arith, outer, inner)

  module _ (slots : ℕ) (is : IsReplacement slots ps slot new) where
    -- no more than there are slots
    pub replaced_few : length ps ≤ slots → length (replaced slot new ps) ≤ slots
    replaced_few few =
        let all = replaced_length in
        let front = length-take slot ps in
        let back = length-drop (suc slot) ps in
        let new_few = is.few in
        let within = is.within in
        let room = is.room in
        omega (arith, all, front, back, new_few, within, room, few)

    -- the slot is one of as many as there are parts, before or after it
    pub slot_below : (n : ℕ) → length ps ≤ n → length (replaced slot new ps) ≤ n → slot < n
    slot_below n before after = by new refl
      where
        by : (xs : List PolicyTree) → new ≡ xs → slot < n
        by [] none = let one = is.last none in omega (arith, one, before)
        by (x ∷ xs) some =
            let all = replaced_length in
            let front = length-take slot ps in
            let within = is.within in
            let long = ap (λ l. length l) some in
            omega (arith, all, front, within, long, after)

-- One slot.

-- a tree of one cell has one slot
pub one_cell : (T : Topology) (ts : Trees) (h : ℕ) (cells : List ℕ) (ps : List PolicyTree) → length cells ≡ 1 → IsSumTree T ts h cells ps → h ≡ 0
one_cell T ts zero cells ps one tree = refl
one_cell T ts (suc h) cells ps one tree =
    let all = cells_of T ts (suc h) cells ps tree in
    let twice = double h in
    let some = some_slots h in
    absurd (omega (arith, all, twice, some, one))

-- with the leaf in its slot it is the tree of the new part
pub changed_slot : (T : Topology) (ts : Trees) (cells new_cells : List ℕ) (slot leaf h : ℕ) (ps new : List PolicyTree)
    → length cells ≡ 1 → new_cells ≡ leaf ∷ [] → IsSumTree T ts h cells ps → IsChange T ts (2 ^ h) ps slot leaf new
    → IsSumTree T ts h new_cells (replaced slot new ps)
changed_slot T ts cells new_cells slot leaf zero ps new one is tree change = record {
  root = leaf;
  is = is;
  total = subst (λ qs. UnitesParts T ts qs leaf) (sym (same ps slot (omega (arith, change.replaces.room)) tree.few)) change.gives;
  few = subst (λ qs. length qs ≤ 1) (sym (same ps slot (omega (arith, change.replaces.room)) tree.few)) change.replaces.few;
}
  where
    same : (qs : List PolicyTree) (i : ℕ) → i < 1 → length qs ≤ 1 → replaced i new qs ≡ new
    same [] zero first few = append-nil new
    same (q ∷ []) zero first few = append-nil new
    same (q ∷ r ∷ qs) zero first few = absurd (omega arith)
    same qs (suc i) first few = absurd (omega arith)
changed_slot T ts cells new_cells slot leaf (suc h) ps new one is tree change =
    let none = one_cell T ts (suc h) cells ps one tree in
    absurd (omega (arith, none))

-- where the root of a tree is put
pub root_set : (cells : List ℕ) (root : ℕ) → length cells ≡ 1 → slice_set cells 0 root ≡ root ∷ []
root_set [] root one = absurd (omega (arith, one))
root_set (c ∷ []) root one = refl
root_set (c ∷ d ∷ cells) root one = absurd (omega (arith, one))

-- Both halves.

-- a leaf may be put into one of the halves of a tree into which it may be put
pub half_may_change : (ts : Trees) (cells front back : List ℕ) (slot leaf : ℕ) → (length cells ≡ 1 → ⊥)
    → front ≡ take (length (drop 1 cells) / 2) (drop 1 cells) → back ≡ drop (length (drop 1 cells) / 2) (drop 1 cells)
    → MayChange ts cells slot leaf → MayChangeHalf ts front back slot leaf
half_may_change ts cells front back slot leaf more is_front is_back may = by may.height may.tree may.change
  where
    by : (h : ℕ) → IsSumTree may.topology ts h cells may.parts → IsChange may.topology ts (2 ^ h) may.parts slot leaf may.new
        → MayChangeHalf ts front back slot leaf
    by zero tree change = absurd (more (ap (λ l. length l) tree.is))
    by (suc h) tree change = record {
      topology = may.topology;
      height = h;
      parts = may.parts;
      new = may.new;
      halves = halves_of may.topology ts h cells may.parts tree front back is_front is_back;
      change = change;
    }

-- the roots of halves may come together
pub roots_may_join : (T : Topology) (ts : Trees) (h : ℕ) (front back : List ℕ) (ps : List PolicyTree) (x y : ℕ) → x ≡ get_or front 0 x → y ≡ get_or back 0 y
    → AreHalves T ts h front back ps → FitAsParts T ps → MayJoin ts x y
roots_may_join T ts h front back ps x y at_x at_y halves fits = record {
  topology = T;
  first = take (2 ^ h) ps;
  behind = drop (2 ^ h) ps;
  front = root_of T ts h front (take (2 ^ h) ps) x at_x halves.first;
  back = root_of T ts h back (drop (2 ^ h) ps) y at_y halves.behind;
  fits = subst (FitAsParts T) (sym (take-append-drop (2 ^ h) ps)) fits;
}

module _ (old mid : Trees) (front back new_front new_back : List ℕ) (slot leaf : ℕ) (may : MayChangeHalf old front back slot leaf)
    (changed : AreChanged old front back slot leaf mid new_front new_back) where
  both_changed : AreHalves may.topology mid may.height new_front new_back (replaced slot may.new may.parts)
  both_changed = changed may.topology may.height may.parts may.new may.halves may.change

  -- so after a change
  pub changed_may_join : (x y : ℕ) → x ≡ get_or new_front 0 x → y ≡ get_or new_back 0 y → MayJoin mid x y
  changed_may_join x y at_x at_y =
      roots_may_join may.topology mid may.height new_front new_back (replaced slot may.new may.parts) x y at_x at_y both_changed may.change.fits

  -- there is a root of the first half
  pub some_front : 0 < length new_front
  some_front =
      let some = some_cell may.topology mid may.height new_front (take (2 ^ may.height) (replaced slot may.new may.parts)) both_changed.first in
      omega (arith, some)

-- halves and the union of their roots are a tree
pub tree_of : (T : Topology) (old now : Trees) (h : ℕ) (front back cells : List ℕ) (ps : List PolicyTree) (root : ℕ)
    → Keeps old now → AreHalves T old h front back ps → UnitesParts T now (take (2 ^ h) ps ++ drop (2 ^ h) ps) root → cells ≡ root ∷ (front ++ back)
    → IsSumTree T now (suc h) cells ps
tree_of T old now h front back cells ps root keeps halves total is = record {
  root = root;
  front = front;
  back = back;
  is = is;
  total = subst (λ qs. UnitesParts T now qs root) (take-append-drop (2 ^ h) ps) total;
  first = tree_still T old now keeps h front (take (2 ^ h) ps) halves.first;
  behind = tree_still T old now keeps h back (drop (2 ^ h) ps) halves.behind;
}

-- The change of one half.

module _ (T : Topology) (ts : Trees) (h : ℕ) (front back : List ℕ) (ps new : List PolicyTree) (slot leaf : ℕ)
    (halves : AreHalves T ts h front back ps) (change : IsChange T ts (2 ^ suc h) ps slot leaf new) where
  -- how many slots the first half has
  pub half_slots : length front / 2 + 1 ≡ 2 ^ h
  half_slots =
      let all = cells_of T ts h front (take (2 ^ h) ps) halves.first in
      let some = some_slots h in
      omega (arith, all, some)

  module _ (before : slot < 2 ^ h) where
    first_is : take (2 ^ h) (replaced slot new ps) ≡ replaced slot new (take (2 ^ h) ps)
    first_is = take_before (2 ^ h) slot new ps before change.replaces.few change.replaces.within change.replaces.last

    behind_stays : drop (2 ^ h) (replaced slot new ps) ≡ drop (2 ^ h) ps
    behind_stays = drop_before (2 ^ h) slot new ps before change.replaces.few change.replaces.within change.replaces.last

    -- it is a change of the first half
    pub first_change : IsChange T ts (2 ^ h) (take (2 ^ h) ps) slot leaf new
    first_change = record {
      gives = change.gives;
      replaces = record {
        few = change.replaces.few;
        within = let all = length-take (2 ^ h) ps in let within = change.replaces.within in omega (arith, all, within, before);
        room = before;
        last = λ none. let all = length-take (2 ^ h) ps in let last = change.replaces.last none in omega (arith, all, last, before);
      };
      fits = subst (FitAsParts T) first_is (halves_fit T (2 ^ h) (replaced slot new ps) change.fits).0;
    }

    pub first_may_change : MayChange ts front slot leaf
    first_may_change = record { topology = T; height = h; parts = take (2 ^ h) ps; new = new; tree = halves.first; change = first_change }

    pub first_changed : (now : Trees) (new_front : List ℕ) → Keeps ts now → IsChanged ts front slot leaf now new_front
        → AreHalves T now h new_front back (replaced slot new ps)
    first_changed now new_front keeps changed = record {
      first = subst (IsSumTree T now h new_front) (sym first_is) (changed T h (take (2 ^ h) ps) new halves.first first_change);
      behind = subst (IsSumTree T now h back) (sym behind_stays) (tree_still T ts now keeps h back (drop (2 ^ h) ps) halves.behind);
    }

    pub first_counted : (old_steps new_steps : ℕ) → IsCounted ts front slot leaf old_steps new_steps
        → (new_steps ≤ old_steps + h) × ((k : ℕ) → k ≤ h → length ps ≤ 2 ^ k → length (replaced slot new ps) ≤ 2 ^ k → new_steps ≤ old_steps + k)
    first_counted old_steps new_steps counted = (
      counted T h (take (2 ^ h) ps) new halves.first first_change h few (replaced_few (take (2 ^ h) ps) new slot (2 ^ h) first_change.replaces few),
      λ k le few_before few_after. counted T h (take (2 ^ h) ps) new halves.first first_change k
          (let all = length-take (2 ^ h) ps in omega (arith, all, few_before))
          (let all = length-take (2 ^ h) (replaced slot new ps) in let same = ap (λ l. length l) first_is in omega (arith, all, same, few_after)),
    )
      where
        few : length (take (2 ^ h) ps) ≤ 2 ^ h
        few = let all = length-take (2 ^ h) ps in omega (arith, all)

  module _ (d : ℕ) (at : slot ≡ 2 ^ h + d) where
    first_stays : take (2 ^ h) (replaced slot new ps) ≡ take (2 ^ h) ps
    first_stays = take_behind (2 ^ h) slot new ps (omega (arith, at)) change.replaces.within

    behind_is : drop (2 ^ h) (replaced slot new ps) ≡ replaced d new (drop (2 ^ h) ps)
    behind_is = drop_behind (2 ^ h) slot d new ps at change.replaces.within

    -- it is a change of the second half
    pub second_change : IsChange T ts (2 ^ h) (drop (2 ^ h) ps) d leaf new
    second_change = record {
      gives = change.gives;
      replaces = record {
        few = change.replaces.few;
        within = let all = length-drop (2 ^ h) ps in let within = change.replaces.within in omega (arith, all, within, at);
        room = let twice = double h in let room = change.replaces.room in omega (arith, twice, room, at);
        last = λ none. let all = length-drop (2 ^ h) ps in let last = change.replaces.last none in omega (arith, all, last, at);
      };
      fits = subst (FitAsParts T) behind_is (halves_fit T (2 ^ h) (replaced slot new ps) change.fits).1;
    }

    pub second_may_change : MayChange ts back d leaf
    second_may_change = record { topology = T; height = h; parts = drop (2 ^ h) ps; new = new; tree = halves.behind; change = second_change }

    pub second_changed : (now : Trees) (new_back : List ℕ) → Keeps ts now → IsChanged ts back d leaf now new_back
        → AreHalves T now h front new_back (replaced slot new ps)
    second_changed now new_back keeps changed = record {
      first = subst (IsSumTree T now h front) (sym first_stays) (tree_still T ts now keeps h front (take (2 ^ h) ps) halves.first);
      behind = subst (IsSumTree T now h new_back) (sym behind_is) (changed T h (drop (2 ^ h) ps) new halves.behind second_change);
    }

    pub second_counted : (old_steps new_steps : ℕ) → IsCounted ts back d leaf old_steps new_steps
        → (new_steps ≤ old_steps + h) × ((k : ℕ) → k ≤ h → length ps ≤ 2 ^ k → length (replaced slot new ps) ≤ 2 ^ k → new_steps ≤ old_steps + k)
    second_counted old_steps new_steps counted = (
      counted T h (drop (2 ^ h) ps) new halves.behind second_change h few (replaced_few (drop (2 ^ h) ps) new d (2 ^ h) second_change.replaces few),
      λ k le few_before few_after.
          let below = slot_below ps new slot (2 ^ suc h) change.replaces (2 ^ k) few_before few_after in
          let wide = wider k h le in
          absurd (omega (arith, below, wide, at)),
    )
      where
        few : length (drop (2 ^ h) ps) ≤ 2 ^ h
        few = parts_of T ts h back (drop (2 ^ h) ps) halves.behind

-- The whole tree.

module _ (T : Topology) (old mid now : Trees) (cells front back new_front new_back : List ℕ) (slot leaf : ℕ)
    (is_front : front ≡ take (length (drop 1 cells) / 2) (drop 1 cells)) (is_back : back ≡ drop (length (drop 1 cells) / 2) (drop 1 cells))
    (more : length cells ≡ 1 → ⊥) where
  -- it is changed where its halves are and their roots come together
  pub whole_changed : (new_cells : List ℕ) (root x y : ℕ) → x ≡ get_or new_front 0 x → y ≡ get_or new_back 0 y → Keeps mid now
      → AreChanged old front back slot leaf mid new_front new_back
      → ((ps qs : List PolicyTree) → UnitesParts T mid ps x → UnitesParts T mid qs y → UnitesParts T now (ps ++ qs) root)
      → new_cells ≡ root ∷ (new_front ++ new_back)
      → (h : ℕ) (ps new : List PolicyTree) → IsSumTree T old h cells ps → IsChange T old (2 ^ h) ps slot leaf new
      → IsSumTree T now h new_cells (replaced slot new ps)
  whole_changed new_cells root x y at_x at_y keeps changed joined is zero ps new tree change = absurd (more (ap (λ l. length l) tree.is))
  whole_changed new_cells root x y at_x at_y keeps changed joined is (suc h) ps new tree change =
      let halves = halves_of T old h cells ps tree front back is_front is_back in
      let both = changed T h ps new halves change in
      let r = replaced slot new ps in
      tree_of T mid now h new_front new_back new_cells r root keeps both
      (joined (take (2 ^ h) r) (drop (2 ^ h) r) (root_of T mid h new_front (take (2 ^ h) r) x at_x both.first)
      (root_of T mid h new_back (drop (2 ^ h) r) y at_y both.behind)) is

  module _ (before between after : ℕ) (counted : AreCounted old front back slot leaf before between) where
    -- it takes the steps of its halves
    pub halves_counted : (h : ℕ) (ps new : List PolicyTree) → IsSumTree T old h cells ps → IsChange T old (2 ^ h) ps slot leaf new
        → (k : ℕ) → length ps ≤ 2 ^ k → length (replaced slot new ps) ≤ 2 ^ k → between ≤ before + k
    halves_counted zero ps new tree change k few_before few_after = absurd (more (ap (λ l. length l) tree.is))
    halves_counted (suc h) ps new tree change k few_before few_after =
        let steps = counted T h ps new (halves_of T old h cells ps tree front back is_front is_back) change in
        elim (at_most k h) [ inl le ↦ steps.1 k le few_before few_after | inr gt ↦ let most = steps.0 in omega (arith, most, gt) ]

    -- and one more, but for none where nothing is in the second half
    pub whole_counted : (y : ℕ) → y ≡ get_or new_back 0 y → AreChanged old front back slot leaf mid new_front new_back → after ≤ between + 1
        → (UnitesParts T mid [] y → after ≡ between)
        → (h : ℕ) (ps new : List PolicyTree) → IsSumTree T old h cells ps → IsChange T old (2 ^ h) ps slot leaf new
        → (k : ℕ) → length ps ≤ 2 ^ k → length (replaced slot new ps) ≤ 2 ^ k → after ≤ before + k
    whole_counted y at_y changed step none zero ps new tree change k few_before few_after = absurd (more (ap (λ l. length l) tree.is))
    whole_counted y at_y changed step none (suc h) ps new tree change k few_before few_after =
        let halves = halves_of T old h cells ps tree front back is_front is_back in
        let steps = counted T h ps new halves change in
        let r = replaced slot new ps in
        elim (at_most k h) [
          | inl le ↦
              let wide = wider k h le in
              let empty : drop (2 ^ h) r ≡ [] = drop_all (2 ^ h) r (omega (arith, wide, few_after)) in
              let still = none (subst (λ qs. UnitesParts T mid qs y) empty
              (root_of T mid h new_back (drop (2 ^ h) r) y at_y (changed T h ps new halves change).behind)) in
              let most = steps.1 k le few_before few_after in
              omega (arith, still, most)
          | inr gt ↦ let most = steps.0 in omega (arith, most, gt, step)
        ]
