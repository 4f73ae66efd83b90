-- Which places are kept: those of the roots and of what is under them.
use Rattle.std.proofs.Common.{ℕ, ◌⊎◌, inl, inr, ◌+◌, ◌≤◌, ◌<◌, ◌≡◌, ◌∙◌, Bool, true, false, List, [], ◌++◌, length, get_or, take, drop, set}
use Rattle.std.proofs.Common.{Some, sym, ap, arith, subst, length-set, get_or-set_same, get_or-set_other}
use Rattle.std.specs.Prelude.{slice_get, All}
use Rattle.std.specs.List.{Contains}
use Rattle.std.proofs.lemmas.Bool.{cases_lt}
use Rattle.std.proofs.lemmas.Bool.Decides.{eqb_tells}
use Rattle.std.proofs.lemmas.List.{get_or_past, append-nil, drop_all, take_all}
use Rattle.std.proofs.lemmas.List.Elements.{All-weaker, All-more}
use Rattle.std.proofs.lemmas.Option.{slice_get_within}
use Rattle.pq_store.specs.declared.test.Test.{Test}
use Rattle.pq_store.specs.Tree.{Tree}
use Rattle.pq_store.specs.Tree.Tree.{Fork}
use Rattle.pq_store.specs.Store.{IsCanonical, ShowsBranch}
use Rattle.pq_store.specs.Compaction.{StandsUnder}
use Rattle.pq_store.specs.Moves.{IsMarked, Marks}
use Rattle.pq_store.proofs.Parts.{part_of_itself, under_yes, under_no, one_place}

-- a marked place is in the list
pub marked_within : (kept : List Bool) (k : ℕ) → IsMarked kept k → k < length kept
marked_within kept k marked = elim (cases_lt k (length kept)) [ inl h ↦ h | inr h ↦ cc (get_or_past kept k false h) ]

-- a place is marked by its mark
mark_here : (kept : List Bool) (i : ℕ) → i < length kept → IsMarked (set kept i true) i
mark_here kept i h = get_or-set_same kept i true false h

-- a further mark leaves the marks
mark_keeps : (kept : List Bool) (i : ℕ) → i < length kept → (k : ℕ) → IsMarked kept k → IsMarked (set kept i true) k
mark_keeps kept i h k marked =
    elim (eqb_tells k i) [ inl e ↦ rw e.1 (mark_here kept i h) | inr e ↦ get_or-set_other kept i k true false e.1 ∙ marked ]

-- it marks one place
mark_only : (kept : List Bool) (i k : ℕ) → IsMarked (set kept i true) k → (k ≡ i) ⊎ IsMarked kept k
mark_only kept i k marked =
    elim (eqb_tells k i) [ inl e ↦ inl e.1 | inr e ↦ inr (sym (get_or-set_other kept i k true false e.1) ∙ marked) ]

-- the first of the roots are marked, and nothing that is not a root
pub record MarksRoots (roots : List ℕ) (i : ℕ) (kept : List Bool) : Type 0 where
  pub ends : All (IsMarked kept) (take i roots)
  pub only : (k : ℕ) → IsMarked kept k → Contains roots k

-- one more root is marked
pub marks_root : (roots : List ℕ) (i root : ℕ) (kept : List Bool) → i < length roots → root ≡ get_or roots i root → root < length kept
    → MarksRoots roots i kept → MarksRoots roots (i + 1) (set kept root true)
marks_root roots i root kept here is within marks = record {
  ends =
      All-more (IsMarked (set kept root true)) roots i root here
      (All-weaker (IsMarked kept) (IsMarked (set kept root true)) (mark_keeps kept root within) (take i roots) marks.ends)
      (rw (sym is) (mark_here kept root within));
  only = λ k marked. by k (mark_only kept root k marked);
}
  where
    by : (k : ℕ) → (k ≡ root) ⊎ IsMarked kept k → Contains roots k
    by k (inl e) = rw e (i, here, sym is)
    by k (inr marked) = marks.only k marked

-- a slice that was written is the whole list again
pub written_back : (n : ℕ) (xs ys : List Bool) → length xs ≡ n → length ys ≡ n → take n (xs ++ drop (length xs) ys) ≡ xs
written_back n xs ys long whole =
    let none : drop (length xs) ys ≡ [] = drop_all (length xs) ys (omega arith) in
    rw (none, append-nil xs) (take_all n xs (omega arith))

module _ {L : Type 0} where
  -- the roots are marked, and no branch yet seen
  pub marks_roots : (ts : List (Tree L)) (roots : List ℕ) (kept : List Bool) → length kept ≡ length ts
      → MarksRoots roots (length roots) kept → Marks ts roots (length ts) kept
  marks_roots ts roots kept each marks = record {
    each = each;
    ends = subst (All (IsMarked kept)) (take_all (length roots) roots (omega arith)) marks.ends;
    sides = λ k h marked. absurd (let within : k < length kept = marked_within kept k marked in omega arith);
    under = λ k t marked at.
        let found : Contains roots k = marks.only k marked in
        (found.0, k, found.1, found.2, (t, at, part_of_itself t));
  }

  -- a place that is unmarked or shows no branch has no sides to mark
  pub marks_past : (ts : List (Tree L)) (roots : List ℕ) (place : ℕ) (kept : List Bool)
      → (IsMarked kept place → (test : Test) (i j : ℕ) → ShowsBranch ts place test i j → ⊥) → Marks ts roots (place + 1) kept
      → Marks ts roots place kept
  marks_past ts roots place kept none marks = record {
    each = marks.each;
    ends = marks.ends;
    sides = λ k h marked test i j shows. elim (eqb_tells k place) [
      | inl e ↦ absurd (none (subst (IsMarked kept) e.1 marked) test i j (subst (λ (m : ℕ). ShowsBranch ts m test i j) e.1 shows))
      | inr e ↦ let later : place + 1 ≤ k = omega (arith, e.1) in marks.sides k later marked test i j shows
    ];
    under = marks.under;
  }

  -- the sides of a marked branch are marked
  pub marks_branch : (ts : List (Tree L)) → IsCanonical ts → (roots : List ℕ) (place : ℕ) (kept : List Bool) (test : Test) (i j : ℕ)
      → ShowsBranch ts place test i j → IsMarked kept place → Marks ts roots (place + 1) kept
      → Marks ts roots place (set (set kept i true) j true)
  marks_branch ts canonical roots place kept test i j shows marked marks = record {
    each = length-set (set kept i true) j true ∙ length-set kept i true ∙ marks.each;
    ends = All-weaker (IsMarked kept) (IsMarked both) keeps roots marks.ends;
    sides = λ k h is. sides k h (only k is);
    under = λ k t is. under k t (only k is);
  }
    where
      both : List Bool
      both = set (set kept i true) j true

      yes_in : i < length kept
      yes_in = let h : i < length ts = slice_get_within ts i shows.yes_tree shows.yes_is in omega (arith, marks.each)

      no_in : j < length (set kept i true)
      no_in = let h : j < length ts = slice_get_within ts j shows.no_tree shows.no_is in omega (arith, marks.each, length-set kept i true)

      keeps : (k : ℕ) → IsMarked kept k → IsMarked both k
      keeps k is = mark_keeps (set kept i true) j no_in k (mark_keeps kept i yes_in k is)

      only : (k : ℕ) → IsMarked both k → (k ≡ j) ⊎ ((k ≡ i) ⊎ IsMarked kept k)
      only k is = elim (mark_only (set kept i true) j k is) [ inl e ↦ inl e | inr was ↦ inr (mark_only kept i k was) ]

      of_place : (s : Test) (a b : ℕ) → ShowsBranch ts place s a b → IsMarked both a × IsMarked both b
      of_place s a b again =
          let yes_same : again.yes_tree ≡ shows.yes_tree = cc (again.is, shows.is) in
          let no_same : again.no_tree ≡ shows.no_tree = cc (again.is, shows.is) in
          let a_is : i ≡ a = one_place ts canonical i a shows.yes_tree shows.yes_is (again.yes_is ∙ ap Some yes_same) in
          let b_is : j ≡ b = one_place ts canonical j b shows.no_tree shows.no_is (again.no_is ∙ ap Some no_same) in (
            subst (IsMarked both) a_is (mark_keeps (set kept i true) j no_in i (mark_here kept i yes_in)),
            subst (IsMarked both) b_is (mark_here (set kept i true) j no_in),
          )

      sides : (k : ℕ) → place ≤ k → (k ≡ j) ⊎ ((k ≡ i) ⊎ IsMarked kept k) → (s : Test) (a b : ℕ) → ShowsBranch ts k s a b → IsMarked both a × IsMarked both b
      sides k h (inl e) s a b shown = absurd (omega (arith, shows.no_below))
      sides k h (inr (inl e)) s a b shown = absurd (omega (arith, shows.yes_below))
      sides k h (inr (inr was)) s a b shown = elim (eqb_tells k place) [
        | inl e ↦ of_place s a b (subst (λ (m : ℕ). ShowsBranch ts m s a b) e.1 shown)
        | inr e ↦
            let later : place + 1 ≤ k = omega (arith, e.1) in
            let old : IsMarked kept a × IsMarked kept b = marks.sides k later was s a b shown in
            (keeps a old.0, keeps b old.1)
      ]

      whole : StandsUnder ts roots (Fork test shows.yes_tree shows.no_tree)
      whole = marks.under place (Fork test shows.yes_tree shows.no_tree) marked shows.is

      under : (k : ℕ) (t : Tree L) → (k ≡ j) ⊎ ((k ≡ i) ⊎ IsMarked kept k) → slice_get ts k ≡ Some t → StandsUnder ts roots t
      under k t (inl e) at =
          let same : t ≡ shows.no_tree = cc (at, shows.no_is, e) in
          rw same (under_no ts roots test shows.yes_tree shows.no_tree whole)
      under k t (inr (inl e)) at =
          let same : t ≡ shows.yes_tree = cc (at, shows.yes_is, e) in
          rw same (under_yes ts roots test shows.yes_tree shows.no_tree whole)
      under k t (inr (inr was)) at = marks.under k t was at
