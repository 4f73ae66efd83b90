-- Counts of entries.
use Rattle.std.proofs.Common.{◌≡◌, ℕ, ◌+◌, ◌<◌, List, [], ◌∷◌, ◌++◌, Some, length, get_or, drop, refl, sym, ap, subst, ◌∙◌, arith}
use Rattle.std.specs.Prelude.{slice_get}
use Rattle.std.proofs.lemmas.List.{drop_more, length-append}
use Rattle.pq_model.specs.MatchFields.{MatchFields}
use Rattle.pq_store.specs.declared.test.Test.{Test}
use Rattle.pq_store.specs.Tree.{Tree}
use Rattle.pq_store.specs.Tree.Tree.{Tip, Fork}
use Rattle.pq_store.specs.Store.{ShowsBranch}
use Rattle.pq_layout.specs.Entries.{failing, matches_below, passing, vlan_match}
use Rattle.pq_rules.specs.Counts.{AreWithin, CountsAt, capped, path_count}
use Rattle.pq_rules.specs.Found.{matches_of, trees_with, with_word}

-- a capped sum
capped_sum : (a b : ℕ) → capped (capped a + capped b) ≡ capped (a + b)
capped_sum a b = omega arith

capped_left : (a b : ℕ) → capped (capped a + b) ≡ capped (a + b)
capped_left a b = omega arith

-- a capped sum is within the cap
pub capped_sum_within : (a b n : ℕ) → n ≡ capped (a + b) → n ≡ capped n
capped_sum_within a b n is = omega (arith, is)

module _ {L : Type 0} where
  -- each path to a leaf is one entry
  pub count_paths : (t : Tree L) (m : MatchFields) → length (matches_below m t) ≡ path_count t
  count_paths (Tip l) m = refl
  count_paths (Fork s y n) m =
      length-append (matches_below (passing s m) y) (matches_below (failing s m) n) ∙ (λ i. count_paths y (passing s m) i + count_paths n (failing s m) i)

  pub leaf_counts : (ts : List (Tree L)) (k : ℕ) (l : L) → slice_get ts k ≡ Some (Tip l) → CountsAt ts k 1
  leaf_counts ts k l at = (Tip l, at, refl)

  pub sides_count : (ts : List (Tree L)) (k i j : ℕ) (s : Test) (a b n : ℕ) → ShowsBranch ts k s i j → CountsAt ts i a → CountsAt ts j b
      → n ≡ capped (a + b) → CountsAt ts k n
  sides_count ts k i j s a b n shows first second is =
      let y = shows.yes_tree in
      let z = shows.no_tree in
      let left : first.0 ≡ y = (let e = first.1 in let f = shows.yes_is in cc) in
      let right : second.0 ≡ z = (let e = second.1 in let f = shows.no_is in cc) in (
        Fork s y z,
        shows.is,
        is ∙ (λ p. capped (first.2 p + second.2 p)) ∙ (λ p. capped (capped (path_count (left p)) + capped (path_count (right p))))
            ∙ capped_sum (path_count y) (path_count z),
      )

  -- one tree more is counted
  pub count_more : (ts : List (Tree L)) (roots : List (ℕ × ℕ)) (i : ℕ) (root : ℕ × ℕ) (old more new : ℕ) → i < length roots
      → root ≡ get_or roots i root → CountsAt ts root.1 more
      → new ≡ capped (old + more)
      → capped (old + length (matches_of (trees_with ts (drop i roots)))) ≡ capped (length (matches_of (trees_with ts roots)))
      → capped (new + length (matches_of (trees_with ts (drop (i + 1) roots)))) ≡ capped (length (matches_of (trees_with ts roots)))
  count_more ts roots i root old more new within at counts sum before =
      let t = counts.0 in
      let rest = matches_of (trees_with ts (drop (i + 1) roots)) in
      let next : drop i roots ≡ root ∷ drop (i + 1) roots = drop_more roots i root within ∙ ap (λ r. r ∷ drop (i + 1) roots) (sym at) in
      let one : trees_with ts (root ∷ drop (i + 1) roots) ≡ (root.0, t) ∷ trees_with ts (drop (i + 1) roots) =
      ap (λ o. with_word root.0 o ++ trees_with ts (drop (i + 1) roots)) counts.1 in
      let all : length (matches_of (trees_with ts (drop i roots))) ≡ path_count t + length rest =
      ap (λ l. length (matches_of (trees_with ts l))) next ∙ ap (λ us. length (matches_of us)) one
      ∙ length-append (matches_below (vlan_match root.0) t) rest ∙ ap (λ k. k + length rest)
      (count_paths t (vlan_match root.0)) in
      let amount = counts.2 in
      let swap : capped (new + length rest) ≡ capped (old + (path_count t + length rest)) = omega (arith, sum, amount) in
      swap ∙ ap (λ k. capped (old + k)) (sym all) ∙ before

  -- at the end nothing is left
  pub count_all : (ts : List (Tree L)) (roots left : List (ℕ × ℕ)) (n : ℕ) → left ≡ [] → n ≡ capped n
      → capped (n + length (matches_of (trees_with ts left))) ≡ capped (length (matches_of (trees_with ts roots)))
      → n ≡ capped (length (matches_of (trees_with ts roots)))
  count_all ts roots left n none small whole =
      let none_left : length (matches_of (trees_with ts left)) ≡ 0 = ap (λ l. length (matches_of (trees_with ts l))) none in
      small ∙ omega (arith, none_left) ∙ ap (λ k. capped (n + k)) (sym none_left) ∙ whole

  -- an id among roots
  pub within_at : (ts : List (Tree L)) (roots : List (ℕ × ℕ)) (i : ℕ) (root : ℕ × ℕ) → AreWithin ts roots → i < length roots
      → root ≡ get_or roots i root → root.1 < length ts
  within_at ts roots i root all within at = subst (λ r. r.1 < length ts) (sym at) (all i root within)
