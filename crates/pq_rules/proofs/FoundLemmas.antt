-- Entries are found path after path, and tree after tree.
use Rattle.std.proofs.Common.{◌≡◌, ℕ, ◌+◌, ◌<◌, List, [], ◌∷◌, ◌++◌, Some, length, get_or, drop, refl, sym, ap, subst, ◌∙◌}
use Rattle.std.specs.Prelude.{All, slice_get}
use Rattle.std.specs.List.{AllZip}
use Rattle.std.proofs.lemmas.List.{append-nil, append_assoc, drop_more}
use Rattle.std.proofs.lemmas.Option.{same_Some}
use Rattle.pq_model.specs.MatchFields.{MatchFields}
use Rattle.pq_store.specs.declared.test.Test.{Test}
use Rattle.pq_store.specs.Tree.{Tree}
use Rattle.pq_store.specs.Tree.Tree.{Tip, Fork}
use Rattle.pq_store.specs.Store.{ShowsBranch}
use Rattle.pq_layout.specs.Entries.{failing, matches_below, passing, vlan_match}
use Rattle.pq_rules.specs.Found.{AreFound, Finds, IsFound, IsRoot, matches_of, trees_with, with_word}
use Rattle.pq_rules.specs.Paths.{StaysLawful}

-- lists that are such place by place are so together
pub zip_both : {A B : Type 0} (R : A → B → Type 0) (xs : List A) (ys : List A) (us vs : List B) → AllZip R xs us → AllZip R ys vs
    → AllZip R (xs ++ ys) (us ++ vs)
zip_both R [] ys [] vs first second = second
zip_both R [] ys (u ∷ us) vs first second = absurd first
zip_both R (x ∷ xs) ys [] vs first second = absurd first
zip_both R (x ∷ xs) ys (u ∷ us) vs first second = (first.0, zip_both R xs ys us vs first.1 second)

module _ {L : Type 0} (ts : List (Tree L)) where
  -- a leaf is one entry
  pub leaf_found : (k : ℕ) (l : L) (m : MatchFields) (old : List (MatchFields × ℕ)) → slice_get ts k ≡ Some (Tip l) → (t : Tree L)
      → slice_get ts k ≡ Some t → Finds ts
      (matches_below m t) old (old ++ (m, k) ∷ [])
  leaf_found k l m old at t is = subst (λ u. Finds ts (matches_below m u) old (old ++ (m, k) ∷ [])) (same_Some (Tip l) t (sym at ∙ is))
      ((m, k) ∷ [], refl, ((refl, at), tt))

  -- one list is found after another
  pub found_both : (ms ns : List (MatchFields × L)) (old mid new : List (MatchFields × ℕ)) → Finds ts ms old mid → Finds ts ns mid new
      → Finds ts (ms ++ ns) old new
  found_both ms ns old mid new first second = (
    first.0 ++ second.0,
    second.1 ∙ ap (λ l. l ++ second.0) first.1 ∙ append_assoc old first.0 second.0,
    zip_both (IsFound ts) ms ns first.0 second.0 first.2 second.2,
  )

  -- the sides of a test, yes side first
  pub sides_found : (k i j : ℕ) (s : Test) (m : MatchFields) (old mid new : List (MatchFields × ℕ)) → ShowsBranch ts k s i j
      → ((t : Tree L) → slice_get ts i ≡ Some t → Finds ts (matches_below (passing s m) t) old mid)
      → ((t : Tree L) → slice_get ts j ≡ Some t → Finds ts (matches_below (failing s m) t) mid new)
      → (t : Tree L) → slice_get ts k ≡ Some t → Finds ts (matches_below m t) old new
  sides_found k i j s m old mid new shows first second t is =
      subst (λ u. Finds ts (matches_below m u) old new) (same_Some (Fork s shows.yes_tree shows.no_tree) t (sym shows.is ∙ is))
      (found_both (matches_below (passing s m) shows.yes_tree) (matches_below (failing s m) shows.no_tree) old mid new
      (first shows.yes_tree shows.yes_is) (second shows.no_tree shows.no_is))

  -- the sides of a test stay lawful below their matches
  pub sides_stay : (k i j : ℕ) (s : Test) (m : MatchFields) → ShowsBranch ts k s i j
      → ((t : Tree L) → slice_get ts k ≡ Some t → StaysLawful m t) → (y n : Tree L)
      → slice_get ts i ≡ Some y → slice_get ts j ≡ Some n → StaysLawful m (Fork s y n)
  sides_stay k i j s m shows stays y n at_yes at_no =
      let left : shows.yes_tree ≡ y = same_Some shows.yes_tree y (sym shows.yes_is ∙ at_yes) in
      let right : shows.no_tree ≡ n = same_Some shows.no_tree n (sym shows.no_is ∙ at_no) in
      subst (λ u. StaysLawful m (Fork s y u)) right
      (subst (λ u. StaysLawful m (Fork s u shows.no_tree)) left (stays (Fork s shows.yes_tree shows.no_tree) shows.is))

  -- what is found after nothing is all
  pub found_alone : (ms : List (MatchFields × L)) (old new : List (MatchFields × ℕ)) → old ≡ [] → Finds ts ms old new → AreFound ts ms new
  found_alone ms old new none found = subst (AreFound ts ms) (sym (found.1 ∙ ap (λ l. l ++ found.0) none)) found.2

  -- what is left of the trees completes what is found
  pub Completes : List (ℕ × ℕ) → List (ℕ × ℕ) → List (MatchFields × ℕ) → Type 0
  Completes roots left found = (more : List (MatchFields × ℕ)) → AreFound ts (matches_of (trees_with ts left)) more
      → AreFound ts (matches_of (trees_with ts roots)) (found ++ more)

  pub none_completes : (roots : List (ℕ × ℕ)) → Completes roots (drop 0 roots) []
  unfolding Completes
  none_completes roots more found = found

  pub one_completes : (roots : List (ℕ × ℕ)) (i : ℕ) (root : ℕ × ℕ) (old new : List (MatchFields × ℕ)) → i < length roots → root ≡ get_or roots i root
      → (tree : Tree L) → slice_get ts root.1 ≡ Some tree → Finds ts (matches_below (vlan_match root.0) tree) old new
      → Completes roots (drop i roots) old → Completes roots (drop (i + 1) roots) new
  unfolding Completes
  one_completes roots i root old new within is tree at found completes more later =
      let next : drop i roots ≡ root ∷ drop (i + 1) roots = drop_more roots i root within ∙ ap (λ r. r ∷ drop (i + 1) roots) (sym is) in
      let one : trees_with ts (root ∷ drop (i + 1) roots) ≡ (root.0, tree) ∷ trees_with ts (drop (i + 1) roots) =
      ap (λ o. with_word root.0 o ++ trees_with ts (drop (i + 1) roots)) at in
      let both : AreFound ts (matches_of (trees_with ts (root ∷ drop (i + 1) roots))) (found.0 ++ more) =
      subst (λ us. AreFound ts (matches_of us) (found.0 ++ more)) (sym one)
      (zip_both (IsFound ts) (matches_below (vlan_match root.0) tree) (matches_of (trees_with ts (drop (i + 1) roots))) found.0 more found.2 later) in
      let whole = completes (found.0 ++ more) (subst (λ rs. AreFound ts (matches_of (trees_with ts rs)) (found.0 ++ more)) (sym next) both) in
      subst (λ es. AreFound ts (matches_of (trees_with ts roots)) es) (sym (append_assoc old found.0 more) ∙ ap (λ l. l ++ more) (sym found.1)) whole

  pub all_complete : (roots : List (ℕ × ℕ)) (i : ℕ) (found : List (MatchFields × ℕ)) → drop i roots ≡ []
      → Completes roots (drop i roots) found → AreFound ts (matches_of (trees_with ts roots)) found
  unfolding Completes
  all_complete roots i found last completes =
      subst (λ es. AreFound ts (matches_of (trees_with ts roots)) es) (append-nil found)
      (completes [] (subst (λ rs. AreFound ts (matches_of (trees_with ts rs)) []) (sym last) tt))

  -- what is found below a place and a match completes what is found below an earlier place and match
  pub CompletesBelow : (first at : ℕ) (m below : MatchFields) (old found : List (MatchFields × ℕ)) → Type 0
  CompletesBelow first at m below old found =
      (new : List (MatchFields × ℕ)) → ((t : Tree L) → slice_get ts at ≡ Some t → Finds ts (matches_below below t) found new) → (t : Tree L)
      → slice_get ts first ≡ Some t → Finds ts (matches_below m t) old new

  pub none_below : (at : ℕ) (m : MatchFields) (old : List (MatchFields × ℕ)) → CompletesBelow at at m m old old
  unfolding CompletesBelow
  none_below at m old new found = found

  -- after a yes side the no side is left
  pub one_below : (first at i j : ℕ) (s : Test) (m below : MatchFields) (old found mid : List (MatchFields × ℕ)) → ShowsBranch ts at s i j
      → ((t : Tree L) → slice_get ts i ≡ Some t → Finds ts (matches_below (passing s below) t) found mid)
      → CompletesBelow first at m below old found → CompletesBelow first j m (failing s below) old mid
  unfolding CompletesBelow
  one_below first at i j s m below old found mid shows passed completes new failed =
      completes new (sides_found at i j s below found mid new shows passed failed)

  -- at a leaf all is found
  pub all_below : (first at : ℕ) (l : L) (m below : MatchFields) (old found : List (MatchFields × ℕ)) → slice_get ts at ≡ Some (Tip l)
      → CompletesBelow first at m below old found
      → (t : Tree L) → slice_get ts first ≡ Some t → Finds ts (matches_below m t) old (found ++ (below, at) ∷ [])
  unfolding CompletesBelow
  all_below first at l m below old found is completes = completes (found ++ (below, at) ∷ []) (leaf_found at l below found is)

  -- a root among roots
  pub root_at : (roots : List (ℕ × ℕ)) (i : ℕ) (root : ℕ × ℕ) → All (IsRoot ts) roots → i < length roots → root ≡ get_or roots i root → IsRoot ts root
  root_at roots i root all within is = subst (IsRoot ts) (sym is) (all i root within)
