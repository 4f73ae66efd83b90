-- Trees that are one blank leaf are left out.
use Rattle.std.proofs.Common.{◌≡◌, ℕ, ◌+◌, ◌<◌, Bool, true, false, if◌then◌else◌, List, [], ◌∷◌, ◌++◌, Some, length, get_or, drop, map, sym, ap, subst, ◌∙◌}
use Rattle.std.specs.Prelude.{All, slice_get}
use Rattle.std.proofs.lemmas.List.{append-nil, append_assoc, drop_more}
use Rattle.std.proofs.lemmas.List.Elements.{All-push}
use Rattle.std.proofs.lemmas.Grind.{flat_map-append}
use Rattle.pq_store.specs.Tree.{Tree}
use Rattle.pq_layout.specs.Entries.{entries_of, is_blank, matches_below, table_of, vlan_match}
use Rattle.pq_layout.specs.Sound.{IsMatchable}
use Rattle.pq_rules.specs.Found.{IsKeyWord, IsRoot, matches_of, trees_with, with_word}
use Rattle.pq_rules.specs.Tables.{Gathers, IsBlankAt}

-- what holds of all holds of the one that is met
pub element : {A : Type 0} (P : A → Type 0) (xs : List A) (i : ℕ) (x : A) → All P xs → i < length xs → x ≡ get_or xs i x → P x
element P xs i x all within is = subst P (sym is) (all i x within)

module _ {L : Type 0} (blank : L → Bool) (ts : List (Tree L)) where
  -- one tree
  one_with : (w k : ℕ) (t : Tree L) (ps : List (ℕ × ℕ)) → slice_get ts k ≡ Some t → trees_with ts ((w, k) ∷ ps) ≡ (w, t) ∷ trees_with ts ps
  one_with w k t ps at = ap (λ o. with_word w o ++ trees_with ts ps) at

  -- a root more
  root_more : (roots : List (ℕ × ℕ)) (w k : ℕ) (t : Tree L) → slice_get ts k ≡ Some t
      → matches_of (trees_with ts (roots ++ (w, k) ∷ [])) ≡ matches_of (trees_with ts roots) ++ matches_below
      (vlan_match w) t
  root_more roots w k t at =
      ap matches_of (flat_map-append (λ p. with_word p.0 (slice_get ts p.1)) roots ((w, k) ∷ []) ∙ ap (λ l. trees_with ts roots ++ l) (one_with w k t [] at))
      ∙ flat_map-append (λ p. matches_below (vlan_match p.0) p.1) (trees_with ts roots) ((w, t) ∷ [])
      ∙ ap (λ l. matches_of (trees_with ts roots) ++ l) (append-nil (matches_below (vlan_match w) t))

  -- the entries of a tree go to the roots, where it has some
  pub gather_more : (ids roots left : List (ℕ × ℕ)) (w k : ℕ) (t : Tree L) (b : Bool) → slice_get ts k ≡ Some t → IsBlankAt blank ts k b
      → Gathers blank ts ids roots ((w, k) ∷ left)
      → Gathers blank ts ids (if b then roots else roots ++ (w, k) ∷ []) left
  gather_more ids roots left w k t b at told gathers =
      by b (told t at) (ap (λ us. matches_of (trees_with ts roots) ++ table_of blank us) (sym (one_with w k t left at)) ∙ gathers)
    where
      by : (b : Bool) → b ≡ is_blank blank t
          → matches_of (trees_with ts roots) ++ (entries_of blank (w, t) ++ table_of blank (trees_with ts left))
          ≡ table_of blank (trees_with ts ids)
          → Gathers blank ts ids (if b then roots else roots ++ (w, k) ∷ []) left
      by true is whole = ap
          (λ c. matches_of (trees_with ts roots)
          ++ ((if c then [] else matches_below (vlan_match w) t) ++ table_of blank (trees_with ts left))) is ∙ whole
      by false is whole =
          ap (λ l. l ++ table_of blank (trees_with ts left)) (root_more roots w k t at)
          ∙ append_assoc (matches_of (trees_with ts roots)) (matches_below (vlan_match w) t)
          (table_of blank (trees_with ts left))
          ∙ ap (λ c. matches_of (trees_with ts roots) ++ ((if c then [] else matches_below (vlan_match w) t) ++ table_of blank (trees_with ts left))) is ∙ whole

  -- where none is left, the roots have all
  pub gather_all : (ids roots left : List (ℕ × ℕ)) → left ≡ [] → Gathers blank ts ids roots left
      → matches_of (trees_with ts roots) ≡ table_of blank (trees_with ts ids)
  gather_all ids roots left none gathers = sym (append-nil (matches_of (trees_with ts roots)))
      ∙ ap (λ l. matches_of (trees_with ts roots) ++ table_of blank (trees_with ts l)) (sym none) ∙ gathers

  -- the roots are lawful with one more
  pub roots_more : (roots : List (ℕ × ℕ)) (w k : ℕ) (b : Bool) → All (IsRoot ts) roots → IsRoot ts (w, k)
      → All (IsRoot ts) (if b then roots else roots ++ (w, k) ∷ [])
  roots_more roots w k true all one = all
  roots_more roots w k false all one = All-push (IsRoot ts) roots (w, k) all one

-- the first of what is left, with another sight of it
pub map_drop : {A B : Type 0} (f : A → B) (xs : List A) (i : ℕ) (x : A) → i < length xs → x ≡ get_or xs i x → map f (drop i xs) ≡ f x ∷ map f (drop (i + 1) xs)
map_drop f xs i x within is = ap (map f) (drop_more xs i x within ∙ ap (λ y. y ∷ drop (i + 1) xs) (sym is))

module _ {L : Type 0} (blank : L → Bool) (ts : List (Tree L)) where
  -- one more root, or none
  pub root_pushed : {A : Type 0} (f : A → ℕ × ℕ) (xs : List A) (i : ℕ) (x : A) (old new : List (ℕ × ℕ)) (t : Tree L) (b : Bool)
      → i < length xs → x ≡ get_or xs i x
      → slice_get ts (f x).1 ≡ Some t → IsKeyWord (f x).0 → IsMatchable t → IsBlankAt blank ts (f x).1 b → new ≡ (if b then old else old ++ f x ∷ [])
      → All (IsRoot ts) old × Gathers blank ts (map f xs) old (map f (drop i xs))
      → All (IsRoot ts) new × Gathers blank ts (map f xs) new (map f (drop (i + 1) xs))
  root_pushed f xs i x old new t b within is at word matchable told pushed before = (
    subst (All (IsRoot ts)) (sym pushed) (roots_more blank ts old (f x).0 (f x).1 b before.0 (word, (t, at, matchable))),
    subst (λ rs. Gathers blank ts (map f xs) rs (map f (drop (i + 1) xs))) (sym pushed)
        (gather_more blank ts (map f xs) old (map f (drop (i + 1) xs)) (f x).0 (f x).1 t b at told
        (subst (Gathers blank ts (map f xs) old) (map_drop f xs i x within is) before.1)),
  )

-- where nothing is left, what was made is the whole
pub made_all : {A B : Type 0} (F : List A → List B) (made whole : List B) (left : List A) → F [] ≡ [] → left ≡ [] → made ++ F left ≡ whole → made ≡ whole
made_all F made whole left empty none rest = sym (append-nil made) ∙ ap (λ l. made ++ l) (sym empty ∙ ap F (sym none)) ∙ rest
