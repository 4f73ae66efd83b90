-- Trees that are in trees, and under the roots of a store.
use Rattle.std.proofs.Common.{ℕ, inl, inr, ◌≡◌, ◌∙◌, List, Some, refl, sym, ap, subst}
use Rattle.std.specs.Prelude.{slice_get}
use Rattle.std.specs.Option.{option_map}
use Rattle.std.proofs.lemmas.Option.{slice_get_within}
use Rattle.pq_store.specs.declared.test.Test.{Test}
use Rattle.pq_store.specs.Tree.{Tree, IsPartOf, value}
use Rattle.pq_store.specs.Tree.Tree.{Tip, Fork}
use Rattle.pq_store.specs.Diagram.{IsDiagram}
use Rattle.pq_store.specs.Store.{IsCanonical, IsJoinable}
use Rattle.pq_store.specs.Compaction.{StandsUnder}

module _ {L : Type 0} where
  -- each tree is in itself
  pub part_of_itself : (t : Tree L) → IsPartOf t t
  part_of_itself (Tip l) = refl
  part_of_itself (Fork s y n) = inl refl

  -- with a fork its yes side is in a tree
  part_yes : (s : Test) (y n u : Tree L) → IsPartOf (Fork s y n) u → IsPartOf y u
  part_yes s y n (Tip l) part = cc
  part_yes s y n (Fork r a b) (inl e) = inr (inl (let same : a ≡ y = cc in subst (λ (t : Tree L). IsPartOf t a) same (part_of_itself a)))
  part_yes s y n (Fork r a b) (inr (inl part)) = inr (inl (part_yes s y n a part))
  part_yes s y n (Fork r a b) (inr (inr part)) = inr (inr (part_yes s y n b part))

  -- and its no side
  part_no : (s : Test) (y n u : Tree L) → IsPartOf (Fork s y n) u → IsPartOf n u
  part_no s y n (Tip l) part = cc
  part_no s y n (Fork r a b) (inl e) = inr (inr (let same : b ≡ n = cc in subst (λ (t : Tree L). IsPartOf t b) same (part_of_itself b)))
  part_no s y n (Fork r a b) (inr (inl part)) = inr (inl (part_no s y n a part))
  part_no s y n (Fork r a b) (inr (inr part)) = inr (inr (part_no s y n b part))

  -- what is under a root still does with a tree that is wherever it is
  under_part : (ts : List (Tree L)) (roots : List ℕ) (t u : Tree L) → ((whole : Tree L) → IsPartOf u whole → IsPartOf t whole)
      → StandsUnder ts roots u → StandsUnder ts roots t
  under_part ts roots t u wherever under =
      (under.0, under.1, under.2, under.3, (under.4.0, under.4.1, wherever under.4.0 under.4.2))

  -- with a fork its yes side is under a root
  pub under_yes : (ts : List (Tree L)) (roots : List ℕ) (s : Test) (y n : Tree L) → StandsUnder ts roots (Fork s y n) → StandsUnder ts roots y
  under_yes ts roots s y n = under_part ts roots y (Fork s y n) (part_yes s y n)

  -- and its no side
  pub under_no : (ts : List (Tree L)) (roots : List ℕ) (s : Test) (y n : Tree L) → StandsUnder ts roots (Fork s y n) → StandsUnder ts roots n
  under_no ts roots s y n = under_part ts roots n (Fork s y n) (part_no s y n)

  -- a tree has one place
  pub one_place : (ts : List (Tree L)) → IsCanonical ts → (i j : ℕ) (t : Tree L) → slice_get ts i ≡ Some t → slice_get ts j ≡ Some t → i ≡ j
  one_place ts canonical i j t at_i at_j =
      canonical i j (slice_get_within ts i t at_i) (slice_get_within ts j t at_j)
      (λ x fit. ap (option_map (λ (u : Tree L). value u x)) (at_i ∙ sym at_j))

  -- the sides of a diagram may be joined by its test
  pub joinable_sides : (s : Test) (y n : Tree L) → IsDiagram (Fork s y n) → IsJoinable s y n
  joinable_sides s y n diagram = record {
    lawful = diagram.lawful.0;
    before_yes = diagram.ascends.0;
    before_no = diagram.ascends.1;
    once = diagram.asks_once.0;
    fits = diagram.fits;
  }
