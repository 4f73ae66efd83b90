-- Documents with something put into a place, or taken out of one.
use Rattle.std.proofs.Common.{ℕ, suc, ◌<◌, ◌≤◌, ◌≡◌, ◌∙◌, List, [], ◌∷◌, length, map, refl, sym, ap, arith}
use Rattle.std.specs.Prelude.{Bool, true, false, bytes_eq, if◌then◌else◌, ◌||◌}
use Rattle.std.specs.List.{list_any}
use Rattle.std.specs.Cmp.Lexicographic.{nat_list_eq_equiv}
use Rattle.std.proofs.lemmas.List.{length-map}
use Rattle.pq_sum.specs.Sum.{replaced}
use Rattle.pq_compile.specs.declared.document.Document.{Document}
use Rattle.pq_compile.specs.Documents.{document_tree, named_query_tree, part_tree}
use Rattle.pq_compile.specs.Lawful.{names_in}
use Rattle.pq_compile.specs.Names.{Named}
use Rattle.pq_edit.specs.Edits.{IsNamedIn, put, without}
use Rattle.pq_engine.specs.Places.{place_in}
use Rattle.pq_engine.proofs.PlacesLemmas.{map_replaced, place_within}

module _ {A : Type 0} where
  -- what is put comes into the place of its name
  pub put_is : (p : Named A) (ns : List (Named A)) → put p ns ≡ replaced (place_in p.0 (names_in ns)) (p ∷ []) ns
  put_is p [] = refl
  put_is p (n ∷ ns) = by (bytes_eq n.0 p.0) (put_is p ns)
    where
      by : (b : Bool) → put p ns ≡ replaced (place_in p.0 (names_in ns)) (p ∷ []) ns
          → (if b then p ∷ ns else n ∷ put p ns) ≡ replaced (if b then 0 else suc (place_in p.0 (names_in ns))) (p ∷ []) (n ∷ ns)
      by true more = refl
      by false more = ap (λ l. n ∷ l) more

  -- and what is removed out of it
  pub without_is : (name : List ℕ) (ns : List (Named A)) → without name ns ≡ replaced (place_in name (names_in ns)) [] ns
  without_is name [] = refl
  without_is name (n ∷ ns) = by (bytes_eq n.0 name) (without_is name ns)
    where
      by : (b : Bool) → without name ns ≡ replaced (place_in name (names_in ns)) [] ns
          → (if b then ns else n ∷ without name ns) ≡ replaced (if b then 0 else suc (place_in name (names_in ns))) [] (n ∷ ns)
      by true more = refl
      by false more = ap (λ l. n ∷ l) more

  -- the place of what is there is one of the list
  pub named_within : (name : List ℕ) (ns : List (Named A)) → IsNamedIn name ns → place_in name (names_in ns) < length ns
  named_within name [] there = absurd cc
  named_within name (n ∷ ns) there = by (bytes_eq n.0 name) refl there (named_within name ns)
    where
      by : (b : Bool) → bytes_eq n.0 name ≡ b → (bytes_eq name n.0 || list_any (bytes_eq name) (names_in ns)) ≡ true
          → (IsNamedIn name ns → place_in name (names_in ns) < length ns) → (if b then 0 else suc (place_in name (names_in ns))) < length (n ∷ ns)
      by true is there more = omega arith
      by false is there more =
          let turned : bytes_eq name n.0 ≡ false = nat_list_eq_equiv.symm name n.0 ∙ is in
          let rest : list_any (bytes_eq name) (names_in ns) ≡ true = ap (λ b. b || list_any (bytes_eq name) (names_in ns)) (sym turned) ∙ there in
          let less = more rest in
          omega (arith, less)

-- Named things of the program, which are such plain data.

module _ {A B : Type 0} (f : A → B) where
  abbrev pub plain : List ℕ × A → Named B
  plain n = (n.0, f n.1)

  names_plain : (xs : List (List ℕ × A)) → map (λ n. n.0) xs ≡ names_in (map plain xs)
  names_plain [] = refl
  names_plain (x ∷ xs) = ap (λ ns. x.0 ∷ ns) (names_plain xs)

  module _ (name : List ℕ) (place : ℕ) (xs : List (List ℕ × A)) (is : place ≡ place_in name (map (λ n. n.0) xs)) where
    pub plain_place : place ≡ place_in name (names_in (map plain xs))
    plain_place = is ∙ ap (place_in name) (names_plain xs)

    pub place_long : place ≤ length xs
    place_long =
        let within = place_within name (map (λ n. n.0) xs) in
        let long : length (map (λ (n : List ℕ × A). n.0) xs) ≡ length xs = length-map xs (λ (n : List ℕ × A). n.0) in
        omega (arith, within, long, is)

    -- with one put into the place
    pub plain_put : (x : A) (ys : List (List ℕ × A)) → ys ≡ replaced place ((name, x) ∷ []) xs → map plain ys ≡ put (name, f x) (map plain xs)
    plain_put x ys now =
        let new : Named B = (name, f x) in
        ap (map plain) now ∙ map_replaced plain place ((name, x) ∷ []) xs ∙ ap (λ i. replaced i (new ∷ []) (map plain xs)) plain_place
        ∙ sym (put_is new (map plain xs))

    -- with one taken out of it
    pub plain_without : (ys : List (List ℕ × A)) → ys ≡ replaced place [] xs → map plain ys ≡ without name (map plain xs)
    plain_without ys now =
        ap (map plain) now ∙ map_replaced plain place [] xs ∙ ap (λ i. replaced i [] (map plain xs)) plain_place ∙ sym (without_is name (map plain xs))

    -- the place is one of the list where the name is there
    pub plain_within : IsNamedIn name (map plain xs) → place < length xs
    plain_within there =
        let within = named_within name (map plain xs) there in
        let long = length-map xs plain in
        omega (arith, within, long, plain_place)

-- a document as plain data is told by its parts and its queries
pub same_document : (d e : Document) → e.topology ≡ d.topology → e.parts.items ≡ d.parts.items → e.queries.items ≡ d.queries.items
    → document_tree e ≡ document_tree d
same_document d e topology parts queries = cc (topology, ap (map part_tree) parts, ap (map named_query_tree) queries)
