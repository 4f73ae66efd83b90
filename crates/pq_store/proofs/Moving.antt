-- Where kept trees go, and that they are a compaction.
use Rattle.std.proofs.Common.{ℕ, ◌⊎◌, inl, inr, ◌≤◌, ◌<◌, ◌≡◌, ◌∙◌, Bool, List, [], ◌∷◌, ◌++◌, length, get_or, Option, None, Some, sym, ap, subst, arith}
use Rattle.std.specs.Prelude.{slice_get, All}
use Rattle.std.specs.List.{AllZip}
use Rattle.std.proofs.lemmas.Bool.{cases_lt}
use Rattle.std.proofs.lemmas.List.{get_or_past, get_or_append_left, length-append, get_or_default}
use Rattle.std.proofs.Math.Seq.{get_or-append_seam}
use Rattle.std.proofs.lemmas.List.Elements.{All-weaker, AllZip-get_or, length_all_zip}
use Rattle.std.proofs.lemmas.Option.{slice_get_cases}
use Rattle.pq_store.specs.declared.test.Test.{Test}
use Rattle.pq_store.specs.Tree.{Tree}
use Rattle.pq_store.specs.Tree.Tree.{Fork}
use Rattle.pq_store.specs.Diagram.{IsDiagram}
use Rattle.pq_store.specs.Store.{Keeps, AddsOnly, IsJoinable, IsJoin, JoinsAt}
use Rattle.pq_store.specs.Compaction.{StandsUnder, IsCompaction}
use Rattle.pq_store.specs.Moves.{IsMarked, MovesTo, Marks, Moves}
use Rattle.pq_store.proofs.Marking.{marked_within}
use Rattle.pq_store.proofs.Parts.{joinable_sides}

-- a place of which an id is told is in the list
pub moved_within : (moved : List (Option ℕ)) (k id : ℕ) → MovesTo moved k id → k < length moved
moved_within moved k id to = elim (cases_lt k (length moved)) [ inl h ↦ h | inr h ↦ cc (get_or_past moved k None h) ]

-- what is told of a place is told after one more place
moves_kept : (moved : List (Option ℕ)) (r : Option ℕ) (k id : ℕ) → MovesTo moved k id → MovesTo (moved ++ r ∷ []) k id
moves_kept moved r k id to = get_or_append_left moved (r ∷ []) None k (moved_within moved k id to) ∙ to

-- where the next place moves
moves_next : (moved : List (Option ℕ)) (r : Option ℕ) → get_or (moved ++ r ∷ []) (length moved) None ≡ r
moves_next moved r = get_or-append_seam moved r [] None

-- what is told after one more place is of that place, or was told before
moves_cases : (moved : List (Option ℕ)) (r : Option ℕ) (k id : ℕ) → MovesTo (moved ++ r ∷ []) k id → MovesTo moved k id ⊎ ((k ≡ length moved) × (r ≡ Some id))
moves_cases moved r k id to =
    let within : k < length (moved ++ r ∷ []) = moved_within (moved ++ r ∷ []) k id to in
    elim (cases_lt k (length moved)) [
      | inl h ↦ inl (sym (get_or_append_left moved (r ∷ []) None k h) ∙ to)
      | inr h ↦
          let at : k ≡ length moved = omega (arith, length-append moved (r ∷ [])) in
          inr (at, sym (moves_next moved r) ∙ (subst (λ (m : ℕ). MovesTo (moved ++ r ∷ []) m id) at to))
    ]

-- pairs of one relation are pairs of a weaker one
zip_weaker : (P Q : ℕ → ℕ → Type 0) → ((x y : ℕ) → P x y → Q x y) → (xs ys : List ℕ) → AllZip P xs ys → AllZip Q xs ys
zip_weaker P Q h [] [] pairs = pairs
zip_weaker P Q h [] (y ∷ ys) pairs = pairs
zip_weaker P Q h (x ∷ xs) [] pairs = pairs
zip_weaker P Q h (x ∷ xs) (y ∷ ys) pairs = (h x y pairs.0, zip_weaker P Q h xs ys pairs.1)

module _ {L : Type 0} where
  -- a kept place moves to an id that has its tree
  pub moves_one : (ts : List (Tree L)) (kept : List Bool) (moved : List (Option ℕ)) (old new : List (Tree L)) (id : ℕ)
      → IsMarked kept (length moved) → length moved < length ts → slice_get new id ≡ slice_get ts (length moved) → Keeps old new
      → AddsOnly old new id → Moves ts kept moved old → Moves ts kept (moved ++ Some id ∷ []) new
  moves_one ts kept moved old new id marked within is keeps adds moves = record {
    same = λ k to moves_to. same k to (moves_cases moved (Some id) k to moves_to);
    each = λ k h is_kept.
        let out : k ≤ length moved = omega (arith, length-append moved (Some id ∷ [])) in
        elim (cases_lt k (length moved)) [
          | inl before ↦
              let was : (to : ℕ) × MovesTo moved k to = moves.each k before is_kept in
              (was.0, moves_kept moved (Some id) k was.0 was.1)
          | inr past ↦
              let at : k ≡ length moved = omega arith in
              (id, rw at (moves_next moved (Some id)))
        ];
    only = λ to t at. elim (adds to t at) [
      | inl was ↦ moves.only to t was
      | inr e ↦ (length moved, marked, sym is ∙ (subst (λ (m : ℕ). slice_get new m ≡ Some t) e at))
    ];
  }
    where
      same : (k to : ℕ) → MovesTo moved k to ⊎ ((k ≡ length moved) × (Some id ≡ Some to)) → slice_get new to ≡ slice_get ts k
      same k to (inl was) = elim ((slice_get_cases ts k).1) [
        | inl found ↦ keeps to found.0 (moves.same k to was ∙ found.2) ∙ sym found.2
        | inr out ↦ absurd (let h : k < length moved = moved_within moved k to was in omega (arith, out.0))
      ]
      same k to (inr e) = let same_id : id ≡ to = cc (e.1) in rw (e.0, sym same_id) is

  -- the sides of a diagram may be joined where they moved
  pub joinable_moved : (new : List (Tree L)) (test : Test) (i j : ℕ) (y n : Tree L) → IsDiagram (Fork test y n) → slice_get new i ≡ Some y
      → slice_get new j ≡ Some n → (a b : Tree L) → slice_get new i ≡ Some a → slice_get new j ≡ Some b → IsJoinable test a b
  joinable_moved new test i j y n diagram yes_is no_is a b at_i at_j =
      let yes_same : y ≡ a = cc (yes_is, at_i) in
      let no_same : n ≡ b = cc (no_is, at_j) in
      subst (λ (t : Tree L). IsJoinable test t b) yes_same (subst (λ (t : Tree L). IsJoinable test y t) no_same (joinable_sides test y n diagram))

  -- joined again they give the diagram
  pub joined_again : (old new : List (Tree L)) (test : Test) (i j id : ℕ) (y n : Tree L) → IsDiagram (Fork test y n)
      → slice_get old i ≡ Some y → slice_get old j ≡ Some n → JoinsAt old test i j new id → slice_get new id ≡ Some (Fork test y n)
  joined_again old new test i j id y n diagram yes_is no_is joins =
      let found : (joined : Tree L) × (slice_get new id ≡ Some joined) × IsJoin test y n joined = joins y n yes_is no_is in
      elim found.2 [ inl equal ↦ absurd (diagram.reduced.0 equal.0) | inr fork ↦ found.1 ∙ ap Some fork.1 ]

  -- each root has moved
  pub roots_moved : (ts : List (Tree L)) (roots : List ℕ) (kept : List Bool) (moved : List (Option ℕ)) (new : List (Tree L))
      → Marks ts roots 0 kept → Moves ts kept moved new → length moved ≡ length kept → All (λ root. (id : ℕ) × MovesTo moved root id) roots
  roots_moved ts roots kept moved new marks moves whole =
      All-weaker (IsMarked kept) (λ root. (id : ℕ) × MovesTo moved root id)
      (λ root marked. let h : root < length kept = marked_within kept root marked in let within : root < length moved = omega arith in
      moves.each root within marked)
      roots marks.ends

  -- trees of kept places, with the ids of the roots, are a compaction
  pub compaction : (ts : List (Tree L)) (roots : List ℕ) (kept : List Bool) (moved : List (Option ℕ)) (new : List (Tree L)) (ids : List ℕ)
      → Marks ts roots 0 kept → Moves ts kept moved new → AllZip (MovesTo moved) roots ids → IsCompaction ts roots new ids
  compaction ts roots kept moved new ids marks moves zipped = record { same = same; under = λ k t at. under t (moves.only k t at) }
    where
      same : AllZip (λ root id. slice_get new id ≡ slice_get ts root) roots ids
      same = zip_weaker (MovesTo moved) (λ root id. slice_get new id ≡ slice_get ts root) moves.same roots ids zipped

      under : (t : Tree L) → (k : ℕ) × IsMarked kept k × (slice_get ts k ≡ Some t) → StandsUnder new ids t
      under t found =
          let old : StandsUnder ts roots t = marks.under found.0 t found.1 found.2 in
          let m : ℕ = old.0 in
          let within : m < length ids = omega (arith, old.2, length_all_zip (MovesTo moved) roots ids zipped) in
          let moved_root : slice_get new (get_or ids m 0) ≡ slice_get ts (get_or roots m old.1) =
          AllZip-get_or (λ root id. slice_get new id ≡ slice_get ts root) roots ids m old.1 0 same old.2 in
          (m, get_or ids m 0, within, get_or_default ids m (get_or ids m 0) 0 within, (old.4.0, moved_root ∙ ap (slice_get ts) old.3 ∙ old.4.1, old.4.2))
