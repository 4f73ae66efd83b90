-- A query has at most as many atoms as its tree has nodes.
use Rattle.std.specs.Prelude.{◌≡◌, ℕ, ◌+◌, ◌≤◌, Bool, true, false, if◌then◌else◌, List, [], ◌∷◌, Ok}
use Rattle.std.proofs.Common.{suc, arith, refl, sym, ap, subst, ◌∙◌}
use Rattle.pq_term.specs.declared.token.Token.{Token}
use Rattle.pq_grammar.specs.declared.class.Class.TheVariants.{InAtom, OutAtom, InOutAtom, EndAtom, InGroup, OutGroup, InOutGroup, Caret}
use Rattle.pq_grammar.specs.declared.class.Class.TheVariants.{Bar, Ampersand, Tilde, Star}
use Rattle.pq_grammar.specs.Tables.{is_class}
use Rattle.pq_tree.specs.Texts.{class_in_text}
use Rattle.pq_tree.specs.Trees.{Forest, nothing, grown, Tree}
use Rattle.pq_tree.proofs.Sizes.{nodes}
use Rattle.pq_model.specs.Topology.{Topology}
use Rattle.pq_topo.specs.declared.fault.NameKind.TheVariants.{BadValue}
use Rattle.pq_topo.specs.Naming.{Reading, faulty, next, gathered}
use Rattle.pq_topo.proofs.Readings.{next_ok}
use Rattle.pq_query.specs.Atoms.{atoms, query_atoms, top_atoms}
use Rattle.pq_query.specs.Query.{QueryTop, Enters, Leaves, Passes, Ends, InTurn, Either, Both, Other, Repeated, QueryTree, leaf, queries}
use Rattle.pq_query.specs.Resolved.{Side, atom_of, bare_in, end_of, entering, grouped_hop_of, grouped_in, hop_of, joined, later, leaving}
use Rattle.pq_query.specs.Resolved.{passing, pred_in, query_of, query_readings, query_step, single}

-- a query that may be read has at most this many atoms
abbrev HasAtMost : ℕ → Reading QueryTree → Type 0
HasAtMost n r = (q : QueryTree) → r ≡ Ok q → query_atoms q ≤ n

-- each reading has at most as many atoms as its tree has nodes
abbrev AreAtMost : Forest → List (Reading QueryTree) → Type 0
AreAtMost nothing rs = rs ≡ []
AreAtMost (grown t below rest) [] = ⊥
AreAtMost (grown t below rest) (r ∷ rs) = HasAtMost (suc (nodes below)) r × AreAtMost rest rs

-- so they have together
together : (f : Forest) (rs : List (Reading QueryTree)) (qs : List QueryTree) → AreAtMost f rs → gathered rs ≡ Ok qs → atoms (queries qs) ≤ nodes f
together nothing rs qs few e = let none : Ok [] ≡ Ok qs = ap gathered (sym few) ∙ e in let same : [] ≡ qs = cc in
    subst (λ qs. atoms (queries qs) ≤ 0) same (omega arith)
together (grown t below rest) [] qs few e = absurd few
together (grown t below rest) (r ∷ rs) qs few e =
    let one = next_ok r (λ value. next (gathered rs) (λ values. Ok (value ∷ values))) qs e in
    let more = next_ok (gathered rs) (λ values. Ok (one.0 ∷ values)) qs one.2 in
    let same : one.0 ∷ more.0 ≡ qs = cc in
    let first = few.0 one.0 one.1 in
    let later = together rest rs more.0 few.1 more.1 in
    subst (λ qs. atoms (queries qs) ≤ suc (nodes below + nodes rest)) same (omega (arith, first, later))

module _ (T : Topology) (bytes : List ℕ) where
  -- an atom is one
  leaf_one : (n : ℕ) (top : QueryTop) (q : QueryTree) → top_atoms top ≤ 1 → leaf top ≡ q → query_atoms q ≤ suc n
  leaf_one n top q one same = subst (λ q. query_atoms q ≤ suc n) same (omega (arith, one))

  -- readings of atoms, whatever they are of
  atom_few : (head : Token) (below : Forest) → HasAtMost (suc (nodes below)) (atom_of T bytes head below)
  atom_few head below q e =
      let class = class_in_text bytes head in
      by (is_class class InAtom) (is_class class OutAtom) (is_class class InOutAtom) (is_class class EndAtom) (is_class class InGroup)
      (is_class class OutGroup) (is_class class InOutGroup) e
    where
      one_side : (r : Reading Side) → HasAtMost (suc (nodes below)) (next r entering) × HasAtMost (suc (nodes below)) (next r leaving)
      one_side r = (
        λ q e. (let told = next_ok r entering q e in leaf_one (nodes below) (Enters told.0.0 told.0.1) q (omega arith) cc),
        λ q e. (let told = next_ok r leaving q e in leaf_one (nodes below) (Leaves told.0.0 told.0.1) q (omega arith) cc),
      )

      two_sides : (r t : Reading Side) → HasAtMost (suc (nodes below)) (next r (λ s. next t (passing s)))
      two_sides r t q e =
          let one = next_ok r (λ s. next t (passing s)) q e in
          let two = next_ok t (passing one.0) q one.2 in
          leaf_one (nodes below) (Passes one.0.0 one.0.1 two.0.0 two.0.1) q (omega arith) cc

      end_few : HasAtMost (suc (nodes below)) (end_of T bytes head below)
      end_few q e = let told = next_ok (pred_in T bytes head below) (λ p. Ok (leaf (Ends p))) q e in leaf_one (nodes below) (Ends told.0) q (omega arith) cc

      by : (a b c d f g h : Bool)
          → (if a then next (bare_in T bytes head below) entering else if b then next
          (bare_in T bytes head below) leaving else if c then hop_of T bytes head below else if d then end_of T bytes head below else if f
          then next (grouped_in T bytes head below) entering else if g then next
          (grouped_in T bytes head below) leaving else if h then grouped_hop_of T bytes head below else faulty head BadValue) ≡ Ok q
          → query_atoms q ≤ suc (nodes below)
      by true b c d f g h e = (one_side (bare_in T bytes head below)).0 q e
      by false true c d f g h e = (one_side (bare_in T bytes head below)).1 q e
      by false false true d f g h e = two_sides (bare_in T bytes head below) (bare_in T bytes head (later below)) q e
      by false false false true f g h e = end_few q e
      by false false false false true g h e = (one_side (grouped_in T bytes head below)).0 q e
      by false false false false false true h e = (one_side (grouped_in T bytes head below)).1 q e
      by false false false false false false true e = two_sides (grouped_in T bytes head below) (grouped_in T bytes head (later (later below))) q e
      by false false false false false false false e = absurd cc

  -- operators have the atoms of their operands
  joined_few : (head : Token) (top : QueryTop) (n : ℕ) (qs : List QueryTree) (q : QueryTree) → top_atoms top ≡ 0 → atoms (queries qs) ≤ n
      → joined head top qs ≡ Ok q → query_atoms q ≤ suc n
  joined_few head top n [] q none few e = absurd cc
  joined_few head top n (r ∷ rs) q none few e =
      let same : record { top = top; below = queries (r ∷ rs) } ≡ q = cc in subst (λ q. query_atoms q ≤ suc n) same (omega (arith, none, few))

  single_few : (head : Token) (top : QueryTop) (n : ℕ) (qs : List QueryTree) (q : QueryTree) → top_atoms top ≡ 0 → atoms (queries qs) ≤ n
      → single head top qs ≡ Ok q → query_atoms q ≤ suc n
  single_few head top n [] q none few e = absurd cc
  single_few head top n (r ∷ []) q none few e =
      let same : record { top = top; below = queries (r ∷ []) } ≡ q = cc in subst (λ q. query_atoms q ≤ suc n) same (omega (arith, none, few))
  single_few head top n (r ∷ s ∷ rs) q none few e = absurd cc

  operands_few : (below : Forest) (rs : List (Reading QueryTree)) (make : List QueryTree → Reading QueryTree) → AreAtMost below rs
      → ((qs : List QueryTree) (q : QueryTree) → atoms (queries qs) ≤ nodes below → make qs ≡ Ok q → query_atoms q ≤ suc (nodes below))
      → HasAtMost (suc (nodes below)) (next (gathered rs) make)
  operands_few below rs make few made q e = let told = next_ok (gathered rs) make q e in made told.0 q (together below rs told.0 few told.1) told.2

  step_few : (head : Token) (below : Forest) (rs : List (Reading QueryTree)) → AreAtMost below rs
      → HasAtMost (suc (nodes below)) (query_step T bytes head below rs)
  step_few head below rs few q e =
      let class = class_in_text bytes head in
      by (is_class class Caret) (is_class class Bar) (is_class class Ampersand) (is_class class Tilde) (is_class class Star) e
    where
      by : (a b c d f : Bool)
          → (if a then next (gathered rs) (joined head InTurn) else if b then next (gathered rs) (joined head Either) else if c then next
          (gathered rs) (joined head Both) else if d then next (gathered rs) (single head Other) else if f then next (gathered rs)
          (single head Repeated) else atom_of T bytes head below) ≡ Ok q → query_atoms q ≤ suc (nodes below)
      by true b c d f e = operands_few below rs (joined head InTurn) few (λ qs q. joined_few head InTurn (nodes below) qs q refl) q e
      by false true c d f e = operands_few below rs (joined head Either) few (λ qs q. joined_few head Either (nodes below) qs q refl) q e
      by false false true d f e = operands_few below rs (joined head Both) few (λ qs q. joined_few head Both (nodes below) qs q refl) q e
      by false false false true f e = operands_few below rs (single head Other) few (λ qs q. single_few head Other (nodes below) qs q refl) q e
      by false false false false true e = operands_few below rs (single head Repeated) few (λ qs q. single_few head Repeated (nodes below) qs q refl) q e
      by false false false false false e = atom_few head below q e

  readings_few : (f : Forest) → AreAtMost f (query_readings T bytes f)
  readings_few nothing = refl
  readings_few (grown head below rest) = (step_few head below (query_readings T bytes below) (readings_few below), readings_few rest)

  -- so has the query of a tree
  pub query_few : (t : Tree) (q : QueryTree) → query_of T bytes t ≡ Ok q → query_atoms q ≤ suc (nodes t.below)
  query_few t q e = step_few t.head t.below (query_readings T bytes t.below) (readings_few t.below) q e
