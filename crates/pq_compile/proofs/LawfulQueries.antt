-- Queries that are read are lawful.
use Rattle.std.specs.Prelude.{◌≡◌, ◌≢◌, ℕ, Bool, true, false, if◌then◌else◌, List, [], ◌∷◌, Ok}
use Rattle.std.specs.List.{AllByRecursion}
use Rattle.std.proofs.Common.{subst}
use Rattle.pq_term.specs.declared.token.Token.{Token}
use Rattle.pq_grammar.specs.declared.class.Class.TheVariants.{InAtom, OutAtom, InOutAtom, EndAtom, InGroup, OutGroup, InOutGroup, Caret}
use Rattle.pq_grammar.specs.declared.class.Class.TheVariants.{Bar, Ampersand, Tilde, Star}
use Rattle.pq_grammar.specs.Tables.{is_class}
use Rattle.pq_tree.specs.Trees.{Forest, nothing, grown, Tree}
use Rattle.pq_tree.specs.Texts.{class_in_text}
use Rattle.pq_fields.specs.declared.field.Field.{Field}
use Rattle.pq_fields.specs.Pred.{PredTree, IsPredOver}
use Rattle.pq_model.specs.Topology.{Topology}
use Rattle.pq_topo.specs.declared.fault.NameKind.TheVariants.{BadValue}
use Rattle.pq_topo.specs.Naming.{Reading, faulty, next, gathered}
use Rattle.pq_topo.proofs.Readings.{next_ok}
use Rattle.pq_query.specs.Groups.{Group}
use Rattle.pq_query.specs.Query.{QueryTop, Enters, Leaves, Passes, Ends, InTurn, Either, Both, Other, Repeated, Queries, none, QueryTree, leaf, queries}
use Rattle.pq_query.specs.Resolved.{Side, later, pred_in, groups_in, bare_in, grouped_in, entering, leaving, passing, hop_of}
use Rattle.pq_query.specs.Resolved.{grouped_hop_of, end_of, single, joined, atom_of, query_step, query_readings, query_of}
use Rattle.pq_query.specs.Lawful.{IsTopOver, AreGroupsOver, AreQueriesOver, IsQueryOver}
use Rattle.pq_compile.proofs.Fits.{ReadsOver}
use Rattle.pq_compile.proofs.LawfulPreds.{all_gathered, pred_over}
use Rattle.pq_compile.proofs.LawfulGroups.{none_over, groups_over}

-- a list of such queries
all_over : (V : Field → ℕ → Type 0) (qs : List QueryTree) → AllByRecursion (IsQueryOver V) qs → AreQueriesOver V (queries qs)
all_over V [] all = tt
all_over V (q ∷ qs) all = (all.0.0, all.0.1, all_over V qs all.1)

some_below : (q : QueryTree) (qs : List QueryTree) → queries (q ∷ qs) ≢ none
some_below q qs e = absurd cc

-- an operator over which a list of operands must not be empty
abbrev IsOperator : (Field → ℕ → Type 0) → QueryTop → Type 0
IsOperator V top = (below : Queries) → below ≢ none → IsTopOver V top below

joined_over : (V : Field → ℕ → Type 0) (head : Token) (top : QueryTop) (qs : List QueryTree) (q : QueryTree) → IsOperator V top
    → AllByRecursion (IsQueryOver V) qs → joined head top qs ≡ Ok q → IsQueryOver V q
joined_over V head top [] q here all e = absurd cc
joined_over V head top (r ∷ rs) q here all e = let same : record { top = top; below = queries (r ∷ rs) } ≡ q = cc in
    subst (IsQueryOver V) same (here (queries (r ∷ rs)) (some_below r rs), all_over V (r ∷ rs) all, tt)

single_over : (V : Field → ℕ → Type 0) (head : Token) (top : QueryTop) (qs : List QueryTree) (q : QueryTree) → IsOperator V top
    → AllByRecursion (IsQueryOver V) qs → single head top qs ≡ Ok q → IsQueryOver V q
single_over V head top [] q here all e = absurd cc
single_over V head top (r ∷ []) q here all e = let same : record { top = top; below = queries (r ∷ []) } ≡ q = cc in
    subst (IsQueryOver V) same (here (queries (r ∷ [])) (some_below r []), all_over V (r ∷ []) all, tt)
single_over V head top (r ∷ s ∷ rs) q here all e = absurd cc

-- a predicate and grouped fields that are lawful
abbrev IsSideOver : (Field → ℕ → Type 0) → Side → Type 0
IsSideOver V s = IsPredOver V s.0 × AreGroupsOver V s.1

entering_over : (V : Field → ℕ → Type 0) (s : Side) (q : QueryTree) → IsSideOver V s → entering s ≡ Ok q → IsQueryOver V q
entering_over V s q side e = let same : leaf (Enters s.0 s.1) ≡ q = cc in subst (IsQueryOver V) same (side, tt, tt)

leaving_over : (V : Field → ℕ → Type 0) (s : Side) (q : QueryTree) → IsSideOver V s → leaving s ≡ Ok q → IsQueryOver V q
leaving_over V s q side e = let same : leaf (Leaves s.0 s.1) ≡ q = cc in subst (IsQueryOver V) same (side, tt, tt)

passing_over : (V : Field → ℕ → Type 0) (s t : Side) (q : QueryTree) → IsSideOver V s → IsSideOver V t → passing s t ≡ Ok q → IsQueryOver V q
passing_over V s t q side other e = let same : leaf (Passes s.0 s.1 t.0 t.1) ≡ q = cc in subst (IsQueryOver V) same ((side.0, side.1, other.0, other.1), tt, tt)

module _ (T : Topology) (V : Field → ℕ → Type 0) (over : ReadsOver T V) (bytes : List ℕ) where
  abbrev IsReadOver : Reading QueryTree → Type 0
  IsReadOver r = (q : QueryTree) → r ≡ Ok q → IsQueryOver V q

  -- Atoms.

  pred_in_over : (head : Token) (below : Forest) (p : PredTree) → pred_in T bytes head below ≡ Ok p → IsPredOver V p
  pred_in_over head nothing p e = absurd cc
  pred_in_over head (grown t below rest) p e = pred_over T V over bytes (record { head = t; below = below }) p e

  groups_in_over : (head : Token) (below : Forest) (gs : List Group) → groups_in T bytes head below ≡ Ok gs → AreGroupsOver V gs
  groups_in_over head nothing gs e = absurd cc
  groups_in_over head (grown t below rest) gs e = groups_over T V over bytes below gs e

  bare_over : (head : Token) (below : Forest) (s : Side) → bare_in T bytes head below ≡ Ok s → IsSideOver V s
  bare_over head below s e =
      let told = next_ok (pred_in T bytes head below) (λ p. Ok (p, [])) s e in
      let same : (told.0, []) ≡ s = cc in
      subst (IsSideOver V) same (pred_in_over head below told.0 told.1, none_over T V over bytes)

  grouped_over : (head : Token) (below : Forest) (s : Side) → grouped_in T bytes head below ≡ Ok s → IsSideOver V s
  grouped_over head below s e =
      let told = next_ok (pred_in T bytes head below) (λ p. next (groups_in T bytes head (later below)) (λ gs. Ok (p, gs))) s e in
      let more = next_ok (groups_in T bytes head (later below)) (λ gs. Ok (told.0, gs)) s told.2 in
      let same : (told.0, more.0) ≡ s = cc in
      subst (IsSideOver V) same (pred_in_over head below told.0 told.1, groups_in_over head (later below) more.0 more.1)

  hop_over : (head : Token) (below : Forest) → IsReadOver (hop_of T bytes head below)
  hop_over head below q e =
      let one = next_ok (bare_in T bytes head below) (λ s. next (bare_in T bytes head (later below)) (passing s)) q e in
      let two = next_ok (bare_in T bytes head (later below)) (passing one.0) q one.2 in
      passing_over V one.0 two.0 q (bare_over head below one.0 one.1) (bare_over head (later below) two.0 two.1) two.2

  grouped_hop_over : (head : Token) (below : Forest) → IsReadOver (grouped_hop_of T bytes head below)
  grouped_hop_over head below q e =
      let one = next_ok (grouped_in T bytes head below) (λ s. next (grouped_in T bytes head (later (later below))) (passing s)) q e in
      let two = next_ok (grouped_in T bytes head (later (later below))) (passing one.0) q one.2 in
      passing_over V one.0 two.0 q (grouped_over head below one.0 one.1) (grouped_over head (later (later below)) two.0 two.1) two.2

  end_over : (head : Token) (below : Forest) → IsReadOver (end_of T bytes head below)
  end_over head below q e =
      let told = next_ok (pred_in T bytes head below) (λ p. Ok (leaf (Ends p))) q e in
      let same : leaf (Ends told.0) ≡ q = cc in
      subst (IsQueryOver V) same (pred_in_over head below told.0 told.1, tt, tt)

  -- an atom of one packet
  sided : (r : Reading Side) (f : Side → Reading QueryTree) → ((s : Side) → r ≡ Ok s → IsSideOver V s)
      → ((s : Side) (q : QueryTree) → IsSideOver V s → f s ≡ Ok q → IsQueryOver V q) → IsReadOver (next r f)
  sided r f side made q e = let told = next_ok r f q e in made told.0 q (side told.0 told.1) told.2

  atom_over : (head : Token) (below : Forest) → IsReadOver (atom_of T bytes head below)
  atom_over head below q e =
      let class = class_in_text bytes head in
      by (is_class class InAtom) (is_class class OutAtom) (is_class class InOutAtom) (is_class class EndAtom) (is_class class InGroup)
      (is_class class OutGroup) (is_class class InOutGroup) e
    where
      by : (a b c d f g h : Bool)
          → (if a then next (bare_in T bytes head below) entering else if b then next
          (bare_in T bytes head below) leaving else if c then hop_of T bytes head below else if d then end_of T bytes head below else if f
          then next (grouped_in T bytes head below) entering else if g then next
          (grouped_in T bytes head below) leaving else if h then grouped_hop_of T bytes head below else faulty head BadValue) ≡ Ok q
          → IsQueryOver V q
      by true b c d f g h e = sided (bare_in T bytes head below) entering (bare_over head below) (entering_over V) q e
      by false true c d f g h e = sided (bare_in T bytes head below) leaving (bare_over head below) (leaving_over V) q e
      by false false true d f g h e = hop_over head below q e
      by false false false true f g h e = end_over head below q e
      by false false false false true g h e = sided (grouped_in T bytes head below) entering (grouped_over head below) (entering_over V) q e
      by false false false false false true h e = sided (grouped_in T bytes head below) leaving (grouped_over head below) (leaving_over V) q e
      by false false false false false false true e = grouped_hop_over head below q e
      by false false false false false false false e = absurd cc

  -- Operators.

  operands_over : (rs : List (Reading QueryTree)) (make : List QueryTree → Reading QueryTree)
      → ((qs : List QueryTree) (q : QueryTree) → AllByRecursion (IsQueryOver V) qs → make qs ≡ Ok q → IsQueryOver V q)
      → AllByRecursion IsReadOver rs → IsReadOver (next (gathered rs) make)
  operands_over rs make made all q e =
      let told = next_ok (gathered rs) make q e in
      made told.0 q (all_gathered (IsQueryOver V) rs told.0 all told.1) told.2

  step_over : (head : Token) (below : Forest) (rs : List (Reading QueryTree)) → AllByRecursion IsReadOver rs → IsReadOver (query_step T bytes head below rs)
  step_over head below rs all q e =
      let class = class_in_text bytes head in
      by (is_class class Caret) (is_class class Bar) (is_class class Ampersand) (is_class class Tilde) (is_class class Star) e
    where
      by : (a b c d f : Bool)
          → (if a then next (gathered rs) (joined head InTurn) else if b then next (gathered rs) (joined head Either) else if c then next
          (gathered rs) (joined head Both) else if d then next (gathered rs) (single head Other) else if f then next (gathered rs)
          (single head Repeated) else atom_of T bytes head below) ≡ Ok q → IsQueryOver V q
      by true b c d f e = operands_over rs (joined head InTurn) (λ qs q. joined_over V head InTurn qs q (λ below some. some)) all q e
      by false true c d f e = operands_over rs (joined head Either) (λ qs q. joined_over V head Either qs q (λ below some. some)) all q e
      by false false true d f e = operands_over rs (joined head Both) (λ qs q. joined_over V head Both qs q (λ below some. some)) all q e
      by false false false true f e = operands_over rs (single head Other) (λ qs q. single_over V head Other qs q (λ below some. some)) all q e
      by false false false false true e = operands_over rs (single head Repeated) (λ qs q. single_over V head Repeated qs q (λ below some. some)) all q e
      by false false false false false e = atom_over head below q e

  readings_over : (f : Forest) → AllByRecursion IsReadOver (query_readings T bytes f)
  readings_over nothing = tt
  readings_over (grown head below rest) = (step_over head below (query_readings T bytes below) (readings_over below), readings_over rest)

  pub query_over : (t : Tree) (q : QueryTree) → query_of T bytes t ≡ Ok q → IsQueryOver V q
  query_over t q e = step_over t.head t.below (query_readings T bytes t.below) (readings_over t.below) q e
