-- A test with two sides of a store.
use Rattle.std.proofs.Common.{◌≡◌, ℕ, ◌<◌, List, Option, Some, Bool, true, false, if◌then◌else◌, inl, inr, refl, sym, ap, ◌∙◌, arith}
use Rattle.std.proofs.lemmas.Bool.{ne_eqb, true≢false}
use Rattle.std.proofs.lemmas.Bool.Decides.{eqb_tells}
use Rattle.std.proofs.lemmas.Option.{slice_get_within}
use Rattle.std.specs.Prelude.{length, slice_get}
use Rattle.std.specs.Option.{option_map}
use Rattle.pq_fields.specs.declared.field.Field.{Field}
use Rattle.pq_fields.specs.Packet.{Numbers, number_in, rank}
use Rattle.pq_store.specs.declared.test.Test.{Test}
use Rattle.pq_store.specs.declared.test.Test.TheVariants.{Equal, Bit}
use Rattle.pq_store.specs.declared.cell.Branch.{Branch}
use Rattle.pq_store.specs.declared.cell.Cell.{Cell}
use Rattle.pq_store.specs.declared.cell.Cell.TheVariants as cell
use Rattle.pq_store.specs.Test.{Precedes, passes}
use Rattle.pq_store.specs.Tree.{Tree, past, rest, value}
use Rattle.pq_store.specs.Tree.Tree.{Tip, Fork}
use Rattle.pq_store.specs.Diagram.{HasEqualSides, IsBefore, Ascends, IsDiagram}
use Rattle.pq_store.specs.Store.{IsJoinable, JoinsAt, IsPastAt, ShowsBranch, AreDiagrams, value_at}
use Rattle.pq_store.specs.Arena.{behind, behind_test, trees, IsArena, CanStand, tree_of}
use Rattle.pq_store.proofs.Arenas.{one_place, of_sides, sides_of, stands}
use Rattle.pq_lists.proofs.Places.{at_place}
use Rattle.pq_store.proofs.Order.{rank_injective, before_side}

-- a packet with the number fails each test of a later number of the field
differs : (f g : Field) (v w : ℕ) (x : Numbers) → rank f ≡ rank g → Precedes (Equal f v) (Equal g w) → passes (Equal f v) x ≡ true
    → passes (Equal g w) x ≡ false
differs f g v w x same first pass = elim (eqb_tells (number_in f x) v) [
  | inl is ↦ ne_eqb (number_in g x) w (λ e. later first (sym is.1 ∙ (ap (λ h. number_in h x) (rank_injective f g same) ∙ e)))
  | inr other ↦ absurd (true≢false (sym pass ∙ other.0))
]
  where
    later : Precedes (Equal f v) (Equal g w) → v ≡ w → ⊥
    later (inl earlier) e = omega arith
    later (inr less) e = omega arith

module _ {L : Type 0} where
  -- a packet with a number reaches after the later tests of the field what it reaches through them
  rest_value : (f : Field) (v : ℕ) (t : Tree L) (x : Numbers) → IsBefore (Equal f v) t → Ascends t → passes (Equal f v) x ≡ true
      → value (rest f t) x ≡ value t x
  rest_value f v (Tip l) x first ascends pass = refl
  rest_value f v (Fork (Equal g w) y n) x first ascends pass = elim (eqb_tells (rank f) (rank g)) [
    | inl same ↦ rw (same.0, differs f g v w x same.1 first pass) (rest_value f v n x (before_side (Equal f v) (Equal g w) n first ascends.1) ascends.3 pass)
    | inr other ↦ rw other.0 refl
  ]
  rest_value f v (Fork (Bit g i) y n) x first ascends pass = refl

  -- of a packet that passes the test a later diagram says what it says past the test
  pub past_value : (s : Test) (t : Tree L) (x : Numbers) → IsBefore s t → Ascends t → passes s x ≡ true → value (past s t) x ≡ value t x
  past_value (Equal f v) t x first ascends pass = rest_value f v t x first ascends pass
  past_value (Bit f i) t x first ascends pass = refl

  -- a cell with a leaf is its own past
  pub leaf_past : (ts : List (Tree L)) (s : Test) (k : ℕ) (l : L) → slice_get ts k ≡ Some (Tip l) → IsPastAt ts s k k
  leaf_past ts (Equal f v) k l h t t_is = let e : Tip l ≡ t = cc in h ∙ ap (λ u. Some (rest f u)) e
  leaf_past ts (Bit f i) k l h t t_is = t_is

  -- what is after a field's numbers in a fork is at the place that the fork keeps, or is the fork
  rest_behind : (ts : List (Tree L)) (f : Field) (s : Test) (y n : Tree L) (r k : ℕ) → slice_get ts r ≡ Some (past s n) → slice_get ts k ≡ Some (Fork s y n)
      → slice_get ts (behind_test f s r k) ≡ Some (rest f (Fork s y n))
  rest_behind ts f (Equal g w) y n r k r_is k_is = elim (eqb_tells (rank f) (rank g)) [
    | inl same ↦ rw same.0 (r_is ∙ ap (λ h. Some (rest h n)) (sym (rank_injective f g same.1)))
    | inr other ↦ rw other.0 k_is
  ]
  rest_behind ts f (Bit g i) y n r k r_is k_is = k_is

  -- what a branch keeps is after the numbers of the field with which it begins
  pub branch_past : (cs : List (Cell L)) → IsArena cs → (f : Field) (v k : ℕ) (b : Branch) → slice_get cs k ≡ Some (cell.Branch b)
      → IsPastAt (trees cs) (Equal f v) k (behind f b k)
  branch_past cs arena f v k b h t t_is =
      let s = stands cs arena k (cell.Branch b) h in
      let p = sides_of (trees cs) b s.tree s.is in
      let fork : slice_get (trees cs) k ≡ Some (Fork b.test p.yes_tree p.no_tree) = s.at ∙ ap Some p.tree_is in
      let same : Fork b.test p.yes_tree p.no_tree ≡ t = cc in
      rest_behind (trees cs) f b.test p.yes_tree p.no_tree b.past k (arena.pasts k (cell.Branch b) h p.no_tree p.no_is) fork ∙ ap (λ u. Some (rest f u)) same

  -- what is past a test is within the store
  pub past_within : (ts : List (Tree L)) (s : Test) (k r : ℕ) → k < length ts → IsPastAt ts s k r → r < length ts
  past_within ts s k r within is =
      let t = at_place ts k within in slice_get_within ts r (past s t.0) (is t.0 t.1)

  -- a branch shows its sides
  pub branch_shows : (cs : List (Cell L)) → IsArena cs → (k : ℕ) (b : Branch) → slice_get cs k ≡ Some (cell.Branch b)
      → ShowsBranch (trees cs) k b.test b.yes b.no
  branch_shows cs arena k b h =
      let s = stands cs arena k (cell.Branch b) h in
      let p = sides_of (trees cs) b s.tree s.is in
      record {
        yes_tree = p.yes_tree;
        no_tree = p.no_tree;
        is = s.at ∙ ap Some p.tree_is;
        yes_is = p.yes_is;
        no_is = p.no_is;
        yes_below = s.below.0;
        no_below = s.below.1;
      }

  -- a leaf shows itself
  pub leaf_shows : (cs : List (Cell L)) → IsArena cs → (k : ℕ) (l : L) → slice_get cs k ≡ Some (cell.Leaf l) → slice_get (trees cs) k ≡ Some (Tip l)
  leaf_shows cs arena k l h = let s = stands cs arena k (cell.Leaf l) h in s.at ∙ sym s.is

  -- a leaf is a diagram
  pub leaf_diagram : (l : L) → IsDiagram (Tip l)
  leaf_diagram l = record { lawful = tt; ascends = tt; asks_once = tt; reduced = tt; fits = λ f. omega arith }

  -- unequal sides under a test are a diagram
  pub fork_diagram : (s : Test) (y n : Tree L) → IsJoinable s y n → IsDiagram y → IsDiagram n → (HasEqualSides s y n → ⊥) → IsDiagram (Fork s y n)
  fork_diagram s y n may d e differ = record {
    lawful = (may.lawful, d.lawful, e.lawful);
    ascends = (may.before_yes, may.before_no, d.ascends, e.ascends);
    asks_once = (may.once, d.asks_once, e.asks_once);
    reduced = (differ, d.reduced, e.reduced);
    fits = may.fits;
  }

  -- what is asked of the sides of a test
  abbrev pub AreJoinable : List (Tree L) → Test → ℕ → ℕ → Type 0
  AreJoinable ts s i j = (y n : Tree L) → slice_get ts i ≡ Some y → slice_get ts j ≡ Some n → IsJoinable s y n

  -- the value of a test with sides
  abbrev pub TellsBoth : List (Tree L) → Test → ℕ → ℕ → List (Tree L) → ℕ → Type 0
  TellsBoth old s i j new k = (x : Numbers) → value_at new k x ≡ (if passes s x then value_at old i x else value_at old j x)

  -- the value of a tree at its place
  pub value_there : (ts : List (Tree L)) (k : ℕ) (t : Tree L) (x : Numbers) → slice_get ts k ≡ Some t → value_at ts k x ≡ Some (value t x)
  value_there ts k t x h = ap (option_map (λ u. value u x)) h

  -- of a packet that passes the test of a branch the yes side says what the branch says
  pub yes_value : (ts : List (Tree L)) (k i j : ℕ) (s : Test) (x : Numbers) (b : Bool) (v : Option L) → ShowsBranch ts k s i j
      → b ≡ passes s x → b ≡ true → value_at ts k x ≡ v → value_at ts i x ≡ v
  yes_value ts k i j s x b v shows asked pass is =
      value_there ts i shows.yes_tree x shows.yes_is ∙ (ap (λ c. Some (if c then value shows.yes_tree x else value shows.no_tree x)) (sym pass ∙ asked)
      ∙ (sym (value_there ts k (Fork s shows.yes_tree shows.no_tree) x shows.is) ∙ is))

  -- and of one that fails it the no side does
  pub no_value : (ts : List (Tree L)) (k i j : ℕ) (s : Test) (x : Numbers) (b : Bool) (v : Option L) → ShowsBranch ts k s i j
      → b ≡ passes s x → b ≡ false → value_at ts k x ≡ v → value_at ts j x ≡ v
  no_value ts k i j s x b v shows asked fail is =
      value_there ts j shows.no_tree x shows.no_is ∙ (ap (λ c. Some (if c then value shows.yes_tree x else value shows.no_tree x)) (sym fail ∙ asked)
      ∙ (sym (value_there ts k (Fork s shows.yes_tree shows.no_tree) x shows.is) ∙ is))

  -- and it has the value of both
  pub equal_value : (ts : List (Tree L)) (s : Test) (i j : ℕ) → AreDiagrams ts → AreJoinable ts s i j → i < length ts → j < length ts
      → IsPastAt ts s j i → TellsBoth ts s i j ts j
  equal_value ts s i j diagrams may within_i within_j is x = by (passes s x) refl
    where
      by : (b : Bool) → passes s x ≡ b → value_at ts j x ≡ (if b then value_at ts i x else value_at ts j x)
      by true pass =
          let y = at_place ts i within_i in
          let n = at_place ts j within_j in
          value_there ts j n.0 x n.1 ∙ (ap Some (sym (past_value s n.0 x (may y.0 n.0 y.1 n.1).before_no (diagrams j n.0 n.1).ascends pass))
          ∙ sym (value_there ts i (past s n.0) x (is n.0 n.1)))
      by false fail = refl

  -- the sides of a test differ where the place of the first is not that of what the second says past it
  pub sides_differ : (cs : List (Cell L)) → IsArena cs → (s : Test) (i j r : ℕ) → IsPastAt (trees cs) s j r → (i ≡ r → ⊥)
      → (y n : Tree L) → slice_get (trees cs) i ≡ Some y → slice_get (trees cs) j ≡ Some n → HasEqualSides s y n → ⊥
  sides_differ cs arena s i j r is other y n y_is n_is equal = other (one_place cs arena y i r y_is (is n n_is ∙ ap Some (sym equal)))

  -- a branch with such sides may be
  pub branch_stands : (cs : List (Cell L)) → IsArena cs → (b : Branch) → AreJoinable (trees cs) b.test b.yes b.no
      → b.yes < length (trees cs) → b.no < length (trees cs)
      → IsPastAt (trees cs) b.test b.no b.past → (b.yes ≡ b.past → ⊥) → CanStand (trees cs) (cell.Branch b)
  branch_stands cs arena b may within_yes within_no is other =
      let y = at_place (trees cs) b.yes within_yes in
      let n = at_place (trees cs) b.no within_no in
      record {
        tree = Fork b.test y.0 n.0;
        is = of_sides (trees cs) b y.0 n.0 y.1 n.1;
        diagram = fork_diagram b.test y.0 n.0 (may y.0 n.0 y.1 n.1) (arena.diagrams b.yes y.0 y.1) (arena.diagrams b.no n.0 n.1)
            (sides_differ cs arena b.test b.yes b.no b.past is other y.0 n.0 y.1 n.1);
        past = is;
      }

  -- it joins its sides
  pub branch_join : (cs : List (Cell L)) → IsArena cs → (b : Branch) (new : List (Tree L)) (k : ℕ) → IsPastAt (trees cs) b.test b.no b.past
      → (b.yes ≡ b.past → ⊥)
      → slice_get new k ≡ tree_of (trees cs) (cell.Branch b) → JoinsAt (trees cs) b.test b.yes b.no new k
  branch_join cs arena b new k is other at y n y_is n_is =
      (Fork b.test y n, at ∙ of_sides (trees cs) b y n y_is n_is, inr (sides_differ cs arena b.test b.yes b.no b.past is other y n y_is n_is, refl))

  -- whether a packet passes a test chooses between the values of two places as between those of two trees
  side_value : (ts : List (Tree L)) (i j : ℕ) (y n : Tree L) (x : Numbers) → slice_get ts i ≡ Some y → slice_get ts j ≡ Some n
      → (b : Bool) → Some (if b then value y x else value n x) ≡ (if b then value_at ts i x else value_at ts j x)
  side_value ts i j y n x y_is n_is true = sym (value_there ts i y x y_is)
  side_value ts i j y n x y_is n_is false = sym (value_there ts j n x n_is)

  -- and has the value of both
  pub branch_value : (ts new : List (Tree L)) (b : Branch) (k : ℕ) → b.yes < length ts → b.no < length ts
      → slice_get new k ≡ tree_of ts (cell.Branch b) → TellsBoth ts b.test b.yes b.no new k
  branch_value ts new b k within_yes within_no at x =
      let y = at_place ts b.yes within_yes in
      let n = at_place ts b.no within_no in
      value_there new k (Fork b.test y.0 n.0) x (at ∙ of_sides ts b y.0 n.0 y.1 n.1) ∙ side_value ts b.yes b.no y.0 n.0 x y.1 n.1 (passes b.test x)
