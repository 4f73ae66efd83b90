-- What a diagram splits into, and what is joined of it again.
use Rattle.std.proofs.Common.{◌≡◌, ℕ, ◌<◌, ◌≤◌, Bool, true, false, List, Some, refl, sym, ◌∙◌, ap, subst, inl, inr, arith}
use Rattle.std.proofs.lemmas.Bool.Decides.{eqb_tells}
use Rattle.pq_fields.specs.declared.field.Field.{Field}
use Rattle.pq_fields.specs.Packet.{Numbers, rank}
use Rattle.pq_store.specs.declared.test.Test.{Test}
use Rattle.pq_store.specs.declared.test.Test.TheVariants.{Equal, Bit}
use Rattle.pq_store.specs.Test.{IsLawful, Precedes, passes}
use Rattle.pq_store.specs.Tree.{Tree, IsTested, past, rest, value}
use Rattle.pq_store.specs.Tree.Tree.{Tip, Fork}
use Rattle.pq_store.specs.Diagram.{IsBefore, IsDiagram, Skips, SkipsBelow}
use Rattle.pq_store.specs.Store.{IsJoin, IsJoinable}
use Rattle.pq_store.proofs.Joins.{fork_diagram, past_value}
use Rattle.pq_store.proofs.Order.{before_tested}
use Rattle.pq_store.proofs.Past.{past_skips}
use Rattle.pq_store.proofs.Sides.{no_diagram, past_before, past_diagram, past_size, size, yes_diagram}
use Rattle.pq_apply.specs.Split.{IsSplit, root_of}
use Rattle.pq_store.specs.Room.{AreFew, IsAmong, Within}
use Rattle.pq_apply.proofs.Few.{few_fit}

-- no test precedes itself
not_itself : (s : Test) → Precedes s s → ⊥
not_itself s (inl less) = omega arith
not_itself s (inr less) = omega arith

module _ {L : Type 0} where
  -- the test is at the root
  abbrev pub IsRoot : Test → Tree L → Type 0
  IsRoot s t = root_of t ≡ Some s

  -- what is after the numbers at the front of a tree tests only what the tree tests
  rest_tested : (f : Field) (r : Test) (t : Tree L) → IsTested r (rest f t) → IsTested r t
  rest_tested f r (Tip l) tested = tested
  rest_tested f r (Fork (Equal g w) y n) tested = elim (eqb_tells (rank f) (rank g)) [
    | inl same ↦ (let behind : IsTested r (rest f n) = rw same.0 at tested in inr (inr (rest_tested f r n behind)))
    | inr other ↦ rw other.0 at tested
  ]
  rest_tested f r (Fork (Bit g i) y n) tested = tested

  -- past a test a tree tests only what it tests
  past_tested : (s r : Test) (t : Tree L) → IsTested r (past s t) → IsTested r t
  past_tested (Equal f v) r t tested = rest_tested f r t tested
  past_tested (Bit f i) r t tested = tested

  -- what a diagram says of the packets that give this answer to the test, which precedes all that is tested there
  pub record IsSide (answer : Bool) (s : Test) (t side : Tree L) : Type 0 where
    pub diagram : IsDiagram side
    pub tested : (r : Test) → IsTested r side → IsTested r t
    pub before : IsBefore s side
    pub once : answer ≡ true → SkipsBelow s side
    pub gives : (x : Numbers) → passes s x ≡ answer → value side x ≡ value t x
    pub small : size side ≤ size t
    pub smaller : IsRoot s t → size side < size t

  -- a root does not precede itself
  not_root : (s : Test) (t : Tree L) → IsBefore s t → IsRoot s t → ⊥
  not_root s (Tip l) before root = absurd cc
  not_root s (Fork r y n) before root = let same : r ≡ s = cc in not_itself s (subst (Precedes s) same before)

  -- the yes side of a fork is such a side
  fork_yes : (s : Test) (y n : Tree L) → IsDiagram (Fork s y n) → IsSide true s (Fork s y n) y
  fork_yes s y n d = record {
    diagram = yes_diagram s y n d;
    tested = λ r tested. inr (inl tested);
    before = d.ascends.0;
    once = λ _. d.asks_once.0;
    gives = λ x pass. rw pass refl;
    small = omega arith;
    smaller = λ _. omega arith;
  }

  -- and so is the no side
  fork_no : (s : Test) (y n : Tree L) → IsDiagram (Fork s y n) → IsSide false s (Fork s y n) n
  fork_no s y n d = record {
    diagram = no_diagram s y n d;
    tested = λ r tested. inr (inr tested);
    before = d.ascends.1;
    once = λ no. absurd cc;
    gives = λ x fail. rw fail refl;
    small = omega arith;
    smaller = λ _. omega arith;
  }

  -- so is what a later diagram says past the test
  later_yes : (s : Test) (t : Tree L) → IsLawful s → IsDiagram t → IsBefore s t → IsSide true s t (past s t)
  later_yes s t lawful d before = record {
    diagram = past_diagram s t d;
    tested = λ r tested. past_tested s r t tested;
    before = past_before s s t before d;
    once = λ _. past_skips s t lawful before d;
    gives = λ x pass. past_value s t x before d.ascends pass;
    small = past_size s t;
    smaller = λ root. absurd (not_root s t before root);
  }

  -- and the diagram itself
  later_no : (s : Test) (t : Tree L) → IsDiagram t → IsBefore s t → IsSide false s t t
  later_no s t d before = record {
    diagram = d;
    tested = λ r tested. tested;
    before = before;
    once = λ no. absurd cc;
    gives = λ x fail. refl;
    small = omega arith;
    smaller = λ root. absurd (not_root s t before root);
  }

  -- what a diagram splits into first is its side for yes
  pub split_yes : (s : Test) (t y n : Tree L) → IsLawful s → IsDiagram t → IsSplit s t y n → IsSide true s t y
  split_yes s t y n lawful d (inl is) = subst (λ u. IsSide true s u y) (sym is) (fork_yes s y n (subst IsDiagram is d))
  split_yes s t y n lawful d (inr later) = subst (IsSide true s t) (sym later.1) (later_yes s t lawful d later.0)

  -- and second that for no
  pub split_no : (s : Test) (t y n : Tree L) → IsDiagram t → IsSplit s t y n → IsSide false s t n
  split_no s t y n d (inl is) = subst (λ u. IsSide false s u n) (sym is) (fork_no s y n (subst IsDiagram is d))
  split_no s t y n d (inr later) = subst (IsSide false s t) (sym later.2) (later_no s t d later.0)

  -- a lawful root
  pub root_lawful : (s : Test) (t : Tree L) → IsDiagram t → IsRoot s t → IsLawful s
  root_lawful s (Tip l) d root = absurd cc
  root_lawful s (Fork r y n) d root = let same : r ≡ s = cc in subst IsLawful same d.lawful.0

  -- is tested
  pub root_tested : (s : Test) (t : Tree L) → IsRoot s t → IsTested s t
  root_tested s (Tip l) root = absurd cc
  root_tested s (Fork r y n) root = inl cc

-- the numbers of such tests are among these
abbrev pub HaveNumbers : (Field → List ℕ) → (Test → Type 0) → Type 0
HaveNumbers ns Tested = (f : Field) (v : ℕ) → Tested (Equal f v) → IsAmong v (ns f)

-- the second test asks no other number of the field of the first
abbrev pub IsOther : Test → Test → Type 0
IsOther (Equal f v) (Equal g w) = rank f ≡ rank g → ⊥
IsOther (Equal f v) (Bit g i) = Unit {0}
IsOther (Bit f i) t = Unit {0}

module _ {L : Type 0} where
  -- a tree that skips a field tests no number of it
  skips_tested : (f : Field) (v : ℕ) (r : Test) (t : Tree L) → Skips f t → IsTested r t → IsOther (Equal f v) r
  skips_tested f v r (Tip l) skips tested = absurd tested
  skips_tested f v r (Fork (Equal g w) y n) skips (inl is) = subst (IsOther (Equal f v)) (sym is) skips.0
  skips_tested f v r (Fork (Equal g w) y n) skips (inr (inl tested)) = skips_tested f v r y skips.1 tested
  skips_tested f v r (Fork (Equal g w) y n) skips (inr (inr tested)) = skips_tested f v r n skips.2 tested
  skips_tested f v r (Fork (Bit g i) y n) skips (inl is) = subst (IsOther (Equal f v)) (sym is) tt
  skips_tested f v r (Fork (Bit g i) y n) skips (inr (inl tested)) = skips_tested f v r y skips.0 tested
  skips_tested f v r (Fork (Bit g i) y n) skips (inr (inr tested)) = skips_tested f v r n skips.1 tested

  -- nor does one that skips what a test asks
  below_tested : (s r : Test) (t : Tree L) → SkipsBelow s t → IsTested r t → IsOther s r
  below_tested (Equal f v) r t skips tested = skips_tested f v r t skips tested
  below_tested (Bit f i) r t skips tested = tt

  -- a tree that tests no number of a field skips it
  tests_skip : (f : Field) (v : ℕ) (t : Tree L) → ((r : Test) → IsTested r t → IsOther (Equal f v) r) → Skips f t
  tests_skip f v (Tip l) others = tt
  tests_skip f v (Fork (Equal g w) y n) others =
      (others (Equal g w) (inl refl), tests_skip f v y (λ r tested. others r (inr (inl tested))), tests_skip f v n (λ r tested. others r (inr (inr tested))))
  tests_skip f v (Fork (Bit g i) y n) others =
      (tests_skip f v y (λ r tested. others r (inr (inl tested))), tests_skip f v n (λ r tested. others r (inr (inr tested))))

  -- so does one whose tests are others
  others_skip : (s : Test) (t : Tree L) → ((r : Test) → IsTested r t → IsOther s r) → SkipsBelow s t
  others_skip (Equal f v) t others = tests_skip f v t others
  others_skip (Bit f i) t others = tt

  -- a test that precedes all that a tree tests precedes its root
  tests_before : (s : Test) (t : Tree L) → ((r : Test) → IsTested r t → Precedes s r) → IsBefore s t
  tests_before s (Tip l) later = tt
  tests_before s (Fork r y n) later = later r (inl refl)

  -- what a side tests, the test precedes
  pub side_later : (answer : Bool) (s r : Test) (t side : Tree L) → IsSide answer s t side → IsTested r side → Precedes s r
  side_later answer s r t side is tested = before_tested s r side is.before is.diagram.ascends tested

  -- and below yes it is no other number of the field
  pub side_other : (s r : Test) (t side : Tree L) → IsSide true s t side → IsTested r side → IsOther s r
  side_other s r t side is tested = below_tested s r side (is.once refl) tested

  -- a test and two diagrams that are to be its sides, with the tests that they may have
  pub record AreSides (Tested : Test → Type 0) (s : Test) (y n : Tree L) : Type 0 where
    pub lawful : IsLawful s
    pub own : Tested s
    pub yes_diagram : IsDiagram y
    pub no_diagram : IsDiagram n
    pub yes_tested : (r : Test) → IsTested r y → Tested r × Precedes s r × IsOther s r
    pub no_tested : (r : Test) → IsTested r n → Tested r × Precedes s r

  -- where the numbers of all tests are few they may be sides
  pub joinable : (Tested : Test → Type 0) (ns : Field → List ℕ) (s : Test) (y n : Tree L) → AreFew ns → HaveNumbers ns Tested
      → AreSides Tested s y n → IsJoinable s y n
  joinable Tested ns s y n few among are =
      let before_y : IsBefore s y = tests_before s y (λ r tested. (are.yes_tested r tested).1) in
      let before_n : IsBefore s n = tests_before s n (λ r tested. (are.no_tested r tested).1) in
      record {
        lawful = are.lawful;
        before_yes = before_y;
        before_no = before_n;
        once = others_skip s y (λ r tested. (are.yes_tested r tested).2);
        fits = few_fit ns (Fork s y n) few within (are.lawful, are.yes_diagram.lawful, are.no_diagram.lawful) (
          before_y,
          before_n,
          are.yes_diagram.ascends,
          are.no_diagram.ascends,
        );
      }
    where
      within : Within ns (Fork s y n)
      within f v (inl is) = among f v (subst Tested (sym is) are.own)
      within f v (inr (inl tested)) = among f v (are.yes_tested (Equal f v) tested).0
      within f v (inr (inr tested)) = among f v (are.no_tested (Equal f v) tested).0

  -- what a test with sides is: a diagram with the value of both, and no other tests
  pub record IsJoined (Tested : Test → Type 0) (s : Test) (y n joined : Tree L) : Type 0 where
    pub diagram : IsDiagram joined
    pub tested : (r : Test) → IsTested r joined → Tested r
    pub gives_yes : (x : Numbers) → passes s x ≡ true → value joined x ≡ value y x
    pub gives_no : (x : Numbers) → passes s x ≡ false → value joined x ≡ value n x

  -- so is what `node` makes of them
  pub joined_is : (Tested : Test → Type 0) (s : Test) (y n joined : Tree L) → IsJoinable s y n → AreSides Tested s y n → IsJoin s y n joined
      → IsJoined Tested s y n joined
  joined_is Tested s y n joined may are (inl equal) = subst (IsJoined Tested s y n) (sym equal.1) (record {
    diagram = are.no_diagram;
    tested = λ r tested. (are.no_tested r tested).0;
    gives_yes = λ x pass. sym (past_value s n x may.before_no are.no_diagram.ascends pass) ∙ ap (λ t. value t x) (sym equal.0);
    gives_no = λ x fail. refl;
  })
  joined_is Tested s y n joined may are (inr differ) = subst (IsJoined Tested s y n) (sym differ.1) (record {
    diagram = fork_diagram s y n may are.yes_diagram are.no_diagram differ.0;
    tested = tested;
    gives_yes = λ x pass. rw pass refl;
    gives_no = λ x fail. rw fail refl;
  })
    where
      tested : (r : Test) → IsTested r (Fork s y n) → Tested r
      tested r (inl is) = subst Tested (sym is) are.own
      tested r (inr (inl in_yes)) = (are.yes_tested r in_yes).0
      tested r (inr (inr in_no)) = (are.no_tested r in_no).0
