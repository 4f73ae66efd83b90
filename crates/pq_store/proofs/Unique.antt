-- Two diagrams that say the same at every point are one tree.
use Rattle.std.proofs.Common.{◌≡◌, ℕ, zero, suc, ◌+◌, ◌<◌, Bool, true, false, [], refl, sym, ◌∙◌, ap, ap₂, subst, inl, inr, pow_pos, arith}
use Rattle.std.specs.Prelude.{if◌then◌else◌}
use Rattle.pq_fields.specs.Packet.{width_of}
use Rattle.pq_store.specs.declared.test.Test.{Test}
use Rattle.pq_store.specs.Test.{IsLawful}
use Rattle.pq_store.specs.Tree.{Tree, past}
use Rattle.pq_store.specs.Tree.Tree.{Tip, Fork}
use Rattle.pq_store.specs.Diagram.{IsBefore, IsDiagram}
use Rattle.pq_store.proofs.Point.{Point, answer, leaf_at, InRange}
use Rattle.pq_store.proofs.Order.{compared}
use Rattle.pq_store.proofs.Points.{AreAlike, IsTurned, no_point, yes_point, yes_turns, says_same}
use Rattle.pq_store.proofs.Sides.{size, yes_diagram, no_diagram, past_diagram, past_before, past_size}
use Rattle.pq_store.proofs.Past.{hit, past_skips, room, free_number, Misses, miss}

-- the trees say the same at every point in range
abbrev pub Agree : {L : Type 0} → Tree L → Tree L → Type 0
Agree t u = (p : Point) → InRange p → leaf_at t p ≡ leaf_at u p

-- trees of fewer tests than this that agree are one
abbrev AreOneBelow : Type 0 → ℕ → Type 0
AreOneBelow L k = (t u : Tree L) → size t + size u < k → IsDiagram t → IsDiagram u → Agree t u → t ≡ u

-- the point whose numbers are 0
abbrev pub zero_point : Point
zero_point = record { number = λ f. 0; bit = λ f i. false }

-- it is in range
pub zero_in_range : InRange zero_point
zero_in_range f number = pow_pos (width_of f)

module _ {L : Type 0} where
  -- a point's answer leads to a side
  pub side : (s : Test) (y n : Tree L) (p : Point) (b : Bool) → answer s p ≡ b → leaf_at (Fork s y n) p ≡ (if b then leaf_at y p else leaf_at n p)
  side s y n p b is = ap (λ c. if c then leaf_at y p else leaf_at n p) is

  -- past a test that precedes it, a diagram says the same at points that are alike but for the test
  pub past_same : (s : Test) (t : Tree L) (p q : Point) → AreAlike s p q → IsLawful s → IsBefore s t → IsDiagram t → leaf_at (past s t) p ≡ leaf_at (past s t) q
  past_same s t p q alike lawful first d =
      says_same s (past s t) p q alike (past_before s s t first d) (past_diagram s t d).ascends (past_skips s t lawful first d)

  -- the yes side says what the whole says where the answer is yes
  pub yes_same : (s : Test) (y n : Tree L) (p q : Point) → IsDiagram (Fork s y n) → IsTurned s true p q → leaf_at y p ≡ leaf_at (Fork s y n) q
  yes_same s y n p q d turned = says_same s y p q turned.alike d.ascends.0 d.ascends.2 d.asks_once.0 ∙ sym (side s y n q true turned.answers)

  -- the sides of a fork that agrees with a diagram after its test agree past it
  alone_sides : (s : Test) (y n u : Tree L) → IsDiagram (Fork s y n) → IsDiagram u → IsBefore s u → Agree (Fork s y n) u → Agree y (past s n)
  alone_sides s y n u d e first agree p range =
      let lawful = d.lawful.0 in
      let q : Point = yes_point s p in
      let turned : IsTurned s true p q = yes_turns s p lawful range in
      let free = free_number s n u [] (room s y n u d.fits e.fits) in
      let r : Point = no_point s free.0 p in
      let m : Misses s n u p r = miss s n u free.0 p free.1 range in
      yes_same s y n p q d turned
      ∙ agree q turned.in_range
      ∙ hit s u q turned.answers first e.ascends
      ∙ sym (past_same s u p q turned.alike lawful first e)
      ∙ past_same s u p r m.turned.alike lawful first e
      ∙ sym m.right
      ∙ sym (agree r m.turned.in_range)
      ∙ side s y n r false m.turned.answers
      ∙ m.left
      ∙ sym (past_same s n p r m.turned.alike lawful d.ascends.1 (no_diagram s y n d))

  -- the yes sides of forks of one test that agree
  yes_sides : (s : Test) (y n z m : Tree L) → IsDiagram (Fork s y n) → IsDiagram (Fork s z m) → Agree (Fork s y n) (Fork s z m) → Agree y z
  yes_sides s y n z m d e agree p range =
      let q : Point = yes_point s p in
      let turned : IsTurned s true p q = yes_turns s p d.lawful.0 range in
      yes_same s y n p q d turned ∙ agree q turned.in_range ∙ sym (yes_same s z m p q e turned)

  -- the no sides of forks of one test agree where the answer is no
  no_where : (s : Test) (y n z m : Tree L) (p : Point) → answer s p ≡ false → leaf_at (Fork s y n) p ≡ leaf_at (Fork s z m) p → leaf_at n p ≡ leaf_at m p
  no_where s y n z m p is same = sym (side s y n p false is) ∙ same ∙ side s z m p false is

  -- their no sides
  no_sides : (s : Test) (y n z m : Tree L) → IsDiagram (Fork s y n) → IsDiagram (Fork s z m) → Agree (Fork s y n) (Fork s z m) → Agree n m
  no_sides s y n z m d e agree p range = by (answer s p) refl
    where
      by : (b : Bool) → answer s p ≡ b → leaf_at n p ≡ leaf_at m p
      by false is = no_where s y n z m p is (agree p range)
      by true is =
          let lawful = d.lawful.0 in
          let own = no_diagram s y n d in
          let other = no_diagram s z m e in
          let free = free_number s n m [] (room s y n m d.fits other.fits) in
          let r : Point = no_point s free.0 p in
          let missed : Misses s n m p r = miss s n m free.0 p free.1 range in
          hit s n p is d.ascends.1 own.ascends
          ∙ past_same s n p r missed.turned.alike lawful d.ascends.1 own
          ∙ sym missed.left
          ∙ no_where s y n z m r missed.turned.answers (agree r missed.turned.in_range)
          ∙ missed.right
          ∙ sym (past_same s m p r missed.turned.alike lawful e.ascends.1 other)
          ∙ sym (hit s m p is e.ascends.1 other.ascends)

  -- no fork agrees with a diagram after its test
  none_alone : (k : ℕ) → AreOneBelow L k → (s : Test) (y n u : Tree L) → size (Fork s y n) + size u < suc k → IsDiagram (Fork s y n)
      → IsDiagram u → IsBefore s u → Agree (Fork s y n) u → ⊥
  none_alone k one s y n u small d e first agree =
      let own = no_diagram s y n d in
      d.reduced.0 (one y (past s n) (omega (arith, past_size s n)) (yes_diagram s y n d) (past_diagram s n own) (alone_sides s y n u d e first agree))

  -- forks of one test that agree are one
  same_fork : (k : ℕ) → AreOneBelow L k → (s : Test) (y n z m : Tree L) → size (Fork s y n) + size (Fork s z m) < suc k
      → IsDiagram (Fork s y n) → IsDiagram (Fork s z m) → Agree (Fork s y n) (Fork s z m) → Fork s y n ≡ Fork s z m
  same_fork k one s y n z m small d e agree =
      ap₂ (Fork s)
      (one y z (omega arith) (yes_diagram s y n d) (yes_diagram s z m e) (yes_sides s y n z m d e agree))
      (one n m (omega arith) (no_diagram s y n d) (no_diagram s z m e) (no_sides s y n z m d e agree))

  -- forks of equal tests that agree are one
  same_root : (k : ℕ) → AreOneBelow L k → (s t : Test) → s ≡ t → (y n z m : Tree L) → size (Fork s y n) + size (Fork t z m) < suc k
      → IsDiagram (Fork s y n) → IsDiagram (Fork t z m) → Agree (Fork s y n) (Fork t z m) → Fork s y n ≡ Fork t z m
  same_root k one s t is y n z m = subst (λ r. size (Fork s y n) + size (Fork r z m) < suc k → IsDiagram (Fork s y n)
      → IsDiagram (Fork r z m) → Agree (Fork s y n) (Fork r z m) → Fork s y n ≡ Fork r z m) is (same_fork k one s y n z m)

  same_below : (k : ℕ) → AreOneBelow L k
  same_below zero t u small d e agree = absurd (omega arith)
  same_below (suc k) (Tip l) (Tip m) small d e agree = ap Tip (agree zero_point zero_in_range)
  same_below (suc k) (Fork s y n) (Tip m) small d e agree = absurd (none_alone k (same_below k) s y n (Tip m) small d e tt agree)
  same_below (suc k) (Tip l) (Fork t z m) small d e agree =
      absurd (none_alone k (same_below k) t z m (Tip l) (omega arith) e d tt (λ p range. sym (agree p range)))
  same_below (suc k) (Fork s y n) (Fork t z m) small d e agree = elim (compared s t d.lawful.0 e.lawful.0) [
    | inl first ↦ absurd (none_alone k (same_below k) s y n (Fork t z m) small d e first agree)
    | inr other ↦ elim other [
      | inl is ↦ same_root k (same_below k) s t is y n z m small d e agree
      | inr last ↦ absurd (none_alone k (same_below k) t z m (Fork s y n) (omega arith) e d last (λ p range. sym (agree p range)))
    ]
  ]

  -- two diagrams that say the same at every point in range are one tree
  pub same_tree : (t u : Tree L) → IsDiagram t → IsDiagram u → ((p : Point) → InRange p → leaf_at t p ≡ leaf_at u p) → t ≡ u
  same_tree t u d e agree = same_below (suc (size t + size u)) t u (omega arith) d e agree
