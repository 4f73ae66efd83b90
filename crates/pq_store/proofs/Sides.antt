-- The trees within a diagram are diagrams.
use Rattle.std.proofs.Common.{ℕ, ◌+◌, ◌≤◌, suc, inl, inr, arith}
use Rattle.std.proofs.Math.Nat.{le-max_left, le-max_right}
use Rattle.std.proofs.lemmas.Bool.Decides.{eqb_tells}
use Rattle.pq_fields.specs.declared.field.Field.{Field}
use Rattle.pq_fields.specs.Packet.{rank}
use Rattle.pq_store.specs.declared.test.Test.{Test}
use Rattle.pq_store.specs.declared.test.Test.TheVariants.{Equal, Bit}
use Rattle.pq_store.specs.Tree.{Tree, rest, past}
use Rattle.pq_store.specs.Tree.Tree.{Tip, Fork}
use Rattle.pq_store.specs.Diagram.{most, IsBefore, IsDiagram}
use Rattle.pq_store.proofs.Order.{before_side}

module _ {L : Type 0} where
  -- the number of tests in a tree
  abbrev pub size : Tree L → ℕ
  size (Tip l) = 0
  size (Fork t y n) = suc (size y + size n)

  -- the yes side of a diagram is one
  pub yes_diagram : (t : Test) (y n : Tree L) → IsDiagram (Fork t y n) → IsDiagram y
  yes_diagram t y n d = record {
    lawful = d.lawful.1;
    ascends = d.ascends.2;
    asks_once = d.asks_once.1;
    reduced = d.reduced.1;
    fits = λ f. omega (arith, d.fits f, le-max_left (most f y) (most f n));
  }

  -- the no side of a diagram is one
  pub no_diagram : (t : Test) (y n : Tree L) → IsDiagram (Fork t y n) → IsDiagram n
  no_diagram t y n d = record {
    lawful = d.lawful.2;
    ascends = d.ascends.3;
    asks_once = d.asks_once.2;
    reduced = d.reduced.2;
    fits = λ f. omega (arith, d.fits f, le-max_right (most f y) (most f n));
  }

  -- the tree after the numbers of a field at the front of a diagram is one
  rest_diagram : (f : Field) (t : Tree L) → IsDiagram t → IsDiagram (rest f t)
  rest_diagram f (Tip l) d = d
  rest_diagram f (Fork (Equal g w) y n) d = elim (eqb_tells (rank f) (rank g)) [
    | inl same ↦ rw same.0 (rest_diagram f n (no_diagram (Equal g w) y n d))
    | inr other ↦ rw other.0 d
  ]
  rest_diagram f (Fork (Bit g i) y n) d = d

  -- what a diagram says past a test is a diagram
  pub past_diagram : (s : Test) (t : Tree L) → IsDiagram t → IsDiagram (past s t)
  past_diagram (Equal f v) t d = rest_diagram f t d
  past_diagram (Bit f i) t d = d

  -- what precedes a diagram precedes the tree after the numbers of a field at its front
  rest_before : (s : Test) (f : Field) (t : Tree L) → IsBefore s t → IsDiagram t → IsBefore s (rest f t)
  rest_before s f (Tip l) first d = tt
  rest_before s f (Fork (Equal g w) y n) first d = elim (eqb_tells (rank f) (rank g)) [
    | inl same ↦ rw same.0 (rest_before s f n (before_side s (Equal g w) n first d.ascends.1) (no_diagram (Equal g w) y n d))
    | inr other ↦ rw other.0 first
  ]
  rest_before s f (Fork (Bit g i) y n) first d = first

  -- what precedes a diagram precedes what it says past a test
  pub past_before : (s r : Test) (t : Tree L) → IsBefore s t → IsDiagram t → IsBefore s (past r t)
  past_before s (Equal f v) t first d = rest_before s f t first d
  past_before s (Bit f i) t first d = first

  -- after the numbers of a field at its front a tree is no larger
  rest_size : (f : Field) (t : Tree L) → size (rest f t) ≤ size t
  rest_size f (Tip l) = omega arith
  rest_size f (Fork (Equal g w) y n) = elim (eqb_tells (rank f) (rank g)) [
    | inl same ↦ let less = rest_size f n in rw same.0 (omega arith)
    | inr other ↦ rw other.0 (omega arith)
  ]
  rest_size f (Fork (Bit g i) y n) = omega arith

  -- past a test a tree is no larger
  pub past_size : (s : Test) (t : Tree L) → size (past s t) ≤ size t
  past_size (Equal f v) t = rest_size f t
  past_size (Bit f i) t = omega arith
