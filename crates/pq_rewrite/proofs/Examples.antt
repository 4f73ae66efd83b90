-- Examples may be written first, joined, and put in sequence.
use Rattle.std.proofs.Common.{ℕ, ◌≡◌, ◌⊎◌, Bool, List, true, inl, inr, sym, subst}
use Rattle.std.specs.Prelude.{◌==◌, Some, slice_get}
use Rattle.std.specs.List.{list_any}
use Rattle.pq_fields.specs.declared.field.Field.{Field}
use Rattle.pq_fields.specs.Writes.{Written}
use Rattle.pq_store.specs.declared.test.Test.TheVariants.{Equal}
use Rattle.pq_store.specs.Store.{HasAt, Keeps}
use Rattle.pq_store.specs.Tree.{Tree}
use Rattle.pq_store.specs.Tree.Tree.{Tip}
use Rattle.pq_store.specs.Room.{IsAmong, IsCounted, Within}
use Rattle.pq_store.proofs.RoomLemmas.{tip_within}
use Rattle.pq_apply.specs.Examples.{IsExampleAt, example_numbers}
use Rattle.pq_apply.specs.Predicates.{NeedsAmong}
use Rattle.pq_apply.specs.Product.{FitTogetherAt}
use Rattle.pq_apply.proofs.Examples.{examples_few, found_among, needs_known}
use Rattle.pq_rewrite.specs.Calls.{FitInSequenceAt, FitsAfterAt, IsIdleFreeAt, IsKeeping, IsSequence, IsUnion, IsWriting, KeepsWhereAt, SequencesAt, UnitesAt}
use Rattle.pq_rewrite.specs.Examples.{IsExampleRewriting, IsExampleRewritingAt, KeepsExamples}
use Rattle.pq_rewrite.specs.Rewriting.{IsToWrite}
use Rattle.pq_rewrite.proofs.Standing.{has_still, has_there}
use Rattle.pq_rewrite.proofs.Turns.{giving_idle_free, union_within}

-- the diagram of an example fits what is written first
pub example_after : (w : Written) (ts : List (Tree Bool)) (id : ℕ) → IsExampleAt ts id → FitsAfterAt w ts id
example_after w ts id (u, is, within) t t_is =
    let same : u ≡ t = cc in
    let ns : Field → List ℕ = λ f. example_numbers in
    record { numbers = ns; few = examples_few; within = (subst (Within ns) same within, λ f n written. needs_known f) }

-- and so does a leaf
pub leaf_after : {M : Type 0} (w : Written) (ts : List (Tree M)) (k : ℕ) (l : M) → slice_get ts k ≡ Some (Tip l) → FitsAfterAt w ts k
leaf_after w ts k l is t t_is =
    let same : Tip l ≡ t = cc in
    let ns : Field → List ℕ = λ f. example_numbers in
    record { numbers = ns; few = examples_few; within = (subst (Within ns) same (tip_within ns l), λ f n written. needs_known f) }

-- a diagram that writes a number of examples is an example
pub writing_example : (f : Field) (n : ℕ) (ts : List (Tree (List Written))) (id : ℕ) → list_any (λ m. n == m) example_numbers ≡ true
    → HasAt (IsWriting f n) ts id → IsExampleRewritingAt ts id
writing_example f n ts id known (t, is, writing) = (
  t,
  is,
  record {
    idle_free = giving_idle_free _ t writing.giving;
    covers = record { tests = writing.tests (λ g. example_numbers) (λ whole. among) (needs_known f); writes = writes };
  },
)
  where
    among : IsAmong n example_numbers
    among = found_among n example_numbers known

    writes : (g : Field) (m : ℕ) → IsToWrite g m t → IsCounted (λ h. example_numbers) g m × NeedsAmong (λ h. example_numbers) g
    writes g m written = (λ whole. subst (λ k. IsAmong k example_numbers) (sym (writing.writes g m written).1) among, needs_known g)

-- so is one that keeps packets by an example
pub keeping_example : (cs : List (Tree Bool)) (k : ℕ) (ts : List (Tree (List Written))) (id : ℕ) → IsExampleAt cs k
    → KeepsWhereAt cs k ts id → IsExampleRewritingAt ts id
keeping_example cs k ts id (c, c_is, within) keeps = by (keeps c c_is)
  where
    by : HasAt (IsKeeping c) ts id → IsExampleRewritingAt ts id
    by (t, is, keeping) = (
      t,
      is,
      record {
        idle_free = giving_idle_free _ t keeping.giving;
        covers = record { tests = λ f v tested. within f v (keeping.tests (Equal f v) tested); writes = λ f n written. absurd (keeping.writes f n written) };
      },
    )

module _ (ts : List (Tree (List Written))) (i j : ℕ) (first : IsExampleRewritingAt ts i) (second : IsExampleRewritingAt ts j) where
  -- two examples may come together
  pub examples_fit : FitTogetherAt ts i ts j
  examples_fit t u t_is u_is =
      let left = has_there IsExampleRewriting ts i t first t_is in
      let right = has_there IsExampleRewriting ts j u second u_is in
      record { numbers = λ f. example_numbers; few = examples_few; within = (left.covers.tests, right.covers.tests) }

  -- and be put in sequence
  pub examples_in_sequence : FitInSequenceAt ts i j
  examples_in_sequence t u t_is u_is =
      let left = has_there IsExampleRewriting ts i t first t_is in
      let right = has_there IsExampleRewriting ts j u second u_is in
      record { numbers = λ f. example_numbers; few = examples_few; within = (left.covers, right.covers) }

  -- what one of them writes is covered
  either_covered : (f : Field) (n : ℕ) → IsToWrite f n first.0 ⊎ IsToWrite f n second.0
      → IsCounted (λ g. example_numbers) f n × NeedsAmong (λ g. example_numbers) f
  either_covered f n (inl left) = first.2.covers.writes f n left
  either_covered f n (inr right) = second.2.covers.writes f n right

  -- their union is an example
  pub union_example : (new : List (Tree (List Written))) (id : ℕ) → UnitesAt ts i j new id → IsExampleRewritingAt new id
  union_example new id unites = by (unites first.0 second.0 first.1 second.1)
    where
      by : HasAt (IsUnion first.0 second.0) new id → IsExampleRewritingAt new id
      by (r, is, union) = (
        r,
        is,
        record {
          idle_free = giving_idle_free _ r union.giving;
          covers = record {
            tests = union_within (λ f. example_numbers) first.0 second.0 r first.2.covers.tests second.2.covers.tests union;
            writes = λ f n written. either_covered f n (union.writes f n written);
          };
        },
      )

  -- and so is their sequence
  pub sequence_example : (new : List (Tree (List Written))) (id : ℕ) → SequencesAt ts i j new id → IsExampleRewritingAt new id
  sequence_example new id sequences = by (sequences first.0 second.0 first.1 second.1)
    where
      by : HasAt (IsSequence first.0 second.0) new id → IsExampleRewritingAt new id
      by (r, is, sequence) = (
        r,
        is,
        record {
          idle_free = giving_idle_free _ r sequence.giving;
          covers = record {
            tests = sequence.tests (λ f. example_numbers) first.2.covers second.2.covers;
            writes = λ f n written. either_covered f n (sequence.writes f n written);
          };
        },
      )

-- examples are idle-free
pub example_idle_free : (ts : List (Tree (List Written))) (k : ℕ) → IsExampleRewritingAt ts k → IsIdleFreeAt ts k
example_idle_free ts k example t t_is = (has_there IsExampleRewriting ts k t example t_is).idle_free

-- they stay at their places
pub examples_still : (old new : List (Tree (List Written))) → Keeps old new → KeepsExamples old new
examples_still old new keeps k = has_still IsExampleRewriting old new k keeps
