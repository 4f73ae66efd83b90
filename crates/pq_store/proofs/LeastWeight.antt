-- What a search has left to do under a node: its measure.
use Rattle.std.proofs.Common.{ℕ, ◌+◌, ◌*◌, ◌<◌, ◌≤◌, inl, inr, if◌then◌else◌, Option, Some, None, arith}
use Rattle.std.proofs.lemmas.Bool.{cases_Bool}
use Rattle.std.proofs.lemmas.Bool.Decides.{eqb_tells}
use Rattle.pq_fields.specs.declared.field.Field.{Field}
use Rattle.pq_fields.specs.Packet.{rank}
use Rattle.pq_store.specs.declared.test.Test.TheVariants.{Equal, Bit}
use Rattle.pq_store.specs.Tree.{Tree, rest}
use Rattle.pq_store.specs.Tree.Tree.{Tip, Fork}
use Rattle.pq_store.specs.Search.{begins}

-- how many forks and leaves
abbrev pub size : {L : Type 0} → Tree L → ℕ
size (Tip l) = 1
size (Fork t y n) = size y + size n + 1

module _ {L : Type 0} where
  -- of a visit
  abbrev pub visit_weight : Option (Tree L) → ℕ
  visit_weight None = 0
  visit_weight (Some t) = 2 * size t + 1

  -- of a visit whose numbers of a field go on: less than a visit where it is one of these numbers, and else more
  abbrev pub from_weight : Field → Tree L → ℕ
  from_weight f t = if begins f t then 2 * size t else 2 * size t + 2

  abbrev pub visit_from_weight : Field → Option (Tree L) → ℕ
  visit_from_weight f None = 0
  visit_from_weight f (Some t) = from_weight f t

  -- each tree has a leaf
  pub size_some : (t : Tree L) → 0 < size t
  size_some (Tip l) = omega arith
  size_some (Fork s y n) = omega arith

  -- it is at most two more than twice the size
  pub from_most : (f : Field) (t : Tree L) → from_weight f t ≤ 2 * size t + 2
  from_most f t = elim (cases_Bool (begins f t)) [ inl h ↦ rw h (omega arith) | inr h ↦ rw h (omega arith) ]

  -- what is after a field's numbers is no greater
  pub size_rest : (f : Field) (t : Tree L) → size (rest f t) ≤ size t
  size_rest f (Tip l) = omega arith
  size_rest f (Fork (Equal g v) y n) = elim (eqb_tells (rank f) (rank g)) [
    | inl e ↦ rw e.0 (omega (arith, size_rest f n))
    | inr e ↦ rw e.0 (omega arith)
  ]
  size_rest f (Fork (Bit g j) y n) = omega arith
