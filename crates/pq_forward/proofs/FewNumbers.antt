-- The numbers that trees of a topology test are few.
use Rattle.pq_store.specs.Room.{AreFew}
use Rattle.std.proofs.Common.{ℕ, ◌-◌, ◌/◌, ◌^◌, ◌≤◌, List, [], length, ◌==◌, if◌then◌else◌, inl, inr, sym, subst, arith}
use Rattle.std.proofs.lemmas.Bool.Decides.{eqb_tells}
use Rattle.pq_fields.specs.declared.field.Field.{Field}
use Rattle.pq_fields.specs.declared.field.Field.TheVariants.{Switch, Port}
use Rattle.pq_fields.specs.Packet.{rank, width_of}
use Rattle.pq_store.proofs.Order.{rank_injective}

-- the numbers of switches, and those of ports
abbrev pub numbers_of : List ℕ → List ℕ → Field → List ℕ
numbers_of ds ps f = if rank f == 0 then ds else if rank f == 1 then ps else []

-- they are few, where there are no more of them than a topology may have
pub numbers_few : (ds ps : List ℕ) → length ds ≤ 256 → length ps ≤ 4096 → AreFew (numbers_of ds ps)
numbers_few ds ps few_switches few_ports f whole = elim (eqb_tells (rank f) 0) [
  | inl switch ↦ rw switch.0 (subst (λ g. length ds ≤ 2 ^ width_of g / 2 - 1) (sym (rank_injective f Switch switch.1)) (omega (arith, few_switches)))
  | inr other ↦ elim (eqb_tells (rank f) 1) [
    | inl port ↦ rw (other.0, port.0) (subst (λ g. length ps ≤ 2 ^ width_of g / 2 - 1) (sym (rank_injective f Port port.1)) (omega (arith, few_ports)))
    | inr none ↦ rw (other.0, none.0) (omega arith)
  ]
]
