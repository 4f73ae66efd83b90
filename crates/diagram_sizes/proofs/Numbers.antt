-- The numbers of disjunctions are few, and each test names only those.
use Rattle.std.proofs.Common.{ℕ, ◌+◌, ◌-◌, ◌/◌, ◌^◌, ◌<◌, ◌≤◌, ◌≡◌, List, [], length, refl, sym, ap, subst, inl, inr, arith}
use Rattle.std.proofs.lemmas.Bool.Decides.{eqb_tells}
use Rattle.std.proofs.lemmas.List.FromFn.{length-range_with_len, get_or-range_with_len}
use Rattle.pq_fields.specs.declared.field.Field.{Field}
use Rattle.pq_fields.specs.declared.field.Field.TheVariants.{EthType, IpProto}
use Rattle.pq_fields.specs.Packet.{rank, width_of}
use Rattle.pq_fields.specs.Pred.{PredTree}
use Rattle.pq_store.proofs.Order.{rank_injective}
use Rattle.pq_store.specs.Room.{AreFew, IsAmong}
use Rattle.pq_apply.specs.Predicates.{FitsAsNode, NeedsAmong, protocols_before, types_before}
use Rattle.pq_store.proofs.RoomLemmas.{roomy}
use Rattle.diagram_sizes.specs.declared.disjunctions.Tested.{Tested}
use Rattle.diagram_sizes.specs.declared.disjunctions.Tested.TheVariants.{Numbers, Networks}
use Rattle.diagram_sizes.specs.Disjunctions.{NamesOnly, IsTestable, numbers_of, prerequisites}

-- the numbers in prerequisites are few
few_prerequisites : AreFew (λ f. prerequisites)
few_prerequisites f whole = omega (arith, roomy f)

-- so are those of a disjunction
few_numbers : (tested : Tested) (count : ℕ) → IsTestable tested count → AreFew (numbers_of tested count)
few_numbers (Numbers tested) count testable f whole = elim (eqb_tells (rank f) (rank tested)) [
  | inl same ↦
      let field : f ≡ tested = rank_injective f tested same.1 in
      let few : count ≤ 2 ^ width_of f / 2 - 1 = subst (λ g. count ≤ 2 ^ width_of g / 2 - 1) (sym field) testable.0 in
      rw same.0 (omega (arith, length-range_with_len 1 count, few))
  | inr other ↦ rw other.0 (few_prerequisites f whole)
]
few_numbers Networks count testable f whole = few_prerequisites f whole

-- the number at a place is one of them
pub number_among : (tested : Field) (count place : ℕ) → place < count → IsAmong (place + 1) (numbers_of (Numbers tested) count tested)
number_among tested count place within = elim (eqb_tells (rank tested) (rank tested)) [
  | inl same ↦ rw same.0 (
    place,
    place + 1,
    omega (arith, length-range_with_len 1 count),
    omega (arith, get_or-range_with_len 1 count place (place + 1) within),
    refl,
  )
  | inr other ↦ absurd (other.1 refl)
]

-- none are among any
none_among : (v : ℕ) (xs ns : List ℕ) → xs ≡ [] → IsAmong v xs → IsAmong v ns
none_among v xs ns none (k, n, within, at, is) = absurd (omega (arith, within, ap length none))

-- a field without prerequisites needs no numbers
pub needs_none : (ns : Field → List ℕ) (f : Field) → types_before f ≡ [] → protocols_before f ≡ [] → NeedsAmong ns f
needs_none ns f types protocols = record {
  types = λ v among. none_among v (types_before f) (ns EthType) types among;
  protocols = λ v among. none_among v (protocols_before f) (ns IpProto) protocols among;
}

-- so a predicate with only these has a diagram
pub numbers_fit : (tested : Tested) (count : ℕ) (p : PredTree) → IsTestable tested count → NamesOnly (numbers_of tested count) p → FitsAsNode p
numbers_fit tested count p testable among = record { numbers = numbers_of tested count; few = few_numbers tested count testable; within = among.within }
