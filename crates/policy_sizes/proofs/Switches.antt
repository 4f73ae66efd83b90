-- A switch with many ports keeps the rules, and broadcasts there have a diagram.
use Rattle.std.proofs.Common.{ℕ, zero, suc, ◌-◌, ◌/◌, ◌^◌, ◌<◌, ◌≤◌, ◌≡◌, ◌==◌, List, [], ◌∷◌, if◌then◌else◌, length, length-append}
use Rattle.std.proofs.Common.{refl, inl, inr, sym, ap, subst, arith}
use Rattle.std.specs.Prelude.{◌≢◌, All}
use Rattle.std.specs.List.{IsDistinct}
use Rattle.std.proofs.lemmas.Bool.Decides.{eqb_tells}
use Rattle.std.proofs.lemmas.List.Elements.{All-append, All-cons, All-contains_itself, All-nil, All-weaker}
use Rattle.pq_fields.specs.declared.field.Field.{Field}
use Rattle.pq_fields.specs.declared.field.Field.TheVariants.{EthDst, Port, Switch as SwitchField}
use Rattle.pq_fields.specs.Packet.{rank, width_of}
use Rattle.pq_model.specs.Install.{IsLawfulLink, IsLawfulSwitch}
use Rattle.pq_model.specs.Lawful.{Ascends}
use Rattle.pq_model.specs.MatchFields.{IsPortNumber}
use Rattle.pq_model.specs.Topology.{Switch}
use Rattle.pq_model.proofs.Ascending.{ascend_push}
use Rattle.pq_topo.specs.Named.{IsNamedTopology}
use Rattle.pq_policy.specs.Policy.{IsLawfulPolicy}
use Rattle.pq_store.specs.Room.{AreFew, IsAmong}
use Rattle.pq_store.proofs.Order.{rank_injective}
use Rattle.pq_store.proofs.RoomLemmas.{roomy}
use Rattle.pq_apply.specs.Predicates.{NeedsAmong}
use Rattle.pq_rewrite.proofs.Sets.{any_none}
use Rattle.pq_forward.specs.Forward.{FitAsForward}
use Rattle.policy_sizes.specs.Broadcasts.{broadcast, first_ports, one_switch, switch_of}
use Rattle.policy_sizes.proofs.Operands.{some_are}

-- The topology.

-- there are this many ports
ports_count : (n : ℕ) → length (first_ports n) ≡ n
ports_count zero = refl
ports_count (suc n) = let before = ports_count n in omega (arith, before, length-append (first_ports n) (suc n ∷ []))

-- they are the numbers up to the last
up_to : (n : ℕ) → All (λ p. (1 ≤ p) × (p ≤ n)) (first_ports n)
up_to zero = All-nil (λ p. (1 ≤ p) × (p ≤ 0))
up_to (suc n) =
    All-append (λ p. (1 ≤ p) × (p ≤ suc n)) (first_ports n) (suc n ∷ [])
    (All-weaker (λ p. (1 ≤ p) × (p ≤ n)) (λ p. (1 ≤ p) × (p ≤ suc n)) (λ p both. let most = both.1 in (both.0, omega (arith, most))) (first_ports n) (up_to n))
    (All-cons (λ p. (1 ≤ p) × (p ≤ suc n)) (suc n) [] (omega arith, omega arith) (All-nil (λ p. (1 ≤ p) × (p ≤ suc n))))

-- so the ports ascend
ports_ascend : (n : ℕ) → Ascends (first_ports n)
ports_ascend zero = tt
ports_ascend (suc n) =
    ascend_push (first_ports n) (suc n) (ports_ascend n)
    (All-weaker (λ p. (1 ≤ p) × (p ≤ n)) (λ p. p < suc n) (λ p both. let most = both.1 in omega (arith, most)) (first_ports n) (up_to n))

-- there are some
some_ports : (n : ℕ) → 1 ≤ n → first_ports n ≢ []
some_ports n some none = let count : length (first_ports n) ≡ 0 = ap length none in absurd (omega (arith, some, count, ports_count n))

-- the switch keeps the rules
switch_is_lawful : (n : ℕ) → 1 ≤ n → n ≤ 4096 → IsLawfulSwitch (switch_of n)
switch_is_lawful n some few = (
  omega arith,
  some_ports n some,
  ports_ascend n,
  All-weaker (λ p. (1 ≤ p) × (p ≤ n)) IsPortNumber (λ p both. let most = both.1 in (both.0, omega (arith, most, few))) (first_ports n) (up_to n),
)

-- and so does the topology
pub one_switch_is_named : (n : ℕ) → 1 ≤ n → n ≤ 4096 → IsNamedTopology (one_switch n)
unfolding IsDistinct
one_switch_is_named n some few = record {
  lawful = record {
    few_switches = omega arith;
    few_ports = omega (arith, few, ports_count n);
    switches = All-cons IsLawfulSwitch (switch_of n) [] (switch_is_lawful n some few) (All-nil IsLawfulSwitch);
    ascending = tt;
    links = All-nil (IsLawfulLink (one_switch n));
    linked_once = tt;
    links_ascend = tt;
  };
  names_differ = (tt, tt);
  limits = All-cons (λ (s : Switch). s.limit ≤ 16384) (switch_of n) [] (omega arith) (All-nil (λ (s : Switch). s.limit ≤ 16384));
}

-- The policy.

-- it is lawful
pub broadcast_is_lawful : IsLawfulPolicy broadcast
broadcast_is_lawful = (some_are _ _ _, ((omega arith, tt, tt), tt, (tt, tt, tt)), tt)

-- the numbers of the topology and of the policy: the ports, the datapath number and the address
abbrev numbers : ℕ → Field → List ℕ
numbers n f = if rank f == 1 then first_ports n else 1 ∷ 0xffffffffffff ∷ []

-- they are few
few_numbers : (n : ℕ) → n ≤ 4096 → AreFew (numbers n)
few_numbers n few f whole = elim (eqb_tells (rank f) 1) [
  | inl port ↦ rw port.0 (subst (λ g. length (first_ports n) ≤ 2 ^ width_of g / 2 - 1) (sym (rank_injective f Port port.1)) (omega (arith, few, ports_count n)))
  | inr other ↦ rw other.0 (omega (arith, roomy f))
]

-- each of some numbers is among them
each_among : (ps : List ℕ) → All (λ p. IsAmong p ps) ps
each_among ps k d below = let place = All-contains_itself ps k d below in (place.0, _, place.1, place.2, refl)

-- the address has no prerequisites
needs : (ns : Field → List ℕ) → NeedsAmong ns EthDst
needs ns = record { types = λ v none. absurd (any_none (λ n. v ≡ n) none); protocols = λ v none. absurd (any_none (λ n. v ≡ n) none) }

-- so there is room for them
pub broadcast_fits : (n : ℕ) → n ≤ 4096 → FitAsForward (one_switch n) broadcast
broadcast_fits n few =
    let At : Switch → Type 0 = λ s. IsAmong s.datapath (numbers n SwitchField) × All (λ p. IsAmong p (numbers n Port)) s.ports in
    record {
      numbers = numbers n;
      few = few_numbers n few;
      within = (
        All-cons At (switch_of n) [] ((0, 1, omega arith, refl, refl), each_among (first_ports n)) (All-nil At),
        (tt, ((((λ whole. (1, 0xffffffffffff, omega arith, refl, refl)), needs (numbers n)), tt, tt), tt, (tt, tt, tt)), tt),
      );
    }
