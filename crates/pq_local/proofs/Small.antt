-- Networks none of whose tables is too large.
use Rattle.std.proofs.Common.{◌≡◌, ℕ, Bool, true, false, if◌then◌else◌, nat_lt, List, [], ◌∷◌, inr, refl, sym, ap₂, subst}
use Rattle.std.specs.declared.option.Option.{Option}
use Rattle.std.specs.declared.option.Option.TheVariants.{None, Some}
use Rattle.std.specs.Option.{option_map, option_or}
use Rattle.std.proofs.lemmas.Option.{none-some}
use Rattle.pq_model.specs.Topology.{Switch, Topology}
use Rattle.pq_layout.specs.Leaves.{Departures}
use Rattle.pq_layout.specs.Messages.{leaving_entries}
use Rattle.pq_layout.specs.Tagging.{Tagging}
use Rattle.pq_rules.specs.declared.fault.RulesFault.{RulesFault}
use Rattle.pq_rules.specs.declared.fault.RulesFault.TheVariants.{TableFull, GroupFull, Memory}
use Rattle.pq_rules.specs.Counts.{capped}
use Rattle.pq_rules.specs.Refusals.{arriving_count, leaving_count, many_copies}
use Rattle.pq_emit.specs.Faults.{HasNoFault, fault_of, first_fault, full_table, group_fault, table_fault}
use Rattle.pq_emit.specs.Switches.{AreAllTrees, TablesTrees}
use Rattle.pq_emit.proofs.Concluded.{fault_told}

-- The fault of trees is never running out of memory.

abbrev IsNamed : Option RulesFault → Type 0
IsNamed None = Unit {0}
IsNamed (Some (TableFull switch table entries)) = Unit {0}
IsNamed (Some (GroupFull switch copies)) = Unit {0}
IsNamed (Some Memory) = ⊥

or_named : (a b : Option RulesFault) → IsNamed a → IsNamed b → IsNamed (option_or a b)
or_named None b left right = right
or_named (Some f) b left right = left

full_named : (d limit k n : ℕ) → IsNamed (full_table d limit k n)
full_named d limit k n = by (nat_lt limit n)
  where
    by : (b : Bool) → IsNamed (if b then Some (TableFull d k (capped n)) else None)
    by true = tt
    by false = tt

table_named : (s : Switch) (t : TablesTrees) → IsNamed (table_fault s t)
table_named s t =
    or_named (full_table s.datapath s.limit 0 (arriving_count t.first)) (full_table s.datapath s.limit 1 (leaving_count t.second))
    (full_named s.datapath s.limit 0 (arriving_count t.first)) (full_named s.datapath s.limit 1 (leaving_count t.second))

group_named : (s : Switch) (t : TablesTrees) → IsNamed (group_fault s t)
group_named s t = by (many_copies (leaving_entries t.second))
  where
    by : (o : Option ℕ) → IsNamed (option_map (GroupFull s.datapath) o)
    by None = tt
    by (Some n) = tt

first_named : (fault : Switch → TablesTrees → Option RulesFault) → ((s : Switch) (t : TablesTrees) → IsNamed (fault s t))
    → (ss : List Switch) (ts : List TablesTrees) → IsNamed (first_fault fault ss ts)
first_named fault named [] ts = tt
first_named fault named (s ∷ ss) [] = tt
first_named fault named (s ∷ ss) (t ∷ ts) = or_named (fault s t) (first_fault fault ss ts) (named s t) (first_named fault named ss ts)

fault_named : (ss : List Switch) (ts : List TablesTrees) → IsNamed (fault_of ss ts)
fault_named ss ts = or_named (first_fault table_fault ss ts) (first_fault group_fault ss ts) (first_named table_fault table_named ss ts)
    (first_named group_fault group_named ss ts)

none_left : (o : Option RulesFault) → IsNamed o → ((f : RulesFault) → o ≡ Some f → f ≡ Memory) → o ≡ None
none_left None named all = refl
none_left (Some f) named all = absurd (subst (λ e. IsNamed (Some e)) (all f refl) named)

-- so trees of a network without a fault have none
pub none_told : (T : Topology) (g : Tagging) (writes : Departures) (ts : List TablesTrees) → AreAllTrees T g writes ts
    → HasNoFault T g writes → fault_of T.switches ts ≡ None
none_told T g writes ts trees none = none_left (fault_of T.switches ts) (fault_named T.switches ts) (λ f is. none f (fault_told T g writes ts trees f (inr is)))

-- The first fault of all switches, and the fault of each.

pub or_nothing : {A : Type 0} (a b : Option A) → option_or a b ≡ None → (a ≡ None) × (b ≡ None)
or_nothing None b is = (refl, is)
or_nothing (Some x) b is = absurd (none-some x (sym is))

pub nothing_or : {A : Type 0} (a b : Option A) → a ≡ None → b ≡ None → option_or a b ≡ None
nothing_or a b left right = ap₂ option_or left right
