-- What the trees of a network say of its install and of its faults.
use Rattle.std.proofs.Common.{◌≡◌, ℕ, List, [], ◌∷◌, refl, sym, ap, subst, inl, inr, ◌∙◌}
use Rattle.std.specs.declared.option.Option.TheVariants.{None}
use Rattle.std.specs.List.{AllZip}
use Rattle.std.proofs.lemmas.Option.{none-some}
use Rattle.pq_layout.specs.Emission.{AreMessages, AreTrees}
use Rattle.pq_layout.specs.Leaves.{Departures}
use Rattle.pq_layout.specs.Tagging.{Tagging}
use Rattle.pq_lookup.specs.Sent.{AreFilled}
use Rattle.pq_model.specs.declared.message.Message.{Message}
use Rattle.pq_model.specs.Topology.{Switch, Topology}
use Rattle.pq_rules.specs.declared.fault.RulesFault.{RulesFault}
use Rattle.pq_rules.specs.declared.fault.RulesFault.TheVariants.{TableFull, GroupFull, Memory}
use Rattle.pq_emit.specs.Faults.{AreTooLarge, HasNoFault, IsEmitFault, IsFaultOf, fault_of}
use Rattle.pq_emit.specs.Switches.{AreAllTrees, IsFilledBy, TablesTrees}
use Rattle.pq_emit.proofs.OneTrees.{one_all}

-- the messages of each switch are those of its trees
messages_each : (T : Topology) (g : Tagging) (writes : Departures) (ss : List Switch) (ts : List TablesTrees) (ms : List (List Message))
    → AllZip (λ s t. AreTrees T g writes s.datapath t.first t.second) ss ts → AllZip IsFilledBy ts ms
    → AllZip (λ s m. (a : AreMessages T g writes s.datapath m) × AreFilled a.first a.second) ss ms
messages_each T g writes [] [] [] trees filled = tt
messages_each T g writes [] [] (m ∷ ms) trees filled = absurd filled
messages_each T g writes [] (t ∷ ts) ms trees filled = absurd trees
messages_each T g writes (s ∷ ss) [] ms trees filled = absurd trees
messages_each T g writes (s ∷ ss) (t ∷ ts) [] trees filled = absurd filled
messages_each T g writes (s ∷ ss) (t ∷ ts) (m ∷ ms) trees filled = (
  (record { first = t.first; second = t.second; trees = trees.0; messages = filled.0.messages }, filled.0.filled),
  messages_each T g writes ss ts ms trees.1 filled.1,
)

pub all_filled : (T : Topology) (g : Tagging) (writes : Departures) (ts : List TablesTrees) (ms : List (List Message))
    → AreAllTrees T g writes ts → AllZip IsFilledBy ts ms
    → AllZip (λ s m. (a : AreMessages T g writes s.datapath m) × AreFilled a.first a.second) T.switches ms
all_filled T g writes ts ms trees filled = messages_each T g writes T.switches ts ms trees filled

only_messages : (T : Topology) (g : Tagging) (writes : Departures) (ss : List Switch) (ms : List (List Message))
    → AllZip (λ s m. (a : AreMessages T g writes s.datapath m) × AreFilled a.first a.second) ss ms → AllZip (λ s m. AreMessages T g writes s.datapath m) ss ms
only_messages T g writes [] [] all = tt
only_messages T g writes [] (m ∷ ms) all = absurd all
only_messages T g writes (s ∷ ss) [] all = absurd all
only_messages T g writes (s ∷ ss) (m ∷ ms) all = (all.0.0, only_messages T g writes ss ms all.1)

pub all_messages_of : (T : Topology) (g : Tagging) (writes : Departures) (ts : List TablesTrees) (ms : List (List Message))
    → AreAllTrees T g writes ts → AllZip IsFilledBy ts ms
    → AllZip (λ s m. AreMessages T g writes s.datapath m) T.switches ms
all_messages_of T g writes ts ms trees filled = only_messages T g writes T.switches ms (all_filled T g writes ts ms trees filled)

-- the fault of a network's trees is that of the network
table_apart : (d k n : ℕ) → ◌≡◌ {A = RulesFault} (TableFull d k n) Memory → ⊥
table_apart d k n same = subst (λ f. not_memory f) same tt
  where
    not_memory : RulesFault → Type 0
    not_memory (TableFull d k n) = Unit {0}
    not_memory (GroupFull d n) = Unit {0}
    not_memory Memory = ⊥

group_apart : (d n : ℕ) → ◌≡◌ {A = RulesFault} (GroupFull d n) Memory → ⊥
group_apart d n same = subst (λ f. not_memory f) same tt
  where
    not_memory : RulesFault → Type 0
    not_memory (TableFull d k n) = Unit {0}
    not_memory (GroupFull d n) = Unit {0}
    not_memory Memory = ⊥

pub fault_told : (T : Topology) (g : Tagging) (writes : Departures) (ts : List TablesTrees) → AreAllTrees T g writes ts
    → (fault : RulesFault) → IsFaultOf T.switches ts fault → IsEmitFault T g writes fault
fault_told T g writes ts trees (TableFull d k n) (inl memory) = absurd (table_apart d k n memory)
fault_told T g writes ts trees (TableFull d k n) (inr is) = record { trees = ts; all = trees; first = is }
fault_told T g writes ts trees (GroupFull d n) (inl memory) = absurd (group_apart d n memory)
fault_told T g writes ts trees (GroupFull d n) (inr is) = record { trees = ts; all = trees; first = is }
fault_told T g writes ts trees Memory cause = tt

-- where they have none, there is none
none_else : (T : Topology) (g : Tagging) (writes : Departures) (ts : List TablesTrees) → AreAllTrees T g writes ts → fault_of T.switches ts ≡ None
    → (fault : RulesFault) → AreTooLarge T g writes fault → fault ≡ Memory
none_else T g writes ts trees none fault large =
    let same = one_all T g writes large.trees ts large.all trees in
    absurd (none-some fault (sym none ∙ ap (fault_of T.switches) (sym same) ∙ large.first))

pub no_fault : (T : Topology) (g : Tagging) (writes : Departures) (ts : List TablesTrees) → AreAllTrees T g writes ts
    → fault_of T.switches ts ≡ None → HasNoFault T g writes
no_fault T g writes ts trees none (TableFull d k n) large = none_else T g writes ts trees none (TableFull d k n) large
no_fault T g writes ts trees none (GroupFull d n) large = none_else T g writes ts trees none (GroupFull d n) large
no_fault T g writes ts trees none Memory cause = refl
