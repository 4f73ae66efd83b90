-- The one install of a network's departures and queries.
use Rattle.std.specs.Prelude.{◌≡◌, ℕ, List, map, slice_get}
use Rattle.std.specs.List.{AllZip, filter, filter_map}
use Rattle.pq_model.specs.declared.message.Message.{Message}
use Rattle.pq_model.specs.Buckets.{Instance}
use Rattle.pq_model.specs.Install.{Install}
use Rattle.pq_model.specs.TablesMachine.{Report}
use Rattle.pq_model.specs.Topology.{Topology}
use Rattle.pq_layout.specs.Actions.{key_word, tag_word}
use Rattle.pq_layout.specs.Leaves.{Departures}
use Rattle.pq_layout.specs.Messages.{ArrivingTrees, LeavingTrees, messages_of}
use Rattle.pq_layout.specs.Tagging.{Tagging, captures, odd_tags, up_to}
use Rattle.pq_layout.specs.Trees.{IsArriving, IsLeaving, keys_of}

-- the trees of a switch by their VLAN_VID words: one per key in table 0, one per odd tag in table 1
pub record AreTrees (T : Topology) (g : Tagging) (writes : Departures) (d : ℕ) (first : ArrivingTrees) (second : LeavingTrees) : Type 0 where
  pub arriving : AllZip (λ k p. (p.0 ≡ key_word k) × IsArriving T g d k p.1) (keys_of g) first
  pub leaving : AllZip (λ a p. (p.0 ≡ tag_word a) × IsLeaving T g writes d a p.1) (odd_tags g) second

-- the messages of a switch
pub record AreMessages (T : Topology) (g : Tagging) (writes : Departures) (d : ℕ) (ms : List Message) : Type 0 where
  pub first : ArrivingTrees
  pub second : LeavingTrees
  pub trees : AreTrees T g writes d first second
  pub messages : ms ≡ messages_of first second

-- the instances with these numbers
abbrev pub instances_at : List Instance → List ℕ → List Instance
instances_at instances is = filter_map (slice_get instances) is

-- a row per tag whose words an instance holds, with the instances
abbrev pub report_of : Tagging → List Instance → Report
report_of g instances = map (λ t. record { tag = t; pairs = instances_at instances (g.accepted t) }) (filter (captures g) (up_to g.count))

-- the install of these departures, tags and instances
pub record IsEmission (T : Topology) (names : List (List ℕ)) (writes : Departures) (g : Tagging) (instances : List Instance) (i : Install) : Type 0 where
  pub topology : i.topology ≡ T
  pub queries : i.queries ≡ names
  pub report : i.report ≡ report_of g instances
  pub messages : AllZip (λ s ms. AreMessages T g writes s.datapath ms) T.switches i.messages
