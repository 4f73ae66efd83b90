-- The messages of a switch for whose packets the diagrams of both policies say the same.
use Rattle.std.proofs.Common.{◌≡◌, ◌∙◌, ◌<◌, ℕ, List, [], ◌∷◌, filter, sym, ap}
use Rattle.std.specs.Prelude.{length}
use Rattle.std.specs.List.{AllZip}
use Rattle.std.specs.Option.{option_map}
use Rattle.std.proofs.lemmas.Option.{same_Some}
use Rattle.pq_lists.proofs.Places.{at_place}
use Rattle.pq_fields.specs.Packet.{Numbers}
use Rattle.pq_fields.specs.Writes.{Written}
use Rattle.pq_auto.specs.Machine.{Machine}
use Rattle.pq_letters.specs.Letters.{LettersValue}
use Rattle.pq_model.specs.declared.message.Message.{Message}
use Rattle.pq_model.specs.Topology.{Switch, Topology}
use Rattle.pq_store.specs.Tree.{Tree, value}
use Rattle.pq_layout.specs.Actions.{tag_word}
use Rattle.pq_layout.specs.Leaves.{Departures, at_switch, copies_of, departing, departs_by}
use Rattle.pq_layout.specs.Messages.{LeavingTrees}
use Rattle.pq_layout.specs.Tagging.{Tagging, odd_tags}
use Rattle.pq_layout.specs.Trees.{IsLeaving}
use Rattle.pq_join.specs.Tags.{tagging_of}
use Rattle.pq_local.specs.Local.{AgreeAt, IsServed, IsServedAt}

module _ (T : Topology) (g : Tagging) (writes more : Departures) where
  -- departures are the same on all packets at the switch
  abbrev DepartAlike : ℕ → Type 0
  DepartAlike d = (x : Numbers) → writes (at_switch d x) ≡ more (at_switch d x)

  leaving_moved : (d : ℕ) → DepartAlike d → (ks : List ℕ) (ps : LeavingTrees) → AllZip (λ k p. (p.0 ≡ tag_word k) × IsLeaving T g writes d k p.1) ks ps
      → AllZip (λ k p. (p.0 ≡ tag_word k) × IsLeaving T g more d k p.1) ks ps
  leaving_moved d same [] [] all = tt
  leaving_moved d same [] (p ∷ ps) all = absurd all
  leaving_moved d same (k ∷ ks) [] all = absurd all
  leaving_moved d same (k ∷ ks) (p ∷ ps) all =
      let tree = all.0.1 in (
        (
          all.0.0,
          record {
            gives = λ x fit. tree.gives x fit ∙ ap (copies_of T g k (at_switch d x)) (same x);
            diagram = tree.diagram;
          },
        ),
        leaving_moved d same ks ps all.1,
      )

  served_moved : (s : Switch) (ms : List Message) → DepartAlike s.datapath → IsServed T g writes s ms → IsServed T g more s ms
  served_moved s ms same old =
      let are = old.are in
      record {
        trees = old.trees;
        are = record { arriving = are.arriving; leaving = leaving_moved s.datapath same (odd_tags g) old.trees.second are.leaving };
        made = old.made;
        tables = old.tables;
        groups = old.groups;
        lawful = old.lawful;
      }

pub taken_over : (T : Topology) (forward : List (Tree (List Written))) (before policy : ℕ) (a : LettersValue) (m : Machine) (s : Switch) (ms : List Message)
    → before < length forward → AgreeAt forward s.datapath before policy → IsServedAt T forward before a m s ms → IsServedAt T forward policy a m s ms
taken_over T forward before policy a m s ms within agree old p at =
    let q = at_place forward before within in
    let alike : (x : Numbers) → departing T (value q.0) (at_switch s.datapath x) ≡ departing T (value p) (at_switch s.datapath x) = λ x.
    let z = at_switch s.datapath x in
    ap (filter (departs_by T z)) (same_Some (value q.0 z) (value p z)
    (ap (option_map (λ t. value t z)) (sym q.1) ∙ (agree x ∙ ap (option_map (λ t. value t z)) at))) in
    served_moved T (tagging_of a m) (departing T (value q.0)) (departing T (value p)) s ms alike (old q.0 q.1)
