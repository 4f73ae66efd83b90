-- What both tables send.
use Rattle.std.proofs.Common.{◌≡◌, inl, inr, ℕ, suc, ◌+◌, ◌-◌, Bool, true, false, not, List, [], ◌∷◌, ◌++◌, map, Some, None, refl, ap, ◌∙◌, arith}
use Rattle.std.specs.Prelude.{◌==◌}
use Rattle.std.specs.List.{AllByRecursion}
use Rattle.std.specs.Option.{option_map}
use Rattle.std.specs.declared.option.Option.{Option}
use Rattle.std.proofs.lemmas.Bool.{false≢true, ne_eqb}
use Rattle.std.proofs.lemmas.List.Elements.{recursion_from_All}
use Rattle.pq_lists.proofs.Holding.{all_weaker}
use Rattle.pq_fields.specs.Packet.{Numbers, Fit}
use Rattle.pq_model.specs.declared.tagged.Sent.{Sent}
use Rattle.pq_model.specs.declared.tagged.Sent.TheVariants.{Controller}
use Rattle.pq_model.specs.MatchFields.{MatchFields, vlan_word}
use Rattle.pq_model.specs.Renewal.{renewed}
use Rattle.pq_model.specs.SwitchMachine.{Groups, Tables, changed_by, copies, emits, in_order, runs, sent_from_table, taken}
use Rattle.pq_model.specs.Tagged.{TaggedPacket}
use Rattle.pq_rewrite.specs.declared.trees.Arrive.{Arrive}
use Rattle.pq_layout.specs.Actions.{arrival_actions, tag_word}
use Rattle.pq_layout.specs.Entries.{table_of}
use Rattle.pq_layout.specs.Messages.{ArrivingTrees, LeavingTrees, first_rule, first_rules, is_nothing, is_untagged, renewal_of, second_rules}
use Rattle.pq_layout.specs.Sending.{arrival_sent, copy_sent, said_by, sent_after, sent_by}
use Rattle.pq_layout.specs.Sound.{IsMatchable, IsSoundArriving}
use Rattle.pq_lookup.specs.Lookup.{first_covering}
use Rattle.pq_lookup.specs.Sent.{AreFilled, TablesSend, TablesSendInOrder}
use Rattle.pq_lookup.proofs.Leaving.{leaving-sends, rule-sends, sent_by_rule}
use Rattle.pq_lookup.proofs.Tables.{IsTold, table-tells}
use Rattle.pq_lookup.proofs.Taken.{first-found, found-map, second-found}

-- the packet with its new tag
abbrev renamed_to : Numbers → ℕ → TaggedPacket
renamed_to x t = record { packet = x; vlan = Some t }

back : (t : ℕ) → 0x1000 + t - 0x1000 ≡ t
back t = omega arith

-- whether a packet has a header, by its VLAN_VID word
tagged : (t : ℕ) → not (0x1000 + t == 0) ≡ true
tagged t = ap not (ne_eqb (0x1000 + t) 0 (λ e. omega arith))

module _ (groups : Groups) (x : Numbers) (a : Arrive) where
  -- an arrival's actions give the packet its tag
  arrival-changes : (v : Option ℕ) → changed_by (arrival_actions (not (vlan_word v == 0)) a) (record { packet = x; vlan = v }) ≡ renamed_to x a.tag
  arrival-changes None = by a.capture
    where
      by : (b : Bool) → changed_by (arrival_actions false (record { tag = a.tag; capture = b })) (record { packet = x; vlan = None }) ≡ renamed_to x a.tag
      by true = λ i. renamed_to x (back a.tag i)
      by false = λ i. renamed_to x (back a.tag i)
  arrival-changes (Some t) = ap (λ b. changed_by (arrival_actions b a) (renamed_to x t)) (tagged t) ∙ by a.capture
    where
      by : (b : Bool) → changed_by (arrival_actions true (record { tag = a.tag; capture = b })) (renamed_to x t) ≡ renamed_to x a.tag
      by true = λ i. renamed_to x (back a.tag i)
      by false = λ i. renamed_to x (back a.tag i)

  -- and send a copy to the collector where it captures
  arrival-runs : (v : Option ℕ) → runs (emits groups) (arrival_actions (not (vlan_word v == 0)) a) (record { packet = x; vlan = v }) ≡ arrival_sent x a
  arrival-runs None = by a.capture
    where
      by : (b : Bool) → runs (emits groups) (arrival_actions false (record { tag = a.tag; capture = b }))
          (record { packet = x; vlan = None }) ≡ arrival_sent x (record { tag = a.tag; capture = b })
      by true = λ i. Controller (renamed_to x (back a.tag i)) ∷ []
      by false = refl
  arrival-runs (Some t) = ap (λ b. runs (emits groups) (arrival_actions b a) (renamed_to x t)) (tagged t) ∙ by a.capture
    where
      by : (b : Bool) → runs (emits groups) (arrival_actions true (record { tag = a.tag; capture = b })) (renamed_to x t)
          ≡ arrival_sent x (record { tag = a.tag; capture = b })
      by true = λ i. Controller (renamed_to x (back a.tag i)) ∷ []
      by false = refl

first_own : (m : MatchFields) (o : Option Arrive) → (first_rule (m, o)).matching ≡ m
first_own m None = refl
first_own m (Some a) = refl

nothing : (o : Option Arrive) → is_nothing o ≡ true → None ≡ o
nothing None h = refl
nothing (Some a) h = absurd (false≢true h)

module _ (first : ArrivingTrees) (second : LeavingTrees) (filled : AreFilled first second) where
  abbrev tables : Tables
  tables = renewed (renewal_of first second)

  -- table 1 sends what its trees say
  second-sends : (more : ℕ) (x : Numbers) → Fit x → (t : ℕ)
      → sent_from_table (suc more) tables 1 (renamed_to x t) ≡ map (copy_sent x) (said_by second [] (tag_word t) x)
  second-sends more x fit t =
      rule-sends (sent_from_table more tables) tables.groups (renamed_to x t) (taken tables.entries 1 (renamed_to x t))
      ∙ ap (sent_by_rule (sent_from_table more tables) tables.groups (renamed_to x t))
      (second-found (renamed_to x t) _ _ (first_rules first) (second_rules second) (omega (arith, filled.second_few)))
      ∙ leaving-sends second filled.leaving (sent_from_table more tables) x fit t

  module _ (more : ℕ) (x : TaggedPacket) (fit : Fit x.packet) where
    abbrev onward : ℕ → TaggedPacket → List Sent
    onward = sent_from_table (suc more) tables

    -- so does the rule of an arrival
    arrival-sends : (m : MatchFields) → m.vlan ≡ Some (vlan_word x.vlan) → (o : Option Arrive) →
        sent_by_rule onward tables.groups x (Some (first_rule (m, o))) ≡ sent_after (said_by second []) x.packet o
    arrival-sends m own None = refl
    arrival-sends m own (Some a) =
        ap (λ v. runs (emits tables.groups) (arrival_actions (not (is_untagged v)) a) x
        ++ onward 1 (changed_by (arrival_actions (not (is_untagged v)) a) x)) own
        ∙ (λ i. arrival-runs tables.groups x.packet a x.vlan i ++ onward 1 (arrival-changes tables.groups x.packet a x.vlan i))
        ∙ ap (λ l. arrival_sent x.packet a ++ l) (second-sends more x.packet fit a.tag)

    told-sends : (o : Option Arrive) → IsTold is_nothing x (table_of is_nothing first) o →
        sent_by_rule onward tables.groups x (option_map first_rule (first_covering x (table_of is_nothing first))) ≡ sent_after (said_by second []) x.packet o
    told-sends o (inl told) = ap (λ e. sent_by_rule onward tables.groups x (option_map first_rule e)) told.0
        ∙ ap (sent_after (said_by second []) x.packet) (nothing o told.1)
    told-sends o (inr told) = ap (λ e. sent_by_rule onward tables.groups x (option_map first_rule e)) told.1 ∙ arrival-sends told.0 told.2 o

    matchable : AllByRecursion (λ p. IsMatchable p.1) first
    matchable = all_weaker (λ p. IsSoundArriving p.0 p.1) (λ p. IsMatchable p.1) (λ p h. h.matchable) first
        (recursion_from_All (λ p. IsSoundArriving p.0 p.1) first filled.arriving.each)

    first-sends : sent_from_table (suc (suc more)) tables 0 x ≡ sent_by (said_by first None) (said_by second []) x
    first-sends =
        rule-sends onward tables.groups x (taken tables.entries 0 x)
        ∙ ap (sent_by_rule onward tables.groups x) (first-found x _ _ (first_rules first) (second_rules second) (omega (arith, filled.first_few))
        ∙ found-map x first_rule (λ e. first_own e.0 e.1) (table_of is_nothing first))
        ∙ told-sends (said_by first None (vlan_word x.vlan) x.packet) (table-tells is_nothing x None refl first filled.arriving.words matchable)

  pub tables-send : TablesSend first second
  unfolding copies
  tables-send x h = first-sends 253 x h.packet

  pub tables-send_in_order : TablesSendInOrder first second
  tables-send_in_order x h = ap in_order (tables-send x h)
