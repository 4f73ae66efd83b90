-- Edits turn the tables of one install into those of the next.
use Rattle.std.proofs.Common.{◌≡◌, ◌∙◌, ℕ, Bool, true, false, ◌==◌, ◌||◌, if◌then◌else◌, List, [], ◌∷◌, map, refl, sym, ap, subst}
use Rattle.std.specs.List.{AllZip, list_any}
use Rattle.std.proofs.lemmas.Bool.{true≢false}
use Rattle.pq_layout.specs.Emission.{AreMessages}
use Rattle.pq_layout.specs.Messages.{renewal_of}
use Rattle.pq_lookup.specs.Sent.{AreFilled}
use Rattle.pq_model.specs.declared.message.Message.{Message}
use Rattle.pq_model.specs.Headline.{installed}
use Rattle.pq_model.specs.Install.{Install, messages_in, messages_of}
use Rattle.pq_model.specs.Lawful.{Ascends}
use Rattle.pq_model.specs.Orders.{AreSame, IsLawfulOrder}
use Rattle.pq_model.specs.Renewal.{Renewal, renewal_messages, renewed}
use Rattle.pq_model.specs.SwitchMachine.{Tables, applies_all, no_tables}
use Rattle.pq_model.specs.Topology.{Switch}
use Rattle.pq_model.proofs.Renewals.{renewal-leaves, renewal-same}
use Rattle.pq_delta.specs.Delta.{delta, deltas, switch_delta}
use Rattle.pq_delta.specs.Turning.{IsNumberedRenewal}
use Rattle.pq_compile.specs.Compiled.{IsInstalled}
use Rattle.pq_compile.specs.Documents.{DocumentTree}
use Rattle.pq_turning.specs.Edits.{AcceptedEdit, AreEdits, AreTablesOf, DeltaTurns, current_install, edited_tables, is_switch, listed_for}
use Rattle.pq_turning.proofs.Numbered.{numbered}
use Rattle.pq_turning.proofs.Listed.{listed, nothing-between}

-- the messages of a renewal whose groups are numbered from 1
pub record Renews (ms : List Message) : Type 0 where
  pub renewal : Renewal
  pub numbered : IsNumberedRenewal renewal
  pub messages : ms ≡ renewal_messages renewal

-- the messages where there is a switch, and where there is none
abbrev pub Found : Bool → List Message → Type 0
Found true ms = Renews ms
Found false ms = ms ≡ []

found_in : (R : Switch → List Message → Type 0) → ((s : Switch) (ms : List Message) → R s ms → Renews ms)
    → (ss : List Switch) (lists : List (List Message)) → AllZip R ss lists → (n : ℕ) → Found (list_any (λ s. s.datapath == n) ss) (messages_in ss lists n)
found_in R renews [] lists all n = refl
found_in R renews (s ∷ ss) [] all n = absurd all
found_in R renews (s ∷ ss) (ms ∷ lists) all n = by (s.datapath == n) (found_in R renews ss lists all.1 n)
  where
    by : (b : Bool) → Found (list_any (λ s. s.datapath == n) ss) (messages_in ss lists n)
        → Found (b || list_any (λ s. s.datapath == n) ss) (if b then ms else messages_in ss lists n)
    by true more = renews s ms all.0
    by false more = more

pub same_topology : (d : DocumentTree) (i : Install) → IsInstalled d i → i.topology ≡ d.topology
same_topology d i h = h.install.emission.topology

-- the messages that an install has for a switch, with the trees that they come from
abbrev pub FilledFor : (d : DocumentTree) (i : Install) → IsInstalled d i → Switch → List Message → Type 0
FilledFor d i h s ms = (a : AreMessages d.topology h.install.tags h.install.writes s.datapath ms) × AreFilled a.first a.second

pub renews : (d : DocumentTree) (i : Install) (h : IsInstalled d i) (s : Switch) (ms : List Message) → FilledFor d i h s ms → Renews ms
renews d i h s ms (a, filled) = record { renewal = renewal_of a.first a.second; numbered = numbered a.first a.second filled; messages = a.messages }

pub found : (d : DocumentTree) (i : Install) → IsInstalled d i → (n : ℕ) → Found (is_switch d.topology n) (messages_of i n)
found d i h n = subst (λ T. Found (is_switch d.topology n) (messages_in T.switches i.messages n)) (sym (same_topology d i h))
    (found_in (FilledFor d i h) (renews d i h) d.topology.switches i.messages h.filled n)

-- the tables that the messages of a renewal leave in empty ones
pub leaves : (ms : List Message) (r : Renews ms) (t : Tables) → applies_all t ms ≡ renewed r.renewal
leaves ms r t = ap (applies_all t) r.messages ∙ renewal-leaves r.renewal r.numbered.renewing t

-- what processing them in any lawful order leaves
installed-same : (b : Bool) (ms : List Message) → Found b ms → b ≡ true → (t : Tables) (order : List Message) → IsLawfulOrder ms order
    → AreSame (applies_all no_tables ms) (applies_all t order)
installed-same true ms r is t order lawful =
    subst (λ s. AreSame s (applies_all t order)) (sym (leaves ms r no_tables))
    (renewal-same r.renewal r.numbered.renewing t order (subst (λ l. IsLawfulOrder l order) r.messages lawful))
installed-same false ms none is t order lawful = absurd (true≢false (sym is))

-- the messages that a delta lists for a switch are those between its old and its new ones
pub delta-listed : (d e : DocumentTree) (i j : Install) → IsInstalled d i → IsInstalled e j → d.topology ≡ e.topology
    → (n : ℕ) → listed_for (delta i j) n ≡ switch_delta (messages_of i n) (messages_of j n)
delta-listed d e i j h k same n =
    (λ u. listed_for (deltas (to_old u).switches i.messages j.messages) n)
    ∙ listed (FilledFor d i h) (FilledFor e j k) d.topology.switches i.messages j.messages
    (subst (λ T. Ascends (map (λ s. s.datapath) T.switches)) (same_topology d i h) h.lawful.topology.ascending)
    h.filled (subst (λ T. AllZip (FilledFor e j k) T.switches j.messages) (sym same) k.filled) n
    ∙ (λ u. switch_delta (messages_in (sym (same_topology d i h) u).switches i.messages n) (messages_in (sym to_old u).switches j.messages n))
  where
    to_old : j.topology ≡ d.topology
    to_old = same_topology e j k ∙ sym same

abbrev pub DeltasTurn : Type 0
DeltasTurn = (old new : Renewal) → IsNumberedRenewal old → IsNumberedRenewal new → (t : Tables) (order : List Message)
    → AreSame (renewed old) t → IsLawfulOrder (switch_delta (renewal_messages old) (renewal_messages new)) order → AreSame (renewed new) (applies_all t order)

module _ (turn : DeltasTurn) where
  found-turn : (b : Bool) (old new : List Message) → Found b old → Found b new → DeltaTurns old new
  found-turn true old new r s t order same lawful =
      subst (λ u. AreSame u (applies_all t order)) (sym (leaves new s no_tables))
      (turn r.renewal s.renewal r.numbered s.numbered t order (subst (λ u. AreSame u t) (leaves old r no_tables) same)
      (subst (λ l. IsLawfulOrder l order) (λ k. switch_delta (r.messages k) (s.messages k)) lawful))
  found-turn false old new none nor t order same lawful =
      let empty : order ≡ [] = subst (λ l. IsLawfulOrder l order) ((λ k. switch_delta (none k) (nor k)) ∙ nothing-between) lawful in
      subst (λ l. AreSame (applies_all no_tables new) (applies_all t l)) (sym empty)
      (subst (λ l. AreSame (applies_all no_tables l) t) (none ∙ sym nor) same)

  module _ (d e : DocumentTree) (i j : Install) (h : IsInstalled d i) (k : IsInstalled e j) (same : d.topology ≡ e.topology) where
    pub turned : (n : ℕ) → DeltaTurns (messages_of i n) (messages_of j n)
    turned n = found-turn (is_switch d.topology n) (messages_of i n) (messages_of j n) (found d i h n)
        (subst (λ T. Found (is_switch T n) (messages_of j n)) (sym same) (found e j k n))

  pub edits : (d : DocumentTree) (i : Install) (es : List AcceptedEdit) → IsInstalled d i → AreEdits d.topology i es
      → (tables : ℕ → Tables) → AreTablesOf i tables → AreTablesOf (current_install i es) (edited_tables tables es)
  edits d i [] h all tables same = same
  edits d i (e ∷ es) h all tables same =
      edits e.document e.install es all.0.installed (subst (λ T. AreEdits T e.install es) (sym all.0.topology) all.1) (installed tables e.orders)
      (λ n there. turned d e.document i e.install h all.0.installed (sym all.0.topology) n (tables n) (e.orders n)
      (same n (ap (λ T. is_switch T n) (same_topology d i h ∙ sym all.0.topology ∙ sym (same_topology e.document e.install all.0.installed)) ∙ there))
      (subst (λ l. IsLawfulOrder l (e.orders n)) (delta-listed d e.document i e.install h all.0.installed (sym all.0.topology) n) (all.0.orders n)))

pub first-tables : (d : DocumentTree) (i : Install) → IsInstalled d i → (before : ℕ → Tables) (order : ℕ → List Message)
    → ((n : ℕ) → IsLawfulOrder (messages_of i n) (order n))
    → AreTablesOf i (installed before order)
first-tables d i h before order lawful n there =
    installed-same (is_switch d.topology n) (messages_of i n) (found d i h n) (ap (λ T. is_switch T n) (sym (same_topology d i h))
    ∙ there) (before n) (order n) (lawful n)
