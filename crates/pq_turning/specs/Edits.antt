-- What edits do to tables: the installs that follow one another, and the messages between them.
use Rattle.std.specs.Prelude.{◌≡◌, ℕ, Bool, true, List, [], ◌∷◌, ◌==◌, if◌then◌else◌}
use Rattle.std.specs.List.{list_any}
use Rattle.pq_model.specs.declared.event.Event.{Event}
use Rattle.pq_model.specs.declared.message.Message.{Message}
use Rattle.pq_model.specs.Events.{IsSchedule}
use Rattle.pq_model.specs.Headline.{Agree, installed}
use Rattle.pq_model.specs.Install.{Install, messages_of}
use Rattle.pq_model.specs.Meaning.{Meaning, at_rest, run}
use Rattle.pq_model.specs.Orders.{AreSame, IsLawfulOrder}
use Rattle.pq_model.specs.SwitchMachine.{Tables, applies_all, no_tables}
use Rattle.pq_model.specs.TablesMachine.{nothing_sent, run_sending, sends_by}
use Rattle.pq_model.specs.Topology.{Topology}
use Rattle.pq_delta.specs.Delta.{delta, switch_delta}
use Rattle.pq_compile.specs.Compiled.{IsInstalled}
use Rattle.pq_compile.specs.Documents.{DocumentTree}

-- the messages that are listed for the switch with this datapath number, and none where it isn't listed
abbrev pub listed_for : List (ℕ × List Message) → ℕ → List Message
listed_for [] n = []
listed_for (p ∷ ps) n = if p.0 == n then p.1 else listed_for ps n

-- whether the topology has a switch with this datapath number
abbrev pub is_switch : Topology → ℕ → Bool
is_switch T n = list_any (λ s. s.datapath == n) T.switches

-- in any lawful order, a delta turns tables that are the same as those that old messages leave in empty ones into those of new messages
abbrev pub DeltaTurns : List Message → List Message → Type 0
DeltaTurns old new =
    (t : Tables) (order : List Message) → AreSame (applies_all no_tables old) t → IsLawfulOrder (switch_delta old new) order
    → AreSame (applies_all no_tables new) (applies_all t order)

-- each switch's tables are the same as those that the install's messages leave in empty ones
abbrev pub AreTablesOf : Install → (ℕ → Tables) → Type 0
AreTablesOf i tables = (n : ℕ) → is_switch i.topology n ≡ true → AreSame (applies_all no_tables (messages_of i n)) (tables n)

-- an accepted edit: the document and the install after it, and the order in which each switch processes its messages
pub record AcceptedEdit : Type 0 where
  pub document : DocumentTree
  pub install : Install
  pub orders : ℕ → List Message

-- the install is the document's, over this topology, and each switch processes its messages of the delta in a lawful order
pub record FollowsInstall (T : Topology) (old : Install) (e : AcceptedEdit) : Type 0 where
  pub installed : IsInstalled e.document e.install
  pub topology : e.document.topology ≡ T
  pub orders : (n : ℕ) → IsLawfulOrder (listed_for (delta old e.install) n) (e.orders n)

-- so each edit after the one before it, and the first after this install
abbrev pub AreEdits : Topology → Install → List AcceptedEdit → Type 0
AreEdits T i [] = Unit {0}
AreEdits T i (e ∷ es) = FollowsInstall T i e × AreEdits T e.install es

-- the document and the install after all edits
abbrev pub current_document : DocumentTree → List AcceptedEdit → DocumentTree
current_document d [] = d
current_document d (e ∷ es) = current_document e.document es

abbrev pub current_install : Install → List AcceptedEdit → Install
current_install i [] = i
current_install i (e ∷ es) = current_install e.install es

-- the tables of each switch once it has processed the messages of all edits
abbrev pub edited_tables : (ℕ → Tables) → List AcceptedEdit → ℕ → Tables
edited_tables tables [] = tables
edited_tables tables (e ∷ es) = edited_tables (installed tables e.orders) es

-- with no packet anywhere, every schedule leaves the machine of these tables and the meaning in agreement
abbrev pub TablesImplement : Install → (ℕ → Tables) → Meaning → Type 0
TablesImplement i tables m =
    (events : List Event) → IsSchedule events → Agree (run m at_rest events) (run_sending i.topology i.report (sends_by tables) nothing_sent events)
