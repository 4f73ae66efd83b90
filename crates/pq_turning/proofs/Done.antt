-- Tables that are the same as those of an install do what its document means.
use Rattle.std.proofs.Common.{◌≡◌, ◌∙◌, ℕ, Bool, true, false, List, [], ◌∷◌, refl, sym, ap, subst}
use Rattle.pq_model.specs.declared.message.Message.{Message}
use Rattle.pq_model.specs.declared.message.Message.TheVariants.{Flow, Group, Barrier}
use Rattle.pq_model.specs.Headline.{Agree, installed}
use Rattle.pq_model.specs.Install.{Install, messages_of}
use Rattle.pq_model.specs.Meaning.{Meaning, at_rest, run}
use Rattle.pq_model.specs.Orders.{AreSame, IsLawfulOrder}
use Rattle.pq_model.specs.Renewal.{renewed}
use Rattle.pq_model.specs.SwitchMachine.{Tables, applies_all, no_tables, sends}
use Rattle.pq_model.specs.TablesMachine.{nothing_sent, run_sending, sends_by}
use Rattle.pq_model.specs.Tagged.{TaggedPacket}
use Rattle.pq_model.proofs.Sending.{sends-same}
use Rattle.pq_compile.specs.Compiled.{IsInstalled, IsMeaningOf}
use Rattle.pq_compile.specs.Documents.{DocumentTree}
use Rattle.pq_turning.specs.Edits.{AcceptedEdit, AreEdits, AreTablesOf, TablesImplement, current_document, current_install, edited_tables, is_switch}
use Rattle.pq_turning.proofs.Turned.{DeltasTurn, Found, edits, first-tables, found, leaves, same_topology}

-- the order in which messages are written is lawful
written : (ms : List Message) → IsLawfulOrder ms ms
written [] = refl
written (Flow f ∷ ms) = ([], ms, refl, tt, written ms)
written (Group g ∷ ms) = ([], ms, refl, tt, written ms)
written (Barrier xid ∷ ms) = ([], ms, refl, refl, written ms)

-- after the install's messages a switch sends as it did
sends_again : (b : Bool) (ms : List Message) → Found b ms → (t : Tables) → (b ≡ true → AreSame (applies_all no_tables ms) t)
    → (x : TaggedPacket) → sends (applies_all t ms) x ≡ sends t x
sends_again true ms r t same x =
    ap (λ u. sends u x) (leaves ms r t)
    ∙ sends-same (renewed r.renewal) t (subst (λ u. AreSame u t) (leaves ms r no_tables) (same refl)) r.numbered.renewing.priorities x
sends_again false ms none t same x = ap (λ l. sends (applies_all t l) x) none

module _ (d : DocumentTree) (i : Install) (h : IsInstalled d i) (tables : ℕ → Tables) (same : AreTablesOf i tables) where
  all_again : sends_by (installed tables (messages_of i)) ≡ sends_by tables
  all_again = λ u x. each x u
    where
      each : (x : TaggedPacket) → sends (installed tables (messages_of i) x.packet.switch) x ≡ sends (tables x.packet.switch) x
      each x =
          let n = x.packet.switch in
          sends_again (is_switch d.topology n) (messages_of i n) (found d i h n) (tables n)
          (λ there. same n (ap (λ T. is_switch T n) (same_topology d i h) ∙ there)) x

  pub done : (m : Meaning) → IsMeaningOf d m → TablesImplement i tables m
  done m meaning events fits =
      subst (λ send. Agree (run m at_rest events) (run_sending i.topology i.report send nothing_sent events)) all_again
      (h.implements m meaning tables (messages_of i) (λ n. written (messages_of i n)) events fits)

-- the current install is that of the current document
current : (d : DocumentTree) (i : Install) (es : List AcceptedEdit) → IsInstalled d i → AreEdits d.topology i es
    → IsInstalled (current_document d es) (current_install i es)
current d i [] h all = h
current d i (e ∷ es) h all = current e.document e.install es all.0.installed (subst (λ T. AreEdits T e.install es) (sym all.0.topology) all.1)

module _ (turn : DeltasTurn) where
  pub edited_done : (d : DocumentTree) (i : Install) (es : List AcceptedEdit) → IsInstalled d i → AreEdits d.topology i es
      → (before : ℕ → Tables) (order : ℕ → List Message) → ((n : ℕ) → IsLawfulOrder (messages_of i n) (order n))
      → (m : Meaning) → IsMeaningOf (current_document d es) m → TablesImplement (current_install i es) (edited_tables (installed before order) es) m
  edited_done d i es h all before order lawful =
      done (current_document d es) (current_install i es) (current d i es h all) (edited_tables (installed before order) es)
      (edits turn d i es h all (installed before order) (first-tables d i h before order lawful))
