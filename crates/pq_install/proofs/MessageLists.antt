-- Messages at the front of bytes.
use Rattle.std.specs.Prelude.{◌≡◌, ℕ, ◌<◌, List, [], ◌∷◌, ◌++◌, All, length, drop}
use Rattle.std.proofs.Common.{refl, sym, ◌∙◌}
use Rattle.std.specs.List.{flat_map}
use Rattle.std.proofs.lemmas.List.{take-append-drop}
use Rattle.pq_model.specs.declared.message.Message.{Message}
use Rattle.pq_model.specs.Spelling.{message_bytes}
use Rattle.pq_model.specs.Install.{list_bytes}
use Rattle.pq_oxm.specs.Standing.{StandsAt}
use Rattle.pq_install.specs.declared.fault.Fault.{Fault}
use Rattle.pq_install.specs.declared.fault.Fault.TheVariants.{Damaged, Memory}
use Rattle.pq_install.specs.declared.version.Version.{Version}
use Rattle.pq_install.specs.Front.{IsAtFront}
use Rattle.pq_install.specs.Units.{UnitFails, ListFails, Tells}
use Rattle.pq_install.specs.Damage.{IsReadList, IsReadMessage, ListFailsAt, ListsFail}
use Rattle.pq_install.proofs.UnitLists.{all_more, list_fails, one_more_unit}

-- what is at the first place is the front
pub front_of : (bytes text : List ℕ) → StandsAt bytes 0 text → bytes ≡ text ++ drop (length text) bytes
front_of bytes text stands = sym (take-append-drop (length text) bytes) ∙ rw stands refl

-- where none of a kind is, there is none of a narrower kind
pub tells_narrower : {X : Type 0} (P Q : X → Type 0) (spell : X → List ℕ) (bytes : List ℕ) (fault : Fault) → ((x : X) → Q x → P x)
    → Tells (UnitFails P spell bytes) fault → Tells (UnitFails Q spell bytes) fault
tells_narrower P Q spell bytes (Damaged left) narrower fails = (fails.0, λ x rest fit e. fails.1 x rest (narrower x fit) e)
tells_narrower P Q spell bytes Memory narrower fails = tt

module _ (v : Version) (bytes : List ℕ) where
  -- messages so far, and no further one
  pub messages_fail : (ms : List Message) (rest : List ℕ) (count : ℕ) (fault : Fault)
      → IsAtFront (All (IsReadMessage v)) (flat_map message_bytes) bytes ms rest → length ms < count
      → Tells (UnitFails (IsReadMessage v) message_bytes rest) fault
      → Tells (ListFails (All (IsReadMessage v)) message_bytes count bytes) fault
  messages_fail ms rest count fault front wanted fails =
      list_fails (All (IsReadMessage v)) message_bytes bytes ms rest front count fault wanted
      (tells_narrower (IsReadMessage v) (λ m. All (IsReadMessage v) (ms ++ m ∷ [])) message_bytes rest fault
      (λ m all. ((all_more (IsReadMessage v) ms m).0 all).1) fails)

  -- and one more
  pub more_messages : (ms : List Message) (rest : List ℕ) (m : Message) (after : List ℕ)
      → IsAtFront (All (IsReadMessage v)) (flat_map message_bytes) bytes ms rest → IsAtFront (IsReadMessage v) message_bytes rest m after
      → IsAtFront (All (IsReadMessage v)) (flat_map message_bytes) bytes (ms ++ m ∷ []) after
  more_messages ms rest m after front next = one_more_unit (All (IsReadMessage v)) message_bytes bytes ms rest front m after
      ((all_more (IsReadMessage v) ms m).1 (front.0, next.0), next.1)

  -- lists so far, and no further one
  pub lists_fail : (lists : List (List Message)) (rest : List ℕ) (count : ℕ) (fault : Fault)
      → IsAtFront (All (IsReadList v)) (flat_map list_bytes) bytes lists rest → length lists < count → Tells (ListFailsAt v rest) fault
      → Tells (ListsFail v count bytes) fault
  lists_fail lists rest count (Damaged left) front wanted fails = (lists, rest, wanted, front, fails)
  lists_fail lists rest count Memory front wanted fails = tt

  -- and one more
  pub more_lists : (lists : List (List Message)) (rest : List ℕ) (ms : List Message) (after : List ℕ)
      → IsAtFront (All (IsReadList v)) (flat_map list_bytes) bytes lists rest → IsAtFront (IsReadList v) list_bytes rest ms after
      → IsAtFront (All (IsReadList v)) (flat_map list_bytes) bytes (lists ++ ms ∷ []) after
  more_lists lists rest ms after front next = one_more_unit (All (IsReadList v)) list_bytes bytes lists rest front ms after
      ((all_more (IsReadList v) lists ms).1 (front.0, next.0), next.1)
