-- What tables that are filled from trees send.
use Rattle.std.specs.Prelude.{◌≡◌, ◌≤◌, List, [], length}
use Rattle.std.specs.declared.option.Option.TheVariants.{None}
use Rattle.pq_model.specs.Events.{IsTagged}
use Rattle.pq_model.specs.declared.message.Message.{Message}
use Rattle.pq_model.specs.Orders.{IsLawfulOrder}
use Rattle.pq_model.specs.Renewal.{IsRenewing, renewed}
use Rattle.pq_model.specs.SwitchMachine.{Tables, applies_all, copies, in_order, sends}
use Rattle.pq_model.specs.Tagged.{TaggedPacket}
use Rattle.pq_layout.specs.Messages.{ArrivingTrees, LeavingTrees, first_rules, messages_of, renewal_of, second_rules}
use Rattle.pq_layout.specs.Sending.{said_by, sent_by}
use Rattle.pq_layout.specs.Sound.{AreSoundArriving, AreSoundLeaving}

-- trees that entries can stand for, with at most 16,384 entries in each table
pub record AreFilled (first : ArrivingTrees) (second : LeavingTrees) : Type 0 where
  pub arriving : AreSoundArriving first
  pub leaving : AreSoundLeaving second
  pub first_few : length (first_rules first) ≤ 16384
  pub second_few : length (second_rules second) ≤ 16384

-- the copies that the tables of trees send are those that the trees' leaves say
abbrev pub TablesSend : ArrivingTrees → LeavingTrees → Type 0
TablesSend first second = (x : TaggedPacket) → IsTagged x → copies (renewed (renewal_of first second)) x ≡ sent_by (said_by first None) (said_by second []) x

-- so they send these in order
abbrev pub TablesSendInOrder : ArrivingTrees → LeavingTrees → Type 0
TablesSendInOrder first second = (x : TaggedPacket) → IsTagged x
    → sends (renewed (renewal_of first second)) x ≡ in_order (sent_by (said_by first None) (said_by second []) x)

-- the messages of trees delete all that was there, and add what doesn't depend on the order
abbrev pub TreesRenew : ArrivingTrees → LeavingTrees → Type 0
TreesRenew first second = IsRenewing (renewal_of first second)

-- whatever a switch held, and in whatever lawful order it processes the messages of trees, it sends what the trees' leaves say
abbrev pub SwitchSends : ArrivingTrees → LeavingTrees → Type 0
SwitchSends first second =
    (ms : List Message) → ms ≡ messages_of first second → (before : Tables) (order : List Message) → IsLawfulOrder ms order
    → (x : TaggedPacket) → IsTagged x → sends (applies_all before order) x ≡ in_order (sent_by (said_by first None) (said_by second []) x)
