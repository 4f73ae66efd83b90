-- Orders in which a switch may process messages, and when two tables are the same (OpenFlow 1.3.5, section 6.1.3: barriers).
use Rattle.std.specs.Prelude.{◌≡◌, ◌≢◌, List, [], ◌∷◌, ◌++◌}
use Rattle.std.specs.List.{AllByRecursion}
use Rattle.pq_model.specs.declared.message.Message.{Message}
use Rattle.pq_model.specs.declared.message.Message.TheVariants.{Flow, Group, Barrier}
use Rattle.pq_model.specs.SwitchMachine.{Entry, Tables, applies}

-- the second list has the values of the first in some order: each in turn can be taken out of it
abbrev pub IsReordering : {A : Type 0} → List A → List A → Type 0
IsReordering [] ys = ys ≡ []
IsReordering {A} (x ∷ xs) ys = (front : List A) × (back : List A) × (ys ≡ front ++ x ∷ back) × IsReordering xs (front ++ back)

-- the same entries in any order, and the same groups
pub record AreSame (s t : Tables) : Type 0 where
  pub entries : IsReordering s.entries t.entries
  pub groups : s.groups ≡ t.groups

abbrev pub IsNoBarrier : Message → Type 0
IsNoBarrier (Flow f) = Unit {0}
IsNoBarrier (Group g) = Unit {0}
IsNoBarrier (Barrier xid) = ⊥

abbrev pub HasNoBarrier : List Message → Type 0
HasNoBarrier ms = AllByRecursion IsNoBarrier ms

-- a barrier is passed by no later message, and another message passes no barrier
abbrev pub MayFollow : Message → List Message → Type 0
MayFollow (Flow f) front = HasNoBarrier front
MayFollow (Group g) front = HasNoBarrier front
MayFollow (Barrier xid) front = front ≡ []

-- the messages in an order in which none passes a barrier: each in turn is after later messages that may be processed before it
abbrev pub IsLawfulOrder : List Message → List Message → Type 0
IsLawfulOrder [] order = order ≡ []
IsLawfulOrder (m ∷ ms) order = (front : List Message) × (back : List Message) × (order ≡ front ++ m ∷ back) × MayFollow m front
    × IsLawfulOrder ms (front ++ back)

-- in either order the two messages leave the same tables
abbrev pub Commute : Message → Message → Type 0
Commute m n = (t : Tables) → AreSame (applies (applies t m) n) (applies (applies t n) m)

-- the message commutes with each of these before the first barrier
abbrev pub CommutesUpToBarrier : Message → List Message → Type 0
CommutesUpToBarrier m [] = Unit {0}
CommutesUpToBarrier m (Flow f ∷ ms) = Commute m (Flow f) × CommutesUpToBarrier m ms
CommutesUpToBarrier m (Group g ∷ ms) = Commute m (Group g) × CommutesUpToBarrier m ms
CommutesUpToBarrier m (Barrier xid ∷ ms) = Unit {0}

-- each two messages with no barrier between them commute
abbrev pub IsFreeOfOrder : List Message → Type 0
IsFreeOfOrder [] = Unit {0}
IsFreeOfOrder (Flow f ∷ ms) = CommutesUpToBarrier (Flow f) ms × IsFreeOfOrder ms
IsFreeOfOrder (Group g ∷ ms) = CommutesUpToBarrier (Group g) ms × IsFreeOfOrder ms
IsFreeOfOrder (Barrier xid ∷ ms) = IsFreeOfOrder ms

-- if the entries are of one table, their priorities differ
abbrev pub AreApart : Entry → Entry → Type 0
AreApart d e = d.table ≡ e.table → d.priority ≢ e.priority

-- no two entries of one table have one priority
abbrev pub HaveOwnPriorities : List Entry → Type 0
HaveOwnPriorities [] = Unit {0}
HaveOwnPriorities (e ∷ es) = AllByRecursion (AreApart e) es × HaveOwnPriorities es
