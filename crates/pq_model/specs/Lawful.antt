-- The messages that this program reads and writes; each has one spelling.
use Rattle.std.specs.Prelude.{◌≡◌, ◌≢◌, ℕ, ◌+◌, ◌^◌, ◌<◌, ◌≤◌, ◌⊎◌, List, [], ◌∷◌, ◌++◌, map, length, All, IfSome}
use Rattle.std.specs.declared.option.Option.{Option}
use Rattle.std.specs.declared.option.Option.TheVariants.{None}
use Rattle.pq_fields.specs.Packet.{rank, width_of}
use Rattle.pq_fields.specs.declared.field.Field.{Field}
use Rattle.pq_fields.specs.declared.field.Field.TheVariants.{Switch, Port, EthType, IpProto, EthSrc, EthDst, Ipv4Src, Ipv4Dst, TcpSrc}
use Rattle.pq_fields.specs.declared.field.Field.TheVariants.{TcpDst, UdpSrc, UdpDst, Ipv6Src, Ipv6Dst}
use Rattle.pq_model.specs.declared.action.Action.{Action}
use Rattle.pq_model.specs.declared.action.Action.TheVariants.{Output, PushVlan, PopVlan, Group, SetVlan, SetField}
use Rattle.pq_model.specs.declared.flow_mod.FlowCommand.{FlowCommand}
use Rattle.pq_model.specs.declared.flow_mod.FlowCommand.TheVariants.{Add as AddFlow, DeleteAll, DeleteStrict}
use Rattle.pq_model.specs.declared.group_mod.GroupCommand.{GroupCommand}
use Rattle.pq_model.specs.declared.group_mod.GroupCommand.TheVariants.{Add as AddGroup, Modify, Delete}
use Rattle.pq_model.specs.declared.message.Message.{Message}
use Rattle.pq_model.specs.declared.message.Message.TheVariants.{Flow, Group as Grouping, Barrier}
use Rattle.pq_model.specs.MatchFields.{IsLawfulMatch, IsPortNumber, IsTagWord, empty_match}
use Rattle.pq_model.specs.Mods.{FlowValue, GroupValue}
use Rattle.pq_model.specs.declared.reserved.TheConstants.{ALL_GROUPS, CONTROLLER, IN_PORT, LAST_PORT}
use Rattle.pq_model.specs.Spelling.{message_bytes}

-- the header fields that a policy writes
abbrev pub IsSettable : Field → Type 0
IsSettable Switch = ⊥
IsSettable Port = ⊥
IsSettable EthType = ⊥
IsSettable IpProto = ⊥
IsSettable EthSrc = Unit {0}
IsSettable EthDst = Unit {0}
IsSettable Ipv4Src = Unit {0}
IsSettable Ipv4Dst = Unit {0}
IsSettable TcpSrc = Unit {0}
IsSettable TcpDst = Unit {0}
IsSettable UdpSrc = Unit {0}
IsSettable UdpDst = Unit {0}
IsSettable Ipv6Src = ⊥
IsSettable Ipv6Dst = ⊥

-- an Output goes to a port, back, or to the controller
abbrev pub IsLawfulAction : Action → Type 0
IsLawfulAction (Output port) = IsPortNumber port ⊎ (port ≡ IN_PORT) ⊎ (port ≡ CONTROLLER)
IsLawfulAction PushVlan = Unit {0}
IsLawfulAction PopVlan = Unit {0}
IsLawfulAction (Group n) = n < 2 ^ 32
IsLawfulAction (SetVlan word) = IsTagWord word
IsLawfulAction (SetField f n) = IsSettable f × (n < 2 ^ width_of f)

-- a table to go to lies above the entry's own, at 254 at the most
abbrev pub IsLawfulGoto : ℕ → Option ℕ → Type 0
IsLawfulGoto table goto = IfSome goto (λ next. (table < next) × (next ≤ 254))

abbrev pub HasNoInstruction : FlowValue → Type 0
HasNoInstruction f = (f.actions ≡ []) × (f.goto ≡ None)

-- what each command allows
abbrev pub IsLawfulCommand : FlowCommand → FlowValue → Type 0
IsLawfulCommand AddFlow f = (f.table ≤ 254) × All IsLawfulAction f.actions × IsLawfulGoto f.table f.goto
IsLawfulCommand DeleteAll f = (f.cookie ≡ 0) × (f.table ≡ 0xff) × (f.priority ≡ 0) × (f.matching ≡ empty_match) × HasNoInstruction f
IsLawfulCommand DeleteStrict f = (f.cookie ≡ 0) × (f.table ≤ 254) × HasNoInstruction f

pub record IsLawfulFlow (f : FlowValue) : Type 0 where
  pub xid : f.xid < 2 ^ 32
  pub cookie : f.cookie < 2 ^ 64
  pub priority : f.priority < 2 ^ 16
  pub matching : IsLawfulMatch f.matching
  pub command : IsLawfulCommand f.command f

-- the place of an action in a bucket: PopVlan, PushVlan, the set-field of VLAN_VID, those of header fields in field order, Output
abbrev pub bucket_place : Action → ℕ
bucket_place PopVlan = 0
bucket_place PushVlan = 1
bucket_place (SetVlan word) = 2
bucket_place (SetField f n) = 3 + rank f
bucket_place (Output port) = 17
bucket_place (Group n) = 18

-- each number is below the next
abbrev pub Ascends : List ℕ → Type 0
Ascends [] = Unit {0}
Ascends (x ∷ []) = Unit {0}
Ascends (x ∷ y ∷ zs) = (x < y) × Ascends (y ∷ zs)

-- a bucket's actions are in their places, each at most once, and end with an Output, so there is no Group
pub record IsLawfulBucket (actions : List Action) : Type 0 where
  pub each : All IsLawfulAction actions
  pub placed : Ascends (map bucket_place actions)
  pub sent : (front : List Action) × (port : ℕ) × (actions ≡ front ++ Output port ∷ [])

-- the number of a group
abbrev pub IsGroupNumber : ℕ → Type 0
IsGroupNumber n = (1 ≤ n) × (n ≤ LAST_PORT)

abbrev pub HasBuckets : List (List Action) → Type 0
HasBuckets buckets = (buckets ≢ []) × All IsLawfulBucket buckets

abbrev pub IsLawfulGrouping : GroupCommand → GroupValue → Type 0
IsLawfulGrouping AddGroup g = IsGroupNumber g.group × HasBuckets g.buckets
IsLawfulGrouping Modify g = IsGroupNumber g.group × HasBuckets g.buckets
IsLawfulGrouping Delete g = (IsGroupNumber g.group ⊎ (g.group ≡ ALL_GROUPS)) × (g.buckets ≡ [])

pub record IsLawfulGroup (g : GroupValue) : Type 0 where
  pub xid : g.xid < 2 ^ 32
  pub command : IsLawfulGrouping g.command g

abbrev pub IsLawfulContent : Message → Type 0
IsLawfulContent (Flow f) = IsLawfulFlow f
IsLawfulContent (Grouping g) = IsLawfulGroup g
IsLawfulContent (Barrier xid) = xid < 2 ^ 32

-- a message keeps the rules of its sort, and its length fits the two bytes that state it
pub record IsLawfulMessage (m : Message) : Type 0 where
  pub content : IsLawfulContent m
  pub short : length (message_bytes m) < 2 ^ 16
