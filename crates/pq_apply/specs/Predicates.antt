-- The diagram of a predicate.
use Rattle.std.specs.Prelude.{ℕ, ◌≡◌, Bool, List, [], ◌∷◌}
use Rattle.pq_fields.specs.declared.field.Field.{Field}
use Rattle.pq_fields.specs.declared.field.Field.TheVariants.{Switch, Port, EthType, IpProto, EthSrc, EthDst, Ipv4Src, Ipv4Dst, TcpSrc}
use Rattle.pq_fields.specs.declared.field.Field.TheVariants.{TcpDst, UdpSrc, UdpDst, Ipv6Src, Ipv6Dst}
use Rattle.pq_fields.specs.Packet.{Numbers, Fit}
use Rattle.pq_fields.specs.Pred.{PredTop, Preds, PredTree, preds, holds}
use Rattle.pq_fields.specs.Pred.PredTop.{Always, Never, Equals, Leads, LeadsWide, Every, Some as AnyOf, Negated}
use Rattle.pq_fields.specs.Pred.Preds.{none, put}
use Rattle.pq_store.specs.Tree.{Tree, value}
use Rattle.pq_store.specs.Room.{HasRoom, IsAmong, IsCounted, Within}
use Rattle.pq_store.specs.Store.{HasAt}

-- the numbers in a field's prerequisites (OpenFlow 1.3.5, section 7.2.3.6): EtherTypes, then IP protocols
abbrev pub types_before : Field → List ℕ
types_before Switch = []
types_before Port = []
types_before EthType = []
types_before IpProto = 0x0800 ∷ 0x86dd ∷ []
types_before EthSrc = []
types_before EthDst = []
types_before Ipv4Src = 0x0800 ∷ []
types_before Ipv4Dst = 0x0800 ∷ []
types_before TcpSrc = 0x0800 ∷ 0x86dd ∷ []
types_before TcpDst = 0x0800 ∷ 0x86dd ∷ []
types_before UdpSrc = 0x0800 ∷ 0x86dd ∷ []
types_before UdpDst = 0x0800 ∷ 0x86dd ∷ []
types_before Ipv6Src = 0x86dd ∷ []
types_before Ipv6Dst = 0x86dd ∷ []

abbrev pub protocols_before : Field → List ℕ
protocols_before Switch = []
protocols_before Port = []
protocols_before EthType = []
protocols_before IpProto = []
protocols_before EthSrc = []
protocols_before EthDst = []
protocols_before Ipv4Src = []
protocols_before Ipv4Dst = []
protocols_before TcpSrc = 6 ∷ []
protocols_before TcpDst = 6 ∷ []
protocols_before UdpSrc = 17 ∷ []
protocols_before UdpDst = 17 ∷ []
protocols_before Ipv6Src = []
protocols_before Ipv6Dst = []

-- the numbers in the field's prerequisites are among these
pub record NeedsAmong (ns : Field → List ℕ) (f : Field) : Type 0 where
  pub types : (v : ℕ) → IsAmong v (types_before f) → IsAmong v (ns EthType)
  pub protocols : (v : ℕ) → IsAmong v (protocols_before f) → IsAmong v (ns IpProto)

-- the numbers of a test at the top of a predicate, and those in prerequisites, are among these
abbrev pub IsTopWithin : (Field → List ℕ) → PredTop → Type 0
IsTopWithin ns Always = Unit {0}
IsTopWithin ns Never = Unit {0}
IsTopWithin ns (Equals f v) = IsCounted ns f v × NeedsAmong ns f
IsTopWithin ns (Leads f v len) = NeedsAmong ns f
IsTopWithin ns (LeadsWide f v len) = NeedsAmong ns f
IsTopWithin ns Every = Unit {0}
IsTopWithin ns AnyOf = Unit {0}
IsTopWithin ns Negated = Unit {0}

-- and those of all tests of some predicates
abbrev pub ArePredsWithin : (Field → List ℕ) → Preds → Type 0
ArePredsWithin ns none = Unit {0}
ArePredsWithin ns (put top below rest) = IsTopWithin ns top × ArePredsWithin ns below × ArePredsWithin ns rest

abbrev pub IsPredWithin : (Field → List ℕ) → PredTree → Type 0
IsPredWithin ns p = ArePredsWithin ns (preds (p ∷ []))

-- the predicate may be one diagram: there is room for its numbers and those in prerequisites
abbrev pub FitsAsNode : PredTree → Type 0
FitsAsNode p = HasRoom (λ ns. IsPredWithin ns p)

-- the tree says of each packet whether the predicate holds, and tests only its numbers and those in prerequisites
pub record IsPredTree (p : PredTree) (t : Tree Bool) : Type 0 where
  pub gives : (x : Numbers) → Fit x → value t x ≡ holds p x
  pub tests : (ns : Field → List ℕ) → IsPredWithin ns p → Within ns t

abbrev pub HoldsAt : PredTree → List (Tree Bool) → ℕ → Type 0
HoldsAt p ts id = HasAt (IsPredTree p) ts id
