-- Forwarding policies, and which packets a policy yields on a packet.
use Rattle.std.specs.Prelude.{ℕ, ◌^◌, ◌<◌, ◌≤◌, ◌≡◌, ◌≢◌, ◌↔◌, ◌⊎◌, Bool, true, List, [], ◌∷◌, map, All, if◌then◌else◌, ◌&&◌, nat_lt}
use Rattle.std.specs.List.{Contains}
use Rattle.pq_fields.specs.declared.field.Field.{Field}
use Rattle.pq_fields.specs.Packet.{Numbers, has_field, is_before, numbers, rank, width_of, with_number}
use Rattle.pq_fields.specs.Pred.{PredTree, FitsField, IsPredOver, holds, pred_tree}
use Rattle.pq_model.specs.Topology.{Topology, ports_of}
use Rattle.pq_policy.specs.declared.policy.Policy.{Policy}
use Rattle.pq_policy.specs.declared.policy.Policy.TheOpen.{Policy-F}
use Rattle.pq_policy.specs.declared.policy.Policy.TheFolds.{fold-Policy}
use Rattle.pq_model.specs.MatchFields.{IsPortNumber}

-- what is at the top of a policy
pub data PolicyTop : Type 0 where
  Pass : PolicyTop
  Discard : PolicyTop
  Spread : PolicyTop
  Only : PredTree → PolicyTop
  Write : Field → ℕ → PolicyTop
  Forward : ℕ → PolicyTop
  Choose : PredTree → PolicyTop
  Either : PolicyTop
  InTurn : PolicyTop

-- policies as plain data: the top of the first, its operands, and the policies after it
pub data Policies : Type 0 where
  none : Policies
  put : PolicyTop → Policies → Policies → Policies

-- a policy as plain data
pub record PolicyTree : Type 0 where
  pub top : PolicyTop
  pub below : Policies

-- policies one after another
abbrev pub policies : List PolicyTree → Policies
policies [] = none
policies (p ∷ ps) = put p.top p.below (policies ps)

abbrev pub leaf : PolicyTop → PolicyTree
leaf top = record { top = top; below = none }

abbrev pub policy_step : Policy-F PolicyTree → PolicyTree
policy_step Policy-F.Identity = leaf Pass
policy_step Policy-F.Drop = leaf Discard
policy_step Policy-F.Flood = leaf Spread
policy_step (Policy-F.Filter p) = leaf (Only (pred_tree p))
policy_step (Policy-F.Mod f n) = leaf (Write f n)
policy_step (Policy-F.Fwd n) = leaf (Forward n)
policy_step (Policy-F.If p a b) = record { top = Choose (pred_tree p); below = policies (a.value ∷ b.value ∷ []) }
policy_step (Policy-F.Union ps) = record { top = Either; below = policies ps.items }
policy_step (Policy-F.Seq ps) = record { top = InTurn; below = policies ps.items }

-- a policy as plain data
abbrev pub policy_tree : Policy → PolicyTree
policy_tree = fold-Policy PolicyTree policy_step

abbrev pub policy_trees : List Policy → Policies
policy_trees ps = policies (map policy_tree ps)

-- how operands act together: as any one of them, each on what the one before it gives, as the first, or as the second
pub data Joint : Type 0 where
  AnyOne : Joint
  Chained : Joint
  First : Joint
  Second : Joint

-- the packet with the field written, and the packet unchanged where it lacks the field
abbrev pub written : Field → ℕ → Numbers → Numbers
written f n x = if has_field f x then with_number f n x else x

-- whether a policy with this top gives y on x, where the operands act so together
abbrev pub Gives : Topology → PolicyTop → (Joint → Numbers → Numbers → Type 0) → Numbers → Numbers → Type 0
Gives t Pass Operands x y = y ≡ x
Gives t Discard Operands x y = ⊥
Gives t Spread Operands x y = (p : ℕ) × Contains (ports_of t x.switch) p × (p ≢ x.port) × (y ≡ record x { port = p })
Gives t (Only p) Operands x y = (holds p x ≡ true) × (y ≡ x)
Gives t (Write f n) Operands x y = y ≡ written f n x
Gives t (Forward n) Operands x y = y ≡ record x { port = n }
Gives t (Choose p) Operands x y = Operands (if holds p x then First else Second) x y
Gives t Either Operands x y = Operands AnyOne x y
Gives t InTurn Operands x y = Operands Chained x y

-- whether the policies together yield y on x
abbrev pub Yields : Topology → Policies → Joint → Numbers → Numbers → Type 0
Yields t none AnyOne x y = ⊥
Yields t none Chained x y = y ≡ x
Yields t none First x y = ⊥
Yields t none Second x y = ⊥
Yields t (put top below rest) AnyOne x y = Gives t top (Yields t below) x y ⊎ Yields t rest AnyOne x y
Yields t (put top below rest) Chained x y = (z : Numbers) × Gives t top (Yields t below) x z × Yields t rest Chained z y
Yields t (put top below rest) First x y = Gives t top (Yields t below) x y
Yields t (put top below rest) Second x y = Yields t rest First x y

-- whether the policy yields y on x
abbrev pub yields : Topology → PolicyTree → Numbers → Numbers → Type 0
yields t p x y = Gives t p.top (Yields t p.below) x y

-- each packet is before all later ones in packet order: by their numbers in field order, where the first that differs decides
abbrev pub IsInPacketOrder : List Numbers → Type 0
IsInPacketOrder [] = Unit {0}
IsInPacketOrder (x ∷ xs) = All (λ y. is_before (numbers x) (numbers y) ≡ true) xs × IsInPacketOrder xs

-- the list of the packets of P, each once, in packet order
pub record IsListOf (P : Numbers → Type 0) (ys : List Numbers) : Type 0 where
  pub ordered : IsInPacketOrder ys
  pub exact : (y : Numbers) → Contains ys y ↔ P y

-- a policy may write the field: it is an address of 32 or 48 bits or a port of TCP or UDP
abbrev pub is_writable : Field → Bool
is_writable f = nat_lt 3 (rank f) && nat_lt (rank f) 12

-- numbers may stand for their fields, as V says, and those that are written are of fields that may be; ports are from 1 to 0xffffff00, and no list of operands is empty
abbrev pub IsTopOver : (Field → ℕ → Type 0) → PolicyTop → Policies → Type 0
IsTopOver V Pass below = Unit {0}
IsTopOver V Discard below = Unit {0}
IsTopOver V Spread below = Unit {0}
IsTopOver V (Only p) below = IsPredOver V p
IsTopOver V (Write f n) below = (is_writable f ≡ true) × V f n
IsTopOver V (Forward n) below = IsPortNumber n
IsTopOver V (Choose p) below = IsPredOver V p
IsTopOver V Either below = below ≢ none
IsTopOver V InTurn below = below ≢ none

abbrev pub ArePoliciesOver : (Field → ℕ → Type 0) → Policies → Type 0
ArePoliciesOver V none = Unit {0}
ArePoliciesOver V (put top below rest) = IsTopOver V top below × ArePoliciesOver V below × ArePoliciesOver V rest

abbrev pub IsPolicyOver : (Field → ℕ → Type 0) → PolicyTree → Type 0
IsPolicyOver V p = ArePoliciesOver V (policies (p ∷ []))

-- all numbers fit their fields
abbrev pub IsLawfulTop : PolicyTop → Policies → Type 0
IsLawfulTop = IsTopOver FitsField

abbrev pub AreLawfulPolicies : Policies → Type 0
AreLawfulPolicies = ArePoliciesOver FitsField

abbrev pub IsLawfulPolicy : PolicyTree → Type 0
IsLawfulPolicy = IsPolicyOver FitsField
