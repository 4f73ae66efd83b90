-- Lawful actions that are spelled are read back.
use Rattle.std.proofs.Common.{◌≡◌, ℕ, ◌-◌, ◌^◌, ◌<◌, ◌≤◌, List, [], ◌++◌, length, get_or, take, drop, None, Some, refl, sym, ap, ◌∙◌, arith, inl, inr}
use Rattle.std.proofs.lemmas.List.{take_at, drop_at, take_rest}
use Rattle.std.proofs.lemmas.Option.{same_Some}
use Rattle.pq_fields.specs.declared.field.Field.TheVariants.{Switch, Port, EthType, IpProto, EthSrc, EthDst, Ipv4Src, Ipv4Dst, TcpSrc}
use Rattle.pq_fields.specs.declared.field.Field.TheVariants.{TcpDst, UdpSrc, UdpDst, Ipv6Src, Ipv6Dst}
use Rattle.pq_model.specs.declared.action.Action.{Action}
use Rattle.pq_model.specs.declared.action.Action.TheVariants.{Output, PushVlan, PopVlan, Group, SetVlan, SetField}
use Rattle.pq_model.specs.Lawful.{IsLawfulAction}
use Rattle.pq_model.specs.Spelling.{action_bytes}
use Rattle.pq_oxm.proofs.Numbers.{reads_16, reads_32, reads_mac}
use Rattle.pq_flowmod.specs.Reading.{action_in, set_in}

port_below : (port : ℕ) → IsLawfulAction (Output port) → port < 2 ^ 32
port_below port (inl p) = omega (arith, p.1)
port_below port (inr (inl e)) = omega (arith, e)
port_below port (inr (inr e)) = omega (arith, e)

-- an action is read from its spelling
pub action_read : (a : Action) → IsLawfulAction a → action_in (action_bytes a) ≡ Some a
unfolding action_in set_in action_bytes
action_read (Output port) law = ap (λ (n : ℕ). Some (Output n)) (reads_32.again port (port_below port law))
action_read PushVlan law = refl
action_read PopVlan law = refl
action_read (Group n) law = ap (λ (k : ℕ). Some (Group k)) (reads_32.again n law)
action_read (SetVlan word) law = ap (λ (k : ℕ). Some (SetVlan k)) (reads_16.again word (omega (arith, law.1)))
action_read (SetField Switch n) law = absurd law.0
action_read (SetField Port n) law = absurd law.0
action_read (SetField EthType n) law = absurd law.0
action_read (SetField IpProto n) law = absurd law.0
action_read (SetField EthSrc n) law = ap (λ (k : ℕ). Some (SetField EthSrc k)) (reads_mac.again n law.1)
action_read (SetField EthDst n) law = ap (λ (k : ℕ). Some (SetField EthDst k)) (reads_mac.again n law.1)
action_read (SetField Ipv4Src n) law = ap (λ (k : ℕ). Some (SetField Ipv4Src k)) (reads_32.again n law.1)
action_read (SetField Ipv4Dst n) law = ap (λ (k : ℕ). Some (SetField Ipv4Dst k)) (reads_32.again n law.1)
action_read (SetField TcpSrc n) law = ap (λ (k : ℕ). Some (SetField TcpSrc k)) (reads_16.again n law.1)
action_read (SetField TcpDst n) law = ap (λ (k : ℕ). Some (SetField TcpDst k)) (reads_16.again n law.1)
action_read (SetField UdpSrc n) law = ap (λ (k : ℕ). Some (SetField UdpSrc k)) (reads_16.again n law.1)
action_read (SetField UdpDst n) law = ap (λ (k : ℕ). Some (SetField UdpDst k)) (reads_16.again n law.1)
action_read (SetField Ipv6Src n) law = absurd law.0
action_read (SetField Ipv6Dst n) law = absurd law.0

-- an action tells its length
pub record IsSized (bytes : List ℕ) (size : ℕ) : Type 0 where
  pub told : get_or bytes 3 0 ≡ size
  pub long : 8 ≤ size
  pub within : size ≤ length bytes

pub action_sized : (a : Action) (more : List ℕ) → IsLawfulAction a → IsSized (action_bytes a ++ more) (length (action_bytes a))
unfolding action_bytes
action_sized (Output port) more law = record { told = refl; long = omega arith; within = omega arith }
action_sized PushVlan more law = record { told = refl; long = omega arith; within = omega arith }
action_sized PopVlan more law = record { told = refl; long = omega arith; within = omega arith }
action_sized (Group n) more law = record { told = refl; long = omega arith; within = omega arith }
action_sized (SetVlan word) more law = record { told = refl; long = omega arith; within = omega arith }
action_sized (SetField Switch n) more law = absurd law.0
action_sized (SetField Port n) more law = absurd law.0
action_sized (SetField EthType n) more law = absurd law.0
action_sized (SetField IpProto n) more law = absurd law.0
action_sized (SetField EthSrc n) more law = record { told = refl; long = omega arith; within = omega arith }
action_sized (SetField EthDst n) more law = record { told = refl; long = omega arith; within = omega arith }
action_sized (SetField Ipv4Src n) more law = record { told = refl; long = omega arith; within = omega arith }
action_sized (SetField Ipv4Dst n) more law = record { told = refl; long = omega arith; within = omega arith }
action_sized (SetField TcpSrc n) more law = record { told = refl; long = omega arith; within = omega arith }
action_sized (SetField TcpDst n) more law = record { told = refl; long = omega arith; within = omega arith }
action_sized (SetField UdpSrc n) more law = record { told = refl; long = omega arith; within = omega arith }
action_sized (SetField UdpDst n) more law = record { told = refl; long = omega arith; within = omega arith }
action_sized (SetField Ipv6Src n) more law = absurd law.0
action_sized (SetField Ipv6Dst n) more law = absurd law.0

pub action_told : (bytes : List ℕ) (a : Action) (more : List ℕ) → IsLawfulAction a → bytes ≡ action_bytes a ++ more → IsSized bytes (length (action_bytes a))
action_told bytes a more law is = rw is (action_sized a more law)

-- a spelling has bytes
pub action_long : (a : Action) → IsLawfulAction a → 0 < length (action_bytes a)
action_long a law = omega (arith, (action_sized a [] law).long)

same_action : (a b : Action) → Some a ≡ Some b → a ≡ b
same_action a b same = cc

-- the action at the front, and what follows it
pub action_is : (rest : List ℕ) (size : ℕ) (action a : Action) (more : List ℕ) → IsLawfulAction a → rest ≡ action_bytes a ++ more →
    Some size ≡ Some (length (action_bytes a)) → action_in (take size rest) ≡ Some action →
    (action ≡ a) × (take (length rest - size) (drop size rest) ≡ more)
action_is rest size action a more law is told read =
    let long : length (action_bytes a) ≡ size = sym (same_Some _ _ told) in
    let front : take size rest ≡ action_bytes a = ap (take size) is ∙ take_at (action_bytes a) more size long in
    let behind : drop size rest ≡ more = ap (drop size) is ∙ drop_at (action_bytes a) more size long in
    (same_action _ _ (sym read ∙ ap action_in front ∙ action_read a law), take_rest rest size ∙ behind)

-- an action that is not read is not lawful
pub no_action : (rest : List ℕ) (size : ℕ) (a : Action) (more : List ℕ) → IsLawfulAction a → rest ≡ action_bytes a ++ more →
    Some size ≡ Some (length (action_bytes a)) → action_in (take size rest) ≡ None → ⊥
no_action rest size a more law is told read =
    let long : length (action_bytes a) ≡ size = sym (same_Some _ _ told) in
    let front : take size rest ≡ action_bytes a = ap (take size) is ∙ take_at (action_bytes a) more size long in
    let same : None ≡ Some a = sym read ∙ ap action_in front ∙ action_read a law in
    absurd cc
