-- The ports of a lawful topology, and those in links.
use Rattle.std.proofs.Common.{ℕ, ◌≡◌, ◌∙◌, Bool, true, false, List, [], ◌∷◌, ◌==◌, ◌&&◌, Option, None, Some, if◌then◌else◌, refl, sym, ap}
use Rattle.std.proofs.Common.{subst, arith, eqb-true, ne_eqb}
use Rattle.std.specs.Prelude.{is_none, is_some}
use Rattle.std.specs.List.{All}
use Rattle.std.proofs.lemmas.List.Elements.{All-head, All-tail, All-weaker}
use Rattle.std.proofs.lemmas.List.Folds.{list_any_none}
use Rattle.pq_model.specs.Install.{IsLawfulLink, IsLawfulTopology}
use Rattle.pq_model.specs.MatchFields.{IsPortNumber}
use Rattle.pq_model.specs.Topology.{Link, Topology, is_edge, is_end, is_linked, is_port, peer, peer_in, ports_of}
use Rattle.pq_join.specs.declared.ports.PortKind.TheVariants.{Missing, Edge, Linked}
use Rattle.pq_join.specs.Arriving.{comes_in}
use Rattle.pq_join.specs.Ports.{own_kind, port_kind}

-- the end of a link is a port of the topology
end_port : (T : Topology) (e : ℕ × ℕ) (d p : ℕ) → is_end e d p ≡ true → is_port T e.0 e.1 ≡ true → is_port T d p ≡ true
end_port T e d p here port =
    let parts = both (e.0 == d) (e.1 == p) here in
    let switch : e.0 ≡ d = eqb-true e.0 d parts.0 in
    let number : e.1 ≡ p = eqb-true e.1 p parts.1 in
    subst (λ q. is_port T d q ≡ true) number (subst (λ c. is_port T c e.1 ≡ true) switch port)
  where
    both : (a b : Bool) → (a && b) ≡ true → (a ≡ true) × (b ≡ true)
    both true b h = (refl, h)
    both false b h = absurd cc

-- a number in a link is that of a port
linked_in : (T : Topology) (ls : List Link) (d p : ℕ) → All (IsLawfulLink T) ls → is_some (peer_in ls d p) ≡ true → is_port T d p ≡ true
linked_in T [] d p lawful linked = absurd cc
linked_in T (l ∷ ls) d p lawful linked = by (linked_in T ls d p (All-tail (IsLawfulLink T) l ls lawful)) (is_end l.first d p) (is_end l.second d p) refl refl
  where
    head : IsLawfulLink T l
    head = All-head (IsLawfulLink T) l ls lawful

    by : (is_some (peer_in ls d p) ≡ true → is_port T d p ≡ true) → (a b : Bool) → is_end l.first d p ≡ a → is_end l.second d p ≡ b → is_port T d p ≡ true
    by later true b first second = end_port T l.first d p first (head).0
    by later false true first second = end_port T l.second d p second (head).1
    by later false false first second =
        later (sym (ap (λ a. is_some (if a then Some l.second else if is_end l.second d p then Some l.first else peer_in ls d p)) first
        ∙ ap (λ b. is_some (if b then Some l.first else peer_in ls d p)) second) ∙ linked)

pub linked_port : (T : Topology) (d p : ℕ) → IsLawfulTopology T → is_linked T d p ≡ true → is_port T d p ≡ true
linked_port T d p lawful linked = linked_in T T.links d p lawful.links linked

-- no port has the number 0
pub no_port_zero : (T : Topology) (d : ℕ) → All IsPortNumber (ports_of T d) → is_port T d 0 ≡ false
no_port_zero T d numbers =
    list_any_none (λ q. q == 0) (ports_of T d)
    (All-weaker IsPortNumber (λ q. (q == 0) ≡ false) (λ q number. ne_eqb q 0 (λ e. omega (arith, number.0, e))) (ports_of T d) numbers)

-- a packet comes in at the edge at an edge port
pub edge_comes_in : (T : Topology) (d p : ℕ) → comes_in (port_kind T d p) false ≡ is_edge T d p
edge_comes_in T d p = by (is_port T d p) (peer T d p)
  where
    by : (b : Bool) (o : Option (ℕ × ℕ)) → comes_in (if b then (if is_some o then Linked else Edge) else Missing) false ≡ (b && is_none o)
    by true None = refl
    by true (Some e) = refl
    by false o = refl

-- and over a link at a linked one
pub link_comes_in : (T : Topology) (d p : ℕ) → IsLawfulTopology T → comes_in (port_kind T d p) true ≡ is_linked T d p
link_comes_in T d p lawful = by (is_port T d p) (is_linked T d p) refl refl
  where
    told : (b : Bool) → comes_in (if b then Linked else Edge) true ≡ b
    told true = refl
    told false = refl

    by : (a b : Bool) → is_port T d p ≡ a → is_linked T d p ≡ b → comes_in (port_kind T d p) true ≡ is_linked T d p
    by true b port linked = ap (λ a. comes_in (if a then own_kind T d p else Missing) true) port ∙ told (is_linked T d p)
    by false true port linked = let there = linked_port T d p lawful linked in absurd cc
    by false false port linked = ap (λ a. comes_in (if a then own_kind T d p else Missing) true) port ∙ sym linked
