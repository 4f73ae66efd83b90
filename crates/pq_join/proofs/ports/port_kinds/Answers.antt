use Rattle.std.proofs.Common.{◌≡◌, ◌∙◌, Some, ap, refl, sym, subst}
use Rattle.std.proofs.lemmas.Option.{slice_get_within}
use Rattle.std.specs.Prelude.{slice_get}
use Rattle.std.specs.List.{All, push}
use Rattle.pq_fields.specs.declared.field.Field.TheVariants.{Port}
use Rattle.pq_model.specs.Lawful.{Ascends as Rises}
use Rattle.pq_model.specs.MatchFields.{IsPortNumber}
use Rattle.pq_model.specs.Topology.{ports_of}
use Rattle.pq_store.specs.declared.test.Test.TheVariants.{Equal}
use Rattle.pq_store.specs.Tree.{Tree}
use Rattle.pq_store.specs.Tree.Tree.{Tip}
use Rattle.pq_store.specs.Store.{IsJoinable, JoinsAt}
use Rattle.pq_join.specs.declared.ports.PortKind.{PortKind}
use Rattle.pq_join.specs.Ports.{own_kind}
use Rattle.pq_join.proofs.PortTrees.{IsBehind, behind_all, behind_joins, behind_more, behind_none, behind_still, behind_within}
use Rattle.pq_join.proofs.ports.port_kinds.Goals as goal
use Rattle.pq_join.proofs.ports.port_kinds.Goals.{After-from}

-- the tree so far stays
behind : (c : After-from)
    → IsBehind (own_kind c.args.topology.now c.args.datapath) (push c.next.new.self.iter.rest.now c.in-Some.port.now)
    (ports_of c.args.topology.now c.args.datapath)
    c.leaf-in-loop-port.new.self c.loop-port.id
behind c =
    let kind = own_kind c.args.topology.now c.args.datapath in
    let ports = ports_of c.args.topology.now c.args.datapath in
    subst (λ left. IsBehind kind left ports c.leaf-in-loop-port.new.self c.loop-port.id) c.in-Some.ensures.steps
    (behind_still kind c.loop-port.port-iterator.iter.rest.now ports c.loop-port.kinds c.leaf-in-loop-port.new.self c.loop-port.id
    c.leaf-in-loop-port.ensures.keeps c.loop-port.invariant)

-- the leaf of the port
leaf : (c : After-from)
    → slice_get c.leaf-in-loop-port.new.self c.in_ok-kind.kind
    ≡ Some (Tip (own_kind c.args.topology.now c.args.datapath c.in-Some.port.now))
leaf c = c.in_ok-kind.ensures.leaf ∙ ap (λ k. Some (Tip k)) c.own_kind.ensures

pub loop-port-init : goal.loop-port-init
loop-port-init c =
    let front : c.into_iter-port-iterator.result.iter.rest.now ≡ ports_of c.args.topology.now c.args.datapath =
    ap (λ r. r.iter.rest.now) c.into_iter-port-iterator.ensures.into_iter_gives
    ∙ (ap (λ i. i.rest.now) c.rev-port-items.ensures.source ∙ (c.iter.ensures.rest ∙ c.ports_of.ensures.ports)) in
    behind_all (own_kind c.args.topology.now c.args.datapath) c.into_iter-port-iterator.result.iter.rest.now
    (ports_of c.args.topology.now c.args.datapath) c.leaf.new.self c.in_ok-id.id
    front c.in_ok-id.ensures.leaf

pub node-requires-clause-yes : goal.node-requires-clause-yes
node-requires-clause-yes c =
    let at = (goal.at.node-requires-clause-yes c).After-from in
    slice_get_within c.leaf-in-loop-port.new.self c.in_ok-kind.kind (Tip (own_kind c.args.topology.now c.args.datapath c.in-Some.port.now)) (leaf at)

pub node-requires-clause-no : goal.node-requires-clause-no
node-requires-clause-no c =
    let at = (goal.at.node-requires-clause-no c).After-from in
    behind_within (own_kind c.args.topology.now c.args.datapath) (push c.next.new.self.iter.rest.now c.in-Some.port.now)
    (ports_of c.args.topology.now c.args.datapath)
    c.leaf-in-loop-port.new.self c.loop-port.id (behind at)

pub node-requires-clause-sides : goal.node-requires-clause-sides
node-requires-clause-sides c =
    let at = (goal.at.node-requires-clause-sides c).After-from in
    let ports = ports_of c.args.topology.now c.args.datapath in
    let store = c.leaf-in-loop-port.new.self in
    subst (λ p. (y n : Tree PortKind) → slice_get store c.in_ok-kind.kind ≡ Some y → slice_get store c.loop-port.id ≡ Some n → IsJoinable (Equal Port p) y n)
    (sym c.from.ensures)
    (behind_joins (own_kind c.args.topology.now c.args.datapath) c.next.new.self.iter.rest.now c.in-Some.port.now ports
    c.leaf-in-loop-port.new.self c.in_ok-kind.kind c.loop-port.id
    (behind at) (leaf at) (subst Rises c.ports_of.ensures.ports c.ports_of.ensures.ascending)
    (subst (All IsPortNumber) c.ports_of.ensures.ports c.ports_of.ensures.numbers) c.requires.fits)

pub loop-port-preserved : goal.loop-port-preserved
loop-port-preserved c =
    let at = (goal.at.loop-port-preserved c).After-from in
    let ports = ports_of c.args.topology.now c.args.datapath in
    behind_more (own_kind c.args.topology.now c.args.datapath) c.next.new.self.iter.rest.now c.in-Some.port.now ports
    c.leaf-in-loop-port.new.self c.in_ok-kind.kind c.loop-port.id
    (behind at) (leaf at) (subst Rises c.ports_of.ensures.ports c.ports_of.ensures.ascending)
    (subst (All IsPortNumber) c.ports_of.ensures.ports c.ports_of.ensures.numbers)
    c.node.new.self c.in_ok-id-2.id
    (subst (λ p. JoinsAt c.leaf-in-loop-port.new.self (Equal Port p) c.in_ok-kind.kind c.loop-port.id c.node.new.self c.in_ok-id-2.id)
    c.from.ensures c.in_ok-id-2.ensures.tree)

pub returns : goal.returns
returns c =
    behind_none c.args.topology.now c.args.datapath c.loop-port.port-iterator.iter.rest.now
    (ports_of c.args.topology.now c.args.datapath) c.loop-port.kinds c.loop-port.id
    c.in-None.ensures.steps.0 refl c.loop-port.invariant
