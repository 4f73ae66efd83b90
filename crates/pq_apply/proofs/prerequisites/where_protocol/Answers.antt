use Rattle.std.proofs.Common.{refl, false, arith}
use Rattle.std.proofs.lemmas.Option.{slice_get_within}
use Rattle.pq_fields.specs.declared.field.Field.TheVariants.{IpProto}
use Rattle.pq_store.specs.Tree.Tree.{Tip}
use Rattle.pq_apply.specs.Atoms.{MakesAt, protocol_tree}
use Rattle.pq_apply.proofs.Kept.{within_still}
use Rattle.pq_apply.proofs.Gates.{inner_still, gate_joins, gate_makes, gate_inner}
use Rattle.pq_apply.proofs.prerequisites.where_protocol.Goals as goal
use Rattle.pq_apply.proofs.prerequisites.where_protocol.Goals.{In_ok-of_protocol}

pub node-requires-clause-yes : goal.node-requires-clause-yes
node-requires-clause-yes c = within_still c.args.store.now c.leaf.new.self c.args.inner c.leaf.ensures.keeps c.requires.inner.0

pub node-requires-clause-no : goal.node-requires-clause-no
node-requires-clause-no c = slice_get_within c.leaf.new.self c.in_ok-no.no (Tip false) c.in_ok-no.ensures.leaf

pub node-requires-clause-sides : goal.node-requires-clause-sides
node-requires-clause-sides c =
    gate_joins c.leaf.new.self IpProto c.args.protocol 4 1 c.args.inner c.in_ok-no.no (refl, c.requires.protocol) (omega arith) (omega arith)
    (inner_still c.args.store.now c.leaf.new.self 4 1 c.args.inner c.leaf.ensures.keeps c.requires.inner) c.in_ok-no.ensures.leaf

-- the test of the protocol is before the diagram
makes : (c : In_ok-of_protocol) → MakesAt (protocol_tree c.args.protocol) c.args.store.now c.args.inner c.node.new.self c.in_ok-of_protocol.of_protocol
makes c =
    gate_makes c.args.store.now c.leaf.new.self c.node.new.self IpProto c.args.protocol 4 1 c.args.inner c.in_ok-no.no c.in_ok-of_protocol.of_protocol
    c.leaf.ensures.keeps c.requires.inner c.in_ok-no.ensures.leaf c.in_ok-of_protocol.ensures.tree

pub where_ip-requires : goal.where_ip-requires
where_ip-requires c = record {
  inner = gate_inner c.args.store.now c.node.new.self IpProto c.args.protocol 4 1 c.args.inner c.in_ok-of_protocol.of_protocol (omega arith) c.requires.inner
      (makes (goal.at.where_ip-requires c).In_ok-of_protocol);
}

pub returns-clause-makes : goal.returns-clause-makes
returns-clause-makes c = λ t is. c.in_ok-id.ensures.makes (protocol_tree c.args.protocol t) (makes (goal.at.returns-clause-makes c).In_ok-of_protocol t is)
