use Rattle.std.proofs.Common.{refl, false, arith}
use Rattle.std.proofs.lemmas.Option.{slice_get_within}
use Rattle.pq_fields.specs.declared.field.Field.TheVariants.{EthType}
use Rattle.pq_store.specs.Tree.Tree.{Tip}
use Rattle.pq_apply.proofs.Kept.{within_still}
use Rattle.pq_apply.proofs.Gates.{inner_still, gate_joins, gate_makes}
use Rattle.pq_apply.proofs.prerequisites.where_type.Goals as goal

pub node-requires-clause-yes : goal.node-requires-clause-yes
node-requires-clause-yes c = within_still c.args.store.now c.leaf.new.self c.args.inner c.leaf.ensures.keeps c.requires.inner.0

pub node-requires-clause-no : goal.node-requires-clause-no
node-requires-clause-no c = slice_get_within c.leaf.new.self c.in_ok-no.no (Tip false) c.in_ok-no.ensures.leaf

pub node-requires-clause-sides : goal.node-requires-clause-sides
node-requires-clause-sides c =
    gate_joins c.leaf.new.self EthType c.args.ethertype 3 2 c.args.inner c.in_ok-no.no (refl, c.requires.ethertype) (omega arith) (omega arith)
    (inner_still c.args.store.now c.leaf.new.self 3 2 c.args.inner c.leaf.ensures.keeps c.requires.inner) c.in_ok-no.ensures.leaf

pub returns-clause-makes : goal.returns-clause-makes
returns-clause-makes c =
    gate_makes c.args.store.now c.leaf.new.self c.node.new.self EthType c.args.ethertype 3 2 c.args.inner c.in_ok-no.no c.in_ok-id.id
    c.leaf.ensures.keeps c.requires.inner c.in_ok-no.ensures.leaf c.in_ok-id.ensures.tree
