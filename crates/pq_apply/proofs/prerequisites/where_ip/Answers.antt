use Rattle.pq_apply.specs.Atoms.{type_tree}
use Rattle.pq_apply.proofs.Kept.{within_still}
use Rattle.pq_apply.proofs.Gates.{made_within, types_join, types_make}
use Rattle.pq_apply.proofs.prerequisites.where_ip.Goals as goal

pub node-requires-clause-yes : goal.node-requires-clause-yes
node-requires-clause-yes c = within_still c.args.store.now c.where_type.new.store c.args.inner c.where_type.ensures.keeps c.requires.inner.0

pub node-requires-clause-no : goal.node-requires-clause-no
node-requires-clause-no c =
    made_within (type_tree 0x86dd) c.args.store.now c.where_type.new.store c.args.inner c.in_ok-of_ipv6.of_ipv6 c.requires.inner.0
    c.in_ok-of_ipv6.ensures.makes

pub node-requires-clause-sides : goal.node-requires-clause-sides
node-requires-clause-sides c =
    types_join c.args.store.now c.where_type.new.store c.args.inner c.in_ok-of_ipv6.of_ipv6 c.where_type.ensures.keeps c.requires.inner
    c.in_ok-of_ipv6.ensures.makes

pub returns-clause-makes : goal.returns-clause-makes
returns-clause-makes c =
    types_make c.args.store.now c.where_type.new.store c.node.new.self c.args.inner c.in_ok-of_ipv6.of_ipv6 c.in_ok-id.id
    c.where_type.ensures.keeps c.requires.inner c.in_ok-of_ipv6.ensures.makes c.in_ok-id.ensures.tree
