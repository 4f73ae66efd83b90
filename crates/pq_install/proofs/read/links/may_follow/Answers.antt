use Rattle.std.proofs.Common.{arith, refl, ap}
use Rattle.pq_install.proofs.LinkLists.{link_follows}
use Rattle.pq_install.proofs.read.links.may_follow.Goals as goal

pub returns-then-not-joins_ports : goal.returns-then-not-joins_ports
returns-then-not-joins_ports c =
    let f = link_follows c.args.topology.now.switches c.args.before.now c.args.link.now c.requires in
    (λ wrong. absurd cc, λ are. grind (arith, c.joins_ports.ensures.1 (f.1 are).0, c.if-not-joins_ports.true))

pub returns-then-not-comes_after : goal.returns-then-not-comes_after
returns-then-not-comes_after c =
    let f = link_follows c.args.topology.now.switches c.args.before.now c.args.link.now c.requires in
    (λ wrong. absurd cc, λ are. grind (arith, c.comes_after.ensures.1 (f.1 are).1, c.if-not-comes_after.true))

pub returns-then-is_linked : goal.returns-then-is_linked
returns-then-is_linked c =
    let f = link_follows c.args.topology.now.switches c.args.before.now c.args.link.now c.requires in
    (λ wrong. absurd cc, λ are. grind (arith, rw (ap (λ l. l.first) c.link.view_is) at c.is_linked.ensures, (f.1 are).2, c.if-is_linked.true))

pub returns-then-is_linked-2 : goal.returns-then-is_linked-2
returns-then-is_linked-2 c =
    let f = link_follows c.args.topology.now.switches c.args.before.now c.args.link.now c.requires in
    (λ wrong. absurd cc, λ are. grind (arith, rw (ap (λ l. l.second) c.link.view_is) at c.is_linked-2.ensures, (f.1 are).3, c.if-is_linked-2.true))

pub returns : goal.returns
returns c =
    let f = link_follows c.args.topology.now.switches c.args.before.now c.args.link.now c.requires in (
      λ right. f.0 (
        c.joins_ports.ensures.0 c.if-not-joins_ports.false,
        c.comes_after.ensures.0 c.if-not-comes_after.false,
        grind (arith, rw (ap (λ l. l.first) c.link.view_is) at c.is_linked.ensures, c.if-is_linked.false),
        grind (arith, rw (ap (λ l. l.second) c.link.view_is) at c.is_linked-2.ensures, c.if-is_linked-2.false),
      ),
      λ are. refl,
    )
