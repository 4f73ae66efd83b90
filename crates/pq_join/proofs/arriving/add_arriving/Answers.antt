use Rattle.std.proofs.Common.{◌∙◌, sym}
use Rattle.pq_join.proofs.Tagged.{arrives_taken}
use Rattle.pq_join.proofs.arriving.add_arriving.Goals as goal

pub returns-clause-more : goal.returns-clause-more
returns-clause-more c =
    arrives_taken c.args.classes.now c.args.class c.args.seen.now c.args.root c.args.first.now c.arrival_tree.new.first
    c.args.trees.now.items c.push.new.self.items c.tag_of.result c.in_ok-id.id
    (sym c.is_even.ensures ∙ c.if-not-is_even.false) c.arrival_tree.ensures.keeps c.tag_of.ensures c.in_ok-push.ensures.items
    c.requires.before c.in_ok-id.ensures.arrives
