use Rattle.std.proofs.Common.{◌∙◌, sym}
use Rattle.pq_join.proofs.Tagged.{leaves_left, leaves_taken}
use Rattle.pq_join.proofs.leaving.add_leaving.Goals as goal

pub returns-then-is_even-clause-more : goal.returns-then-is_even-clause-more
returns-then-is_even-clause-more c =
    leaves_left c.args.classes.now c.args.class c.args.departures.now c.args.node c.args.second.now c.args.trees.now.items
    (sym c.is_even.ensures ∙ c.if-is_even.true) c.requires.before

pub returns-clause-more : goal.returns-clause-more
returns-clause-more c =
    leaves_taken c.args.classes.now c.args.class c.args.departures.now c.args.node c.args.second.now c.copies_tree.new.second
    c.args.trees.now.items c.push.new.self.items c.tag_of.result c.in_ok-id.id
    (sym c.is_even.ensures ∙ c.if-is_even.false) c.copies_tree.ensures.keeps c.tag_of.ensures c.in_ok-push.ensures.items c.requires.before
    c.in_ok-id.ensures.copies
