use Rattle.std.proofs.Common.{drop, ◌∙◌, ap}
use Rattle.pq_tree.proofs.Closing.{closes}
use Rattle.pq_tree.proofs.growth.Growing.close.Goals as goal

-- the head that was opened last is that of the tree that was put
pub returns : goal.returns
returns c = closes c.in-Some.last _ _ _ _ _ c.in_ok-children.children c.in-Some.ensures.items (c.in_ok-children.ensures
    ∙ c.terms_from.ensures ∙ ap (drop c.in-Some.last.before) c.deref.ensures.value) c.truncate.ensures.items c.in_ok-push.ensures.items
