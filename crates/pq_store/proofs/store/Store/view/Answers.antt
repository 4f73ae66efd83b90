use Rattle.std.proofs.Common.{Some, ap, ◌∙◌}
use Rattle.pq_store.proofs.Arenas.{is_canonical}
use Rattle.pq_store.proofs.Joins.{branch_shows, leaf_shows}
use Rattle.pq_store.proofs.store.Store.view.Goals as goal

pub returns-in-Leaf-clause-shows : goal.returns-in-Leaf-clause-shows
returns-in-Leaf-clause-shows g c = rw (← c.self.view_is, ← c.node.view_is)
    (leaf_shows c.self.inside.cells.keys c.self.invariant c.node.inside.0 c.in-Leaf.leaf (c.index.ensures ∙ ap Some c.in-Leaf.is))

pub returns-in-Leaf-clause-diagrams : goal.returns-in-Leaf-clause-diagrams
returns-in-Leaf-clause-diagrams g c = rw (← c.self.view_is) c.self.invariant.diagrams

pub returns-in-Branch-clause-shows : goal.returns-in-Branch-clause-shows
returns-in-Branch-clause-shows g c = rw (← c.self.view_is, ← c.node.view_is)
    (branch_shows c.self.inside.cells.keys c.self.invariant c.node.inside.0 c.in-Branch.branch (c.index.ensures ∙ ap Some c.in-Branch.is))

pub returns-in-Branch-clause-diagrams : goal.returns-in-Branch-clause-diagrams
returns-in-Branch-clause-diagrams g c = rw (← c.self.view_is) c.self.invariant.diagrams

pub returns-in-Leaf-clause-canonical : goal.returns-in-Leaf-clause-canonical
returns-in-Leaf-clause-canonical g c = rw (← c.self.view_is) (is_canonical c.self.inside.cells.keys c.self.invariant)

pub returns-in-Branch-clause-canonical : goal.returns-in-Branch-clause-canonical
returns-in-Branch-clause-canonical g c = rw (← c.self.view_is) (is_canonical c.self.inside.cells.keys c.self.invariant)
