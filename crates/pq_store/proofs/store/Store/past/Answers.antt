use Rattle.std.proofs.Common.{Some, ap, ◌∙◌}
use Rattle.pq_store.specs.Arena.{trees}
use Rattle.pq_store.specs.Store.{IsPastAt}
use Rattle.pq_store.proofs.Joins.{branch_past, leaf_past, leaf_shows, past_within}
use Rattle.pq_store.proofs.store.Store.past.Given.{Over}
use Rattle.pq_store.proofs.store.Store.past.Goals as goal
use Rattle.pq_store.proofs.store.Store.past.Goals.{After-behind, in_default-via-in-Equal+in_default, in_default-via-in_default}

is_past : (g : Over) (c : After-behind g) → IsPastAt c.args.self.now c.args.test c.args.node c.behind.result
is_past g c = rw (c.in-Equal-Branch.is-0, c.behind.ensures, ← c.self.view_is, ← c.node.view_is)
    (branch_past c.self.inside.cells.keys c.self.invariant c.in-Equal-Branch.field c.in-Equal-Branch.field-1-0 c.node.inside.0
    c.in-Equal-Branch.branch (c.index.ensures ∙ ap Some c.in-Equal-Branch.is-1))

pub returns-in-Equal-Branch-clause-within : goal.returns-in-Equal-Branch-clause-within
returns-in-Equal-Branch-clause-within g c = past_within c.args.self.now c.args.test c.args.node c.behind.result c.requires (is_past g c)

pub returns-in-Equal-Branch-clause-past : goal.returns-in-Equal-Branch-clause-past
returns-in-Equal-Branch-clause-past g c = is_past g c

pub returns-in_default-clause-past : goal.returns-in_default-clause-past
returns-in_default-clause-past g c = elim c.in_default.branch [
  | in_default-via-in-Equal+in_default w ↦ rw (← c.self.view_is, ← c.node.view_is)
      (leaf_past (trees c.self.inside.cells.keys) c.args.test c.node.inside.0 w.in_default.field-0-1
      (leaf_shows c.self.inside.cells.keys c.self.invariant c.node.inside.0 w.in_default.field-0-1 (c.index.ensures ∙ ap Some w.in_default.is-1)))
  | in_default-via-in_default w ↦ rw w.in_default.is-0 (λ t t_is. t_is)
]
