use Rattle.std.proofs.Common.{◌≡◌, sym, subst, ◌∙◌}
use Rattle.std.proofs.lemmas.Bool.{eqb-true, eqb-false}
use Rattle.pq_store.specs.Store.{IsPastAt}
use Rattle.pq_store.proofs.Arenas.{is_canonical}
use Rattle.pq_store.proofs.Joins.{equal_value, branch_stands, branch_join, branch_value}
use Rattle.pq_store.proofs.store.Store.node.Goals as goal

pub returns-then-eq-clause-value : goal.returns-then-eq-clause-value
returns-then-eq-clause-value g c =
    let same : c.args.yes ≡ c.past-past.result = eqb-true c.args.yes c.past-past.result (sym c.eq.ensures ∙ c.if-eq.true) in
    equal_value c.args.self.now c.args.test c.args.yes c.args.no (rw (← c.self.view_is) c.self.invariant.diagrams) c.requires.sides c.requires.yes c.requires.no
    (subst (IsPastAt c.args.self.now c.args.test c.args.no) (sym same) c.past-past.ensures.past)

pub returns-then-eq-clause-canonical : goal.returns-then-eq-clause-canonical
returns-then-eq-clause-canonical g c = rw (← c.self.view_is) (is_canonical c.self.inside.cells.keys c.self.invariant)

pub put-requires : goal.put-requires
put-requires g c = rw (← c.self.view_is)
    (branch_stands c.self.inside.cells.keys c.self.invariant (record { test = c.args.test; yes = c.args.yes; no = c.args.no; past = c.past-past.result })
    (rw c.self.view_is c.requires.sides) (rw c.self.view_is c.requires.yes) (rw c.self.view_is c.requires.no) (rw c.self.view_is c.past-past.ensures.past)
    (eqb-false c.args.yes c.past-past.result (sym c.eq.ensures ∙ c.if-eq.false)))

pub returns-clause-tree : goal.returns-clause-tree
returns-clause-tree g c = rw (← c.self.view_is)
    (branch_join c.self.inside.cells.keys c.self.invariant
    (record { test = c.args.test; yes = c.args.yes; no = c.args.no; past = c.past-past.result }) c.put.new.self c.in_ok-id.id
    (rw c.self.view_is c.past-past.ensures.past) (eqb-false c.args.yes c.past-past.result (sym c.eq.ensures ∙ c.if-eq.false))
    (rw c.self.view_is c.in_ok-id.ensures.tree))

pub returns-clause-value : goal.returns-clause-value
returns-clause-value g c =
    branch_value c.args.self.now c.put.new.self (record { test = c.args.test; yes = c.args.yes; no = c.args.no; past = c.past-past.result })
    c.in_ok-id.id c.requires.yes c.requires.no c.in_ok-id.ensures.tree
