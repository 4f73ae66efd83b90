use Rattle.pq_store.proofs.Arenas.{is_canonical}
use Rattle.pq_store.proofs.store.Store.has_diagrams.Goals as goal

pub returns-clause-diagrams : goal.returns-clause-diagrams
returns-clause-diagrams g c = rw (← c.self.view_is) c.self.invariant.diagrams

pub returns-clause-canonical : goal.returns-clause-canonical
returns-clause-canonical g c = rw (← c.self.view_is) (is_canonical c.self.inside.cells.keys c.self.invariant)
