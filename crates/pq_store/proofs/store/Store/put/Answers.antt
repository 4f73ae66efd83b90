use Rattle.std.proofs.Common.{refl, Bool}
use Rattle.pq_store.specs.Arena.{IsArena, trees}
use Rattle.pq_store.specs.Store.{Keeps}
use Rattle.pq_store.specs.declared.cell.Cell.{Cell}
use Rattle.pq_store.specs.contracts.cell.CellPartialEq.TheImpl as cells
use Rattle.pq_store.proofs.Added.{adds_own}
use Rattle.pq_store.proofs.Arenas.{after_insert, is_canonical, tree_at}
use Rattle.pq_store.proofs.Exact.{Compares, cell_exact, cell_itself}
use Rattle.pq_store.proofs.store.Store.put.Goals as goal
use Rattle.pq_store.proofs.store.Store.put.Goals.{in-Ok, in-Err, Joined-insert_full-2}
use Rattle.pq_store.proofs.store.Store.put.Given.{Over}
use denote.Param.{param}

abbrev same_cell : (g : Over) → Cell g.row.L.Denot → Cell g.row.L.Denot → Bool
same_cell g = (cells.eq-value (param 0 g.row.L) g.L.PartialEq g.L.PartialEq-dict).it

compares : (g : Over) → Compares (same_cell g) g.L.PartialEq.eq
compares g = record {
  leaves = λ l m. refl;
  leaf_branch = λ l b. refl;
  branch_leaf = λ b l. refl;
  both_branches = λ a b. refl;
}

after : (g : Over) (c : Joined-insert_full-2 g)
    → IsArena c.insert_full.new.self.keys × Keeps (trees c.self.inside.cells.keys) (trees c.insert_full.new.self.keys)
after g c = after_insert c.insert_full.result (same_cell g) c.self.inside.cells.keys c.insert_full.new.self.keys c.args.cell
    (cell_itself (same_cell g) g.L.PartialEq.eq (compares g) g.met.L.Eq.laws.refl c.args.cell)
    c.self.invariant (rw c.self.view_is c.requires) c.insert_full.ensures.keys c.insert_full.ensures.err

pub invariant_of-self : goal.invariant_of-self
invariant_of-self g c = (after g c).0

pub returns-clause-keeps : goal.returns-clause-keeps
returns-clause-keeps g c = rw (← c.self.view_is) (after g c).1

pub returns-clause-canonical : goal.returns-clause-canonical
returns-clause-canonical g c = is_canonical c.insert_full.new.self.keys (after g c).0

pub returns-clause-tree : goal.returns-clause-tree
returns-clause-tree g c = elim c.match-insert_full.branch [
  | in-Ok w ↦ rw (w.result-is, ← c.self.view_is) (
      let stored = w.in-Ok.ensures.stored in
      tree_at c.self.inside.cells.keys c.insert_full.new.self.keys c.args.cell stored.0 w.in-Ok.place (rw c.self.view_is c.requires)
      (after g c).0 (after g c).1 stored.1
      (cell_exact (same_cell g) g.L.PartialEq.eq (compares g) g.met.L.Leaf.exact c.args.cell stored.0 stored.2))
  | in-Err w ↦ rw w.result-is tt
]

pub returns-clause-adds : goal.returns-clause-adds
returns-clause-adds g c = elim c.match-insert_full.branch [
  | in-Ok w ↦ rw (w.result-is, ← c.self.view_is) (
      adds_own (same_cell g) c.self.inside.cells.keys c.insert_full.new.self.keys c.args.cell w.in-Ok.place (rw c.self.view_is c.requires)
      (after g c).0 w.in-Ok.ensures.keys
      (rw (w.result-is, ← c.self.view_is) at (returns-clause-tree g c)))
  | in-Err w ↦ rw w.result-is tt
]
