use Rattle.std.proofs.Common.{◌≡◌, ◌<◌, [], length, get_or, sym, subst}
use Rattle.pq_auto.specs.Stored.{stored_machine}
use Rattle.pq_auto.proofs.Rows.{row_at, row_long, row_within}
use Rattle.pq_auto.proofs.table.Table.row.Goals as goal

at : (c : goal.After-deref) → c.deref.result.now ≡ get_or (stored_machine c.self.inside).rows c.args.state []
at c =
    let here : c.args.state < length (stored_machine c.self.inside).rows = subst (λ m. c.args.state < length m.rows) (sym c.self.view_is) c.requires in
    row_at c.self.inside.rows.items c.args.state c.index.result.now c.deref.result.now here c.deref.ensures.value c.index.ensures

pub returns-clause-long : goal.returns-clause-long
returns-clause-long c =
    row_long (stored_machine c.self.inside) c.args.self.now c.self.view_is c.self.invariant c.args.state c.deref.result.now c.requires
    (at c)

pub returns-clause-within : goal.returns-clause-within
returns-clause-within c =
    row_within (stored_machine c.self.inside) c.args.self.now c.self.view_is c.self.invariant c.args.state c.deref.result.now c.requires
    (at c)
