use Rattle.std.proofs.Common.{map}
use Rattle.pq_expr.specs.Expr.{expr_tree}
use Rattle.pq_auto.proofs.Joined.{still_table}
use Rattle.pq_auto.proofs.single.single.Goals as goal

pub returns-clause-table : goal.returns-clause-table
returns-clause-table g c =
    let made = c.in_ok-least.ensures in
    still_table c.in_ok-table.table c.in_ok-least.least made.letters made.same made.joined (expr_tree c.args.expr.now)
    (map (λ v. v.items) c.args.alphabet.now) c.in_ok-table.ensures.table
