use Rattle.std.proofs.Common.{drop, ap, sym, ◌∙◌}
use Rattle.std.specs.List.{remove}
use Rattle.pq_net.proofs.Removed.{first_removed, later_removed}
use Rattle.pq_net.proofs.flight.take_out.Goals as goal

pub returns-clause-left : goal.returns-clause-left
returns-clause-left c = ap (drop c.args.first) c.remove.ensures.items ∙ later_removed c.args.first c.args.place c.args.flight.now.items c.requires

pub returns-then-place-eq0-clause-left : goal.returns-then-place-eq0-clause-left
returns-then-place-eq0-clause-left c =
    c.without_front.ensures.left
    ∙ (first_removed c.args.first c.args.flight.now.items
    ∙ ap (remove (drop c.args.first c.args.flight.now.items)) (sym c.if-place-eq0.true))
