use Rattle.std.proofs.Common.{◌≡◌, drop}
use Rattle.pq_inspect.proofs.Elements.{with_rest}
use Rattle.pq_inspect.proofs.written.write_list.Given as goal

-- with the elements that are left it is the whole text
abbrev pub invariant-loop-index : goal.invariant-loop-index
invariant-loop-index g l = with_rest g.T.Shown.shown_as l.into.items l.index (drop l.index l.values)
    ≡ with_rest g.T.Shown.shown_as l.initial.into.items 0 l.values
