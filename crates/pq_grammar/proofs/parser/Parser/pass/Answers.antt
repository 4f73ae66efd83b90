use Rattle.std.proofs.Common.{◌∙◌, sym, ap, is_ok, refl}
use Rattle.std.proofs.ResultArms.{chosen}
use Rattle.pq_grammar.proofs.Steps.{leave_place, close_place}
use Rattle.pq_grammar.proofs.parser.Parser.pass.Goals as goal

-- a bracket is no longer open
pub returns-in-Leave-clause-place : goal.returns-in-Leave-clause-place
returns-in-Leave-clause-place c =
    let left = leave_place _ _ _ _ c.args.symbol _ _ _ c.in-Leave.is c.saturating_sub-self.ensures c.requires in
    (left.0, left.1, refl, refl)

-- a tree ends
pub returns-in_ok-map_err-in-Close-clause-place : goal.returns-in_ok-map_err-in-Close-clause-place
returns-in_ok-map_err-in-Close-clause-place c =
    let pushed = chosen _ _ _ _ c.push.ensures.items (sym c.map_err.ensures.variant ∙ ap is_ok c.in_ok-map_err-in-Close.was) in
    let closed = close_place _ _ _ _ _ c.args.symbol _ _ c.in-Close.is pushed c.requires in
    (closed.0, closed.1, refl, refl)
