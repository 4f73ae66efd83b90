use Rattle.std.proofs.Common.{◌≡◌, map, take}
use Rattle.serde_json.specs.View.{view}
use Rattle.pq_inspect.proofs.shown.list.Given as goal

-- the values so far are shown
abbrev pub invariant-loop-value : goal.invariant-loop-value
invariant-loop-value g l = map view l.items.items ≡ map g.T.Shown.shown_as (take l.value-index l.values)
