-- Entries and groups that are equal.
use Rattle.std.specs.Prelude.{Bool, List, not, ◌==◌, ◌&&◌}
use Rattle.std.specs.Cmp.Lexicographic.{pointwise}
use Rattle.std.specs.List.{filter, list_any}
use Rattle.pq_model.specs.contracts.action.ActionPartialEq.TheImpl.{ghosts as actions}
use Rattle.pq_model.specs.declared.action.Action.{Action}
use Rattle.pq_model.specs.MatchFields.{same_match, same_number}
use Rattle.pq_model.specs.SwitchMachine.{Entry}
use Rattle.pq_delta.specs.Added.{Buckets}

abbrev pub same_actions : List Action → List Action → Bool
same_actions = pointwise actions.eq

-- whether two entries agree in table, priority, match, cookie, actions and the table to go to
unfoldable pub same_entry : Entry → Entry → Bool
same_entry d e =
    (d.table == e.table) && (d.priority == e.priority) && same_match d.matching e.matching
    && (d.cookie == e.cookie) && same_actions d.actions e.actions && same_number d.goto e.goto

-- whether an entry is among these
abbrev pub is_among : Entry → List Entry → Bool
is_among e es = list_any (same_entry e) es

-- those of some entries that aren't among the known ones
abbrev pub others : List Entry → List Entry → List Entry
others known es = filter (λ e. not (is_among e known)) es

-- whether two groups have the same buckets
abbrev pub same_buckets : Buckets → Buckets → Bool
same_buckets = pointwise same_actions
