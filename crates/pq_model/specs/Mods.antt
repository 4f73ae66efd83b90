-- Flow mods and group mods as values.
use Rattle.std.specs.Prelude.{ℕ, List}
use Rattle.std.specs.declared.option.Option.{Option}
use Rattle.pq_model.specs.declared.action.Action.{Action}
use Rattle.pq_model.specs.declared.flow_mod.FlowCommand.{FlowCommand}
use Rattle.pq_model.specs.declared.group_mod.GroupCommand.{GroupCommand}
use Rattle.pq_model.specs.MatchFields.{MatchFields}

pub record FlowValue : Type 0 where
  pub xid : ℕ
  pub cookie : ℕ
  pub table : ℕ
  pub command : FlowCommand
  pub priority : ℕ
  pub matching : MatchFields
  pub actions : List Action
  pub goto : Option ℕ

pub record GroupValue : Type 0 where
  pub xid : ℕ
  pub command : GroupCommand
  pub group : ℕ
  pub buckets : List (List Action)
