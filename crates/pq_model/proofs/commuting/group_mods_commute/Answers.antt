use Rattle.pq_model.proofs.CommutingFlows.{delete-group}
use Rattle.pq_model.proofs.CommutingGroups.{delete-delete, put-put}
use Rattle.pq_model.proofs.commuting.group_mods_commute.Goals as goal

pub returns : goal.returns
returns c = record { with_flow_mods = delete-group; deletes = delete-delete; others = put-put }
