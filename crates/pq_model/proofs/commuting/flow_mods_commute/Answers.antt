use Rattle.pq_model.proofs.CommutingFlows.{add-add, add-strict, delete-delete}
use Rattle.pq_model.proofs.commuting.flow_mods_commute.Goals as goal

pub returns : goal.returns
returns c = record { deletes = delete-delete; adds = add-add; add_and_delete = add-strict }
