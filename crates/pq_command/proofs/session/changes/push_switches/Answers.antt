use Rattle.std.proofs.Common.{ℕ, List, ◌++◌, ap, ◌∙◌}
use Rattle.pq_lists.proofs.Holding.{all_map_read}
use Rattle.pq_flowmod.proofs.BucketSteps.{flat_map-map_more}
use Rattle.pq_model.specs.declared.message.Message.{Message}
use Rattle.pq_model.specs.Install.{IsLawfulList}
use Rattle.pq_command.specs.Frames.{change_bytes}
use Rattle.pq_command.proofs.session.changes.push_switches.Goals as goal

pub push_switch-requires : goal.push_switch-requires
push_switch-requires c =
    all_map_read c.args.changed.now (λ p. (p.0, p.1.items)) (λ (m : ℕ × List Message). IsLawfulList m.1) c.loop-change.change-index
    c.change-item.result c.requires c.loop-change-test.true c.change-item.is

pub loop-change-preserved : goal.loop-change-preserved
loop-change-preserved c =
    c.in_ok-push_switch.ensures ∙ ap (λ (s : List ℕ). s ++ change_bytes (c.change-item.result.0, c.change-item.result.1.items)) c.loop-change.invariant
    ∙ flat_map-map_more c.args.changed.now (λ p. (p.0, p.1.items)) change_bytes c.loop-change.change-index c.change-item.result
    c.args.into.now.items c.loop-change-test.true c.change-item.is
