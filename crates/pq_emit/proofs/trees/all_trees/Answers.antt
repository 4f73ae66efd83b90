use Rattle.std.proofs.Common.{subst}
use Rattle.pq_lists.proofs.Places.{at_place}
use Rattle.pq_join.specs.Tags.{tagging_of}
use Rattle.pq_layout.specs.Leaves.{departing}
use Rattle.pq_layout.specs.Trees.{AreArriving, AreLeaving}
use Rattle.pq_store.specs.Tree.{value}
use Rattle.pq_emit.proofs.Located.{one_more}
use Rattle.pq_emit.proofs.PortsAtIds.{one_more_ports, placed_ports}
use Rattle.pq_emit.proofs.trees.all_trees.Goals as goal

-- one more switch, whose trees are added to the stores
pub loop-switch-preserved : goal.loop-switch-preserved
loop-switch-preserved c =
    let T = c.args.topology.now in
    let g = tagging_of c.args.letters.now c.args.classes.now in
    let left = c.switch_trees.ensures.first in
    let right = c.switch_trees.ensures.second in
    let trees = c.in_ok-trees.trees in
    record {
      trees = λ p at. one_more T g (departing T (value p))
          c.loop-switch.first c.switch_trees.new.first c.loop-switch.second c.switch_trees.new.second left right
          c.switches-switches.result.now c.loop-switch.switch-index c.switch-item.result c.loop-switch.all.items c.push.new.self.items trees
          c.loop-switch-test.true c.switch-item.is c.in_ok-push.ensures.items
          (subst (λ s. AreArriving T g s.datapath c.switch_trees.new.first trees.arriving.items) c.switch.view_is c.in_ok-trees.ensures.arriving)
          (subst (λ s. AreLeaving T g (departing T (value p)) s.datapath c.switch_trees.new.second trees.leaving.items) c.switch.view_is
          (c.in_ok-trees.ensures.leaving p at))
          (c.loop-switch.invariant.trees p at);
      ports = λ policy letters.
          let p = at_place c.args.forward.now c.args.policy c.requires.policy in
          one_more_ports c.loop-switch.first c.switch_trees.new.first c.loop-switch.second c.switch_trees.new.second left right
          c.loop-switch.all.items c.push.new.self.items trees
          c.in_ok-push.ensures.items
          (placed_ports T g (departing T (value p.0)) c.switch_trees.new.first c.switch_trees.new.second c.switch.inside.datapath trees
          c.in_ok-trees.ensures.arriving (c.in_ok-trees.ensures.leaving p.0 p.1) (c.in_ok-trees.ensures.ports policy letters))
          (c.loop-switch.invariant.ports policy letters);
      first = λ k t at. left k t (c.loop-switch.invariant.first k t at);
      second = λ k t at. right k t (c.loop-switch.invariant.second k t at);
    }
