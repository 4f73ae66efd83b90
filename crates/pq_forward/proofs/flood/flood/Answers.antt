use Rattle.std.proofs.Common.{◌≡◌, ◌∙◌, List, Some, ap, sym, subst}
use Rattle.std.proofs.lemmas.Option.{slice_get_within}
use Rattle.std.specs.List.{push}
use Rattle.std.specs.Prelude.{slice_get}
use Rattle.pq_fields.specs.declared.field.Field.TheVariants.{Switch}
use Rattle.pq_fields.specs.Writes.{Written}
use Rattle.pq_store.specs.declared.test.Test.TheVariants.{Equal}
use Rattle.pq_store.specs.Tree.{Tree}
use Rattle.pq_store.specs.Store.{HasAt, IsJoinable, JoinsAt, Keeps}
use Rattle.pq_apply.proofs.Kept.{keeps_on}
use Rattle.pq_forward.specs.Flood.{IsSpread}
use Rattle.pq_forward.proofs.Floods.{IsFloodBehind, behind_all, behind_joins, behind_more, behind_none, behind_still, behind_within}
use Rattle.pq_forward.proofs.flood.flood.Goals as goal
use Rattle.pq_forward.proofs.flood.flood.Goals.{In_ok-there}

-- the tree so far stays
behind : (c : In_ok-there)
    → IsFloodBehind (push c.next.new.self.iter.rest.now c.in-Some.switch.now) c.args.topology.now.switches c.spread.new.store
    c.loop-switch.id
behind c =
    subst (λ left. IsFloodBehind left c.args.topology.now.switches c.spread.new.store c.loop-switch.id) c.in-Some.ensures.steps
    (behind_still c.loop-switch.switch-iterator.iter.rest.now c.args.topology.now.switches c.loop-switch.store c.spread.new.store
    c.loop-switch.id c.spread.ensures.keeps
    c.loop-switch.invariant.flood)

-- so do all trees
kept : (c : In_ok-there) → Keeps c.args.store.now c.spread.new.store
kept c = keeps_on c.args.store.now c.loop-switch.store c.spread.new.store c.loop-switch.invariant.keeps c.spread.ensures.keeps

-- the tree over the ports of the switch
there : (c : In_ok-there) → HasAt (IsSpread c.in-Some.switch.now.ports) c.spread.new.store c.in_ok-there.there
there c =
    subst (λ ps. HasAt (IsSpread ps) c.spread.new.store c.in_ok-there.there) (c.deref.ensures.value
    ∙ ap (λ s. s.ports) c.switch.view_is) c.in_ok-there.ensures.spreads

pub loop-switch-init : goal.loop-switch-init
loop-switch-init c =
    let front : c.into_iter-switch-iterator.result.iter.rest.now ≡ c.args.topology.now.switches =
    ap (λ r. r.iter.rest.now) c.into_iter-switch-iterator.ensures.into_iter_gives
    ∙ (ap (λ i. i.rest.now) c.rev-switch-items.ensures.source ∙ (c.iter.ensures.rest ∙ c.switches.ensures.switches)) in
    record {
      flood = behind_all c.into_iter-switch-iterator.result.iter.rest.now c.args.topology.now.switches c.nothing.new.store c.in_ok-id.id
          front c.in_ok-id.ensures.leaf;
      keeps = c.nothing.ensures.keeps;
    }

pub node-requires-clause-yes : goal.node-requires-clause-yes
node-requires-clause-yes c =
    let tree = c.in_ok-there.ensures.spreads in
    slice_get_within c.spread.new.store c.in_ok-there.there tree.0 tree.1

pub node-requires-clause-no : goal.node-requires-clause-no
node-requires-clause-no c =
    behind_within (push c.next.new.self.iter.rest.now c.in-Some.switch.now) c.args.topology.now.switches c.spread.new.store c.loop-switch.id
    (behind (goal.at.node-requires-clause-no c).In_ok-there)

pub node-requires-clause-sides : goal.node-requires-clause-sides
node-requires-clause-sides c =
    let at = (goal.at.node-requires-clause-sides c).In_ok-there in
    subst (λ d. (y n : Tree (List Written)) → slice_get c.spread.new.store c.in_ok-there.there ≡ Some y
    → slice_get c.spread.new.store c.loop-switch.id ≡ Some n → IsJoinable (Equal Switch d) y n)
    (sym (ap (λ s. s.datapath) c.switch.view_is))
    (behind_joins c.next.new.self.iter.rest.now c.in-Some.switch.now c.args.topology.now c.spread.new.store c.loop-switch.id
    (behind at) c.switches.ensures.lawful c.in_ok-there.there (there at))

pub loop-switch-preserved : goal.loop-switch-preserved
loop-switch-preserved c =
    let at = (goal.at.loop-switch-preserved c).In_ok-there in
    record {
      flood = behind_more c.next.new.self.iter.rest.now c.in-Some.switch.now c.args.topology.now c.spread.new.store c.loop-switch.id
          (behind at) c.switches.ensures.lawful
          c.in_ok-there.there (there at) c.node.new.self c.in_ok-id-2.id
          (subst (λ d. JoinsAt c.spread.new.store (Equal Switch d) c.in_ok-there.there c.loop-switch.id c.node.new.self c.in_ok-id-2.id)
          (ap (λ s. s.datapath) c.switch.view_is)
          c.in_ok-id-2.ensures.tree);
      keeps = keeps_on c.args.store.now c.spread.new.store c.node.new.self (kept at) c.node.ensures.keeps;
    }

pub returns-clause-floods : goal.returns-clause-floods
returns-clause-floods c =
    behind_none c.loop-switch.switch-iterator.iter.rest.now c.args.topology.now.switches c.loop-switch.store c.loop-switch.id
    c.in-None.ensures.steps.0 c.loop-switch.invariant.flood

pub returns-clause-keeps : goal.returns-clause-keeps
returns-clause-keeps c = c.loop-switch.invariant.keeps
