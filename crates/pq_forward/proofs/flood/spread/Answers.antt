use Rattle.std.proofs.Common.{◌≡◌, ◌∙◌, List, Some, ap, sym, subst}
use Rattle.std.proofs.lemmas.Option.{slice_get_within}
use Rattle.std.specs.Prelude.{slice_get}
use Rattle.std.specs.List.{push}
use Rattle.pq_fields.specs.Writes.{Written}
use Rattle.pq_fields.specs.declared.field.Field.TheVariants.{Port}
use Rattle.pq_store.specs.declared.test.Test.TheVariants.{Equal}
use Rattle.pq_store.specs.Tree.{Tree}
use Rattle.pq_store.specs.Tree.Tree.{Tip}
use Rattle.pq_store.specs.Store.{IsJoinable, JoinsAt, Keeps}
use Rattle.pq_apply.proofs.Kept.{keeps_on}
use Rattle.pq_forward.specs.Flood.{at_others}
use Rattle.pq_forward.proofs.Spreads.{IsSpreadBehind, behind_all, behind_joins, behind_more, behind_none, behind_still, behind_within}
use Rattle.pq_forward.proofs.flood.spread.Goals as goal
use Rattle.pq_forward.proofs.flood.spread.Goals.{In_ok-others}

-- the tree so far stays
behind : (c : In_ok-others)
    → IsSpreadBehind (push c.next.new.self.iter.rest.now c.in-Some.port.now) c.args.ports.now c.at_others-in-loop-port.new.store
    c.loop-port.id
behind c =
    subst (λ left. IsSpreadBehind left c.args.ports.now c.at_others-in-loop-port.new.store c.loop-port.id) c.in-Some.ensures.steps
    (behind_still c.loop-port.port-iterator.iter.rest.now c.args.ports.now c.loop-port.store c.at_others-in-loop-port.new.store
    c.loop-port.id c.at_others-in-loop-port.ensures.keeps
    c.loop-port.invariant.spread)

-- so do all trees
kept : (c : In_ok-others) → Keeps c.args.store.now c.at_others-in-loop-port.new.store
kept c = keeps_on c.args.store.now c.loop-port.store c.at_others-in-loop-port.new.store c.loop-port.invariant.keeps c.at_others-in-loop-port.ensures.keeps

pub loop-port-init : goal.loop-port-init
loop-port-init c =
    let front : c.into_iter-port-iterator.result.iter.rest.now ≡ c.args.ports.now = ap (λ r. r.iter.rest.now) c.into_iter-port-iterator.ensures.into_iter_gives
    ∙ (ap (λ i. i.rest.now) c.rev-port-items.ensures.source ∙ c.iter.ensures.rest) in
    record {
      spread = behind_all c.into_iter-port-iterator.result.iter.rest.now c.args.ports.now c.at_others.new.store c.in_ok-id.id front c.in_ok-id.ensures.leaf;
      keeps = c.at_others.ensures.keeps;
    }

pub returns-in_err-others-clause-keeps : goal.returns-in_err-others-clause-keeps
returns-in_err-others-clause-keeps c =
    keeps_on c.args.store.now c.loop-port.store c.at_others-in-loop-port.new.store c.loop-port.invariant.keeps
    c.at_others-in-loop-port.ensures.keeps

pub node-requires-clause-yes : goal.node-requires-clause-yes
node-requires-clause-yes c =
    slice_get_within c.at_others-in-loop-port.new.store c.in_ok-others.others (Tip (at_others c.in-Some.port.now c.args.ports.now)) c.in_ok-others.ensures.leaf

pub node-requires-clause-no : goal.node-requires-clause-no
node-requires-clause-no c =
    behind_within (push c.next.new.self.iter.rest.now c.in-Some.port.now) c.args.ports.now c.at_others-in-loop-port.new.store c.loop-port.id
    (behind (goal.at.node-requires-clause-no c).In_ok-others)

pub node-requires-clause-sides : goal.node-requires-clause-sides
node-requires-clause-sides c =
    subst (λ n. (y m : Tree (List Written)) → slice_get c.at_others-in-loop-port.new.store c.in_ok-others.others ≡ Some y
    → slice_get c.at_others-in-loop-port.new.store c.loop-port.id ≡ Some m
    → IsJoinable (Equal Port n) y m) (sym c.from.ensures)
    (behind_joins c.next.new.self.iter.rest.now c.in-Some.port.now c.args.ports.now c.at_others-in-loop-port.new.store c.in_ok-others.others c.loop-port.id
    (behind (goal.at.node-requires-clause-sides c).In_ok-others) c.in_ok-others.ensures.leaf c.requires.ascend c.requires.numbers c.requires.few)

pub returns-in_err-id-2-clause-keeps : goal.returns-in_err-id-2-clause-keeps
returns-in_err-id-2-clause-keeps c =
    keeps_on c.args.store.now c.at_others-in-loop-port.new.store c.node.new.self
    (kept (goal.at.returns-in_err-id-2-clause-keeps c).In_ok-others) c.node.ensures.keeps

pub loop-port-preserved : goal.loop-port-preserved
loop-port-preserved c =
    let at = (goal.at.loop-port-preserved c).In_ok-others in
    record {
      spread = behind_more c.next.new.self.iter.rest.now c.in-Some.port.now c.args.ports.now c.at_others-in-loop-port.new.store
          c.in_ok-others.others c.loop-port.id
          (behind at) c.in_ok-others.ensures.leaf c.requires.ascend c.requires.numbers c.node.new.self c.in_ok-id-2.id
          (subst (λ n. JoinsAt c.at_others-in-loop-port.new.store (Equal Port n) c.in_ok-others.others c.loop-port.id c.node.new.self
          c.in_ok-id-2.id) c.from.ensures c.in_ok-id-2.ensures.tree);
      keeps = keeps_on c.args.store.now c.at_others-in-loop-port.new.store c.node.new.self (kept at) c.node.ensures.keeps;
    }

pub returns-clause-spreads : goal.returns-clause-spreads
returns-clause-spreads c =
    behind_none c.loop-port.port-iterator.iter.rest.now c.args.ports.now c.loop-port.store c.loop-port.id c.in-None.ensures.steps.0
    c.requires.ascend c.requires.numbers
    c.loop-port.invariant.spread

pub returns-clause-keeps : goal.returns-clause-keeps
returns-clause-keeps c = c.loop-port.invariant.keeps
