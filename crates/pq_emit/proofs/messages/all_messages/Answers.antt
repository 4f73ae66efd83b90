use Rattle.std.proofs.Common.{◌≡◌, ◌<◌, length, map, ap, sym, subst, ◌∙◌, inr, arith}
use Rattle.std.specs.Prelude.{All}
use Rattle.std.proofs.lemmas.List.{length-map}
use Rattle.std.proofs.lemmas.Option.{none-some}
use Rattle.pq_model.specs.Install.{IsLawfulList}
use Rattle.pq_rules.specs.declared.fault.RulesFault.TheVariants.{TableFull, GroupFull}
use Rattle.pq_rules.specs.Refusals.{FitRules, IsRulesFault}
use Rattle.pq_emit.specs.Faults.{fault_of}
use Rattle.pq_emit.specs.Switches.{IsSoundAt, trees_at, trees_of}
use Rattle.pq_emit.proofs.Filled.{one_filled, one_lawful, tree_here}
use Rattle.pq_emit.proofs.MetFaults.{first_next, fits_next, full_next, is_nowhere, is_somewhere, later_next}
use Rattle.pq_emit.proofs.messages.all_messages.Goals.{in-Ok+in-Ok-push, in-Err-GroupFull+then-is_none, in-Err-GroupFull+else-is_none}
use Rattle.pq_emit.proofs.messages.all_messages.Goals as goal

pub rules-requires-clause-arriving_ids : goal.rules-requires-clause-arriving_ids
rules-requires-clause-arriving_ids c =
    (subst (IsSoundAt c.args.first.now c.args.second.now) (sym c.index-trees-index.is)
    (c.requires.sound c.loop-index.index c.index-trees-index.result c.loop-index-test.true)).arriving_ids

pub rules-requires-clause-leaving_ids : goal.rules-requires-clause-leaving_ids
rules-requires-clause-leaving_ids c =
    (subst (IsSoundAt c.args.first.now c.args.second.now) (sym c.index-trees-index.is)
    (c.requires.sound c.loop-index.index c.index-trees-index.result c.loop-index-test.true)).leaving_ids

-- one switch more: its messages, or the first entry with too many copies
pub loop-index-preserved : goal.loop-index-preserved
loop-index-preserved c =
    let ss = c.switches-switches.result.now in
    let all = trees_of c.args.first.now c.args.second.now c.args.trees.now in
    let k = c.loop-index.index in
    let s = c.index-switches-index.result in
    let u = trees_at c.args.first.now c.args.second.now c.index-trees-index.result in
    let whole = fault_of ss all in
    let long : length all ≡ length c.args.trees.now = length-map c.args.trees.now (trees_at c.args.first.now c.args.second.now) in
    let same = ap length c.switches-switches.ensures.switches in
    let below : k < length ss = omega (arith, same, c.requires.listed, c.loop-index-test.true) in
    let among : k < length all = omega (arith, long, c.loop-index-test.true) in
    let here = tree_here c.args.first.now c.args.second.now c.args.trees.now k c.index-trees-index.result c.loop-index-test.true c.index-trees-index.is in
    let full = c.loop-index.full in
    elim c.match-rules.branch [
      | in-Ok+in-Ok-push w ↦
          let fit : FitRules s.limit u.first u.second = subst (λ z. FitRules z.limit u.first u.second) c.switch.view_is w.in-Ok.ensures.fits in
          let pushed = ap (λ v. v.items) w.all-is ∙ w.in-Ok-push.ensures.items in
          record {
            fault = fits_next ss all k s u whole full below c.index-switches-index.is among here c.loop-index.invariant.fault c.match-rules.full w.full-is fit;
            lawful = one_lawful IsLawfulList (λ ms. ms.items) c.loop-index.all.items c.match-rules.all.items w.in-Ok.messages pushed
                (w.in-Ok.ensures.few, w.in-Ok.ensures.lawful) c.loop-index.invariant.lawful;
            filled = λ none. one_filled (λ ms. ms.items) all k u c.loop-index.all.items c.match-rules.all.items w.in-Ok.messages among here pushed
                (record { messages = w.in-Ok.ensures.ok; filled = w.in-Ok.ensures.filled }) (c.loop-index.invariant.filled (sym w.full-is ∙ none));
          }
      | in-Err-GroupFull+then-is_none w ↦
          let d = w.in-Err-GroupFull.switch in
          let n = w.in-Err-GroupFull.copies in
          let is : IsRulesFault s.datapath s.limit u.first u.second (GroupFull d n) =
          subst (λ z. IsRulesFault z.datapath z.limit u.first u.second (GroupFull d n)) c.switch.view_is
          (subst (IsRulesFault c.switch.inside.datapath c.switch.inside.limit u.first u.second) w.in-Err-GroupFull.field-0-is
          w.in-Err-GroupFull.ensures.cause) in
          record {
            fault = first_next ss all k s u whole full below c.index-switches-index.is among here c.loop-index.invariant.fault c.match-rules.full d n
                (is_nowhere full w.if-is_none.ensures) w.full-is is;
            lawful = subst (λ v. All IsLawfulList (map (λ ms. ms.items) v.items)) (sym w.all-is) c.loop-index.invariant.lawful;
            filled = λ none. absurd (none-some (d, n) (sym none ∙ w.full-is));
          }
      | in-Err-GroupFull+else-is_none w ↦
          let d = w.in-Err-GroupFull.switch in
          let n = w.in-Err-GroupFull.copies in
          let is : IsRulesFault s.datapath s.limit u.first u.second (GroupFull d n) =
          subst (λ z. IsRulesFault z.datapath z.limit u.first u.second (GroupFull d n)) c.switch.view_is
          (subst (IsRulesFault c.switch.inside.datapath c.switch.inside.limit u.first u.second) w.in-Err-GroupFull.field-0-is
          w.in-Err-GroupFull.ensures.cause) in
          let some = is_somewhere full w.if-is_none.ensures in
          record {
            fault = later_next ss all k s u whole full below c.index-switches-index.is among here c.loop-index.invariant.fault
                c.match-rules.full d n some.0 some.1 w.full-is is;
            lawful = subst (λ v. All IsLawfulList (map (λ ms. ms.items) v.items)) (sym w.all-is) c.loop-index.invariant.lawful;
            filled = λ none. absurd (none-some some.0 (sym none ∙ w.full-is ∙ some.1));
          }
    ]

-- a table is too large
pub returns-in-Err-TableFull-clause-cause : goal.returns-in-Err-TableFull-clause-cause
returns-in-Err-TableFull-clause-cause c =
    let ss = c.switches-switches.result.now in
    let all = trees_of c.args.first.now c.args.second.now c.args.trees.now in
    let k = c.loop-index.index in
    let s = c.index-switches-index.result in
    let u = trees_at c.args.first.now c.args.second.now c.index-trees-index.result in
    let long : length all ≡ length c.args.trees.now = length-map c.args.trees.now (trees_at c.args.first.now c.args.second.now) in
    let same = ap length c.switches-switches.ensures.switches in
    let below : k < length ss = omega (arith, same, c.requires.listed, c.loop-index-test.true) in
    let among : k < length all = omega (arith, long, c.loop-index-test.true) in
    let here = tree_here c.args.first.now c.args.second.now c.args.trees.now k c.index-trees-index.result c.loop-index-test.true c.index-trees-index.is in
    let f = c.in-Err-TableFull in
    let is : IsRulesFault s.datapath s.limit u.first u.second (TableFull f.switch f.table f.entries) =
    subst (λ z. IsRulesFault z.datapath z.limit u.first u.second (TableFull f.switch f.table f.entries)) c.switch.view_is
    (subst (IsRulesFault c.switch.inside.datapath c.switch.inside.limit u.first u.second) f.field-0-is f.ensures.cause) in
    inr (ap (λ zs. fault_of zs all) (sym c.switches-switches.ensures.switches)
    ∙ full_next ss all k s u (fault_of ss all) c.loop-index.full below c.index-switches-index.is among here c.loop-index.invariant.fault
    f.switch f.table f.entries is)
