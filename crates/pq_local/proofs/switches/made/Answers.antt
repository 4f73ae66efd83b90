use Rattle.std.proofs.Common.{◌∙◌, subst}
use Rattle.pq_layout.specs.Leaves.{departing}
use Rattle.pq_rules.specs.Refusals.{FitRules}
use Rattle.pq_rules.specs.Tables.{arriving_trees, leaving_trees}
use Rattle.pq_store.specs.Tree.{value}
use Rattle.pq_join.specs.Tags.{tagging_of}
use Rattle.pq_local.proofs.Made.{made_served}
use Rattle.pq_local.proofs.Zipped.{one_of, there_of}
use Rattle.pq_local.proofs.switches.made.Goals as goal

pub rules-requires-clause-arriving_ids : goal.rules-requires-clause-arriving_ids
rules-requires-clause-arriving_ids c =
    let r = c.index-switches-index.result in
    (c.in-Ok.ensures r (there_of c.args.document.now.topology.switches c.switches-switches.result.now c.switches-switches.ensures.switches
    c.args.index r c.requires.index c.index-switches-index.is)
    c.requires.policy.0 c.requires.policy.1).sound.arriving_ids

pub rules-requires-clause-leaving_ids : goal.rules-requires-clause-leaving_ids
rules-requires-clause-leaving_ids c =
    let r = c.index-switches-index.result in
    (c.in-Ok.ensures r (there_of c.args.document.now.topology.switches c.switches-switches.result.now c.switches-switches.ensures.switches
    c.args.index r c.requires.index c.index-switches-index.is)
    c.requires.policy.0 c.requires.policy.1).sound.leaving_ids

pub rules-requires-clause-arriving : goal.rules-requires-clause-arriving
rules-requires-clause-arriving c =
    let r = c.index-switches-index.result in
    (c.in-Ok.ensures r (there_of c.args.document.now.topology.switches c.switches-switches.result.now c.switches-switches.ensures.switches
    c.args.index r c.requires.index c.index-switches-index.is)
    c.requires.policy.0 c.requires.policy.1).sound.arriving

pub rules-requires-clause-leaving : goal.rules-requires-clause-leaving
rules-requires-clause-leaving c =
    let r = c.index-switches-index.result in
    (c.in-Ok.ensures r (there_of c.args.document.now.topology.switches c.switches-switches.result.now c.switches-switches.ensures.switches
    c.args.index r c.requires.index c.index-switches-index.is)
    c.requires.policy.0 c.requires.policy.1).sound.leaving

-- the messages are made of the trees, which fill tables within the limits
pub returns-in-Ok-rules : goal.returns-in-Ok-rules
returns-in-Ok-rules c s there p at =
    let T = c.args.document.now.topology in
    let made = c.in-Ok.tables in
    let are = c.in-Ok.ensures s there p at in
    let told = c.in-Ok-rules.ensures in
    let same = c.switch.view_is
    ∙ one_of T.switches c.switches-switches.result.now c.switches-switches.ensures.switches c.args.index c.index-switches-index.result s
    c.requires.index c.index-switches-index.is there in
    made_served T (tagging_of c.args.told.now.letters c.args.told.now.classes)
    (departing T (value p)) made.first made.second s made.trees c.in-Ok-rules.messages.items are.trees told.ok told.filled
    (subst (λ z. FitRules z.limit (arriving_trees made.first made.trees.arriving.items)
    (leaving_trees made.second made.trees.leaving.items)) same told.fits) (told.few, told.lawful)
