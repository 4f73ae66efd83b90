use Rattle.std.proofs.Common.{None, map, ◌∙◌}
use Rattle.pq_model.specs.Renewal.{renewal_messages}
use Rattle.pq_layout.specs.Messages.{first_rule, renewal_with}
use Rattle.pq_rules.specs.Grouping.{resolved}
use Rattle.pq_rules.proofs.SwitchLemmas.{AreGrouped, are_grouped, leaf_of}
use Rattle.pq_rules.proofs.tables.messages.Goals as goal
use Rattle.pq_rules.proofs.tables.messages.Goals.{In_ok-grouping}

-- what is known of the groups
grouping : (c : In_ok-grouping)
    → AreGrouped c.args.second.now c.args.second_entries.now c.in_ok-grouping.grouping.groups.keys c.in_ok-grouping.grouping.places.items
grouping c =
    are_grouped c.args.second.now c.args.second_entries.now c.in_ok-grouping.grouping.groups.keys c.in_ok-grouping.grouping.places.items
    c.requires.second_leaves c.requires.second_few
    c.in_ok-grouping.ensures.groups c.in_ok-grouping.ensures.places

pub grouped-requires : goal.grouped-requires
grouped-requires c = leaf_of c.args.second.now c.args.second_entries.now c.requires.second_leaves

pub renewal-requires-clause-groups_few : goal.renewal-requires-clause-groups_few
renewal-requires-clause-groups_few c = (grouping (goal.at.renewal-requires-clause-groups_few c).In_ok-grouping).groups_few

pub renewal-requires-clause-groups : goal.renewal-requires-clause-groups
renewal-requires-clause-groups c = (grouping (goal.at.renewal-requires-clause-groups c).In_ok-grouping).sound

pub renewal-requires-clause-places : goal.renewal-requires-clause-places
renewal-requires-clause-places c = (grouping (goal.at.renewal-requires-clause-places c).In_ok-grouping).places_few

pub renewal-requires-clause-placed : goal.renewal-requires-clause-placed
renewal-requires-clause-placed c = (grouping (goal.at.renewal-requires-clause-placed c).In_ok-grouping).placed

pub returns : goal.returns
returns c =
    let it = grouping (goal.at.returns c).In_ok-grouping in
    c.in_ok-messages.ensures
    ∙ (λ i. renewal_messages (renewal_with (it.groups i) (map first_rule (resolved None c.args.first.now c.args.first_entries.now))
    (it.rules i)))
