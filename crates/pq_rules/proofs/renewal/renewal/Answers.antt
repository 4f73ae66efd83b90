use Rattle.std.proofs.Common.{◌≡◌, ◌+◌, List, None, [], ◌++◌, length, map, ap, sym, ◌∙◌, arith}
use Rattle.std.proofs.lemmas.List.{length-map}
use Rattle.pq_model.specs.declared.message.Message.TheVariants.{Barrier, Flow}
use Rattle.pq_layout.specs.Actions.{buckets_of}
use Rattle.pq_layout.specs.Messages.{adds_from, Rule, first_rule}
use Rattle.pq_rules.specs.Grouping.{placed_rules, resolved}
use Rattle.pq_rules.proofs.RenewingLemmas.{adds_longer, assembled, length_placed, one_longer, third}
use Rattle.pq_rules.proofs.renewal.renewal.Goals as goal
use Rattle.pq_rules.proofs.renewal.renewal.Goals.{In_ok-push_barrier-2, In_ok-push_groups, In_ok-push_first}

-- three messages and those of the groups
grouped : (c : In_ok-push_groups) → length c.push_groups.new.messages.items ≡ 3 + length c.args.grouping.now.groups.keys
grouped c =
    third (map buckets_of c.args.grouping.now.groups.keys) c.in_ok-messages.messages.items c.push_deletes.new.messages.items
    c.push_barrier.new.messages.items c.push_groups.new.messages.items
    c.in_ok-messages.ensures.items c.in_ok-push_deletes.ensures c.in_ok-push_barrier.ensures c.in_ok-push_groups.ensures
    ∙ ap (λ k. 3 + k) (length-map c.args.grouping.now.groups.keys buckets_of)

-- and the barrier after them
fourth : (c : In_ok-push_barrier-2) → length c.push_groups.new.messages.items ≡ 3 + length c.args.grouping.now.groups.keys
    → length c.push_barrier-2.new.messages.items ≡ 4 + length c.args.grouping.now.groups.keys
fourth c long =
    let one = one_longer c.push_groups.new.messages.items c.push_barrier-2.new.messages.items
    (Barrier (length c.push_groups.new.messages.items + 1)) c.in_ok-push_barrier-2.ensures in omega
    (arith, one, long)

-- and the entries of table 0
fifth : (c : In_ok-push_first) → length c.push_barrier-2.new.messages.items ≡ 4 + length c.args.grouping.now.groups.keys
    → length c.push_first.new.messages.items ≡ 4 + length c.args.grouping.now.groups.keys + length c.args.first_entries.now
fifth c long =
    let rules : List Rule = map first_rule (resolved None c.args.first.now c.args.first_entries.now) in
    let more = adds_longer rules c.push_barrier-2.new.messages.items c.push_first.new.messages.items
    (length c.push_barrier-2.new.messages.items + 1) 0 0 c.in_ok-push_first.ensures in
    let same : length rules ≡ length c.args.first_entries.now =
    length-map (resolved None c.args.first.now c.args.first_entries.now) first_rule ∙ length-map c.args.first_entries.now _ in
    omega (arith, more, same, long)

pub push_barrier-requires-2 : goal.push_barrier-requires-2
push_barrier-requires-2 c = let long = grouped (goal.at.push_barrier-requires-2 c).In_ok-push_groups in let small = c.requires.groups_few in
    omega (arith, long, small)

pub push_first-requires-clause-few : goal.push_first-requires-clause-few
push_first-requires-clause-few c =
    let at = goal.at.push_first-requires-clause-few c in
    let long = fourth at.In_ok-push_barrier-2 (grouped at.In_ok-push_groups) in
    let small = c.requires.groups_few in
    omega (arith, long, small)

pub push_second-requires-clause-few : goal.push_second-requires-clause-few
push_second-requires-clause-few c =
    let at = goal.at.push_second-requires-clause-few c in
    let long = fifth at.In_ok-push_first (fourth at.In_ok-push_barrier-2 (grouped at.In_ok-push_groups)) in
    let small = c.requires.groups_few in
    let first = c.requires.first_few in
    omega (arith, long, small, first)

pub push_barrier-requires-3 : goal.push_barrier-requires-3
push_barrier-requires-3 c =
    let at = goal.at.push_barrier-requires-3 c in
    let long = fifth at.In_ok-push_first (fourth at.In_ok-push_barrier-2 (grouped at.In_ok-push_groups)) in
    let rules : List Rule = placed_rules (resolved [] c.args.second.now c.args.second_entries.now) c.deref.result.now in
    let more = adds_longer rules c.push_first.new.messages.items c.push_second.new.messages.items
    (length c.push_first.new.messages.items + 1) 1 0 c.in_ok-push_second.ensures in
    let entries : length (resolved [] c.args.second.now c.args.second_entries.now) ≡ length c.args.second_entries.now =
    length-map c.args.second_entries.now _ in
    let same = length_placed (resolved [] c.args.second.now c.args.second_entries.now) c.deref.result.now (ap length c.deref.ensures.value
    ∙ c.requires.placed ∙ sym entries) in
    let small = c.requires.groups_few in
    let first = c.requires.first_few in
    let second = c.requires.second_few in
    omega (arith, long, more, same, entries, small, first, second)

pub returns : goal.returns
returns c =
    assembled (map buckets_of c.args.grouping.now.groups.keys) (map first_rule (resolved None c.args.first.now c.args.first_entries.now))
    (placed_rules (resolved [] c.args.second.now c.args.second_entries.now) c.args.grouping.now.places.items)
    c.in_ok-messages.messages.items c.push_deletes.new.messages.items c.push_barrier.new.messages.items c.push_groups.new.messages.items
    c.push_barrier-2.new.messages.items c.push_first.new.messages.items
    c.push_second.new.messages.items c.push_barrier-3.new.messages.items
    (record {
      empty = c.in_ok-messages.ensures.items;
      deletes = c.in_ok-push_deletes.ensures;
      emptied = c.in_ok-push_barrier.ensures;
      groups = c.in_ok-push_groups.ensures;
      grouped = c.in_ok-push_barrier-2.ensures;
      entries = c.in_ok-push_first.ensures;
      others = c.in_ok-push_second.ensures
          ∙ ap (λ ps. c.push_first.new.messages.items ++ map Flow
          (adds_from (length c.push_first.new.messages.items + 1) 1 0
          (placed_rules (resolved [] c.args.second.now c.args.second_entries.now) ps))) c.deref.ensures.value;
      filled = c.in_ok-push_barrier-3.ensures;
    })
