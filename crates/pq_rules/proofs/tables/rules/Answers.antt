use Rattle.std.proofs.Common.{◌≡◌, ◌≤◌, ◌<◌, ◌^◌, ℕ, List, [], None, All, length, ap, ap₂, sym, subst, ◌∙◌, arith}
use Rattle.pq_model.specs.declared.message.Message.{Message}
use Rattle.pq_model.specs.Lawful.{IsLawfulMessage}
use Rattle.pq_model.specs.MatchFields.{MatchFields}
use Rattle.pq_layout.specs.Entries.{table_of}
use Rattle.pq_layout.specs.Messages.{is_nothing, is_without, leaving_entries, messages_of}
use Rattle.pq_layout.specs.Sound.{IsSoundArrival, IsSoundCopy}
use Rattle.pq_lookup.proofs.Renewed.{renewing}
use Rattle.pq_rules.specs.Found.{AreFound, IsRoot, matches_of, trees_with}
use Rattle.pq_rules.specs.Grouping.{IsLeafAt, resolved}
use Rattle.pq_rules.specs.Refusals.{FitRules, FitTables, IsRulesFault, many_copies}
use Rattle.pq_rules.specs.Renewing.{IsArrivingLeaf, IsLeavingLeaf, few, messages_for}
use Rattle.pq_rules.specs.Tables.{IsArrivingId, IsLeavingId, arriving_trees, leaving_trees}
use Rattle.pq_rules.proofs.LawfulLemmas.{messages_few, messages_lawful}
use Rattle.pq_rules.proofs.SwitchLemmas.{arriving_leaves, arriving_sound, found_leaves, found_long, err_such, found_resolved, leaf_of}
use Rattle.pq_rules.proofs.SwitchLemmas.{leaving_leaves, leaving_sound, many_cause, tables_filled}
use Rattle.pq_rules.proofs.tables.rules.Goals as goal
use Rattle.pq_rules.proofs.tables.rules.Goals.{After-drop-arriving-2, In_ok-first_entries, In_ok-second_entries}

pub arriving_roots-requires : goal.arriving_roots-requires
arriving_roots-requires c =
    subst (All (IsArrivingId c.args.first.now)) (sym c.deref.ensures.value)
    (arriving_sound c.args.first.now c.args.trees.now.arriving.items c.requires.arriving_ids c.requires.arriving)

pub limited_entries-requires-clause-roots : goal.limited_entries-requires-clause-roots
limited_entries-requires-clause-roots c = subst (All (IsRoot c.args.first.now)) (sym c.deref-2.ensures.value) c.in_ok-arriving.ensures.roots

pub leaving_roots-requires : goal.leaving_roots-requires
leaving_roots-requires c =
    subst (All (IsLeavingId c.args.second.now)) (sym c.deref-3.ensures.value)
    (leaving_sound c.args.second.now c.args.trees.now.leaving.items c.requires.leaving_ids c.requires.leaving)

pub limited_entries-requires-2-clause-roots : goal.limited_entries-requires-2-clause-roots
limited_entries-requires-2-clause-roots c = subst (All (IsRoot c.args.second.now)) (sym c.deref-4.ensures.value) c.in_ok-leaving.ensures.roots

-- their entries
first_same : (c : In_ok-first_entries) → matches_of (trees_with c.args.first.now c.deref-2.result.now)
    ≡ table_of is_nothing (arriving_trees c.args.first.now c.args.trees.now.arriving.items)
first_same c =
    ap (λ r. matches_of (trees_with c.args.first.now r)) c.deref-2.ensures.value ∙ c.in_ok-arriving.ensures.entries ∙ ap
    (λ i. table_of is_nothing (arriving_trees c.args.first.now i)) c.deref.ensures.value

second_same : (c : In_ok-second_entries) → matches_of (trees_with c.args.second.now c.deref-4.result.now)
    ≡ leaving_entries (leaving_trees c.args.second.now c.args.trees.now.leaving.items)
second_same c =
    ap (λ r. matches_of (trees_with c.args.second.now r)) c.deref-4.ensures.value ∙ c.in_ok-leaving.ensures.entries ∙ ap
    (λ i. table_of is_without (leaving_trees c.args.second.now i)) c.deref-3.ensures.value

first_found : (c : In_ok-first_entries)
    → AreFound c.args.first.now (table_of is_nothing (arriving_trees c.args.first.now c.args.trees.now.arriving.items))
    c.in_ok-first_entries.first_entries.items
first_found c = subst (λ ms. AreFound c.args.first.now ms c.in_ok-first_entries.first_entries.items) (first_same c) c.in_ok-first_entries.ensures.found

second_found : (c : In_ok-second_entries)
    → AreFound c.args.second.now (leaving_entries (leaving_trees c.args.second.now c.args.trees.now.leaving.items))
    c.in_ok-second_entries.second_entries.items
second_found c = subst (λ ms. AreFound c.args.second.now ms c.in_ok-second_entries.second_entries.items) (second_same c) c.in_ok-second_entries.ensures.found

fit : (c : In_ok-second_entries) → length (table_of is_nothing (arriving_trees c.args.first.now c.args.trees.now.arriving.items)) ≤ c.args.limit
    → FitTables c.args.limit (arriving_trees c.args.first.now c.args.trees.now.arriving.items) (leaving_trees c.args.second.now c.args.trees.now.leaving.items)
fit c first = record { arriving = first; leaving = subst (λ ms. length ms ≤ c.args.limit) (second_same c) c.in_ok-second_entries.ensures.few }

first_few : (c : In_ok-first_entries) → length (table_of is_nothing (arriving_trees c.args.first.now c.args.trees.now.arriving.items)) ≤ c.args.limit
first_few c = subst (λ ms. length ms ≤ c.args.limit) (first_same c) c.in_ok-first_entries.ensures.few

-- and their leaves
second_leaves : (c : In_ok-second_entries) → All (λ (e : MatchFields × ℕ). IsLeavingLeaf c.args.second.now e.1) c.in_ok-second_entries.second_entries.items
second_leaves c =
    found_leaves c.args.second.now (All IsSoundCopy) [] (leaving_entries (leaving_trees c.args.second.now c.args.trees.now.leaving.items))
    c.in_ok-second_entries.second_entries.items (second_found c)
    (leaving_leaves (leaving_trees c.args.second.now c.args.trees.now.leaving.items) c.requires.leaving)

pub few_copies-requires : goal.few_copies-requires
few_copies-requires c =
    subst (All (λ (e : MatchFields × ℕ). IsLeafAt c.args.second.now e.1)) (sym c.deref-5.ensures.value)
    (leaf_of c.args.second.now c.in_ok-second_entries.second_entries.items (second_leaves (goal.at.few_copies-requires c).In_ok-second_entries))

pub messages-requires-clause-first_few : goal.messages-requires-clause-first_few
messages-requires-clause-first_few c =
    let at = (goal.at.messages-requires-clause-first_few c).In_ok-first_entries in
    let long = found_long c.args.first.now (table_of is_nothing (arriving_trees c.args.first.now c.args.trees.now.arriving.items))
    c.in_ok-first_entries.first_entries.items (first_found at) in
    let small = first_few at in
    let limit = c.requires.limit in
    subst (λ (es : List (MatchFields × ℕ)). length es ≤ few) (sym c.deref-6.ensures.value) (omega (arith, long, small, limit))

pub messages-requires-clause-second_few : goal.messages-requires-clause-second_few
messages-requires-clause-second_few c =
    let at = (goal.at.messages-requires-clause-second_few c).In_ok-second_entries in
    let long = found_long c.args.second.now (leaving_entries (leaving_trees c.args.second.now c.args.trees.now.leaving.items))
    c.in_ok-second_entries.second_entries.items (second_found at) in
    let small = subst (λ ms. length ms ≤ c.args.limit) (second_same at) c.in_ok-second_entries.ensures.few in
    let limit = c.requires.limit in
    subst (λ (es : List (MatchFields × ℕ)). length es ≤ few) (sym c.deref-7.ensures.value) (omega (arith, long, small, limit))

pub messages-requires-clause-first_leaves : goal.messages-requires-clause-first_leaves
messages-requires-clause-first_leaves c =
    let at = (goal.at.messages-requires-clause-first_leaves c).In_ok-first_entries in
    subst (All (λ (e : MatchFields × ℕ). IsArrivingLeaf c.args.first.now e.1)) (sym c.deref-6.ensures.value)
    (found_leaves c.args.first.now IsSoundArrival None
    (table_of is_nothing (arriving_trees c.args.first.now c.args.trees.now.arriving.items)) c.in_ok-first_entries.first_entries.items
    (first_found at)
    (arriving_leaves (arriving_trees c.args.first.now c.args.trees.now.arriving.items) c.requires.arriving))

pub messages-requires-clause-second_leaves : goal.messages-requires-clause-second_leaves
messages-requires-clause-second_leaves c =
    subst (All (λ (e : MatchFields × ℕ). IsLeavingLeaf c.args.second.now e.1)) (sym c.deref-7.ensures.value)
    (second_leaves (goal.at.messages-requires-clause-second_leaves c).In_ok-second_entries)

pub returns-in_err-few_copies-clause-cause : goal.returns-in_err-few_copies-clause-cause
returns-in_err-few_copies-clause-cause c =
    let at = goal.at.returns-in_err-few_copies-clause-cause c in
    let same = ap (resolved [] c.args.second.now) c.deref-5.ensures.value
    ∙ found_resolved c.args.second.now [] (leaving_entries (leaving_trees c.args.second.now c.args.trees.now.leaving.items))
    c.in_ok-second_entries.second_entries.items
    (second_found at.In_ok-second_entries) in
    err_such c.from_residual-in_err-few_copies.result c.in_err-few_copies.field-0.0
    (IsRulesFault c.args.datapath c.args.limit (arriving_trees c.args.first.now c.args.trees.now.arriving.items)
    (leaving_trees c.args.second.now c.args.trees.now.leaving.items))
    c.from_residual-in_err-few_copies.ensures.1
    (many_cause c.args.datapath c.args.limit (arriving_trees c.args.first.now c.args.trees.now.arriving.items)
    (leaving_trees c.args.second.now c.args.trees.now.leaving.items)
    (resolved [] c.args.second.now c.deref-5.result.now) c.in_err-few_copies.field-0.0
    (fit at.In_ok-second_entries (first_few at.In_ok-first_entries)) same c.in_err-few_copies.ensures.many)

-- the messages are those of the trees
made : (c : After-drop-arriving-2)
    → AreFound c.args.first.now (table_of is_nothing (arriving_trees c.args.first.now c.args.trees.now.arriving.items))
    c.in_ok-first_entries.first_entries.items
    → AreFound c.args.second.now (leaving_entries (leaving_trees c.args.second.now c.args.trees.now.leaving.items)) c.in_ok-second_entries.second_entries.items
    → c.in_ok-messages.messages.items ≡ messages_of (arriving_trees c.args.first.now c.args.trees.now.arriving.items)
    (leaving_trees c.args.second.now c.args.trees.now.leaving.items)
made c first second =
    c.in_ok-messages.ensures
    ∙ ap₂ messages_for
    (ap (resolved None c.args.first.now) c.deref-6.ensures.value
    ∙ found_resolved c.args.first.now None (table_of is_nothing (arriving_trees c.args.first.now c.args.trees.now.arriving.items))
    c.in_ok-first_entries.first_entries.items first)
    (ap (resolved [] c.args.second.now) c.deref-7.ensures.value
    ∙ found_resolved c.args.second.now [] (leaving_entries (leaving_trees c.args.second.now c.args.trees.now.leaving.items))
    c.in_ok-second_entries.second_entries.items second)

-- the trees fit
fits : (c : After-drop-arriving-2)
    → FitTables c.args.limit (arriving_trees c.args.first.now c.args.trees.now.arriving.items)
    (leaving_trees c.args.second.now c.args.trees.now.leaving.items)
    → AreFound c.args.second.now (leaving_entries (leaving_trees c.args.second.now c.args.trees.now.leaving.items)) c.in_ok-second_entries.second_entries.items
    → FitRules c.args.limit (arriving_trees c.args.first.now c.args.trees.now.arriving.items) (leaving_trees c.args.second.now c.args.trees.now.leaving.items)
fits c tables second = record {
  tables = tables;
  groups = ap many_copies (sym (ap (resolved [] c.args.second.now) c.deref-5.ensures.value
      ∙ found_resolved c.args.second.now [] (leaving_entries (leaving_trees c.args.second.now c.args.trees.now.leaving.items))
      c.in_ok-second_entries.second_entries.items second))
      ∙ c.in_ok-few_copies.ensures.ok;
}

pub returns-clause-ok : goal.returns-clause-ok
returns-clause-ok c =
    let at = goal.at.returns-clause-ok c in
    made c (first_found at.In_ok-first_entries) (second_found at.In_ok-second_entries)

pub returns-clause-lawful : goal.returns-clause-lawful
returns-clause-lawful c =
    let at = goal.at.returns-clause-lawful c in
    subst (All IsLawfulMessage) (sym (made c (first_found at.In_ok-first_entries) (second_found at.In_ok-second_entries)))
    (messages_lawful c.args.limit (arriving_trees c.args.first.now c.args.trees.now.arriving.items)
    (leaving_trees c.args.second.now c.args.trees.now.leaving.items) c.requires.arriving c.requires.leaving c.requires.limit
    (fits c (fit at.In_ok-second_entries (first_few at.In_ok-first_entries)) (second_found at.In_ok-second_entries)))

pub returns-clause-few : goal.returns-clause-few
returns-clause-few c =
    let at = goal.at.returns-clause-few c in
    subst (λ (ms : List Message). length ms < 2 ^ 32) (sym (made c (first_found at.In_ok-first_entries) (second_found at.In_ok-second_entries)))
    (messages_few c.args.limit (arriving_trees c.args.first.now c.args.trees.now.arriving.items)
    (leaving_trees c.args.second.now c.args.trees.now.leaving.items) c.requires.arriving c.requires.leaving c.requires.limit
    (fits c (fit at.In_ok-second_entries (first_few at.In_ok-first_entries)) (second_found at.In_ok-second_entries)))

pub returns-clause-fits : goal.returns-clause-fits
returns-clause-fits c =
    let at = goal.at.returns-clause-fits c in
    fits c (fit at.In_ok-second_entries (first_few at.In_ok-first_entries)) (second_found at.In_ok-second_entries)

pub returns-clause-filled : goal.returns-clause-filled
returns-clause-filled c =
    let at = goal.at.returns-clause-filled c in
    tables_filled c.args.limit (arriving_trees c.args.first.now c.args.trees.now.arriving.items)
    (leaving_trees c.args.second.now c.args.trees.now.leaving.items) c.requires.arriving c.requires.leaving c.requires.limit
    (fit at.In_ok-second_entries (first_few at.In_ok-first_entries))

pub returns-clause-renewing : goal.returns-clause-renewing
returns-clause-renewing c =
    let at = goal.at.returns-clause-renewing c in
    renewing (arriving_trees c.args.first.now c.args.trees.now.arriving.items) (leaving_trees c.args.second.now c.args.trees.now.leaving.items)
    (tables_filled c.args.limit (arriving_trees c.args.first.now c.args.trees.now.arriving.items)
    (leaving_trees c.args.second.now c.args.trees.now.leaving.items) c.requires.arriving c.requires.leaving c.requires.limit
    (fit at.In_ok-second_entries (first_few at.In_ok-first_entries)))
