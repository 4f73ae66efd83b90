use Rattle.std.proofs.Common.{◌≡◌, ◌==◌, Bool, filter, ap, sym, ◌∙◌, ne_eqb}
use Rattle.std.proofs.lemmas.Bool.{or_from}
use Rattle.std.specs.FinMap.{contains_key}
use Rattle.pq_model.specs.SwitchMachine.{Entry}
use Rattle.pq_model.specs.declared.reserved.TheConstants.{ALL_GROUPS}
use Rattle.pq_switch.proofs.Absent.{none_is_removed}
use Rattle.pq_switch.proofs.Kept.{entries_where, kept_where}
use Rattle.pq_switch.proofs.Noted.{left, one_removed}
use Rattle.pq_switch.proofs.entries.Entries.remove_naming.Goals as goal

pub invariant_of-self : goal.invariant_of-self
invariant_of-self c = (
  kept_where c.self.inside.next (left c.args.groups.now ALL_GROUPS) c.self.inside.slots.entries c.take_naming_any.new.slots.entries c.self.invariant.0
      c.take_naming_any.ensures.rows,
  c.take_naming_any.ensures.indexed,
)

pub returns-then-number-eq-ALL_GROUPS : goal.returns-then-number-eq-ALL_GROUPS
returns-then-number-eq-ALL_GROUPS c =
    let q : Entry → Bool = left c.args.groups.now ALL_GROUPS in
    entries_where q c.self.inside.slots.entries c.take_naming_any.new.slots.entries c.take_naming_any.ensures.rows ∙ ap (filter q) c.self.view_is
    ∙ ap (λ n. filter (left c.args.groups.now n) c.args.self.now) (sym c.if-number-eq-ALL_GROUPS.true)

-- what is left where one group is removed
one_left : (c : goal.After-take_naming)
    → c.take_naming.new.slots.entries ≡ filter (λ r. left c.args.groups.now c.args.number r.1.entry) c.self.inside.slots.entries
one_left c =
    c.take_naming.ensures.rows
    ∙ one_removed c.args.groups.now c.args.number (ne_eqb c.args.number ALL_GROUPS c.if-number-eq-ALL_GROUPS.false) (sym c.if-contains.ensures)
    c.self.inside.slots.entries

pub invariant_of-self-then-contains : goal.invariant_of-self-then-contains
invariant_of-self-then-contains c = (
  kept_where c.self.inside.next (left c.args.groups.now c.args.number) c.self.inside.slots.entries c.take_naming.new.slots.entries c.self.invariant.0
      (one_left c),
  c.take_naming.ensures.indexed,
)

pub returns-then-contains : goal.returns-then-contains
returns-then-contains c =
    let q : Entry → Bool = left c.args.groups.now c.args.number in
    entries_where q c.self.inside.slots.entries c.take_naming.new.slots.entries (one_left c) ∙ ap (filter q) c.self.view_is

pub returns-else-contains : goal.returns-else-contains
returns-else-contains c = none_is_removed c.args.groups.now c.args.number c.args.self.now
    (or_from (c.args.number == ALL_GROUPS) (contains_key c.args.groups.now c.args.number)
    (ne_eqb c.args.number ALL_GROUPS c.if-number-eq-ALL_GROUPS.false) (sym c.if-contains.ensures))
