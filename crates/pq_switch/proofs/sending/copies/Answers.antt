use Rattle.std.proofs.Common.{◌≡◌, ◌++◌, ap, sym, ◌∙◌}
use Rattle.std.specs.declared.option.Option.TheVariants.{None, Some}
use Rattle.std.specs.Option.{option_copied}
use Rattle.pq_model.specs.SwitchMachine.{changed_by, emits, runs, taken}
use Rattle.pq_switch.proofs.Passing.{goes_on, stops}
use Rattle.pq_switch.proofs.sending.copies.Goals as goal

pub returns-in_default-goto : goal.returns-in_default-goto
returns-in_default-goto g c =
    let t = g.T.FlowTables.tables c.args.tables.now in
    let e = c.in-Some.entry.now in
    let x = c.loop-passed.x in
    let took : taken t.entries c.loop-passed.table x ≡ Some e = sym c.taken.ensures ∙ ap option_copied c.in-Some.is in
    let sent : c.run.new.sent.items ≡ c.loop-passed.sent.items ++ runs (emits t.groups) e.actions x =
    rw (← c.groups.ensures, ← c.entry.view_is) c.in_ok-x.ensures.sent in
    let none : e.goto ≡ None = rw (← c.entry.view_is) c.in_default-goto.is in
    stops t c.loop-passed._passed c.loop-passed.table x e c.loop-passed-test.true took c.loop-passed.sent.items c.run.new.sent.items _
    c.loop-passed.invariant sent none

pub loop-passed-preserved : goal.loop-passed-preserved
loop-passed-preserved g c =
    let t = g.T.FlowTables.tables c.args.tables.now in
    let e = c.in-Some.entry.now in
    let x = c.loop-passed.x in
    let took : taken t.entries c.loop-passed.table x ≡ Some e = sym c.taken.ensures ∙ ap option_copied c.in-Some.is in
    let sent : c.run.new.sent.items ≡ c.loop-passed.sent.items ++ runs (emits t.groups) e.actions x =
    rw (← c.groups.ensures, ← c.entry.view_is) c.in_ok-x.ensures.sent in
    let some : e.goto ≡ Some c.in-Some-goto.next = rw (← c.entry.view_is) c.in-Some-goto.is in
    let after : c.in_ok-x.x ≡ changed_by e.actions x = rw (← c.entry.view_is) c.in_ok-x.ensures.after in
    goes_on t c.loop-passed._passed c.loop-passed.table x e c.loop-passed-test.true took c.loop-passed.sent.items c.run.new.sent.items _
    c.loop-passed.invariant sent c.in-Some-goto.next c.in_ok-x.x some after
