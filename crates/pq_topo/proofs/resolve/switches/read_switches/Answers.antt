use Rattle.std.proofs.Common.{◌≡◌, List, [], ◌∷◌, ◌++◌, sym, ◌∙◌}
use Rattle.pq_model.specs.Topology.{Switch}
use Rattle.pq_topo.proofs.SwitchSteps.{switch_is_read, switch_is_refused, no_switch, switch_seen}
use Rattle.pq_topo.proofs.resolve.switches.read_switches.Goals as goal
use Rattle.pq_topo.proofs.resolve.switches.read_switches.Goals.{then-begins_with+in-Ok+in-Ok-push, else-begins_with}

-- a switch is refused
pub returns-in-Err : goal.returns-in-Err
returns-in-Err c =
    switch_is_refused c.args.bytes.now c.loop-term.switches.items c.loop-term.before c.loop-term.invariant.known c.args.terms.now
    c.loop-term.term-index _ c.loop-term-test.true _ c.loop-term.invariant.left {C = List Switch} (λ ss. ss) c.in-Err.fault
    (sym c.begins_with.ensures ∙ c.if-begins_with.true) c.in-Err.ensures.switch

-- a switch is read, or the statement is none of a switch
pub loop-term-preserved : goal.loop-term-preserved
loop-term-preserved c = elim c.if-begins_with.branch [
  | then-begins_with+in-Ok+in-Ok-push w ↦ (
      let new : c.if-begins_with.switches.items ≡ c.loop-term.switches.items ++ w.in-Ok.switch ∷ [] = rw w.switches-is w.in-Ok-push.ensures.items in
      record {
        left = switch_is_read c.args.bytes.now c.loop-term.switches.items c.loop-term.before c.loop-term.invariant.known c.args.terms.now
            c.loop-term.term-index _ c.loop-term-test.true _ c.loop-term.invariant.left w.in-Ok.switch c.if-begins_with.switches.items
            (sym c.begins_with.ensures ∙ w.if-begins_with.true) w.in-Ok.ensures.switch new;
        known = switch_seen c.loop-term.switches.items c.if-begins_with.switches.items w.in-Ok.switch c.loop-term.before
            c.if-begins_with.before c.loop-term.invariant.known (rw w.before-is w.in-Ok.ensures.kept) new;
      })
  | else-begins_with w ↦ record {
    left = rw w.switches-is
        (no_switch c.args.bytes.now c.loop-term.switches.items c.loop-term.before c.loop-term.invariant.known c.args.terms.now
        c.loop-term.term-index _ c.loop-term-test.true _ c.loop-term.invariant.left (sym c.begins_with.ensures ∙ w.if-begins_with.false));
    known = rw (w.before-is, w.switches-is) c.loop-term.invariant.known;
  }
]
