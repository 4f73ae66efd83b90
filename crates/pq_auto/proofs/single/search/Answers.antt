use Rattle.std.proofs.Common.{ap, arith, length, map, Bool, true, ◌∙◌}
use Rattle.std.specs.List.{slice_get}
use Rattle.pq_expr.specs.Expr.{expr_tree}
use Rattle.pq_deriv.specs.State.{StateValue}
use Rattle.pq_auto.specs.Rests.{after, rest_of, rests, whole}
use Rattle.pq_auto.specs.Tables.{lists}
use Rattle.pq_auto.proofs.Alike.{alike_of, no_rests}
use Rattle.pq_auto.proofs.Found.{found_first, found_next, next_rest}
use Rattle.pq_auto.proofs.Steps.{none_counted, more_counted}
use Rattle.pq_auto.proofs.single.search.Goals as goal

pub states-init : goal.states-init
states-init g c =
    let state : StateValue × Bool = (c.in_ok-start.field-0, true) in
    record {
      searched = found_first (after (map (λ v. v.items) c.args.alphabet.now)) (whole (expr_tree c.args.expr.now))
          (length c.args.alphabet.now) (rests c.new-states.result.keys) (rests c.number.new.states.keys)
          (rest_of state) c.in_ok-number.field-0 (lists c.new-rows.result.items)
          (ap rests c.new-states.ensures.empty) (λ i. record { holds = λ w. c.in_ok-start.ensures.accepted w i; even = true })
          c.in_ok-number.ensures.number (ap lists c.new-rows.ensures.items);
      alike = alike_of c.number.new.states.keys state c.in_ok-number.ensures.alike;
      own = c.in_ok-number.ensures.rests (expr_tree c.args.expr.now)
          (no_rests (expr_tree c.args.expr.now) c.new-states.result.keys c.new-states.ensures.empty) (
            c.in_ok-start.ensures.expr,
            c.in_ok-start.ensures.rest,
          );
      counted = none_counted c.args.steps.now c.new-rows.result.items (length c.args.alphabet.now) c.new-rows.ensures.items;
    }

pub states-preserved : goal.states-preserved
states-preserved g c =
    let keys = c.states.states.keys in
    let long = c.states.rows.ok.0 in
    let next = next_rest keys (length c.states.rows.items) (omega (arith, c.states-test.true, c.len.ensures, c.len-in-states.ensures.len, long)) in
    let place = c.len-in-states-2.ensures ∙ long in
    record {
      searched = found_next (after (map (λ v. v.items) c.args.alphabet.now)) (whole (expr_tree c.args.expr.now))
          (length c.args.alphabet.now) (rests keys) (rests c.expand.new.states.keys) c.states.rows.items c.push.new.self.items
          c.in_ok-row.row next.0 c.states.invariant.searched next.1
          (c.in_ok-row.ensures.row next.0 (ap (slice_get (rests keys)) place ∙ next.1)) c.in_ok-push.ensures.items;
      alike = c.in_ok-row.ensures.alike;
      own = c.in_ok-row.ensures.rests (expr_tree c.args.expr.now) c.states.invariant.own;
      counted = more_counted c.args.steps.now c.states.steps c.expand.new.steps c.states.rows.items c.push.new.self.items c.in_ok-row.row
          (length c.args.alphabet.now) c.states.invariant.counted c.in_ok-row.ensures.counted c.in_ok-push.ensures.items;
    }
