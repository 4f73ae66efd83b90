use Rattle.std.proofs.Common.{ap, arith, ◌∙◌}
use Rattle.std.proofs.Math.ListN.{get_or}
use Rattle.pq_auto.specs.Tables.{begin, lists, steps}
use Rattle.pq_auto.proofs.Found.{found_first, found_more}
use Rattle.pq_auto.proofs.product.search.Goals as goal

pub states-init : goal.states-init
states-init c = found_first (steps c.args.tables.now) (begin c.args.tables.now) c.args.letters (lists c.new-states.result.keys)
    (lists c.number.new.states.keys) c.in_ok-begin.field-0.items c.in_ok-number.field-0 (lists c.new-rows.result.items)
    (ap lists c.new-states.ensures.empty) c.in_ok-begin.ensures c.in_ok-number.ensures (ap lists c.new-rows.ensures.items)

pub states-preserved : goal.states-preserved
states-preserved c =
    let at = c.index-as_slice-len.result in
    let long = c.states.rows.ok.0 in
    let is = c.index-as_slice-len.is ∙ ap (λ ks. get_or ks c.len-in-states-2.result at) c.as_slice.ensures.keys
    ∙ ap (λ n. get_or c.states.states.keys n at) (c.len-in-states-2.ensures ∙ long) in
    found_more (steps c.args.tables.now) (begin c.args.tables.now) c.args.letters c.states.states.keys
    (lists c.expand.new.states.keys) c.states.rows.items c.push.new.self.items c.in_ok-row.row at c.deref-in-states.result.now
    c.states.invariant
    (omega (arith, c.states-test.true, c.len.ensures, c.len-in-states.ensures.len, long)) is (c.deref-in-states.ensures.value
    ∙ c.in_ok-state.ensures ∙ c.deref.ensures.value) c.in_ok-row.ensures c.in_ok-push.ensures.items
