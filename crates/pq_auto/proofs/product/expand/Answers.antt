use Rattle.std.proofs.Common.{subst}
use Rattle.pq_auto.specs.Search.{IsNumber, targets}
use Rattle.pq_auto.specs.Tables.{lists, steps}
use Rattle.pq_auto.proofs.Letters.{numbers_more, numbers_all}
use Rattle.pq_auto.proofs.product.expand.Goals as goal

pub loop-letter-preserved : goal.loop-letter-preserved
loop-letter-preserved c =
    let number = subst (λ k. IsNumber (lists c.loop-letter.states.keys) k c.in_ok-number.field-0 (lists c.number.new.states.keys))
    c.in_ok-next.ensures c.in_ok-number.ensures in
    numbers_more (steps c.args.tables.now) c.args.state.now c.loop-letter.letter c.args.letters (lists c.loop-letter.states.keys)
    (lists c.number.new.states.keys) c.in_ok-number.field-0 c.loop-letter.row.items c.push.new.self.items (lists c.args.states.now.keys)
    (targets (steps c.args.tables.now) c.args.state.now 0 c.args.letters) c.loop-letter-test.true number c.in_ok-push.ensures.items c.loop-letter.invariant

pub returns : goal.returns
returns c = numbers_all (steps c.args.tables.now) c.args.state.now c.loop-letter.letter c.args.letters
    (lists c.loop-letter.states.keys) c.loop-letter.row.items (lists c.args.states.now.keys)
    (targets (steps c.args.tables.now) c.args.state.now 0 c.args.letters) c.loop-letter-test.false c.loop-letter.invariant
