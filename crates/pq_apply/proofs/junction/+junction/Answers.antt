use Rattle.std.proofs.Common.{ℕ, ◌/◌, length, arith}
use Rattle.std.proofs.lemmas.Option.{slice_get_within}
use Rattle.pq_apply.specs.Junction.{trees_at}
use Rattle.pq_apply.proofs.Junctions.{front_ready, back_ready, HaveHalves, have_halves, halves_meet, halves_joined, one_at}
use Rattle.pq_apply.proofs.junction.+junction.Goals as goal
use Rattle.pq_apply.proofs.junction.+junction.Goals.{In_ok-y-in_default}

pub junction-requires : goal.junction-requires
junction-requires t c =
    let operands = c.args.operands.now in
    let ready = front_ready c.args.store.now operands c.split_at.result.0.now
    (length operands / 2) c.split_at.ensures.front c.requires.within c.requires.fits in
    (omega (arith, c.decreases, c.split_at.ensures.front_len, c.in_default.len_at_least), (ready.0, ready.1))

pub junction-requires-in_default : goal.junction-requires-in_default
junction-requires-in_default t c =
    let operands = c.args.operands.now in
    let ready = back_ready c.args.store.now c.junction.new.store operands c.split_at.result.1.now
    (length operands / 2) c.split_at.ensures.back c.junction.ensures.keeps
    c.requires.within c.requires.fits in
    (omega (arith, c.decreases, c.split_at.ensures.back_len, c.in_default.len_at_least), (ready.0, ready.1))

-- the junctions of both halves
halves : (t : ℕ) (c : In_ok-y-in_default t)
    → HaveHalves c.args.every (length c.args.operands.now / 2)
    (trees_at c.args.store.now c.args.operands.now) c.junction-in_default.new.store c.in_ok-x-in_default.x c.in_ok-y-in_default.y
halves t c =
    have_halves c.args.every c.args.store.now c.junction.new.store c.junction-in_default.new.store c.args.operands.now
    c.split_at.result.0.now c.split_at.result.1.now
    (length c.args.operands.now / 2) c.in_ok-x-in_default.x c.in_ok-y-in_default.y c.split_at.ensures.front c.split_at.ensures.back c.requires.within
    c.junction.ensures.keeps c.junction-in_default.ensures.keeps c.in_ok-x-in_default.ensures.joins c.in_ok-y-in_default.ensures.joins

pub joined-requires-clause-x : goal.joined-requires-clause-x
joined-requires-clause-x t c =
    let both = halves t (goal.at.joined-requires-clause-x t c).In_ok-y-in_default in
    slice_get_within c.junction-in_default.new.store c.in_ok-x-in_default.x both.x_tree both.x_is

pub joined-requires-clause-y : goal.joined-requires-clause-y
joined-requires-clause-y t c =
    let both = halves t (goal.at.joined-requires-clause-y t c).In_ok-y-in_default in
    slice_get_within c.junction-in_default.new.store c.in_ok-y-in_default.y both.y_tree both.y_is

pub joined-requires-clause-fits : goal.joined-requires-clause-fits
joined-requires-clause-fits t c =
    halves_meet c.args.every (length c.args.operands.now / 2)
    (trees_at c.args.store.now c.args.operands.now) c.junction-in_default.new.store c.in_ok-x-in_default.x c.in_ok-y-in_default.y
    c.requires.fits (halves t (goal.at.joined-requires-clause-fits t c).In_ok-y-in_default)

pub returns-in-len1-clause-joins : goal.returns-in-len1-clause-joins
returns-in-len1-clause-joins t c =
    one_at c.args.every c.args.store.now c.args.operands.now c.id-item.result c.in-len1.len_below c.in-len1.len_at_least c.id-item.is c.requires.within

pub returns-in_ok-id-in_default-clause-joins : goal.returns-in_ok-id-in_default-clause-joins
returns-in_ok-id-in_default-clause-joins t c =
    let both = halves t (goal.at.returns-in_ok-id-in_default-clause-joins t c).In_ok-y-in_default in
    let made = c.in_ok-id-in_default.ensures.joins both.x_tree both.y_tree both.x_is both.y_is in (
      made.0,
      made.1,
      halves_joined c.args.every (length c.args.operands.now / 2)
          (trees_at c.args.store.now c.args.operands.now) both.x_tree both.y_tree made.0 both.front both.back made.2,
    )
