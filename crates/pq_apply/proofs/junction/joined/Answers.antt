use Rattle.pq_apply.proofs.Junctions.{first_fits, IsPairReady, pair_ready, every_chosen, some_chosen}
use Rattle.pq_apply.proofs.junction.joined.Goals as goal
use Rattle.pq_apply.proofs.junction.joined.Goals.{In_ok-leaf}

pub recoded-requires : goal.recoded-requires
recoded-requires c = record { node = c.requires.x; fits = first_fits c.args.store.now c.args.x c.args.y c.requires.y c.requires.fits }

-- the parts of the choice may come together
ready : (c : In_ok-leaf) → IsPairReady c.recoded.new.into c.leaf.new.self c.in_ok-condition.condition c.args.y c.in_ok-leaf.leaf
ready c =
    pair_ready c.recoded.new.into c.args.store.now c.leaf.new.self c.args.x c.args.y c.in_ok-condition.condition c.in_ok-leaf.leaf _
    c.requires.x c.requires.y c.requires.fits c.in_ok-condition.ensures.recodes c.leaf.ensures.keeps c.in_ok-leaf.ensures.leaf

pub ite-requires : goal.ite-requires
ite-requires c =
    let parts = ready (goal.at.ite-requires c).In_ok-leaf in
    record { cond = parts.condition_in; yes = parts.y_in; no = parts.leaf_in; fit = parts.leaf_no }

pub ite-requires-2 : goal.ite-requires-2
ite-requires-2 c =
    let parts = ready (goal.at.ite-requires-2 c).In_ok-leaf in
    record { cond = parts.condition_in; yes = parts.leaf_in; no = parts.y_in; fit = parts.leaf_yes }

pub returns-then-every-clause-joins : goal.returns-then-every-clause-joins
returns-then-every-clause-joins c =
    every_chosen c.args.every c.recoded.new.into c.args.store.now c.leaf.new.self c.ite.new.store c.args.x c.args.y
    c.in_ok-condition.condition c.in_ok-leaf.leaf c.in_ok-id.id
    c.if-every.true c.in_ok-condition.ensures.recodes c.leaf.ensures.keeps c.in_ok-leaf.ensures.leaf c.in_ok-id.ensures.chooses

pub returns-clause-joins : goal.returns-clause-joins
returns-clause-joins c =
    some_chosen c.args.every c.recoded.new.into c.args.store.now c.leaf.new.self c.ite-2.new.store c.args.x c.args.y
    c.in_ok-condition.condition c.in_ok-leaf.leaf c.in_ok-id-2.id
    c.if-every.false c.in_ok-condition.ensures.recodes c.leaf.ensures.keeps c.in_ok-leaf.ensures.leaf c.in_ok-id-2.ensures.chooses
