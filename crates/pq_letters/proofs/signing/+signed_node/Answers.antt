use Rattle.std.proofs.Common.{ℕ, ◌/◌, ◌≡◌, ◌++◌, length, subst, sym, arith}
use Rattle.std.proofs.lemmas.Option.{slice_get_within}
use Rattle.pq_apply.specs.Junction.{FitTogetherAll, trees_at}
use Rattle.pq_apply.proofs.Junctions.{front_ready, back_ready}
use Rattle.pq_letters.specs.Letters.{SignedAt}
use Rattle.pq_letters.proofs.Signed.{both_fit, both_parts, only_says, only_tree}
use Rattle.pq_letters.proofs.signing.+signed_node.Goals as goal
use Rattle.pq_letters.proofs.signing.+signed_node.Goals.{In_ok-y-in_default}

pub one_signed-requires-clause-fits : goal.one_signed-requires-clause-fits
one_signed-requires-clause-fits t c u u_is =
    subst FitTogetherAll (only_tree c.args.store.now c.args.preds.now c.pred-item.result u c.in-len1.len_below c.in-len1.len_at_least
    c.pred-item.is u_is) c.requires.fits

pub signed_node-requires : goal.signed_node-requires
signed_node-requires t c =
    let preds = c.args.preds.now in
    let ready = front_ready c.args.store.now preds c.split_at.result.0.now (length preds / 2) c.split_at.ensures.front c.requires.within c.requires.fits in
    (omega (arith, c.decreases, c.split_at.ensures.front_len, c.in_default.len_at_least), (ready.0, ready.1))

pub signed_node-requires-in_default : goal.signed_node-requires-in_default
signed_node-requires-in_default t c =
    let preds = c.args.preds.now in
    let ready = back_ready c.args.store.now c.args.store.now preds c.split_at.result.1.now (length preds / 2) c.split_at.ensures.back
    (λ k u is. is) c.requires.within c.requires.fits in
    (omega (arith, c.decreases, c.split_at.ensures.back_len, c.in_default.len_at_least), (ready.0, ready.1))

pub both_signed-requires-clause-x : goal.both_signed-requires-clause-x
both_signed-requires-clause-x t c =
    let made = c.in_ok-x-in_default.ensures.signed in
    slice_get_within c.signed_node.new.into c.in_ok-x-in_default.x made.0 made.1

pub both_signed-requires-clause-y : goal.both_signed-requires-clause-y
both_signed-requires-clause-y t c =
    let made = c.in_ok-y-in_default.ensures.signed in
    slice_get_within c.signed_node-in_default.new.into c.in_ok-y-in_default.y made.0 made.1

-- the trees at both halves are those at all places
parts : (t : ℕ) (c : In_ok-y-in_default t)
    → trees_at c.args.store.now c.split_at.result.0.now ++ trees_at c.args.store.now c.split_at.result.1.now
    ≡ trees_at c.args.store.now c.args.preds.now
parts t c =
    both_parts c.args.store.now c.args.preds.now c.split_at.result.0.now c.split_at.result.1.now
    (length c.args.preds.now / 2) c.split_at.ensures.front c.split_at.ensures.back

pub both_signed-requires-clause-fits : goal.both_signed-requires-clause-fits
both_signed-requires-clause-fits t c =
    both_fit (trees_at c.args.store.now c.split_at.result.0.now) (trees_at c.args.store.now c.split_at.result.1.now) c.signed_node.new.into
    c.signed_node-in_default.new.into
    c.in_ok-x-in_default.x c.in_ok-y-in_default.y
    (subst FitTogetherAll (sym (parts t (goal.at.both_signed-requires-clause-fits t c).In_ok-y-in_default)) c.requires.fits)
    c.in_ok-x-in_default.ensures.signed c.in_ok-y-in_default.ensures.signed

pub returns-in_ok-id-in-len1-clause-signed : goal.returns-in_ok-id-in-len1-clause-signed
returns-in_ok-id-in-len1-clause-signed t c =
    only_says c.args.store.now c.args.preds.now c.pred-item.result c.one_signed.new.into c.in_ok-id-in-len1.id
    c.in-len1.len_below c.in-len1.len_at_least c.pred-item.is c.requires.within c.in_ok-id-in-len1.ensures.signed

pub returns-in_ok-id-in_default-clause-signed : goal.returns-in_ok-id-in_default-clause-signed
returns-in_ok-id-in_default-clause-signed t c =
    subst (λ us. SignedAt us c.both_signed.new.into c.in_ok-id-in_default.id)
    (parts t (goal.at.returns-in_ok-id-in_default-clause-signed t c).In_ok-y-in_default)
    (c.in_ok-id-in_default.ensures.signed (trees_at c.args.store.now c.split_at.result.0.now) (trees_at c.args.store.now c.split_at.result.1.now)
    c.in_ok-x-in_default.ensures.signed c.in_ok-y-in_default.ensures.signed)
