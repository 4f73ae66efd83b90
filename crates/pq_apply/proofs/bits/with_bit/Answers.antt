use Rattle.std.proofs.Common.{◌≡◌, false, sym, subst}
use Rattle.std.proofs.lemmas.Option.{slice_get_within}
use Rattle.pq_store.specs.declared.test.Test.TheVariants.{Bit}
use Rattle.pq_store.specs.Tree.Tree.{Tip}
use Rattle.pq_store.specs.Store.{IsJoinable}
use Rattle.pq_apply.proofs.AtomTrees.{forked, yes_bit, no_bit}
use Rattle.pq_apply.proofs.bits.with_bit.Goals as goal

pub node-requires-clause-sides : goal.node-requires-clause-sides
node-requires-clause-sides c = λ y n y_is n_is.
    let e : Tip false ≡ n = cc (c.requires.no) in
    subst (λ u. IsJoinable (Bit c.args.field c.args.place) y u) e
    (yes_bit c.args.field c.args.place y c.requires.address c.requires.place (c.requires.behind.1 y y_is))

pub returns-then-set-clause-makes : goal.returns-then-set-clause-makes
returns-then-set-clause-makes c = λ t is.
    rw c.if-set.true (forked c.args.store.now c.node.new.self (Bit c.args.field c.args.place) c.args.behind c.args.no c.in_ok-id.id t (Tip false)
    c.in_ok-id.ensures.tree is c.requires.no (c.requires.behind.1 t is).some)

pub node-requires-2-clause-yes : goal.node-requires-2-clause-yes
node-requires-2-clause-yes c = slice_get_within c.args.store.now c.args.no (Tip false) c.requires.no

pub node-requires-2-clause-sides : goal.node-requires-2-clause-sides
node-requires-2-clause-sides c = λ y n y_is n_is.
    let e : Tip false ≡ y = cc (c.requires.no) in
    subst (λ u. IsJoinable (Bit c.args.field c.args.place) u n) e
    (no_bit c.args.field c.args.place n c.requires.address c.requires.place (c.requires.behind.1 n n_is))

pub returns-clause-makes : goal.returns-clause-makes
returns-clause-makes c = λ t is.
    rw c.if-set.false (forked c.args.store.now c.node-2.new.self (Bit c.args.field c.args.place) c.args.no c.args.behind c.in_ok-id-2.id (Tip false) t
    c.in_ok-id-2.ensures.tree c.requires.no is (λ e. (c.requires.behind.1 t is).some (sym e)))
