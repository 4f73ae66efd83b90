use Rattle.std.proofs.Common.{◌∙◌, sym, subst}
use Rattle.std.proofs.lemmas.Bool.{eqb-true, eqb-false}
use Rattle.pq_sum.specs.Sum.{GivesNone}
use Rattle.pq_sum.proofs.Unions.{back_idle_free, back_within, front_idle_free, front_within, halves_together, none_is, united_at, united_with_none}
use Rattle.pq_sum.proofs.joined.joined.Goals as goal

pub returns-then-eq-clause-unites : goal.returns-then-eq-clause-unites
returns-then-eq-clause-unites g c T ps qs front back =
    united_with_none T c.args.store.now ps qs c.args.front c.args.back front back
    (subst (GivesNone c.args.store.now) (sym (eqb-true c.args.back c.args.none (sym c.eq.ensures ∙ c.if-eq.true))) c.requires.none)

pub union-requires-clause-x : goal.union-requires-clause-x
union-requires-clause-x g c =
    let h = c.requires.halves in
    front_within h.topology c.args.store.now h.first h.behind c.args.front c.args.back h.front h.back

pub union-requires-clause-y : goal.union-requires-clause-y
union-requires-clause-y g c =
    let h = c.requires.halves in
    back_within h.topology c.args.store.now h.first h.behind c.args.front c.args.back h.front h.back

pub union-requires-clause-x_idle_free : goal.union-requires-clause-x_idle_free
union-requires-clause-x_idle_free g c =
    let h = c.requires.halves in
    front_idle_free h.topology c.args.store.now h.first h.behind c.args.front c.args.back h.front h.back

pub union-requires-clause-y_idle_free : goal.union-requires-clause-y_idle_free
union-requires-clause-y_idle_free g c =
    let h = c.requires.halves in
    back_idle_free h.topology c.args.store.now h.first h.behind c.args.front c.args.back h.front h.back

pub union-requires-clause-fit : goal.union-requires-clause-fit
union-requires-clause-fit g c =
    let h = c.requires.halves in
    halves_together h.topology c.args.store.now h.first h.behind c.args.front c.args.back h.front h.back h.fits

pub returns-in_err-id-clause-no_step : goal.returns-in_err-id-clause-no_step
returns-in_err-id-clause-no_step g c T none =
    absurd (eqb-false c.args.back c.args.none (sym c.eq.ensures
    ∙ c.if-eq.false) (none_is T c.args.store.now c.args.none c.args.back c.equal_rewritings_are_one.ensures c.requires.none none))

pub returns-clause-unites : goal.returns-clause-unites
returns-clause-unites g c T ps qs front back =
    united_at T c.args.store.now ps qs c.args.front c.args.back front back c.union.new.store c.in_ok-id.id c.in_ok-id.ensures.unites

pub returns-clause-no_step : goal.returns-clause-no_step
returns-clause-no_step g c T none =
    absurd (eqb-false c.args.back c.args.none (sym c.eq.ensures
    ∙ c.if-eq.false) (none_is T c.args.store.now c.args.none c.args.back c.equal_rewritings_are_one.ensures c.requires.none none))
