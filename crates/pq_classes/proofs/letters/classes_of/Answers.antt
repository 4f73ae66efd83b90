use Rattle.std.proofs.Common.{ap, arith, map, ◌∙◌}
use Rattle.std.proofs.lemmas.List.{length-map}
use Rattle.pq_expr.specs.Expr.{expr_tree}
use Rattle.pq_classes.proofs.Signed.{automaton_of, some_letter}
use Rattle.pq_classes.proofs.letters.classes_of.Goals as goal

pub explore-requires-clause-alphabet : goal.explore-requires-clause-alphabet
explore-requires-clause-alphabet g c =
    let same = ap (map (λ v. v.items)) c.deref.ensures.value ∙ c.in_ok-alphabet.ensures in
    let some = some_letter c.args.letters.now (map (λ v. v.items) c.deref.result.now) c.count.ensures.lettered same in
    let long = length-map c.deref.result.now (λ v. v.items) in
    omega (arith, some, long)

pub returns : goal.returns
returns g c =
    let same = ap (map (λ v. v.items)) c.deref.ensures.value ∙ c.in_ok-alphabet.ensures in
    let lawful = c.is_lawful.ensures in
    automaton_of (map expr_tree c.args.exprs.now) c.args.letters.now (map (λ v. v.items) c.deref.result.now) c.in_ok-automaton.automaton c.in_ok-classes.classes
    c.count.ensures.lettered same c.in_ok-automaton.ensures.explored c.in_ok-classes.ensures.letters c.in_ok-classes.ensures.same
    lawful.machine lawful.numbered lawful.least
