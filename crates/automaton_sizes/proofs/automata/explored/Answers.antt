use Rattle.std.proofs.Common.{◌≡◌, ◌∙◌, List, Bool, Vec, Global, length, map}
use Rattle.std.proofs.lemmas.List.{length-map}
use Rattle.std.proofs.lemmas.Result.{IfOk-weaker}
use Rattle.pq_expr.specs.Expr.{expr_tree}
use Rattle.pq_auto.specs.Exploration.{IsExploration}
use Rattle.automaton_sizes.proofs.automata.explored.Goals as goal

pub returns : goal.returns
returns g c =
    let truths : Vec Bool Global → List Bool = λ v. v.items in
    IfOk-weaker c.explore.result (λ a. IsExploration (map expr_tree c.args.exprs.now) (map truths c.args.alphabet.now) a)
    (λ a. a.letters ≡ length c.args.alphabet.now)
    (λ a explored. explored.letters ∙ length-map c.args.alphabet.now truths) c.explore.ensures.explored
