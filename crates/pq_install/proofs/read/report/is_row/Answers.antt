use Rattle.std.proofs.Common.{◌≡◌, arith, ap, ◌∙◌}
use Rattle.pq_install.proofs.RowLists.{lawful_pairs}
use Rattle.pq_install.proofs.read.report.is_row.Goals as goal

-- an instance is of no query
pub returns-then-not-are_of_queries : goal.returns-then-not-are_of_queries
returns-then-not-are_of_queries c =
    let pairs : c.deref.result.now ≡ c.args.row.now.pairs = c.deref.ensures.value ∙ ap (λ r. r.pairs) c.row.view_is in
    let tells = rw pairs at c.are_of_queries.ensures in (
      λ wrong. absurd cc,
      λ lawful. grind (
        arith,
        tells,
        (lawful_pairs c.args.queries c.args.row.now.pairs c.requires.1.1).1 lawful.4,
        c.if-not-are_of_queries.true,
      ),
    )
