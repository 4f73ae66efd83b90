use Rattle.std.proofs.Common.{rules}
use Rattle.std.proofs.lemmas.List.Sorted.{answers_always}
use Rattle.pq_net.proofs.Searched.{searched}
use Rattle.pq_net.proofs.lookups.row_at.Goals as goal

-- the closure gives a row's tag
pub returns : goal.returns
returns c =
    let facts = c.binary_search_by_key.ensures in
    let by_tag = facts.position (λ row. row.tag) (answers_always _ _ _ (λ f a r g called. search rules)) in
    rw c.ok.ensures.value (searched (λ row. row.tag) c.args.report.now c.requires c.args.tag _ facts.bound by_tag)
