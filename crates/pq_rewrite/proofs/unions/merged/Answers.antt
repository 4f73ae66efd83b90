use Rattle.std.proofs.Common.{◌≡◌, ◌++◌, ◌∙◌, sym, subst}
use Rattle.std.specs.List.{dedup}
use Rattle.std.specs.List.Sorted.{IsPermutation}
use Rattle.std.proofs.lemmas.List.Filters.{dedup_is}
use Rattle.pq_fields.specs.Order.{writes_eq}
use Rattle.pq_rewrite.specs.Merged.{IsMerged}
use Rattle.pq_rewrite.proofs.Merging.{sorted_merged}
use Rattle.pq_rewrite.proofs.unions.merged.Goals as goal
use Rattle.pq_rewrite.proofs.unions.merged.Goals.{After-dedup}

-- the list that is left is merged of the two
merged_is : (c : After-dedup) → IsMerged c.args.a.now c.args.b.now c.dedup.new.self.items
merged_is c =
    let first = c.in_ok-list.ensures.items ∙ c.list.ensures.list in
    let whole : c.extend_from_slice.new.self.items ≡ c.args.a.now ++ c.args.b.now = c.in_ok-extend_from_slice.ensures.items
    ∙ (λ i. first i ++ c.list-2.ensures.list i) in
    let permutation = subst (λ ws. IsPermutation ws c.sort.new.self.items) whole c.in_ok-sort.ensures.permutation in
    let kept : c.dedup.new.self.items ≡ dedup writes_eq c.sort.new.self.items =
    dedup_is writes_eq c.sort.new.self.items c.dedup.new.self.items c.dedup.ensures.filtered in
    subst (IsMerged c.args.a.now c.args.b.now) (sym kept)
    (sorted_merged c.args.a.now c.args.b.now c.sort.new.self.items permutation c.in_ok-sort.ensures.sorted)

pub of-requires : goal.of-requires
of-requires c = (merged_is (goal.at.of-requires c).After-dedup).ascend

pub returns : goal.returns
returns c = subst (IsMerged c.args.a.now c.args.b.now) (sym c.of.ensures) (merged_is (goal.at.returns c).After-dedup)
