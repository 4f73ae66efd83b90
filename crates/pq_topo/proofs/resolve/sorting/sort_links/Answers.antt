use Rattle.std.proofs.Common.{◌≡◌, ap, ◌∙◌, rules}
use Rattle.std.proofs.lemmas.List.Sorted.{answers_always}
use Rattle.std.proofs.lemmas.Result.{on_ok_weaker}
use Rattle.std.specs.Cmp.Lexicographic.{slice_cmp}
use Rattle.std.specs.Ordering.{is_lt, nat_cmp}
use Rattle.pq_model.specs.Install.{link_numbers}
use Rattle.pq_model.proofs.Sorted.{before-cmp, before_is_order, sorted_stably}
use Rattle.pq_topo.proofs.resolve.sorting.sort_links.Goals as goal

-- the closure answers as the numbers compare, so a stable sort by it is the sort by the numbers
pub returns : goal.returns
returns c =
    let before = c.args.links.now.items in
    let order = before_is_order link_numbers in
    let answers = answers_always _ _ _ (λ f a r g h.
    let compared : r ≡ slice_cmp nat_cmp (link_numbers a.0.now) (link_numbers a.1.0.now) = search rules in
    ap is_lt compared ∙ before-cmp (link_numbers a.0.now) (link_numbers a.1.0.now)) in
    on_ok_weaker c.sort_by.result (λ sorted.
    sorted_stably link_numbers before c.sort_by.new.self.items (sorted _ order answers) (c.sort_by.ensures.stable _ order answers)) c.sort_by.ensures.sorted
