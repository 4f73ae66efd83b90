use Rattle.std.proofs.Common.{◌≡◌, ap, ◌∙◌, rules}
use Rattle.std.proofs.lemmas.List.Sorted.{answers_always}
use Rattle.std.proofs.lemmas.Result.{on_ok_weaker}
use Rattle.std.specs.Cmp.Lexicographic.{slice_cmp}
use Rattle.std.specs.Ordering.{is_lt, nat_cmp}
use Rattle.pq_switch.specs.SentOrder.{sent_numbers}
use Rattle.pq_switch.proofs.SentOrder.{sorted_in_order}
use Rattle.pq_model.proofs.Sorted.{before-cmp, before_is_order, sorted_stably}
use Rattle.pq_switch.proofs.sorting.sort.Goals as goal

pub returns : goal.returns
returns c =
    let before = c.args.sent.now.items in
    let order = before_is_order sent_numbers in
    let answers = answers_always _ _ _ (λ f a r g h.
    let compared : r ≡ slice_cmp nat_cmp (sent_numbers a.0.now) (sent_numbers a.1.0.now) = search rules in
    ap is_lt compared ∙ before-cmp (sent_numbers a.0.now) (sent_numbers a.1.0.now)) in
    on_ok_weaker c.sort_by.result (λ sorted.
    sorted_stably sent_numbers before c.sort_by.new.self.items (sorted _ order answers) (c.sort_by.ensures.stable _ order answers)
    ∙ sorted_in_order before) c.sort_by.ensures.sorted
