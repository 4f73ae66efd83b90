use Rattle.std.proofs.Common.{◌≡◌, nat_cmp, sym, ◌∙◌, rules}
use Rattle.std.specs.Cmp.Lexicographic.{slice_cmp}
use Rattle.std.specs.Ordering.{ordering_then}
use Rattle.pq_fields.specs.Packet.{numbers}
use Rattle.pq_net.proofs.EntryOrder.{entries-compare}
use Rattle.pq_net.proofs.sorting.compare.Goals as goal

pub returns : goal.returns
returns c =
    let x = c.args.x.now in
    let y = c.args.y.now in
    let queries : c.cmp.result ≡ nat_cmp x.pair.query y.pair.query = search rules in
    let labels : c.cmp-2.result ≡ slice_cmp nat_cmp x.pair.label y.pair.label = search rules in
    let by_numbers = c.packets_are_ordered_by_numbers.ensures.compares x.packet y.packet in
    let packets : c.cmp-3.result ≡ slice_cmp nat_cmp (numbers x.packet) (numbers y.packet) = search (rules, by_numbers) in
    let pairs = c.then.ensures ∙ (λ i. ordering_then (queries i) (labels i)) in
    c.then-2.ensures ∙ (λ i. ordering_then (pairs i) (packets i)) ∙ sym (entries-compare x y)
