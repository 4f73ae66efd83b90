use Rattle.std.proofs.Common.{◌∙◌, ap, get_or, length, sym}
use Rattle.pq_query.specs.Labels.{one_from_each}
use Rattle.pq_query.specs.Query.{query_tree}
use Rattle.pq_query.proofs.Listed.{count_told, few_left, lists_told, one_more_query}
use Rattle.pq_query.proofs.listing.few_instances.Goals as goal

pub push_instances-requires : goal.push_instances-requires
push_instances-requires c =
    let T = c.args.topology.now in
    let q = get_or c.args.queries.now c.loop-place.place c.index-queries-place.result in
    let few = few_left T c.args.queries.now c.loop-place.place c.index-queries-place.result c.loop-place-test.true c.loop-place.invariant.few in
    let count = count_told T (query_tree q.1) c.args.sizes c.count_labels-count.result c.requires.sizes c.count_labels-count.ensures few.0 in
    let lists = lists_told T (query_tree q.1) c.numbers.result.now c.numbers-in-loop-place.result.now c.deref.result.now (c.numbers.ensures
    ∙ c.in_ok-datapaths.ensures) (c.numbers-in-loop-place.ensures ∙ c.in_ok-ports.ensures) (c.deref.ensures.value
    ∙ c.in_ok-lists.ensures) in
    count ∙ ap length (sym lists)

pub loop-place-preserved : goal.loop-place-preserved
loop-place-preserved c =
    let T = c.args.topology.now in
    let q = get_or c.args.queries.now c.loop-place.place c.index-queries-place.result in
    let few = few_left T c.args.queries.now c.loop-place.place c.index-queries-place.result c.loop-place-test.true c.loop-place.invariant.few in
    let lists = lists_told T (query_tree q.1) c.numbers.result.now c.numbers-in-loop-place.result.now c.deref.result.now (c.numbers.ensures
    ∙ c.in_ok-datapaths.ensures) (c.numbers-in-loop-place.ensures ∙ c.in_ok-ports.ensures) (c.deref.ensures.value
    ∙ c.in_ok-lists.ensures) in
    record {
      few = few.1;
      whole = one_more_query T c.args.queries.now c.loop-place.place c.index-queries-place.result c.loop-place.all.items
          c.push_instances.new.into.items _ (one_from_each c.deref.result.now) c.loop-place-test.true lists c.in_ok-push_instances.ensures
          c.loop-place.invariant.whole;
    }
