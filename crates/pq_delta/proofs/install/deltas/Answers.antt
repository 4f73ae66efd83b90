use Rattle.std.proofs.Common.{◌++◌, ◌<◌, ◌≤◌, [], drop, length, map, sym, ap, ◌∙◌, append-nil, arith}
use Rattle.std.proofs.lemmas.List.{length-map}
use Rattle.pq_lists.proofs.Holding.{all_map_read}
use Rattle.pq_model.specs.Install.{IsLawfulList}
use Rattle.pq_delta.specs.Delta.{switch_delta, with_switch}
use Rattle.pq_delta.proofs.AssemblyLemmas.{delta_end, delta_step, one_short_more, read_mapped}
use Rattle.pq_delta.proofs.install.deltas.Goals as goal

pub switch_delta-requires-clause-old : goal.switch_delta-requires-clause-old
switch_delta-requires-clause-old c =
    rw c.deref.ensures.value (all_map_read c.args.olds.now (λ ms. ms.items) IsLawfulList _ c.index-olds-index.result c.requires.olds
    (omega (arith, c.requires.old_listed, c.loop-index-test.true)) c.index-olds-index.is)

pub switch_delta-requires-clause-new : goal.switch_delta-requires-clause-new
switch_delta-requires-clause-new c =
    rw c.deref-in-loop-index.ensures.value
    (all_map_read c.args.news.now (λ ms. ms.items) IsLawfulList _ c.index-news-index.result c.requires.news
    (omega (arith, c.requires.new_listed, c.loop-index-test.true)) c.index-news-index.is)

pub loop-index-preserved : goal.loop-index-preserved
loop-index-preserved c =
    let i = c.loop-index.index in
    let olds = map (λ ms. ms.items) c.args.olds.now in
    let news = map (λ ms. ms.items) c.args.news.now in
    let switch = c.index-switches-index.result in
    let less_old : i < length c.args.olds.now = omega (arith, c.requires.old_listed, c.loop-index-test.true) in
    let less_new : i < length c.args.news.now = omega (arith, c.requires.new_listed, c.loop-index-test.true) in
    let long_old = length-map c.args.olds.now (λ ms. ms.items) in
    let long_new = length-map c.args.news.now (λ ms. ms.items) in
    let under_old : i < length olds = omega (arith, less_old, long_old) in
    let under_new : i < length news = omega (arith, less_new, long_new) in
    let done = map (λ p. (p.0, p.1.items)) c.loop-index.changed.items in
    let datapath = ap (λ s. s.datapath) c.switch.view_is in
    let sent = c.in_ok-messages.ensures.messages ∙ (λ j. switch_delta (c.deref.ensures.value j) (c.deref-in-loop-index.ensures.value j)) in
    let more = c.in_ok-push_switch.ensures ∙ (λ j. done ++ with_switch (datapath j) (sent j) []) in (
      delta_step c.args.switches.now olds news i switch c.index-olds-index.result.items c.index-news-index.result.items
          c.loop-index-test.true under_old under_new
          c.index-switches-index.is (read_mapped (λ ms. ms.items) c.args.olds.now i c.index-olds-index.result less_old c.index-olds-index.is)
          (read_mapped (λ ms. ms.items) c.args.news.now i c.index-news-index.result less_new c.index-news-index.is)
          done _ more
          ∙ c.loop-index.invariant.0,
      one_short_more c.switch.inside.datapath c.in_ok-messages.messages.items done _ c.in_ok-push_switch.ensures
          c.in_ok-messages.ensures.few c.loop-index.invariant.1,
    )

pub returns : goal.returns
returns c =
    let i = c.loop-index.index in
    let olds = map (λ ms. ms.items) c.args.olds.now in
    let news = map (λ ms. ms.items) c.args.news.now in
    let past : length c.args.switches.now ≤ i = omega (arith, c.loop-index-test.false) in
    let done = map (λ p. (p.0, p.1.items)) c.loop-index.changed.items in
    record {
      changed = sym (ap (λ l. done ++ l) (delta_end c.args.switches.now (drop i olds) (drop i news) i past) ∙ append-nil done) ∙ c.loop-index.invariant.0;
      few = c.loop-index.invariant.1;
    }
