use Rattle.std.proofs.Common.{◌<◌, ◌∷◌, [], ◌∙◌, arith, append_assoc, length, map, zip}
use Rattle.std.proofs.lemmas.List.{length-map}
use Rattle.std.proofs.lemmas.Slice.Zip.{length-zip}
use Rattle.pq_lists.proofs.Holding.{all_map_read}
use Rattle.pq_model.specs.Install.{IsLawfulList}
use Rattle.pq_inspect.specs.Inspection.{switch_data}
use Rattle.pq_inspect.proofs.Lists.{read_beside}
use Rattle.pq_inspect.proofs.Elements.{all_written, next_written}
use Rattle.pq_inspect.proofs.switch.write_switches.Goals as goal

pub write_switch-requires : goal.write_switch-requires
write_switch-requires c = rw c.deref.ensures.value
    (all_map_read c.args.lists.now (λ ms. ms.items) IsLawfulList _ c.index-lists-index.result c.requires.lawful
    (omega (arith, c.requires.listed, c.loop-index-test.true)) c.index-lists-index.is)

pub loop-index-preserved : goal.loop-index-preserved
loop-index-preserved c =
    let switches = c.args.switches.now in
    let lists = c.args.lists.now in
    let messages = map (λ ms. ms.items) lists in
    let listed : c.loop-index.index < length lists = omega (arith, c.requires.listed, c.loop-index-test.true) in
    let below : c.loop-index.index < length (zip switches messages) =
    omega (arith, c.loop-index-test.true, listed, length-map lists (λ ms. ms.items), length-zip switches messages) in
    let read = read_beside switches lists (λ ms. ms.items) c.loop-index.index c.index-switches-index.result c.index-lists-index.result
    c.loop-index-test.true listed c.index-switches-index.is c.index-lists-index.is in
    let shown = rw (c.deref.ensures.value, c.in_ok-separate.ensures) at c.in_ok-write_switch.ensures in
    rw shown (next_written switch_data (zip switches messages) c.loop-index.index _ c.loop-index.into.items _ c.loop-index.invariant below read)

pub returns : goal.returns
returns c =
    let switches = c.args.switches.now in
    let messages = map (λ ms. ms.items) c.args.lists.now in
    let all = all_written switch_data (zip switches messages) c.loop-index.index c.loop-index.into.items _ c.loop-index.invariant
    (omega (arith, length-zip switches messages, c.loop-index-test.false)) in
    c.in_ok-push-2.ensures.items ∙ all ∙ (rw c.in_ok-push.ensures.items (append_assoc c.args.into.now.items (91 ∷ []) _))
