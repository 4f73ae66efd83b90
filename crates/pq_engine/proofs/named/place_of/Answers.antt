use Rattle.std.proofs.Common.{◌≡◌, ◌<◌, length, arith}
use Rattle.std.specs.Prelude.{true, false, bytes_eq}
use Rattle.pq_engine.proofs.PlacesLemmas.{place_after, place_here}
use Rattle.pq_engine.proofs.named.place_of.Goals as goal

pub returns-then-eq : goal.returns-then-eq
returns-then-eq g c =
    let test = c.loop-place-test.true in
    let end = c.loop-place.auto.place-end in
    let within : c.loop-place.place < length c.args.named.now = omega (arith, test, end) in
    let one = c.bytes.ensures.bytes in
    let other = c.bytes-in-loop-place.ensures.bytes in
    let told = c.eq.ensures in
    let is = c.if-eq.true in
    let has : bytes_eq c.index-named-place.result.0 c.args.name.now ≡ true = cc in
    place_here c.args.name.now c.args.named.now c.loop-place.place c.index-named-place.result within c.index-named-place.is c.loop-place.invariant has

pub loop-place-preserved : goal.loop-place-preserved
loop-place-preserved g c =
    let test = c.loop-place-test.true in
    let end = c.loop-place.auto.place-end in
    let within : c.loop-place.place < length c.args.named.now = omega (arith, test, end) in
    let one = c.bytes.ensures.bytes in
    let other = c.bytes-in-loop-place.ensures.bytes in
    let told = c.eq.ensures in
    let is = c.if-eq.false in
    let has : bytes_eq c.index-named-place.result.0 c.args.name.now ≡ false = cc in
    place_after c.args.name.now c.args.named.now c.loop-place.place c.index-named-place.result within c.index-named-place.is c.loop-place.invariant has
