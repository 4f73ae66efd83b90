use Rattle.std.proofs.Common.{◌≡◌, ◌<◌, length, refl, arith}
use Rattle.std.specs.Prelude.{slice_get}
use Rattle.std.proofs.lemmas.Option.{slice_get_read}
use Rattle.std.specs.declared.option.Option.TheVariants.{Some}
use Rattle.pq_switch.proofs.OnShelves.{shelved_more}
use Rattle.pq_switch.proofs.shelves.shelves_of.Goals as goal

pub loop-row-preserved : goal.loop-row-preserved
loop-row-preserved c =
    let test = c.loop-row-test.true in
    let end = c.loop-row.auto.row-end in
    let rows = c.args.rows.now in
    let row = c.loop-row.row in
    let within : row < length rows = omega (arith, test, end) in
    let read : slice_get rows row ≡ Some c.index-rows-row.result =
    slice_get_read rows (length rows) row c.index-rows-row.result refl within c.index-rows-row.is in
    let more = shelved_more (λ v. v.items) rows c.loop-row.shelves.items c.put.new.shelves.items row c.index-rows-row.result read
    c.put.ensures.within c.in_ok-put.ensures.put c.loop-row.invariant.some c.loop-row.invariant.lie in
    record { some = more.0; lie = more.1 }
