use Rattle.std.proofs.Common.{◌<◌, arith, length, refl}
use Rattle.pq_delta.proofs.UnchangedLemmas.{entries_go_on, groups_go_on}
use Rattle.pq_delta.proofs.unchanged.all_add_same.Goals as goal

pub loop-place-preserved : goal.loop-place-preserved
loop-place-preserved c =
    let old = c.args.old.now in
    let new = c.args.new.now in
    let i = c.loop-place in
    let within : i.place < length new = omega (arith, c.if-old-new.false, c.loop-place-test.true) in
    record {
      entries = entries_go_on old new i.place c.index-old-place.result c.index-new-place.result c.loop-place-test.true within
          c.index-old-place.is c.index-new-place.is (c.if-not-add_same_entry.ensures refl) i.invariant.entries;
      groups = groups_go_on old new i.place c.index-old-place.result c.index-new-place.result c.loop-place-test.true within
          c.index-old-place.is c.index-new-place.is (c.if-not-add_same_group.ensures refl) i.invariant.groups;
    }
