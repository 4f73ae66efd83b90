use Rattle.pq_meaning.proofs.Fewest.{class_per_mark, mark_per_class, tells_apart}
use Rattle.pq_meaning.proofs.markings.tags_are_fewest.Goals as goal

pub returns : goal.returns
returns g c =
    let m = g.M.Marking in
    record {
      apart = tells_apart m.languages m.mark m.parity m.held m.carried;
      fewest = mark_per_class m.languages m.mark m.parity m.held m.carried;
      below = class_per_mark m.languages m.mark m.parity m.held m.carried;
    }
