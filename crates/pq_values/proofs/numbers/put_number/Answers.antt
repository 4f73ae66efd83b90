use Rattle.std.proofs.Common.{◌++◌, ◌∷◌, [], if◌then◌else◌, ap, ◌∙◌}
use Rattle.std.specs.List.{list_any}
use Rattle.pq_values.specs.Stated.{Stated}
use Rattle.pq_values.proofs.SameNumbers.{pair_tells}
use Rattle.pq_values.proofs.numbers.put_number.Goals as goal

pub returns-in-Ok : goal.returns-in-Ok
returns-in-Ok c =
    let known = c.args.known.now.keys in
    let one : Stated = (c.args.field, c.args.number) in
    c.in-Ok.ensures.keys ∙ ap (λ same. if list_any same known then known else known ++ one ∷ []) (pair_tells c.args.field c.args.number)
