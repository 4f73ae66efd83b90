use Rattle.std.proofs.Common.{◌≡◌, ◌++◌, ◌∷◌, [], get_or, rules}
use Rattle.pq_switch.proofs.Pushed.{put-is}
use Rattle.pq_switch.proofs.shelves.put_on.Goals as goal

pub returns : goal.returns
returns c =
    let old = c.replace-rows.result in
    let read : old ≡ get_or c.args.shelves.now.items c.args.shelf old = search rules in
    let is : c.push.new.self.items ≡ old.items ++ c.args.row ∷ [] = search rules in
    put-is (λ v. v.items) c.args.shelves.now.items c.args.shelf c.replace-rows.new.dest old c.push.new.self c.args.row c.requires read is
