use Rattle.std.proofs.Common.{cond, ap, ◌∙◌}
use Rattle.std.specs.BTreeMap.{is_at}
use Rattle.std.specs.Map.{remove_entry}
use Rattle.pq_switch.specs.Places.{place_cmp}
use Rattle.pq_switch.proofs.Noted.{one_place}
use Rattle.pq_switch.proofs.entries.take_if_naming.Goals as goal

pub returns-then-not-is_naming-clause-rows : goal.returns-then-not-is_naming-clause-rows
returns-then-not-is_naming-clause-rows c =
    let es = c.args.slots.now.entries in
    let p = c.args.place in
    ap (λ b. cond b (remove_entry (is_at (place_cmp p)) es) es) c.if-not-is_naming.ensures ∙ one_place c.args.group p es c.requires

pub returns-clause-rows : goal.returns-clause-rows
returns-clause-rows c =
    let es = c.args.slots.now.entries in
    let p = c.args.place in
    c.remove.ensures.entries
    ∙ ap (λ b. cond b (remove_entry (is_at (place_cmp p)) es) es) c.if-not-is_naming.ensures ∙ one_place c.args.group p es c.requires
