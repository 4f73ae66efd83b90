use Rattle.std.proofs.Common.{◌≡◌, ◌<◌, not, filter, ap, ◌∙◌}
use Rattle.std.specs.BTreeMap.{is_at}
use Rattle.pq_model.specs.SwitchMachine.{is_placed}
use Rattle.pq_switch.specs.Places.{place_cmp, place_of}
use Rattle.pq_switch.proofs.Kept.{taken_out, taken_out-kept}
use Rattle.pq_switch.proofs.Noted.{taken_out-indexed}
use Rattle.pq_switch.proofs.entries.Entries.remove.Goals as goal

pub invariant_of-self : goal.invariant_of-self
invariant_of-self c =
    let f = c.args.flow.now in
    let at : c.of-place.result ≡ place_of f.table f.matching f.priority = rw (← c.flow.view_is) c.of-place.ensures.value in
    let small : f.priority < 0x10000 = rw (← c.flow.view_is) c.of-place.ensures.small in (
      taken_out-kept f c.self.inside.next small c.of-place.result at c.self.inside.slots c.remove.new.self c.self.invariant.0
          c.remove.ensures.entries c.remove.ensures.updates.1,
      taken_out-indexed c.self.inside.index.keys (is_at (place_cmp c.of-place.result)) c.self.inside.slots.entries c.remove.new.self.entries
          c.self.invariant.1 c.remove.ensures.entries c.remove.ensures.ordered,
    )

pub returns : goal.returns
returns c =
    let f = c.args.flow.now in
    let at : c.of-place.result ≡ place_of f.table f.matching f.priority = rw (← c.flow.view_is) c.of-place.ensures.value in
    let small : f.priority < 0x10000 = rw (← c.flow.view_is) c.of-place.ensures.small in
    taken_out f c.self.inside.next small c.of-place.result at c.self.inside.slots c.remove.new.self c.self.invariant.0
    c.remove.ensures.entries c.remove.ensures.updates.1
    ∙ ap (filter (λ e. not (is_placed f e))) c.self.view_is
