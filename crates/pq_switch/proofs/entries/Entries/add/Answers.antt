use Rattle.std.proofs.Common.{◌≡◌, ◌<◌, ◌∷◌, [], ◌++◌, not, filter, refl, ap, ◌∙◌}
use Rattle.pq_model.specs.SwitchMachine.{entry_of, is_placed}
use Rattle.pq_switch.specs.Places.{place_of}
use Rattle.pq_switch.proofs.Kept.{put_in, put_in-kept}
use Rattle.pq_switch.proofs.entries.Entries.add.Goals as goal

pub invariant_of-self-2 : goal.invariant_of-self-2
invariant_of-self-2 c =
    let f = c.args.flow.now in
    let at : c.of-place.result ≡ place_of f.table f.matching f.priority = rw (← c.flow.view_is) c.of-place.ensures.value in
    let small : f.priority < 0x10000 = rw (← c.flow.view_is) c.of-place.ensures.small in (
      put_in-kept f c.self.inside.next small c.of-place.result at c.self.inside.slots c.put_in.new.slots c.self.invariant.0 _
          c.in_ok-entry.ensures refl c.self.invariant.1.ordered c.in_ok-put_in.ensures.ok,
      c.put_in.ensures.indexed,
    )

pub returns-clause-ok : goal.returns-clause-ok
returns-clause-ok c =
    let f = c.args.flow.now in
    let at : c.of-place.result ≡ place_of f.table f.matching f.priority = rw (← c.flow.view_is) c.of-place.ensures.value in
    let small : f.priority < 0x10000 = rw (← c.flow.view_is) c.of-place.ensures.small in
    put_in f c.self.inside.next small c.of-place.result at c.self.inside.slots c.put_in.new.slots c.self.invariant.0 _ c.in_ok-entry.ensures
    refl c.self.invariant.1.ordered c.in_ok-put_in.ensures.ok
    ∙ ap (λ l. filter (λ e. not (is_placed f e)) l ++ entry_of f ∷ []) c.self.view_is
