use Rattle.std.proofs.Common.{sym, ap, ◌∙◌}
use Rattle.std.specs.Option.{option_copied, option_map}
use Rattle.pq_model.specs.SwitchMachine.{buckets_in}
use Rattle.pq_switch.proofs.Lookups.{get-shown}
use Rattle.pq_switch.proofs.groups.Groups.buckets.Goals as goal

pub returns-in-Some : goal.returns-in-Some
returns-in-Some c =
    rw (c.as_slice.ensures.value, ← c.self.view_is)
    (sym (ap buckets_in (get-shown (λ v. v.items) c.self.inside.buckets c.args.number
    ∙ ap (option_map (λ v. v.items)) (sym c.get.ensures.value ∙ ap option_copied c.in-Some.is))))

pub returns-in-None : goal.returns-in-None
returns-in-None c =
    rw (← c.self.view_is)
    (sym (ap buckets_in (get-shown (λ v. v.items) c.self.inside.buckets c.args.number
    ∙ ap (option_map (λ v. v.items)) (sym c.get.ensures.value ∙ ap option_copied c.in-None.is))))
