use Rattle.std.proofs.Common.{◌≡◌, ◌≢◌, ◌==◌, refl, arith, false, sym, ◌∙◌}
use Rattle.std.proofs.lemmas.Bool.Decides.{nat_tests}
use Rattle.std.specs.FinMap.{remove}
use Rattle.pq_model.specs.SwitchMachine.{Groups, removed_from}
use Rattle.pq_model.specs.declared.reserved.TheConstants.{ALL_GROUPS}
use Rattle.pq_switch.proofs.Lookups.{shown-remove}
use Rattle.pq_switch.proofs.groups.Groups.remove.Goals.{in-Some-1, in-None-1}
use Rattle.pq_switch.proofs.groups.Groups.remove.Goals as goal

one_removed : (g : Groups) (n : _) → n ≢ ALL_GROUPS → removed_from g n ≡ remove g n
one_removed g n h = let test : (n == ALL_GROUPS) ≡ false = grind (nat_tests, arith) in rw test refl

pub returns-else-number : goal.returns-else-number
returns-else-number c =
    let one = shown-remove (λ v. v.items) c.self.inside.buckets c.remove.new.self c.args.number c.remove.ensures.updates
    ∙ sym (one_removed _ c.args.number c.if-number.false) in
    rw (← c.self.view_is) (elim c.match-remove.branch [ in-Some-1 w ↦ w.self-is ∙ one | in-None-1 w ↦ w.self-is ∙ one ])
