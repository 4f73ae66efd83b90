use Rattle.std.proofs.Common.{◌∙◌, ap, sym, position}
use Rattle.std.specs.Prelude.{◌==◌}
use Rattle.pq_model.specs.Install.{Install}
use Rattle.pq_command.proofs.Lists.{IsListOf, list-at, unlisted}
use Rattle.pq_command.proofs.speak.opening.messages_to.Goals as goal

pub returns-in_default-clause-messages : goal.returns-in_default-clause-messages
returns-in_default-clause-messages c =
    unlisted c.args.datapath c.args.install.topology.switches
    (sym (ap (position (λ s. s.datapath == c.args.datapath)) (c.switches.ensures.switches ∙ ap (λ (i : Install). i.topology.switches) c.install.view_is))
    ∙ sym c.place_of.ensures.place ∙ c.in_default.is)

list : (c : goal.After-drop-install-inside-5) → IsListOf c.args.datapath c.args.install c.swap_remove.result.items
list c =
    list-at (λ ms. ms.items) c.install.inside.messages.items c.args.install c.args.datapath c.in-Some.place c.swap_remove.result c.requires
    (ap (λ (i : Install). i.messages) c.install.view_is)
    (sym (ap (position (λ s. s.datapath == c.args.datapath)) (c.switches.ensures.switches ∙ ap (λ (i : Install). i.topology.switches) c.install.view_is))
    ∙ sym c.place_of.ensures.place ∙ c.in-Some.is)
    c.swap_remove.ensures.value

pub returns-clause-messages : goal.returns-clause-messages
returns-clause-messages c = ((list c).named, (list c).messages)

pub returns-clause-lawful : goal.returns-clause-lawful
returns-clause-lawful c = (list c).lawful
