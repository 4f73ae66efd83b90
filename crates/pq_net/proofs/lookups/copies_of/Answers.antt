use Rattle.std.proofs.Common.{ap, sym, ◌∙◌}
use Rattle.pq_model.specs.SwitchMachine.{sends}
use Rattle.pq_net.proofs.Found.{switch_found, switch_absent, none_sent}
use Rattle.pq_net.proofs.lookups.copies_of.Goals as goal

-- the switch that was found sends by its tables
pub returns-in-Some : goal.returns-in-Some
returns-in-Some c =
    let number = ap (λ x. x.packet.switch) c.x-inside.view_is ∙ ap (λ x. x.packet.switch) c.x.view_is in
    let at = rw number at c.in-Some.ensures.place in
    let told = switch_found c.args.wiring.now.switches c.args.tables.now c.args.x.now.packet.switch c.in-Some.index
    c.index-tables-index.result c.in-Some.ensures.ascending c.requires at in
    rw (told ∙ sym c.index-tables-index.is) c.hop.ensures

-- where there is no such switch nothing is sent
pub returns-in-None : goal.returns-in-None
returns-in-None c =
    let number = ap (λ x. x.packet.switch) c.x-inside.view_is ∙ ap (λ x. x.packet.switch) c.x.view_is in
    let nowhere = rw number at c.in-None.ensures.place in
    let empty = switch_absent c.args.wiring.now.switches c.args.tables.now c.args.x.now.packet.switch nowhere in
    c.new.ensures.items ∙ sym (ap (λ t. sends t c.args.x.now) empty ∙ none_sent c.args.x.now)
