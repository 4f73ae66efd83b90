use Rattle.std.proofs.Common.{ap, subst, ◌∙◌}
use Rattle.std.specs.declared.option.Option.TheVariants.{None, Some}
use Rattle.std.specs.Option.{option_copied}
use Rattle.pq_model.specs.declared.tagged.Tagged.TheInside.{Inside}
use Rattle.pq_model.specs.MatchFields.{vlan_word}
use Rattle.pq_model.specs.Tagged.{TaggedPacket}
use Rattle.pq_switch.specs.Choice.{IsBestWith}
use Rattle.pq_switch.specs.Places.{block_at}
use Rattle.pq_switch.specs.declared.place.Block.{Block}
use Rattle.pq_switch.proofs.Scan.{best_of_blocks}
use Rattle.pq_switch.proofs.lookup.best_in_table.Goals as goal

pub returns : goal.returns
returns c =
    let n = c.args.table in
    let x = c.args.x.now in
    let es = c.args.slots.now.entries in
    let port = ap (λ (y : Inside). y.packet.port) c.x-inside.view_is ∙ ap (λ (y : TaggedPacket). y.packet.port) c.x.view_is in
    let word = c.vlan_word.ensures ∙ ap (λ (y : Inside). vlan_word y.vlan) c.x-inside.view_is ∙ ap (λ (y : TaggedPacket). vlan_word y.vlan) c.x.view_is in
    let one = option_copied c.best_in_block-best.result in
    let two = option_copied c.best_in_block-best-2.result in
    let three = option_copied c.best_in_block-best-3.result in
    let four = option_copied c.best_in_block.result in
    best_of_blocks n x es c.requires.0 c.requires.1 one two three four
    (subst (λ (b : Block). IsBestWith b.table x es b None one) (c.block.ensures
    ∙ (λ i. block_at n (Some (port i)) (Some (word i)))) c.best_in_block-best.ensures)
    (subst (λ (b : Block). IsBestWith b.table x es b one two) (c.block-2.ensures ∙ (λ i. block_at n (Some (port i)) None)) c.best_in_block-best-2.ensures)
    (subst (λ (b : Block). IsBestWith b.table x es b two three) (c.block-3.ensures ∙ (λ i. block_at n None (Some (word i)))) c.best_in_block-best-3.ensures)
    (subst (λ (b : Block). IsBestWith b.table x es b three four) c.block-4.ensures c.best_in_block.ensures)
