use Rattle.std.proofs.Common.{◌≡◌, ℕ, List, length, map, ap, sym, ◌∙◌}
use Rattle.std.proofs.lemmas.List.{length-map}
use Rattle.std.specs.declared.option.Option.{Option}
use Rattle.std.specs.declared.option.Option.TheVariants.{None, Some}
use Rattle.std.specs.Option.{option_copied}
use Rattle.pq_model.specs.MatchFields.{vlan_word}
use Rattle.pq_model.specs.Tagged.{TaggedPacket}
use Rattle.pq_switch.specs.Choice.{best_of}
use Rattle.pq_switch.specs.Shelves.{picked, shelf_at, shelf_of}
use Rattle.pq_switch.proofs.OnShelves.{best_of_shelves}
use Rattle.pq_switch.proofs.shelves.best_on_shelves.Goals as goal

pub returns : goal.returns
returns c =
    let n = c.args.table in
    let x = c.args.x.now in
    let rows = c.args.rows.now in
    let shelves : List (List ℕ) = map (λ v. v.items) c.args.shelves.now in
    let count : length c.args.shelves.now ≡ length shelves = sym (length-map c.args.shelves.now (λ v. v.items)) in
    let port : c.port_of.result ≡ x.packet.port = c.port_of.ensures ∙ ap (λ (y : TaggedPacket). y.packet.port) c.x.view_is in
    let word : c.word_of.result ≡ vlan_word x.vlan = c.word_of.ensures ∙ ap (λ (y : TaggedPacket). vlan_word y.vlan) c.x.view_is in
    let at : (p v : Option ℕ) → List ℕ = λ p v. shelf_at shelves (shelf_of (length shelves) n p v) in
    let on_one : c.rows_on.result.now ≡ at (Some x.packet.port) (Some (vlan_word x.vlan)) = c.rows_on.ensures
    ∙ (λ i. shelf_at shelves (shelf_of (count i) n (Some (port i)) (Some (word i)))) in
    let on_two : c.rows_on-2.result.now ≡ at (Some x.packet.port) None = c.rows_on-2.ensures
    ∙ (λ i. shelf_at shelves (shelf_of (count i) n (Some (port i)) None)) in
    let on_three : c.rows_on-3.result.now ≡ at None (Some (vlan_word x.vlan)) = c.rows_on-3.ensures
    ∙ (λ i. shelf_at shelves (shelf_of (count i) n None (Some (word i)))) in
    let on_four : c.rows_on-4.result.now ≡ at None None = c.rows_on-4.ensures ∙ (λ i. shelf_at shelves (shelf_of (count i) n None None)) in
    let one = option_copied c.best_on-best.result in
    let two = option_copied c.best_on-best-2.result in
    let three = option_copied c.best_on-best-3.result in
    let four = option_copied c.best_on.result in
    best_of_shelves n x rows shelves c.requires one two three four
    (c.best_on-best.ensures ∙ ap (λ l. best_of n x (picked rows l) None) on_one)
    (c.best_on-best-2.ensures ∙ ap (λ l. best_of n x (picked rows l) one) on_two)
    (c.best_on-best-3.ensures ∙ ap (λ l. best_of n x (picked rows l) two) on_three)
    (c.best_on.ensures ∙ ap (λ l. best_of n x (picked rows l) three) on_four)
