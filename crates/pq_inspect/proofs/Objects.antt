-- The text of an object, key by key.
use Rattle.std.specs.Prelude.{◌≡◌, ℕ, List, [], ◌∷◌, ◌++◌, codes}
use Rattle.std.proofs.Common.{ap, append_assoc, refl, sym, ◌∙◌}
use Rattle.serde_json.proofs.OnLiterals.{serde_json_on_literals}
use Rattle.serde_json.specs.Data.{string}
use Rattle.serde_json.specs.Written.{compact_text}
use Rattle.pq_model.specs.declared.message.Message.{Message}
use Rattle.pq_model.specs.Topology.{Switch}
use Rattle.pq_model.specs.Install.{Install}
use Rattle.pq_inspect.specs.Front.{front_text}
use Rattle.pq_inspect.specs.Inspection.{list, natural, link_data, row_data, count, is_flow_add, is_group_add, message_data, switch_data, switches_data}
use Rattle.pq_inspect.specs.Inspection.{inspection, inspection_text}

-- five keys with their values, after what is written before
five_keys : (before a b c d e v w x y z end : List ℕ)
    → before ++ (a ++ (v ++ (b ++ (w ++ (c ++ (x ++ (d ++ (y ++ (e ++ (z ++ end))))))))))
    ≡ before ++ a ++ v ++ b ++ w ++ c ++ x ++ d ++ y ++ e ++ z ++ end
five_keys before a b c d e v w x y z end = simp append_assoc

-- four keys with their values, and what follows
four_keys : (a b c d v w x y end after : List ℕ)
    → (a ++ (v ++ (b ++ (w ++ (c ++ (x ++ (d ++ (y ++ end)))))))) ++ after ≡ (a ++ v ++ b ++ w ++ c ++ x ++ d) ++ (y ++ (end ++ after))
four_keys a b c d v w x y end after = simp append_assoc

-- the text of a switch that is written in these steps
pub switch_written : (s : Switch × List Message) (before a b c d e f g h i j text : List ℕ)
    → a ≡ before ++ codes "{\"datapath\":" → b ≡ a ++ compact_text (natural s.0.datapath)
    → c ≡ b ++ codes ",\"entries\":" → d ≡ c ++ compact_text (natural (count is_flow_add s.1))
    → e ≡ d ++ codes ",\"groups\":" → f ≡ e ++ compact_text (natural (count is_group_add s.1))
    → g ≡ f ++ codes ",\"messages\":" → h ≡ g ++ compact_text (list message_data s.1)
    → i ≡ h ++ codes ",\"ports\":" → j ≡ i ++ compact_text (list natural s.0.ports)
    → text ≡ j ++ codes "}" → text ≡ before ++ compact_text (switch_data s)
unfolding serde_json_on_literals
switch_written s before a b c d e f g h i j text sa sb sc sd se sf sg sh si sj end =
    (rw (end, sj, si, sh, sg, sf, se, sd, sc, sb, sa) refl)
    ∙ sym (five_keys before (codes "{\"datapath\":") (codes ",\"entries\":") (codes ",\"groups\":")
    (codes ",\"messages\":") (codes ",\"ports\":") (compact_text (natural s.0.datapath)) (compact_text (natural (count is_flow_add s.1)))
    (compact_text (natural (count is_group_add s.1))) (compact_text (list message_data s.1)) (compact_text (list natural s.0.ports)) (codes "}"))

pub inspection_in_pieces : (i : Install) → inspection_text i
    ≡ front_text i.topology.links i.queries i.report ++ (compact_text (switches_data i.topology.switches i.messages) ++ codes "}\n")
unfolding inspection front_text serde_json_on_literals
inspection_in_pieces i = four_keys (codes "{\"links\":") (codes ",\"queries\":") (codes ",\"report\":") (codes ",\"switches\":")
    (compact_text (list link_data i.topology.links)) (compact_text (list string i.queries)) (compact_text (list row_data i.report))
    (compact_text (switches_data i.topology.switches i.messages)) (codes "}") (codes "\n")

-- the text of an install that is written in these steps
pub inspection_written : (i : Install) (front switches text : List ℕ) → front ≡ front_text i.topology.links i.queries i.report
    → switches ≡ front ++ compact_text (switches_data i.topology.switches i.messages) → text ≡ switches ++ codes "}\n" → text ≡ inspection_text i
inspection_written i front switches text first second third =
    third ∙ ap (λ (written : List ℕ). written ++ codes "}\n") (second
    ∙ ap (λ (written : List ℕ). written ++ compact_text (switches_data i.topology.switches i.messages)) first)
    ∙ append_assoc (front_text i.topology.links i.queries i.report) _ _ ∙ sym (inspection_in_pieces i)
