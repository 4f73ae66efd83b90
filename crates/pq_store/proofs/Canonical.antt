-- A function from packets has at most one diagram.
use Rattle.std.proofs.Common.{◌≡◌, ◌∙◌, sym}
use Rattle.pq_fields.specs.Packet.{Numbers, Fit}
use Rattle.pq_store.specs.Tree.{Tree, value}
use Rattle.pq_store.specs.Diagram.{IsDiagram}
use Rattle.pq_store.proofs.Packets.{packet_of, packet_fits, value_packet_of}
use Rattle.pq_store.proofs.Unique.{same_tree}

-- diagrams with equal values on every packet are one
pub one_diagram : {L : Type 0} (t u : Tree L) → IsDiagram t → IsDiagram u → ((x : Numbers) → Fit x → value t x ≡ value u x) → t ≡ u
one_diagram t u left right same =
    same_tree t u left right
    (λ p within. sym (value_packet_of t left.lawful p) ∙ same (packet_of p) (packet_fits p within) ∙ value_packet_of u right.lawful p)
