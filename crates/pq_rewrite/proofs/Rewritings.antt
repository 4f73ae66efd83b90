-- Idle-free trees that give the same packets have the same values, so a store has one id of them.
use Rattle.std.proofs.Common.{◌≡◌, ◌∙◌, List, Some, sym, ap}
use Rattle.std.specs.Prelude.{◌↔◌}
use Rattle.std.proofs.lemmas.Option.{slice_get_within}
use Rattle.pq_fields.specs.Packet.{Numbers, Fit}
use Rattle.pq_fields.specs.Writes.{Written}
use Rattle.pq_store.specs.Store.{IsCanonical}
use Rattle.pq_store.specs.Tree.{Tree, value}
use Rattle.pq_store.proofs.Joins.{value_there}
use Rattle.pq_rewrite.specs.Rewriting.{Gives, IsCanonicalRewriting, IsIdleFree}
use Rattle.pq_rewrite.proofs.Sets.{one_given}

-- idle-free trees that give the same packets have the same values
same_values : (t u : Tree (List Written)) → IsIdleFree t → IsIdleFree u → ((x y : Numbers) → Fit x → Gives t x y ↔ Gives u x y)
    → (x : Numbers) → Fit x → value t x ≡ value u x
same_values t u left right same x fit = one_given x (Gives t x) (Gives u x) (value t x) (value u x) (λ y. same x y fit) (left x fit) (right x fit)

-- where ids of equal values are equal, so are those of idle-free trees that give the same packets
pub one_rewriting : (ts : List (Tree (List Written))) → IsCanonical ts → IsCanonicalRewriting ts
one_rewriting ts canonical i j t u t_is u_is left right same =
    canonical i j (slice_get_within ts i t t_is) (slice_get_within ts j u u_is)
    (λ x fit. value_there ts i t x t_is ∙ (ap Some (same_values t u left right same x fit) ∙ sym (value_there ts j u x u_is)))
