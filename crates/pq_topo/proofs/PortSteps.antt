-- One turn of the loop over the ports of a list.
use Rattle.std.specs.Prelude.{◌≡◌, ℕ, ◌+◌, ◌<◌, List, [], ◌∷◌, ◌++◌, length, get_or, Ok, Err}
use Rattle.std.proofs.Common.{drop, ap, sym, subst, ◌∙◌}
use Rattle.pq_tree.specs.declared.term.Term.{Term}
use Rattle.pq_tree.specs.declared.term.Term.TheViews.{out-Term}
use Rattle.pq_tree.specs.Trees.{trees}
use Rattle.pq_topo.specs.declared.fault.NameFault.{NameFault}
use Rattle.pq_topo.specs.Naming.{Reading, IsAnswer, next}
use Rattle.pq_topo.specs.Statements.{port_of, ports_after}
use Rattle.pq_topo.proofs.Passed.{passed, handed}
use Rattle.pq_topo.proofs.Terms.{trees_left}

module _ (bytes : List ℕ) (room : ℕ) (ports : List ℕ) (ts : List Term) (i : ℕ) (d : Term) (below : i < length ts) (whole : Reading (List ℕ))
    (left : ports_after bytes room ports (trees (drop i ts)) ≡ whole) where
  abbrev after_it : ℕ → Reading (List ℕ)
  after_it n = ports_after bytes room (ports ++ n ∷ []) (trees (drop (i + 1) ts))

  turned : next (port_of bytes room ports (out-Term (get_or ts i d)).head) after_it ≡ whole
  turned = sym (ap (ports_after bytes room ports) (trees_left ts i d below)) ∙ left

  -- a port is read
  pub port_is_read : (n : ℕ) (new : List ℕ) → IsAnswer (λ p. p) (Ok n) (port_of bytes room ports (out-Term (get_or ts i d)).head)
      → new ≡ ports ++ n ∷ [] → ports_after bytes room new (trees (drop (i + 1) ts)) ≡ whole
  port_is_read n new answer more = ap (λ keys. ports_after bytes room keys (trees (drop (i + 1) ts))) more ∙ sym (handed (λ p. p) n _ after_it answer) ∙ turned

  -- a port is refused
  pub port_is_refused : {C : Type 0} (w : C → List ℕ) (fault : NameFault)
      → IsAnswer (λ p. p) (Err fault) (port_of bytes room ports (out-Term (get_or ts i d)).head) → IsAnswer w (Err fault) whole
  port_is_refused w fault answer = subst (IsAnswer w (Err fault)) turned (passed (λ p. p) w fault _ after_it answer)
