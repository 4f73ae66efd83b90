-- One turn of the loop over the statements of switches.
use Rattle.std.specs.Prelude.{◌≡◌, ℕ, ◌+◌, ◌-◌, ◌<◌, Bool, true, false, if◌then◌else◌, List, [], ◌∷◌, ◌++◌, length, map, get_or, Ok, Err}
use Rattle.std.proofs.Common.{arith, drop, ap, sym, subst, ◌∙◌}
use Rattle.std.proofs.lemmas.List.Sums.{sum_by_push}
use Rattle.std.proofs.lemmas.List.{map_push}
use Rattle.pq_tree.specs.declared.term.Term.{Term}
use Rattle.pq_tree.specs.declared.term.Term.TheViews.{out-Term}
use Rattle.pq_tree.specs.Trees.{trees}
use Rattle.pq_grammar.specs.declared.class.Class.TheVariants.{SwitchWord}
use Rattle.pq_model.specs.Topology.{Switch}
use Rattle.pq_model.specs.Install.{port_count}
use Rattle.pq_topo.specs.declared.fault.NameFault.{NameFault}
use Rattle.pq_topo.specs.Naming.{Reading, IsAnswer, next}
use Rattle.pq_topo.specs.Statements.{Seen, seen, seen_more, room_after, begins_with, switch_of, switches_after}
use Rattle.pq_topo.proofs.Passed.{passed, handed}
use Rattle.pq_topo.proofs.Terms.{trees_left}

-- one more switch takes room
less_room : (ss : List Switch) (s : Switch) → room_after ss - length s.ports ≡ room_after (ss ++ s ∷ [])
less_room ss s =
    let sum : port_count (ss ++ s ∷ []) ≡ port_count ss + length s.ports = sum_by_push (λ t. length t.ports) ss s in
    omega (arith, sum)

one_more : (ss : List Switch) (s : Switch) → seen_more (seen ss) s ≡ seen (ss ++ s ∷ [])
one_more ss s =
    ap (λ (names : List (List ℕ)). record {
      names = names;
      datapaths = map (λ t. t.datapath) ss ++ s.datapath ∷ [];
      room = room_after ss - length s.ports;
    }) (sym (map_push (λ t. t.name) ss s))
    ∙ ap (λ (datapaths : List ℕ). record {
      names = map (λ t. t.name) (ss ++ s ∷ []);
      datapaths = datapaths;
      room = room_after ss - length s.ports;
    }) (sym (map_push (λ t. t.datapath) ss s))
    ∙ ap (λ (room : ℕ). record { names = map (λ t. t.name) (ss ++ s ∷ []); datapaths = map (λ t. t.datapath) (ss ++ s ∷ []); room = room }) (less_room ss s)

-- what is seen after one more switch
pub switch_seen : (ss new : List Switch) (s : Switch) (before after : Seen) → before ≡ seen ss → after ≡ seen_more before s
    → new ≡ ss ++ s ∷ [] → after ≡ seen new
switch_seen ss new s before after is adds is_new = adds ∙ ap (λ b. seen_more b s) is ∙ one_more ss s ∙ sym (ap seen is_new)

module _ (bytes : List ℕ) (earlier : List Switch) (before : Seen) (are : before ≡ seen earlier) (ts : List Term) (i : ℕ) (d : Term)
    (below : i < length ts) (whole : Reading (List Switch)) (left : switches_after bytes earlier (trees (drop i ts)) ≡ whole) where
  abbrev after_it : Switch → Reading (List Switch)
  after_it s = switches_after bytes (earlier ++ s ∷ []) (trees (drop (i + 1) ts))

  abbrev this : Seen → Reading Switch
  this b = switch_of bytes b (out-Term (get_or ts i d)).head (trees (out-Term (get_or ts i d)).children.now)

  turned : (b : Bool) → begins_with bytes SwitchWord (out-Term (get_or ts i d)).head ≡ b
      → (if b then next (this before) after_it else switches_after bytes earlier (trees (drop (i + 1) ts))) ≡ whole
  turned b begins =
      ap (λ s. if b then next (this s) after_it else switches_after bytes earlier (trees (drop (i + 1) ts))) are
      ∙ ap (λ c. if c then next (this (seen earlier)) after_it else switches_after bytes earlier (trees (drop (i + 1) ts))) (sym begins)
      ∙ sym (ap (switches_after bytes earlier) (trees_left ts i d below)) ∙ left

  -- a switch is read
  pub switch_is_read : (s : Switch) (new : List Switch) → begins_with bytes SwitchWord (out-Term (get_or ts i d)).head ≡ true
      → IsAnswer (λ switch. switch) (Ok s) (this before) → new ≡ earlier ++ s ∷ []
      → switches_after bytes new (trees (drop (i + 1) ts)) ≡ whole
  switch_is_read s new begins answer more = ap (λ ss. switches_after bytes ss (trees (drop (i + 1) ts))) more
      ∙ sym (handed (λ switch. switch) s (this before) after_it answer) ∙ turned true begins

  -- a switch is refused
  pub switch_is_refused : {C : Type 0} (w : C → List Switch) (fault : NameFault)
      → begins_with bytes SwitchWord (out-Term (get_or ts i d)).head ≡ true
      → IsAnswer (λ (switch : Switch). switch) (Err fault) (this before) → IsAnswer w (Err fault) whole
  switch_is_refused w fault begins answer =
      subst (IsAnswer w (Err fault)) (turned true begins) (passed (λ (switch : Switch). switch) w fault (this before) after_it answer)

  -- the statement is none of a switch
  pub no_switch : begins_with bytes SwitchWord (out-Term (get_or ts i d)).head ≡ false → switches_after bytes earlier (trees (drop (i + 1) ts)) ≡ whole
  no_switch begins = turned false begins
