-- For each switch there is one list of trees per table.
use Rattle.std.proofs.Common.{◌≡◌, ℕ, List, [], ◌∷◌, refl, sym, ap₂, ◌∙◌}
use Rattle.std.specs.List.{AllZip}
use Rattle.pq_fields.specs.Packet.{Numbers}
use Rattle.pq_layout.specs.Actions.{key_word, tag_word}
use Rattle.pq_layout.specs.Emission.{AreTrees}
use Rattle.pq_layout.specs.Leaves.{Departures, arrival, at_switch, leaving}
use Rattle.pq_layout.specs.Tagging.{Tagging, odd_tags}
use Rattle.pq_layout.specs.Trees.{IsTreeOf, keys_of}
use Rattle.pq_model.specs.Topology.{Switch, Topology}
use Rattle.pq_store.specs.Tree.{Tree}
use Rattle.pq_store.proofs.Canonical.{one_diagram}
use Rattle.pq_emit.specs.Switches.{AreAllTrees, HaveOneTree, TablesTrees}

-- a function from packets has one tree
one_tree : {L : Type 0} (F : Numbers → L) (t u : Tree L) → IsTreeOf F t → IsTreeOf F u → t ≡ u
one_tree F t u left right = one_diagram t u left.diagram right.diagram (λ x fit. left.gives x fit ∙ sym (right.gives x fit))

-- so a list of functions has one list of trees with words
one_list : {A L : Type 0} (word : A → ℕ) (F : A → Numbers → L) (ks : List A) (ps qs : List (ℕ × Tree L))
    → AllZip (λ k p. (p.0 ≡ word k) × IsTreeOf (F k) p.1) ks ps → AllZip (λ k p. (p.0 ≡ word k) × IsTreeOf (F k) p.1) ks qs → ps ≡ qs
one_list word F [] [] [] left right = refl
one_list word F [] [] (q ∷ qs) left right = absurd right
one_list word F [] (p ∷ ps) qs left right = absurd left
one_list word F (k ∷ ks) [] qs left right = absurd left
one_list word F (k ∷ ks) (p ∷ ps) [] left right = absurd right
one_list word F (k ∷ ks) (p ∷ ps) (q ∷ qs) left right =
    let words : p.0 ≡ q.0 = left.0.0 ∙ sym right.0.0 in
    let trees : p.1 ≡ q.1 = one_tree (F k) p.1 q.1 left.0.1 right.0.1 in
    ap₂ (λ r rs. r ∷ rs) (λ i. (words i, trees i)) (one_list word F ks ps qs left.1 right.1)

-- the trees of a switch are the only ones
pub one_trees : HaveOneTree
one_trees T g writes d a x b y left right = (
  one_list key_word (λ k z. arrival T g k (at_switch d z)) (keys_of g) a x left.arriving right.arriving,
  one_list tag_word (λ t z. leaving T g writes t (at_switch d z)) (odd_tags g) b y left.leaving right.leaving,
)

one_of_each : (T : Topology) (g : Tagging) (writes : Departures) (ss : List Switch) (ts us : List TablesTrees)
    → AllZip (λ s t. AreTrees T g writes s.datapath t.first t.second) ss ts → AllZip (λ s t. AreTrees T g writes s.datapath t.first t.second) ss us → ts ≡ us
one_of_each T g writes [] [] [] left right = refl
one_of_each T g writes [] [] (u ∷ us) left right = absurd right
one_of_each T g writes [] (t ∷ ts) us left right = absurd left
one_of_each T g writes (s ∷ ss) [] us left right = absurd left
one_of_each T g writes (s ∷ ss) (t ∷ ts) [] left right = absurd right
one_of_each T g writes (s ∷ ss) (t ∷ ts) (u ∷ us) left right =
    let one = one_trees T g writes s.datapath t.first u.first t.second u.second left.0 right.0 in
    ap₂ (λ r rs. r ∷ rs) (λ i. record { first = one.0 i; second = one.1 i }) (one_of_each T g writes ss ts us left.1 right.1)

-- so are those of all switches
pub one_all : (T : Topology) (g : Tagging) (writes : Departures) (ts us : List TablesTrees) → AreAllTrees T g writes ts → AreAllTrees T g writes us → ts ≡ us
one_all T g writes ts us left right = one_of_each T g writes T.switches ts us left right
