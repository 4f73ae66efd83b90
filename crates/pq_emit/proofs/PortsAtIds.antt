-- The ports that the trees at ids test.
use Rattle.std.proofs.Common.{◌≡◌, ℕ, List, [], ◌∷◌, ◌++◌, map, sym, subst}
use Rattle.std.specs.Prelude.{All, Option}
use Rattle.std.specs.List.{AllZip}
use Rattle.std.proofs.lemmas.List.Elements.{All-nil, All-cons, All-head, All-tail, All-push, All-weaker}
use Rattle.pq_join.specs.Sound.{TestsPortsOrZero}
use Rattle.pq_join.specs.Switch.{TestPortsAt}
use Rattle.pq_layout.specs.Leaves.{Departures}
use Rattle.pq_layout.specs.Tagging.{Tagging, odd_tags}
use Rattle.pq_layout.specs.Trees.{AreArriving, AreLeaving, IsArriving, IsLeaving, keys_of}
use Rattle.pq_model.specs.Topology.{Topology}
use Rattle.pq_rewrite.specs.declared.outgoing.Outgoing.{Outgoing}
use Rattle.pq_rewrite.specs.declared.trees.Arrive.{Arrive}
use Rattle.pq_rewrite.specs.declared.trees.SwitchTrees.{SwitchTrees}
use Rattle.pq_rules.specs.Found.{trees_with, with_word}
use Rattle.pq_store.specs.Store.{HasAt, Keeps}
use Rattle.pq_store.specs.Tree.{Tree}
use Rattle.pq_emit.specs.Network.{TestPortsOf}

module _ {A L : Type 0} (F : A → Tree L → Type 0) where
  -- the trees are there, and test ports alone
  placed : (ts : List (Tree L)) (ks : List A) (ids : List (A × ℕ)) → AllZip (λ k p. (p.0 ≡ k) × HasAt (F k) ts p.1) ks ids
      → All (λ p. TestPortsAt ts p.1) ids → All (λ p. HasAt TestsPortsOrZero ts p.1) ids
  placed ts [] [] all each = All-nil (λ p. HasAt TestsPortsOrZero ts p.1)
  placed ts [] (p ∷ ids) all each = absurd all
  placed ts (k ∷ ks) [] all each = absurd all
  placed ts (k ∷ ks) (p ∷ ids) all each =
      let one = all.0.1 in
      All-cons (λ p. HasAt TestsPortsOrZero ts p.1) p ids (one.0, one.1, All-head (λ p. TestPortsAt ts p.1) p ids each one.0 one.1)
      (placed ts ks ids all.1 (All-tail (λ p. TestPortsAt ts p.1) p ids each))

pub placed_ports : (T : Topology) (g : Tagging) (writes : Departures) (firsts : List (Tree (Option Arrive)))
    (seconds : List (Tree (List Outgoing))) (d : ℕ) (t : SwitchTrees)
    → AreArriving T g d firsts t.arriving.items → AreLeaving T g writes d seconds t.leaving.items
    → All (λ p. TestPortsAt firsts p.1) t.arriving.items × All (λ p. TestPortsAt seconds p.1) t.leaving.items → TestPortsOf firsts seconds t
placed_ports T g writes firsts seconds d t arriving leaving each = (
  placed (IsArriving T g d) firsts (keys_of g) t.arriving.items arriving each.0,
  placed (IsLeaving T g writes d) seconds (odd_tags g) t.leaving.items leaving each.1,
)

-- they stay where they are
module _ (firsts more : List (Tree (Option Arrive))) (seconds others : List (Tree (List Outgoing))) (left : Keeps firsts more)
    (right : Keeps seconds others) where
  kept_ports : (t : SwitchTrees) → TestPortsOf firsts seconds t → TestPortsOf more others t
  kept_ports t ports = (
    All-weaker (λ p. HasAt TestsPortsOrZero firsts p.1) (λ p. HasAt TestsPortsOrZero more p.1)
        (λ p at. (at.0, left p.1 at.0 at.1, at.2)) t.arriving.items ports.0,
    All-weaker (λ p. HasAt TestsPortsOrZero seconds p.1) (λ p. HasAt TestsPortsOrZero others p.1)
        (λ p at. (at.0, right p.1 at.0 at.1, at.2)) t.leaving.items ports.1,
  )

  -- with one switch more
  pub one_more_ports : (ts pushed : List SwitchTrees) (t : SwitchTrees) → pushed ≡ ts ++ t ∷ [] → TestPortsOf more others t
      → All (TestPortsOf firsts seconds) ts → All (TestPortsOf more others) pushed
  one_more_ports ts pushed t push one all =
      subst (All (TestPortsOf more others)) (sym push)
      (All-push (TestPortsOf more others) ts t (All-weaker (TestPortsOf firsts seconds) (TestPortsOf more others) kept_ports ts all) one)

-- the trees with their words
pub tests_with : {A L : Type 0} (word : A → ℕ) (ts : List (Tree L)) (ids : List (A × ℕ)) → All (λ p. HasAt TestsPortsOrZero ts p.1) ids
    → All (λ q. TestsPortsOrZero q.1) (trees_with ts (map (λ p. (word p.0, p.1)) ids))
tests_with word ts [] all = All-nil (λ q. TestsPortsOrZero q.1)
tests_with {A} {L} word ts (p ∷ ids) all =
    let one = All-head (λ p. HasAt TestsPortsOrZero ts p.1) p ids all in
    let rest = trees_with ts (map (λ p. (word p.0, p.1)) ids) in
    let both = All-cons (λ q. TestsPortsOrZero q.1) (word p.0, one.0) rest one.2
    (tests_with word ts ids (All-tail (λ p. HasAt TestsPortsOrZero ts p.1) p ids all)) in
    subst (λ o. All (λ q. TestsPortsOrZero q.1) (with_word {L = L} (word p.0) o ++ rest)) (sym one.1) both
