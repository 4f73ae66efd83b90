-- How the logic keeps trees.
use Rattle.std.specs.Prelude.{◌≡◌}
use Rattle.std.proofs.Common.{ap}
use base.Stored.{Gv, gnil, gcons, Coded}
use Rattle.pq_store.specs.declared.test.Test.{Test}
use Rattle.pq_store.specs.Tree.{Tree}
use Rattle.pq_store.specs.Tree.Tree.{Tip, Fork}

module _ {L : Type 0} (test : Coded Test) (leaf : Coded L) where
  abbrev code_tree : Tree L → Gv
  code_tree (Tip l) = gcons gnil (leaf.code l)
  code_tree (Fork t y n) = gcons (gcons (test.code t) (code_tree y)) (code_tree n)

  pub tree_inj : (t u : Tree L) → code_tree t ≡ code_tree u → t ≡ u
  tree_inj (Tip l) (Tip m) p = ap Tip (leaf.inj l m cc)
  tree_inj (Tip l) (Fork s y n) p = cc
  tree_inj (Fork t y n) (Tip m) p = cc
  tree_inj (Fork t y n) (Fork s z m) p = cc (test.inj t s cc, tree_inj y z cc, tree_inj n m cc)

  -- a tree is kept as the codes of its tests and leaves
  abbrev pub coded_tree : Coded (Tree L)
  coded_tree = record { code = code_tree; inj = tree_inj }
