use Rattle.std.proofs.Common.{sym, ◌∙◌, subst, map}
use Rattle.pq_tree.specs.Trees.{tree}
use Rattle.pq_tree.specs.Shapes.{Makes}
use Rattle.pq_tree.specs.Growth.{growth}
use Rattle.pq_tree.proofs.Machine.{makes_grown}
use Rattle.pq_tree.proofs.growth.grown.Goals as goal

-- what has grown is what the marks make
pub returns : goal.returns
returns c = subst (λ ts. Makes c.args.marks.now (map tree ts)) (sym (c.in_ok-terms.ensures ∙ c.deref.ensures.value))
    (makes_grown c.args.marks.now c.loop-mark.mark-index (growth c.loop-mark.growing) c.requires.some c.loop-mark-test.false c.loop-mark.invariant)
