use Rattle.std.proofs.Common.{◌+◌, ◌++◌, List, ℕ, ap, ◌∙◌, arith}
use Rattle.pq_generate.specs.Generated.{link_line}
use Rattle.pq_generate.proofs.Numbered.{line_more}
use Rattle.pq_generate.proofs.document.write_links.Goals as goal

pub loop-before-preserved : goal.loop-before-preserved
loop-before-preserved c =
    let before = c.loop-before.before in
    c.in_ok-write_link.ensures
    ∙ ap (λ (text : List ℕ). text ++ link_line (before + 1)) c.loop-before.invariant
    ∙ line_more link_line _ 1 before (before + 1) (omega arith)
