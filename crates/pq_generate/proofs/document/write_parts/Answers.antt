use Rattle.std.proofs.Common.{◌+◌, ◌++◌, List, ℕ, ap, ◌∙◌, arith}
use Rattle.pq_generate.specs.Generated.{part_line}
use Rattle.pq_generate.proofs.Numbered.{line_more}
use Rattle.pq_generate.proofs.document.write_parts.Goals as goal

pub loop-before-preserved : goal.loop-before-preserved
loop-before-preserved c =
    let before = c.loop-before.before in
    c.in_ok-write_part.ensures
    ∙ ap (λ (text : List ℕ). text ++ part_line c.args.number (before + 1)) c.loop-before.invariant
    ∙ line_more (part_line c.args.number) _ 1 before (before + 1) (omega arith)
