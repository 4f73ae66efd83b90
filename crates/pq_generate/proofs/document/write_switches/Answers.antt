use Rattle.std.proofs.Common.{◌+◌, ◌++◌, List, ℕ, ap, ◌∙◌, arith}
use Rattle.pq_generate.specs.Generated.{switch_line}
use Rattle.pq_generate.proofs.Numbered.{line_more}
use Rattle.pq_generate.proofs.document.write_switches.Goals as goal

pub loop-before-preserved : goal.loop-before-preserved
loop-before-preserved c =
    let before = c.loop-before.before in
    c.in_ok-write_switch.ensures
    ∙ ap (λ (text : List ℕ). text ++ switch_line (before + 1)) c.loop-before.invariant
    ∙ line_more switch_line _ 1 before (before + 1) (omega arith)
