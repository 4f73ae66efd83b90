use Rattle.std.proofs.Common.{◌≡◌, ◌+◌, ◌++◌, List, ℕ, ap, ◌∙◌, append_assoc, arith}
use Rattle.std.specs.Prelude.{codes}
use Rattle.std.specs.List.{flat_map, range_with_len}
use Rattle.pq_generate.specs.Generated.{hop_text}
use Rattle.pq_generate.proofs.Numbered.{joined_from_one, line_more}
use Rattle.pq_generate.proofs.lines.write_hops.Goals as goal

pub loop-after-preserved : goal.loop-after-preserved
loop-after-preserved c =
    let after = c.loop-after.after in
    let hop : ℕ → List ℕ = λ j. codes " + " ++ hop_text c.args.i j in
    c.in_ok-write_hop-2.ensures
    ∙ ap (λ (text : List ℕ). text ++ hop_text c.args.i (after + 2))
    (c.in_ok-push_str.ensures.bytes ∙ ap (λ (text : List ℕ). text ++ codes " + ") c.loop-after.invariant)
    ∙ append_assoc _ (codes " + ") (hop_text c.args.i (after + 2))
    ∙ line_more hop _ 2 after (after + 2) (omega arith)

pub returns : goal.returns
returns c =
    let after = c.loop-after.after in
    let some = c.if-number-eq0.false in
    let last : c.args.number ≡ after + 1 = omega (arith, some, c.loop-after-test.false, c.loop-after.auto.after-end) in
    let hop : ℕ → List ℕ = λ j. codes " + " ++ hop_text c.args.i j in
    c.loop-after.invariant
    ∙ ap (λ (text : List ℕ). text ++ flat_map hop (range_with_len 2 after)) c.in_ok-write_hop.ensures
    ∙ joined_from_one (hop_text c.args.i) (codes " + ") _ c.args.number after last
