use Rattle.std.proofs.Common.{[], ◌∷◌, Ok, slice_index_or, arith}
use Rattle.pq_tree.specs.Trees.{tree}
use Rattle.std.proofs.lemmas.Result.{err_from_is_err_and}
use Rattle.pq_fields.specs.Pred.{pred_tree}
use Rattle.pq_policy.specs.Policy.{Choose, policies, policy_tree}
use Rattle.pq_topo.proofs.Passed.{passed, handed}
use Rattle.pq_policy.proofs.Choices.{blank, three, with_both, with_second}
use Rattle.pq_policy.proofs.resolve.+resolve.Goals as goal

pub choice_of-returns-in_err-pred : goal.choice_of-returns-in_err-pred
choice_of-returns-in_err-pred t c =
    let p = err_from_is_err_and c.from_residual.result c.from_residual.ensures.1 in
    let h = passed pred_tree policy_tree c.in_err-pred.field-0.0 _
    (with_both c.args.topology.now c.args.bytes.now (tree (slice_index_or c.args.children.now 1 blank))
    (tree (slice_index_or c.args.children.now 2 blank))) c.in_err-pred.ensures in
    let e = three c.args.topology.now c.args.bytes.now c.args.head.now c.args.children.now blank (omega arith) (omega arith) in
    rw (p.1, p.2, e) h

pub choice_of-returns-in_err-first : goal.choice_of-returns-in_err-first
choice_of-returns-in_err-first t c =
    let p = err_from_is_err_and c.from_residual-in_err-first.result c.from_residual-in_err-first.ensures.1 in
    let e = three c.args.topology.now c.args.bytes.now c.args.head.now c.args.children.now blank (omega arith) (omega arith) in
    let s = handed pred_tree c.in_ok-pred.pred _
    (with_both c.args.topology.now c.args.bytes.now (tree (slice_index_or c.args.children.now 1 blank))
    (tree (slice_index_or c.args.children.now 2 blank))) c.in_ok-pred.ensures in
    let h = passed policy_tree policy_tree c.in_err-first.field-0.0 _
    (with_second c.args.topology.now c.args.bytes.now (tree (slice_index_or c.args.children.now 2 blank)) (pred_tree c.in_ok-pred.pred))
    c.in_err-first.ensures in
    rw (p.1, p.2, e, s) h

pub choice_of-returns-in_err-second : goal.choice_of-returns-in_err-second
choice_of-returns-in_err-second t c =
    let p = err_from_is_err_and c.from_residual-in_err-second.result c.from_residual-in_err-second.ensures.1 in
    let e = three c.args.topology.now c.args.bytes.now c.args.head.now c.args.children.now blank (omega arith) (omega arith) in
    let s = handed pred_tree c.in_ok-pred.pred _
    (with_both c.args.topology.now c.args.bytes.now (tree (slice_index_or c.args.children.now 1 blank))
    (tree (slice_index_or c.args.children.now 2 blank))) c.in_ok-pred.ensures in
    let s2 = handed policy_tree c.in_ok-first.first _
    (with_second c.args.topology.now c.args.bytes.now (tree (slice_index_or c.args.children.now 2 blank)) (pred_tree c.in_ok-pred.pred))
    c.in_ok-first.ensures in
    let h = passed policy_tree policy_tree c.in_err-second.field-0.0 _ (λ b. Ok (record {
      top = Choose (pred_tree c.in_ok-pred.pred);
      below = policies (policy_tree c.in_ok-first.first ∷ b ∷ []);
    })) c.in_err-second.ensures in
    rw (p.1, p.2, e, s, s2) h
