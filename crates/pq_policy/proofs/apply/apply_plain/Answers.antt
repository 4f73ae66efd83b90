use Rattle.std.proofs.Common.{◌≡◌, ◌∙◌, ap, subst, sym}
use Rattle.std.specs.List.Sorted.{IsStrictlySortedBy}
use Rattle.std.proofs.lemmas.Result.{IfOk-weaker}
use Rattle.pq_fields.specs.Order.{packet_cmp}
use Rattle.pq_policy.specs.Grown.{grown}
use Rattle.pq_policy.specs.Policy.{IsListOf, policy_tree, yields}
use Rattle.pq_policy.proofs.Yielded.{list_of_yields}
use Rattle.pq_policy.proofs.apply.apply_plain.Goals as goal

-- the set grew from nothing
pub returns : goal.returns
returns c =
    let t = c.args.topology.now in
    let p = policy_tree c.args.policy.now in
    let x = c.args.x.now in
    let laws = c.packets_are_ordered_by_numbers.ensures in
    let given = c.in_ok-add.ensures ∙ ap (grown t p x) c.new-given.ensures.empty in
    IfOk-weaker c.listed.result (λ ys. ys.items ≡ c.add.new.into.keys) (λ ys. IsListOf (yields t p x) ys.items)
    (λ ys is. list_of_yields laws.compares laws.precedes t p x ys.items (is
    ∙ given) (subst (IsStrictlySortedBy packet_cmp) (sym is) c.listed.ensures.ordered)) c.listed.ensures.packets
