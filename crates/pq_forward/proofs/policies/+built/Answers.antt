use Rattle.std.proofs.Common.{ℕ, ◌≡◌, ◌∙◌, ◌+◌, ◌*◌, ◌<◌, ◌/◌, [], ◌∷◌, length, map, if◌then◌else◌, Some, sym, ap, subst, arith}
use Rattle.std.specs.Prelude.{IfOk, slice_get}
use Rattle.std.proofs.lemmas.Result.{IfOk-weaker}
use Rattle.pq_fields.specs.declared.field.Field.TheVariants.{Port}
use Rattle.pq_fields.specs.Pred.{pred_tree}
use Rattle.pq_fields.specs.Writes.{no_writes}
use Rattle.pq_policy.specs.declared.policy.Policy.TheFolds.{fold-roll-Policy}
use Rattle.pq_policy.specs.declared.policy.Policy.TheOpen.{Policy-F}
use Rattle.pq_policy.specs.declared.policy.Policy.TheVariants.{rolls-Identity, rolls-Flood, rolls-Filter, rolls-Mod, rolls-Fwd, rolls-If}
use Rattle.pq_policy.specs.declared.policy.Policy.TheVariants.{rolls-Union, rolls-Seq}
use Rattle.pq_policy.specs.Policy.{AnyOne, AreLawfulPolicies, Chained, Either, Forward, InTurn, IsLawfulPolicy, Only, Pass, PolicyTree}
use Rattle.pq_policy.specs.Policy.{Spread, Write, leaf, none, policies, policy_step, policy_tree, policy_trees}
use Rattle.pq_store.specs.Tree.Tree.{Tip}
use Rattle.pq_store.specs.Store.{HasAt}
use Rattle.pq_rewrite.specs.Calls.{IsWriting}
use Rattle.pq_rewrite.proofs.Standing.{has_still}
use Rattle.pq_forward.specs.Flood.{IsFlood}
use Rattle.pq_forward.specs.Forward.{FitAsForward, FitAsForwards, IsFiltered, IsForward, IsForwards, joint, work_of}
use Rattle.pq_forward.proofs.Halves.{halves_fall, halves_fit, halves_lawful, halves_steps, none_listed, one_listed, size}
use Rattle.pq_forward.proofs.Joining.{HaveHalves, back_idle_free, back_within, front_idle_free, front_within, halves_in_sequence}
use Rattle.pq_forward.proofs.Joining.{halves_together, have_halves, sequenced_at, united_at}
use Rattle.pq_forward.proofs.Tops.{choice_at, choice_of, either_forward, gives_too, none_at, one_forwards, only_forward, pass_forward}
use Rattle.pq_forward.proofs.Tops.{port_forward, sides_fit, spread_forward, turn_forward, write_forward}
use Rattle.pq_forward.proofs.policies.+built.Given.{Over}
use Rattle.pq_forward.proofs.policies.+built.Goals as goal
use Rattle.pq_forward.proofs.policies.+built.Goals.{built-In_ok-failed-in-If, joined-After-split_at, joined-In_ok-y-in_default}

-- The diagram of a policy.

pub built-returns-in-Identity-clause-forwards : goal.built-returns-in-Identity-clause-forwards
built-returns-in-Identity-clause-forwards g t c =
    let T = c.args.topology.now in
    let is : policy_tree c.args.policy.now ≡ leaf Pass = ap policy_tree (c.in-Identity.is ∙ sym rolls-Identity)
    ∙ fold-roll-Policy PolicyTree policy_step Policy-F.Identity in
    subst (λ p. IfOk c.single.result (HasAt (IsForward T p) c.single.new.store)) (sym is)
    (IfOk-weaker c.single.result (λ id. slice_get c.single.new.store id ≡ Some (Tip (no_writes ∷ []))) (HasAt (IsForward T (leaf Pass)) c.single.new.store)
    (λ id there. (Tip (no_writes ∷ []), there, pass_forward T)) (rw c.none.ensures at c.single.ensures.leaf))

pub built-returns-in-Flood-clause-forwards : goal.built-returns-in-Flood-clause-forwards
built-returns-in-Flood-clause-forwards g t c =
    let T = c.args.topology.now in
    let is : policy_tree c.args.policy.now ≡ (leaf Spread) = ap policy_tree (c.in-Flood.is ∙ sym rolls-Flood)
    ∙ fold-roll-Policy PolicyTree policy_step Policy-F.Flood in
    subst (λ p. IfOk c.flood.result (HasAt (IsForward T p) c.flood.new.store)) (sym is)
    (gives_too (IsFlood T.switches) (IsForward T (leaf Spread)) (spread_forward T) c.flood.new.store c.flood.result c.flood.ensures.floods)

pub built-returns-in-Filter-clause-forwards : goal.built-returns-in-Filter-clause-forwards
built-returns-in-Filter-clause-forwards g t c =
    let T = c.args.topology.now in
    let is : policy_tree c.args.policy.now ≡ (leaf (Only (pred_tree c.in-Filter.pred))) =
    ap policy_tree (c.in-Filter.is ∙ sym (rolls-Filter c.in-Filter.pred))
    ∙ fold-roll-Policy PolicyTree policy_step (Policy-F.Filter c.in-Filter.pred) in
    subst (λ p. IfOk c.filtered.result (HasAt (IsForward T p) c.filtered.new.store)) (sym is)
    (gives_too (IsFiltered (pred_tree c.in-Filter.pred)) (IsForward T (leaf (Only (pred_tree c.in-Filter.pred))))
    (only_forward T (pred_tree c.in-Filter.pred)) c.filtered.new.store c.filtered.result c.filtered.ensures.filters)

pub built-returns-in-Mod-clause-forwards : goal.built-returns-in-Mod-clause-forwards
built-returns-in-Mod-clause-forwards g t c =
    let T = c.args.topology.now in
    let f = c.in-Mod.field in
    let n = c.in-Mod.number in
    let is : policy_tree c.args.policy.now ≡ (leaf (Write f n)) = ap policy_tree (c.in-Mod.is ∙ sym (rolls-Mod f n))
    ∙ fold-roll-Policy PolicyTree policy_step (Policy-F.Mod f n) in
    let lawful = (subst IsLawfulPolicy is c.requires.lawful).0 in
    subst (λ p. IfOk c.write.result (HasAt (IsForward T p) c.write.new.store)) (sym is)
    (gives_too (IsWriting f n) (IsForward T (leaf (Write f n))) (λ u. write_forward T f n u lawful.0) c.write.new.store c.write.result c.write.ensures.writes)

pub built-returns-in-Fwd-clause-forwards : goal.built-returns-in-Fwd-clause-forwards
built-returns-in-Fwd-clause-forwards g t c =
    let T = c.args.topology.now in
    let n = c.in-Fwd.port in
    let is : policy_tree c.args.policy.now ≡ (leaf (Forward n)) = ap policy_tree (c.in-Fwd.is ∙ sym (rolls-Fwd n))
    ∙ fold-roll-Policy PolicyTree policy_step (Policy-F.Fwd n) in
    subst (λ p. IfOk c.write-in-Fwd.result (HasAt (IsForward T p) c.write-in-Fwd.new.store)) (sym is)
    (gives_too (IsWriting Port n) (IsForward T (leaf (Forward n))) (port_forward T n) c.write-in-Fwd.new.store c.write-in-Fwd.result
    (rw c.from.ensures at c.write-in-Fwd.ensures.writes))

-- a choice is one between two policies
choice_is : (g : Over) (t : ℕ) (c : built-In_ok-failed-in-If g t)
    → policy_tree c.args.policy.now ≡ choice_of (pred_tree c.in-If.pred) (policy_tree c.in-If.yes.value) (policy_tree c.in-If.no.value)
choice_is g t c =
    ap policy_tree (c.in-If.is ∙ sym (rolls-If c.in-If.pred c.in-If.yes c.in-If.no))
    ∙ fold-roll-Policy PolicyTree policy_step (Policy-F.If c.in-If.pred c.in-If.yes c.in-If.no)

-- the tree of the first is where the second is made
yes_has : (g : Over) (t : ℕ) (c : built-In_ok-failed-in-If g t)
    → HasAt (IsForward c.args.topology.now (policy_tree c.in-If.yes.value)) c.built-in-If.new.store c.in_ok-passed-in-If.passed
yes_has g t c =
    has_still (IsForward c.args.topology.now (policy_tree c.in-If.yes.value)) c.built.new.store c.built-in-If.new.store
    c.in_ok-passed-in-If.passed c.built-in-If.ensures.keeps
    (rw c.deref.ensures at c.in_ok-passed-in-If.ensures.forwards)

-- and that of the second
no_has : (g : Over) (t : ℕ) (c : built-In_ok-failed-in-If g t)
    → HasAt (IsForward c.args.topology.now (policy_tree c.in-If.no.value)) c.built-in-If.new.store c.in_ok-failed-in-If.failed
no_has g t c = rw c.deref-in-If.ensures at c.in_ok-failed-in-If.ensures.forwards

pub built-chosen-requires-clause-fit : goal.built-chosen-requires-clause-fit
built-chosen-requires-clause-fit g t c =
    let at = (goal.at.built-chosen-requires-clause-fit g t c).In_ok-failed-in-If in
    let T = c.args.topology.now in
    sides_fit T (pred_tree c.in-If.pred) (policy_tree c.in-If.yes.value) (policy_tree c.in-If.no.value)
    (subst (FitAsForward T) (choice_is g t at) c.requires.fit)
    c.built-in-If.new.store c.in_ok-passed-in-If.passed c.in_ok-failed-in-If.failed (yes_has g t at) (no_has g t at)

pub built-returns-in_ok-id-in-If-clause-forwards : goal.built-returns-in_ok-id-in-If-clause-forwards
built-returns-in_ok-id-in-If-clause-forwards g t c =
    let at = (goal.at.built-returns-in_ok-id-in-If-clause-forwards g t c).In_ok-failed-in-If in
    let T = c.args.topology.now in
    subst (λ p. HasAt (IsForward T p) c.chosen.new.store c.in_ok-id-in-If.id) (sym (choice_is g t at))
    (choice_at T (pred_tree c.in-If.pred) (policy_tree c.in-If.yes.value) (policy_tree c.in-If.no.value) c.built-in-If.new.store c.chosen.new.store
    c.in_ok-passed-in-If.passed c.in_ok-failed-in-If.failed c.in_ok-id-in-If.id (yes_has g t at) (no_has g t at) c.in_ok-id-in-If.ensures.chooses)

pub built-returns-in-Union-clause-forwards : goal.built-returns-in-Union-clause-forwards
built-returns-in-Union-clause-forwards g t c =
    let T = c.args.topology.now in
    let operands = c.in-Union.policies.items in
    let tree : PolicyTree = record { top = Either; below = policy_trees operands } in
    let is : policy_tree c.args.policy.now ≡ tree = ap policy_tree (c.in-Union.is ∙ sym (rolls-Union c.in-Union.policies))
    ∙ fold-roll-Policy PolicyTree policy_step (Policy-F.Union c.in-Union.policies) in
    subst (λ p. IfOk c.joined.result (HasAt (IsForward T p) c.joined.new.store)) (sym is)
    (gives_too (IsForwards T AnyOne (policy_trees operands)) (IsForward T tree)
    (either_forward T (map policy_tree operands)) c.joined.new.store c.joined.result
    (rw c.deref-in-Union.ensures.value at c.joined.ensures.forwards))

pub built-returns-in-Seq-clause-forwards : goal.built-returns-in-Seq-clause-forwards
built-returns-in-Seq-clause-forwards g t c =
    let T = c.args.topology.now in
    let operands = c.in-Seq.policies.items in
    let tree : PolicyTree = record { top = InTurn; below = policy_trees operands } in
    let is : policy_tree c.args.policy.now ≡ tree = ap policy_tree (c.in-Seq.is ∙ sym (rolls-Seq c.in-Seq.policies))
    ∙ fold-roll-Policy PolicyTree policy_step (Policy-F.Seq c.in-Seq.policies) in
    subst (λ p. IfOk c.joined-in-Seq.result (HasAt (IsForward T p) c.joined-in-Seq.new.store)) (sym is)
    (gives_too (IsForwards T Chained (policy_trees operands)) (IsForward T tree)
    (turn_forward T (map policy_tree operands)) c.joined-in-Seq.new.store c.joined-in-Seq.result
    (rw c.deref-in-Seq.ensures.value at c.joined-in-Seq.ensures.forwards))

-- The diagram of policies.

pub joined-returns-in-empty-clause-forwards : goal.joined-returns-in-empty-clause-forwards
joined-returns-in-empty-clause-forwards g t c =
    let T = c.args.topology.now in
    let b = c.args.in_turn in
    subst (λ ps. IfOk c.none_joined.result (HasAt (IsForwards T (joint b) ps) c.none_joined.new.store))
    (sym (none_listed c.args.policies.now c.in-empty.len_below))
    (IfOk-weaker c.none_joined.result (λ id. slice_get c.none_joined.new.store id ≡ Some (Tip (if b then no_writes ∷ [] else [])))
    (HasAt (IsForwards T (joint b) none) c.none_joined.new.store)
    (none_at T b c.none_joined.new.store) c.none_joined.ensures.leaf)

pub joined-returns-in-len1-clause-forwards : goal.joined-returns-in-len1-clause-forwards
joined-returns-in-len1-clause-forwards g t c =
    let T = c.args.topology.now in
    let J = joint c.args.in_turn in
    let p = policy_tree c.policy-item.result in
    let one = one_listed c.args.policies.now c.policy-item.result c.in-len1.len_below c.in-len1.len_at_least c.policy-item.is in
    subst (λ ps. IfOk c.built.result (HasAt (IsForwards T J ps) c.built.new.store)) (sym one)
    (gives_too (IsForward T p) (IsForwards T J (policies (p ∷ []))) (one_forwards T c.args.in_turn p) c.built.new.store c.built.result c.built.ensures.forwards)

-- both halves are smaller than all
falls : (g : Over) (t : ℕ) (c : joined-After-split_at g t)
    → (size (policy_trees c.split_at.result.0.now) < size (policy_trees c.args.policies.now))
    × (size (policy_trees c.split_at.result.1.now) < size (policy_trees c.args.policies.now))
falls g t c =
    halves_fall c.args.policies.now c.split_at.result.0.now c.split_at.result.1.now
    (length c.args.policies.now / 2) c.split_at.ensures.front c.split_at.ensures.back
    (omega (arith, c.split_at.ensures.front_len, c.in_default.len_at_least)) (omega (arith, c.split_at.ensures.back_len, c.in_default.len_at_least))

-- they are lawful and fit where all do
ready : (g : Over) (t : ℕ) (c : joined-After-split_at g t)
    → (AreLawfulPolicies (policy_trees c.split_at.result.0.now) × AreLawfulPolicies (policy_trees c.split_at.result.1.now))
    × (FitAsForwards c.args.topology.now (policy_trees c.split_at.result.0.now) × FitAsForwards c.args.topology.now (policy_trees c.split_at.result.1.now))
ready g t c =
    let ps = c.args.policies.now in
    let front = c.split_at.result.0.now in
    let back = c.split_at.result.1.now in (
      halves_lawful ps front back (length ps / 2) c.split_at.ensures.front c.split_at.ensures.back c.requires.lawful,
      halves_fit ps front back (length ps / 2) c.split_at.ensures.front c.split_at.ensures.back c.args.topology.now c.requires.fit,
    )

pub joined-joined-requires : goal.joined-joined-requires
joined-joined-requires g t c κs within =
    let at = (goal.at.joined-joined-requires g t c).After-split_at in
    let whole : 2 * size (policy_trees c.args.policies.now) + 1 ≡ t = c.decreases in
    let smaller = (falls g t at).0 in
    let both = ready g t at in
    (omega (arith, whole, smaller), (within, (both.0.0, both.1.0)))

pub joined-joined-requires-in_default : goal.joined-joined-requires-in_default
joined-joined-requires-in_default g t c κs within =
    let at = (goal.at.joined-joined-requires-in_default g t c).After-split_at in
    let whole : 2 * size (policy_trees c.args.policies.now) + 1 ≡ t = c.decreases in
    let smaller = (falls g t at).1 in
    let both = ready g t at in
    (omega (arith, whole, smaller), (within, (both.0.1, both.1.1)))

-- the trees of both halves
halves : (g : Over) (t : ℕ) (c : joined-In_ok-y-in_default g t)
    → HaveHalves c.args.topology.now (joint c.args.in_turn) c.args.policies.now c.joined-in_default.new.store c.in_ok-x-in_default.x c.in_ok-y-in_default.y
halves g t c =
    have_halves c.args.topology.now (joint c.args.in_turn) c.args.policies.now c.split_at.result.0.now c.split_at.result.1.now (length c.args.policies.now / 2)
    c.joined.new.store c.joined-in_default.new.store c.in_ok-x-in_default.x c.in_ok-y-in_default.y c.split_at.ensures.front c.split_at.ensures.back
    c.joined-in_default.ensures.keeps c.in_ok-x-in_default.ensures.forwards c.in_ok-y-in_default.ensures.forwards

pub joined-then-requires-clause-x : goal.joined-then-requires-clause-x
joined-then-requires-clause-x g t c = front_within (halves g t (goal.at.joined-then-requires-clause-x g t c).In_ok-y-in_default)

pub joined-then-requires-clause-y : goal.joined-then-requires-clause-y
joined-then-requires-clause-y g t c = back_within (halves g t (goal.at.joined-then-requires-clause-y g t c).In_ok-y-in_default)

pub joined-then-requires-clause-x_idle_free : goal.joined-then-requires-clause-x_idle_free
joined-then-requires-clause-x_idle_free g t c = front_idle_free (halves g t (goal.at.joined-then-requires-clause-x_idle_free g t c).In_ok-y-in_default)

pub joined-then-requires-clause-y_idle_free : goal.joined-then-requires-clause-y_idle_free
joined-then-requires-clause-y_idle_free g t c = back_idle_free (halves g t (goal.at.joined-then-requires-clause-y_idle_free g t c).In_ok-y-in_default)

pub joined-then-requires-clause-fit : goal.joined-then-requires-clause-fit
joined-then-requires-clause-fit g t c = halves_in_sequence (halves g t (goal.at.joined-then-requires-clause-fit g t c).In_ok-y-in_default) c.requires.fit

pub joined-union-requires-clause-x : goal.joined-union-requires-clause-x
joined-union-requires-clause-x g t c = front_within (halves g t (goal.at.joined-union-requires-clause-x g t c).In_ok-y-in_default)

pub joined-union-requires-clause-y : goal.joined-union-requires-clause-y
joined-union-requires-clause-y g t c = back_within (halves g t (goal.at.joined-union-requires-clause-y g t c).In_ok-y-in_default)

pub joined-union-requires-clause-x_idle_free : goal.joined-union-requires-clause-x_idle_free
joined-union-requires-clause-x_idle_free g t c = front_idle_free (halves g t (goal.at.joined-union-requires-clause-x_idle_free g t c).In_ok-y-in_default)

pub joined-union-requires-clause-y_idle_free : goal.joined-union-requires-clause-y_idle_free
joined-union-requires-clause-y_idle_free g t c = back_idle_free (halves g t (goal.at.joined-union-requires-clause-y_idle_free g t c).In_ok-y-in_default)

pub joined-union-requires-clause-fit : goal.joined-union-requires-clause-fit
joined-union-requires-clause-fit g t c = halves_together (halves g t (goal.at.joined-union-requires-clause-fit g t c).In_ok-y-in_default) c.requires.fit

pub joined-returns-then-in_turn-clause-forwards : goal.joined-returns-then-in_turn-clause-forwards
joined-returns-then-in_turn-clause-forwards g t c =
    sequenced_at c.args.topology.now c.args.policies.now c.joined-in_default.new.store c.in_ok-x-in_default.x c.in_ok-y-in_default.y
    c.then.new.store c.in_ok-id-in_default.id
    c.args.in_turn c.if-in_turn.true (halves g t (goal.at.joined-returns-then-in_turn-clause-forwards g t c).In_ok-y-in_default)
    c.in_ok-id-in_default.ensures.sequences

pub joined-returns-in_ok-id-in_default-2-clause-forwards : goal.joined-returns-in_ok-id-in_default-2-clause-forwards
joined-returns-in_ok-id-in_default-2-clause-forwards g t c =
    united_at c.args.topology.now c.args.policies.now c.joined-in_default.new.store c.in_ok-x-in_default.x c.in_ok-y-in_default.y
    c.union.new.store c.in_ok-id-in_default-2.id
    c.args.in_turn c.if-in_turn.false (halves g t (goal.at.joined-returns-in_ok-id-in_default-2-clause-forwards g t c).In_ok-y-in_default)
    c.in_ok-id-in_default-2.ensures.unites

-- the steps to all are one more than those to both halves
steps : (g : Over) (t : ℕ) (c : joined-After-split_at g t)
    → work_of (policy_trees c.args.policies.now) ≡ work_of (policy_trees c.split_at.result.0.now) + work_of (policy_trees c.split_at.result.1.now) + 1
steps g t c =
    halves_steps c.args.policies.now c.split_at.result.0.now c.split_at.result.1.now
    (length c.args.policies.now / 2) c.split_at.ensures.front c.split_at.ensures.back
    (omega (arith, c.split_at.ensures.front_len, c.in_default.len_at_least)) (omega (arith, c.split_at.ensures.back_len, c.in_default.len_at_least))

pub joined-returns-in_err-x-in_default-clause-steps : goal.joined-returns-in_err-x-in_default-clause-steps
joined-returns-in_err-x-in_default-clause-steps g t c =
    let all = steps g t (goal.at.joined-returns-in_err-x-in_default-clause-steps g t c).After-split_at in
    omega (arith, all, c.joined.ensures.steps)

pub joined-returns-in_err-y-in_default-clause-steps : goal.joined-returns-in_err-y-in_default-clause-steps
joined-returns-in_err-y-in_default-clause-steps g t c =
    let all = steps g t (goal.at.joined-returns-in_err-y-in_default-clause-steps g t c).After-split_at in
    omega (arith, all, c.joined.ensures.steps, c.joined-in_default.ensures.steps)

pub joined-returns-in_err-id-in_default-clause-steps : goal.joined-returns-in_err-id-in_default-clause-steps
joined-returns-in_err-id-in_default-clause-steps g t c =
    let all = steps g t (goal.at.joined-returns-in_err-id-in_default-clause-steps g t c).After-split_at in
    omega (arith, all, c.joined.ensures.steps, c.joined-in_default.ensures.steps, c.then.ensures.step)

pub joined-returns-then-in_turn-clause-steps : goal.joined-returns-then-in_turn-clause-steps
joined-returns-then-in_turn-clause-steps g t c =
    let all = steps g t (goal.at.joined-returns-then-in_turn-clause-steps g t c).After-split_at in
    omega (arith, all, c.joined.ensures.steps, c.joined-in_default.ensures.steps, c.then.ensures.step)

pub joined-returns-in_err-id-in_default-2-clause-steps : goal.joined-returns-in_err-id-in_default-2-clause-steps
joined-returns-in_err-id-in_default-2-clause-steps g t c =
    let all = steps g t (goal.at.joined-returns-in_err-id-in_default-2-clause-steps g t c).After-split_at in
    omega (arith, all, c.joined.ensures.steps, c.joined-in_default.ensures.steps, c.union.ensures.step)

pub joined-returns-in_ok-id-in_default-2-clause-steps : goal.joined-returns-in_ok-id-in_default-2-clause-steps
joined-returns-in_ok-id-in_default-2-clause-steps g t c =
    let all = steps g t (goal.at.joined-returns-in_ok-id-in_default-2-clause-steps g t c).After-split_at in
    omega (arith, all, c.joined.ensures.steps, c.joined-in_default.ensures.steps, c.union.ensures.step)
