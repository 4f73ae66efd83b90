use Rattle.std.proofs.Common.{◌≡◌, ◌<◌, ℕ, length, ◌/◌, arith}
use Rattle.std.proofs.lemmas.Result.{IfOk-weaker}
use Rattle.pq_policy.specs.Policy.{policy_tree}
use Rattle.pq_store.specs.Store.{HasAt}
use Rattle.pq_forward.specs.Forward.{IsForward}
use Rattle.pq_meaning.specs.Parts.{AreLawful, FitAsParts, IsUnionOfParts, part_trees}
use Rattle.pq_meaning.proofs.PartsHalves.{HaveHalves, back_idle_free, back_within, front_idle_free, front_within, halves_fit, halves_lawful}
use Rattle.pq_meaning.proofs.PartsHalves.{halves_together, have_halves, one_at, united_at}
use Rattle.pq_meaning.proofs.parts.+parts_forward.Given.{Over}
use Rattle.pq_meaning.proofs.parts.+parts_forward.Goals as goal
use Rattle.pq_meaning.proofs.parts.+parts_forward.Goals.{After-split_at, In_ok-y-in_default}

-- both halves are shorter than all
falls : (g : Over) (t : ℕ) (c : After-split_at g t)
    → (length c.split_at.result.0.now < length c.args.parts.now) × (length c.split_at.result.1.now < length c.args.parts.now)
falls g t c = (
  omega (arith, c.split_at.ensures.front_len, c.in_default.len_at_least),
  omega (arith, c.split_at.ensures.back_len, c.in_default.len_at_least),
)

-- they are lawful and fit where all do
ready : (g : Over) (t : ℕ) (c : After-split_at g t)
    → (AreLawful (part_trees c.split_at.result.0.now) × AreLawful (part_trees c.split_at.result.1.now))
    × (FitAsParts c.args.topology.now (part_trees c.split_at.result.0.now) × FitAsParts c.args.topology.now (part_trees c.split_at.result.1.now))
ready g t c =
    let parts = c.args.parts.now in
    let front = c.split_at.result.0.now in
    let back = c.split_at.result.1.now in (
      halves_lawful parts front back (length parts / 2) c.split_at.ensures.front c.split_at.ensures.back c.requires.lawful,
      halves_fit parts front back (length parts / 2) c.split_at.ensures.front c.split_at.ensures.back c.args.topology.now c.requires.fit,
    )

pub parts_forward-requires : goal.parts_forward-requires
parts_forward-requires g t c κs within =
    let at = (goal.at.parts_forward-requires g t c).After-split_at in
    let whole : length c.args.parts.now ≡ t = c.decreases in
    let smaller = (falls g t at).0 in
    let both = ready g t at in
    (omega (arith, whole, smaller), (within, (both.0.0, both.1.0)))

pub parts_forward-requires-in_default : goal.parts_forward-requires-in_default
parts_forward-requires-in_default g t c κs within =
    let at = (goal.at.parts_forward-requires-in_default g t c).After-split_at in
    let whole : length c.args.parts.now ≡ t = c.decreases in
    let smaller = (falls g t at).1 in
    let both = ready g t at in
    (omega (arith, whole, smaller), (within, (both.0.1, both.1.1)))

-- the trees of both halves
halves : (g : Over) (t : ℕ) (c : In_ok-y-in_default g t)
    → HaveHalves c.args.topology.now (part_trees c.args.parts.now) c.parts_forward-in_default.new.store c.in_ok-x-in_default.x c.in_ok-y-in_default.y
halves g t c =
    have_halves c.args.topology.now c.args.parts.now c.split_at.result.0.now c.split_at.result.1.now (length c.args.parts.now / 2)
    c.parts_forward.new.store c.parts_forward-in_default.new.store c.in_ok-x-in_default.x c.in_ok-y-in_default.y c.split_at.ensures.front
    c.split_at.ensures.back
    c.parts_forward-in_default.ensures.keeps c.in_ok-x-in_default.ensures.forwards c.in_ok-y-in_default.ensures.forwards

pub union-requires-clause-x : goal.union-requires-clause-x
union-requires-clause-x g t c = front_within (halves g t (goal.at.union-requires-clause-x g t c).In_ok-y-in_default)

pub union-requires-clause-y : goal.union-requires-clause-y
union-requires-clause-y g t c = back_within (halves g t (goal.at.union-requires-clause-y g t c).In_ok-y-in_default)

pub union-requires-clause-x_idle_free : goal.union-requires-clause-x_idle_free
union-requires-clause-x_idle_free g t c = front_idle_free (halves g t (goal.at.union-requires-clause-x_idle_free g t c).In_ok-y-in_default)

pub union-requires-clause-y_idle_free : goal.union-requires-clause-y_idle_free
union-requires-clause-y_idle_free g t c = back_idle_free (halves g t (goal.at.union-requires-clause-y_idle_free g t c).In_ok-y-in_default)

pub union-requires-clause-fit : goal.union-requires-clause-fit
union-requires-clause-fit g t c = halves_together (halves g t (goal.at.union-requires-clause-fit g t c).In_ok-y-in_default) c.requires.fit

pub returns-in-len1-clause-forwards : goal.returns-in-len1-clause-forwards
returns-in-len1-clause-forwards g t c =
    let T = c.args.topology.now in
    IfOk-weaker c.forward.result (HasAt (IsForward T (policy_tree c.part-item.result.1)) c.forward.new.store)
    (HasAt (IsUnionOfParts T (part_trees c.args.parts.now)) c.forward.new.store)
    (one_at T c.args.parts.now c.part-item.result c.in-len1.len_below c.in-len1.len_at_least c.part-item.is c.forward.new.store) c.forward.ensures.forwards

pub returns-in_ok-id-in_default-clause-forwards : goal.returns-in_ok-id-in_default-clause-forwards
returns-in_ok-id-in_default-clause-forwards g t c =
    united_at (halves g t (goal.at.returns-in_ok-id-in_default-clause-forwards g t c).In_ok-y-in_default) c.union.new.store
    c.in_ok-id-in_default.id c.in_ok-id-in_default.ensures.unites
