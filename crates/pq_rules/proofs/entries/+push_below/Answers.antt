use Rattle.std.proofs.Common.{◌≡◌, ℕ, subst, sym, arith}
use Rattle.std.proofs.lemmas.Option.{slice_get_within}
use Rattle.pq_store.specs.Tree.Tree.{Fork}
use Rattle.pq_layout.specs.Entries.{matches_below}
use Rattle.pq_rules.specs.Found.{Finds}
use Rattle.pq_rules.specs.Paths.{StaysLawful}
use Rattle.pq_rules.proofs.FoundLemmas.{CompletesBelow, all_below, none_below, one_below, sides_stay}
use Rattle.pq_rules.proofs.entries.+push_below.Given.{Over}
use Rattle.pq_rules.proofs.entries.+push_below.Goals as goal
use Rattle.pq_rules.proofs.entries.+push_below.Goals.{In-Node}

-- the match stays lawful on the paths of the fork that is shown
stays : (g : Over) (t : ℕ) (c : In-Node g t)
    → StaysLawful c.loop-found.below (Fork c.in-Node.test c.in-Node.ensures.shows.yes_tree c.in-Node.ensures.shows.no_tree)
stays g t c = c.loop-found.invariant.2 (Fork c.in-Node.test c.in-Node.ensures.shows.yes_tree c.in-Node.ensures.shows.no_tree) c.in-Node.ensures.shows.is

pub loop-found-init : goal.loop-found-init
loop-found-init g t c = (omega arith, c.requires.node, c.requires.stays, none_below c.args.store.now c.args.node c.args.matching.now c.args.found.now.items)

pub returns-in-Leaf : goal.returns-in-Leaf
returns-in-Leaf g t c = λ u is.
    subst (λ es. Finds c.args.store.now (matches_below c.args.matching.now u) c.args.found.now.items es) (sym c.in_ok-push-in-Leaf.ensures.items)
    (all_below c.args.store.now c.args.node c.loop-found.at _ c.args.matching.now c.loop-found.below c.args.found.now.items
    c.loop-found.found.items c.in-Leaf.ensures.shows c.loop-found.invariant.3 u is)

pub passing-passed-requires-clause-test : goal.passing-passed-requires-clause-test
passing-passed-requires-clause-test g t c = (stays g t (goal.at.passing-passed-requires-clause-test g t c).In-Node).0

pub passing-passed-requires-clause-lawful : goal.passing-passed-requires-clause-lawful
passing-passed-requires-clause-lawful g t c = (stays g t (goal.at.passing-passed-requires-clause-lawful g t c).In-Node).1

pub push_below-requires : goal.push_below-requires
push_below-requires g t c κs within =
    let shows = c.in-Node.ensures.shows in
    let below = shows.yes_below in
    let first = c.loop-found.invariant.0 in
    let whole : c.args.node ≡ t = c.decreases in
    let inside = slice_get_within c.args.store.now c.in-Node.yes shows.yes_tree shows.yes_is in (
      omega arith,
      (
        within,
        (
          inside,
          λ u is.
              subst (λ m. StaysLawful m u) (sym c.passing-passed.ensures)
              (sides_stay c.args.store.now c.loop-found.at c.in-Node.yes c.in-Node.no c.in-Node.test c.loop-found.below shows
              c.loop-found.invariant.2 u shows.no_tree is shows.no_is).3,
        ),
      ),
    )

pub failing-below-requires-clause-test : goal.failing-below-requires-clause-test
failing-below-requires-clause-test g t c = (stays g t (goal.at.failing-below-requires-clause-test g t c).In-Node).0

pub failing-below-requires-clause-lawful : goal.failing-below-requires-clause-lawful
failing-below-requires-clause-lawful g t c = (stays g t (goal.at.failing-below-requires-clause-lawful g t c).In-Node).2

pub loop-found-preserved : goal.loop-found-preserved
loop-found-preserved g t c =
    let shows = c.in-Node.ensures.shows in
    let below = shows.no_below in
    let first = c.loop-found.invariant.0 in (
      omega arith,
      slice_get_within c.args.store.now c.in-Node.no shows.no_tree shows.no_is,
      (λ u is. subst (λ m. StaysLawful m u) (sym c.failing-below.ensures)
          (sides_stay c.args.store.now c.loop-found.at c.in-Node.yes c.in-Node.no c.in-Node.test c.loop-found.below shows
          c.loop-found.invariant.2 shows.yes_tree u shows.yes_is is).4),
      subst (λ m. CompletesBelow c.args.store.now c.args.node c.in-Node.no c.args.matching.now m c.args.found.now.items
          c.push_below.new.found.items) (sym c.failing-below.ensures)
          (one_below c.args.store.now c.args.node c.loop-found.at c.in-Node.yes c.in-Node.no c.in-Node.test c.args.matching.now
          c.loop-found.below c.args.found.now.items c.loop-found.found.items
          c.push_below.new.found.items shows
          (λ y at. subst (λ m. Finds c.args.store.now (matches_below m y) c.loop-found.found.items c.push_below.new.found.items)
          c.passing-passed.ensures (c.in_ok-push_below-in-Node.ensures y at))
          c.loop-found.invariant.3),
    )
