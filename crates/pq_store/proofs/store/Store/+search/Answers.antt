use Rattle.std.proofs.Common.{◌≡◌, ◌<◌, sym, subst, slice_get}
use Rattle.pq_store.specs.declared.test.Test.TheVariants.{Equal, Bit}
use Rattle.pq_store.specs.Store.{ShowsBranch}
use Rattle.pq_store.specs.Search.{GoesOn}
use Rattle.pq_store.proofs.LeastWeight.{visit_weight, visit_from_weight}
use Rattle.pq_store.proofs.LeastCalls.{seen_here, lighter_yes, lighter_no, yes_there, no_there, bit_address, bit_within, bit_room}
use Rattle.pq_store.proofs.LeastCalls.{bit_no_first, bit_yes_first, bit_visited, number_narrow, number_room, number_clear, number_goes_on}
use Rattle.pq_store.proofs.LeastCalls.{number_lighter, number_visited, value_first, rest_first, none_goes_on, next_goes_on, gap_room}
use Rattle.pq_store.proofs.LeastCalls.{next_room, yes_falls, rest_falls, no_falls, gap_visited, next_visited, last_room, last_first}
use Rattle.pq_store.proofs.LeastCalls.{last_falls, last_visited, none_visited, seen_visited, seen_visited_from, leaf_visited}
use Rattle.pq_store.proofs.store.Store.+search.Goals as goal

pub visit-returns-then-index-clause-visits : goal.visit-returns-then-index-clause-visits
visit-returns-then-index-clause-visits g t c =
    seen_visited c.args.self.now c.args.node c.args.first c.args.found.now.items c.args.seen.now.items
    (seen_here c.args.seen.now.items c.args.node c.node.inside.0 c.index.result.now _ c.node.view_is
    (subst (λ n. c.args.node < n) (sym c.requires.seen) c.requires.node) c.index.ensures c.if-index.true)

pub visit-visit-requires : goal.visit-visit-requires
visit-visit-requires g t c κs within =
    let s : ShowsBranch c.args.self.now c.args.node (Bit c.in-Bit.field c.in-Bit.index) c.in-Node.yes c.in-Node.no =
    subst (λ test. ShowsBranch c.args.self.now c.args.node test c.in-Node.yes c.in-Node.no) c.in-Bit.is c.in-Node.ensures.shows in
    let d : visit_weight (slice_get c.args.self.now c.args.node) ≡ t = c.decreases in (
      subst (λ n. visit_weight (slice_get c.args.self.now c.in-Node.no) < n) d
          (lighter_no c.args.self.now c.args.node c.in-Node.yes c.in-Node.no (Bit c.in-Bit.field c.in-Bit.index) s),
      (
        within,
        (
          no_there c.args.self.now c.args.node c.in-Node.yes c.in-Node.no (Bit c.in-Bit.field c.in-Bit.index) s,
          (
            c.requires.seen,
            bit_no_first c.args.self.now c.args.node c.in-Node.yes c.in-Node.no c.in-Bit.field c.in-Bit.index s
                c.in-Node.ensures.diagrams c.args.first c.requires.first,
          ),
        ),
      ),
    )

pub visit-with_bit-requires-clause-address : goal.visit-with_bit-requires-clause-address
visit-with_bit-requires-clause-address g t c =
    let s : ShowsBranch c.args.self.now c.args.node (Bit c.in-Bit.field c.in-Bit.index) c.in-Node.yes c.in-Node.no =
    subst (λ test. ShowsBranch c.args.self.now c.args.node test c.in-Node.yes c.in-Node.no) c.in-Bit.is c.in-Node.ensures.shows in
    bit_address c.args.self.now c.args.node c.in-Node.yes c.in-Node.no c.in-Bit.field c.in-Bit.index s c.in-Node.ensures.diagrams c.args.first c.requires.first

pub visit-with_bit-requires-clause-within : goal.visit-with_bit-requires-clause-within
visit-with_bit-requires-clause-within g t c =
    let s : ShowsBranch c.args.self.now c.args.node (Bit c.in-Bit.field c.in-Bit.index) c.in-Node.yes c.in-Node.no =
    subst (λ test. ShowsBranch c.args.self.now c.args.node test c.in-Node.yes c.in-Node.no) c.in-Bit.is c.in-Node.ensures.shows in
    bit_within c.args.self.now c.args.node c.in-Node.yes c.in-Node.no c.in-Bit.field c.in-Bit.index s c.in-Node.ensures.diagrams c.args.first c.requires.first

pub visit-with_bit-requires-clause-fits : goal.visit-with_bit-requires-clause-fits
visit-with_bit-requires-clause-fits g t c =
    let s : ShowsBranch c.args.self.now c.args.node (Bit c.in-Bit.field c.in-Bit.index) c.in-Node.yes c.in-Node.no =
    subst (λ test. ShowsBranch c.args.self.now c.args.node test c.in-Node.yes c.in-Node.no) c.in-Bit.is c.in-Node.ensures.shows in
    bit_room c.args.self.now c.args.node c.in-Node.yes c.in-Node.no c.in-Bit.field c.in-Bit.index s c.in-Node.ensures.diagrams c.args.first
    c.requires.first c.fits.ensures

pub visit-visit-requires-in-Bit : goal.visit-visit-requires-in-Bit
visit-visit-requires-in-Bit g t c κs within =
    let s : ShowsBranch c.args.self.now c.args.node (Bit c.in-Bit.field c.in-Bit.index) c.in-Node.yes c.in-Node.no =
    subst (λ test. ShowsBranch c.args.self.now c.args.node test c.in-Node.yes c.in-Node.no) c.in-Bit.is c.in-Node.ensures.shows in
    let d : visit_weight (slice_get c.args.self.now c.args.node) ≡ t = c.decreases in (
      subst (λ n. visit_weight (slice_get c.args.self.now c.in-Node.yes) < n) d
          (lighter_yes c.args.self.now c.args.node c.in-Node.yes c.in-Node.no (Bit c.in-Bit.field c.in-Bit.index) s),
      (
        within,
        (
          yes_there c.args.self.now c.args.node c.in-Node.yes c.in-Node.no (Bit c.in-Bit.field c.in-Bit.index) s,
          (
            c.in_ok-visit-in-Bit.ensures.seen,
            bit_yes_first c.args.self.now c.args.node c.in-Node.yes c.in-Node.no c.in-Bit.field c.in-Bit.index s c.in-Node.ensures.diagrams
                c.args.first c.requires.first c.with_bit.result c.with_bit.ensures,
          ),
        ),
      ),
    )

pub visit-visit_from-requires : goal.visit-visit_from-requires
visit-visit_from-requires g t c κs within =
    let s : ShowsBranch c.args.self.now c.args.node (Equal c.in-Equal.field c.in-Equal.field-1) c.in-Node.yes c.in-Node.no =
    subst (λ test. ShowsBranch c.args.self.now c.args.node test c.in-Node.yes c.in-Node.no) c.in-Equal.is c.in-Node.ensures.shows in
    let d : visit_weight (slice_get c.args.self.now c.args.node) ≡ t = c.decreases in (
      subst (λ n. visit_from_weight c.in-Equal.field (slice_get c.args.self.now c.args.node) < n) d
          (number_lighter c.args.self.now c.args.node c.in-Node.yes c.in-Node.no c.in-Equal.field c.in-Equal.field-1 s
          c.in-Node.ensures.diagrams),
      (
        within,
        (
          c.requires.node,
          (
            c.requires.seen,
            (
              number_narrow c.args.self.now c.args.node c.in-Node.yes c.in-Node.no c.in-Equal.field c.in-Equal.field-1 s
                  c.in-Node.ensures.diagrams,
              (
                number_clear c.args.self.now c.args.node c.in-Node.yes c.in-Node.no c.in-Equal.field c.in-Equal.field-1 s
                    c.in-Node.ensures.diagrams c.args.first c.requires.first,
                number_goes_on c.args.self.now c.args.node c.in-Node.yes c.in-Node.no c.in-Equal.field c.in-Equal.field-1 s
                    c.in-Node.ensures.diagrams,
              ),
            ),
          ),
        ),
      ),
    )

pub visit-returns-in_ok-push-in-Leaf-clause-visits : goal.visit-returns-in_ok-push-in-Leaf-clause-visits
visit-returns-in_ok-push-in-Leaf-clause-visits g t c =
    leaf_visited c.args.self.now c.args.node c.in-Leaf.field-0.now c.args.first c.in-Leaf.ensures.shows c.in-Leaf.ensures.canonical
    c.fits.ensures c.node-in-Leaf.inside.0 c.node-in-Leaf.view_is c.args.found.now.items c.push.new.self.items c.args.seen.now.items
    c.requires.seen
    (seen_here c.args.seen.now.items c.args.node c.node.inside.0 c.index.result.now _ c.node.view_is
    (subst (λ n. c.args.node < n) (sym c.requires.seen) c.requires.node) c.index.ensures c.if-index.false)
    c.in_ok-push-in-Leaf.ensures.items

pub visit-returns-in_ok-visit-in-Bit-2-clause-visits : goal.visit-returns-in_ok-visit-in-Bit-2-clause-visits
visit-returns-in_ok-visit-in-Bit-2-clause-visits g t c =
    let s : ShowsBranch c.args.self.now c.args.node (Bit c.in-Bit.field c.in-Bit.index) c.in-Node.yes c.in-Node.no =
    subst (λ test. ShowsBranch c.args.self.now c.args.node test c.in-Node.yes c.in-Node.no) c.in-Bit.is c.in-Node.ensures.shows in
    bit_visited c.args.self.now c.args.node c.in-Node.yes c.in-Node.no c.in-Bit.field c.in-Bit.index s c.in-Node.ensures.diagrams
    c.args.first c.requires.first c.with_bit.result c.with_bit.ensures c.node-in-Bit.inside.0 c.node-in-Bit.view_is
    c.args.found.now.items c.visit.new.found.items c.visit-in-Bit.new.found.items c.args.seen.now.items c.visit.new.seen.items
    c.visit-in-Bit.new.seen.items c.in_ok-visit-in-Bit-2.ensures.seen c.in_ok-visit-in-Bit.ensures.visits
    c.in_ok-visit-in-Bit-2.ensures.visits

pub visit-returns-in_ok-visit_from-in-Equal-clause-visits : goal.visit-returns-in_ok-visit_from-in-Equal-clause-visits
visit-returns-in_ok-visit_from-in-Equal-clause-visits g t c =
    let s : ShowsBranch c.args.self.now c.args.node (Equal c.in-Equal.field c.in-Equal.field-1) c.in-Node.yes c.in-Node.no =
    subst (λ test. ShowsBranch c.args.self.now c.args.node test c.in-Node.yes c.in-Node.no) c.in-Equal.is c.in-Node.ensures.shows in
    number_visited c.args.self.now c.args.node c.in-Node.yes c.in-Node.no c.in-Equal.field c.in-Equal.field-1 s c.in-Node.ensures.diagrams
    c.args.first c.fits.ensures c.requires.first c.args.found.now.items c.visit_from.new.found.items c.args.seen.now.items
    c.visit_from.new.seen.items c.in_ok-visit_from-in-Equal.ensures.visits

pub visit_from-returns-then-index-clause-visits : goal.visit_from-returns-then-index-clause-visits
visit_from-returns-then-index-clause-visits g t c =
    seen_visited_from c.args.self.now c.args.node c.args.field c.args.gap c.args.first c.args.found.now.items c.args.seen.now.items
    (seen_here c.args.seen.now.items c.args.node c.node.inside.0 c.index.result.now _ c.node.view_is
    (subst (λ n. c.args.node < n) (sym c.requires.seen) c.requires.node) c.index.ensures c.if-index.true)

pub visit_from-with-requires-clause-fits : goal.visit_from-with-requires-clause-fits
visit_from-with-requires-clause-fits g t c =
    last_room c.args.self.now c.args.node c.args.field c.args.gap c.args.first c.requires.node c.in_default.ensures.diagrams
    c.in_default.ensures.link c.requires.goes_on c.requires.clear c.in-Some-gap.free c.in-Some-gap.is

pub visit_from-visit-requires : goal.visit_from-visit-requires
visit_from-visit-requires g t c κs within =
    let d : visit_from_weight c.args.field (slice_get c.args.self.now c.args.node) ≡ t = c.decreases in (
      subst (λ n. visit_weight (slice_get c.args.self.now c.args.node) < n) d
          (last_falls c.args.self.now c.args.node c.args.field c.args.gap c.args.first c.requires.node c.in_default.ensures.diagrams
          c.in_default.ensures.link c.requires.goes_on c.requires.clear),
      (
        within,
        (
          c.requires.node,
          (
            c.requires.seen,
            last_first c.args.self.now c.args.node c.args.field c.args.gap c.args.first c.requires.node
                c.in_default.ensures.diagrams c.in_default.ensures.link c.requires.goes_on c.requires.clear c.in-Some-gap.free c.with.result
                c.with.ensures,
          ),
        ),
      ),
    )

pub visit_from-returns-in_ok-visit-clause-visits : goal.visit_from-returns-in_ok-visit-clause-visits
visit_from-returns-in_ok-visit-clause-visits g t c =
    last_visited c.args.self.now c.args.node c.args.field c.args.gap c.args.first c.requires.node c.in_default.ensures.diagrams
    c.in_default.ensures.link c.requires.goes_on c.requires.clear c.in-Some-gap.free c.in-Some-gap.is c.with.result c.with.ensures
    c.args.found.now.items c.visit.new.found.items c.args.seen.now.items c.visit.new.seen.items c.in_ok-visit.ensures.visits

pub visit_from-returns-in_default-gap-clause-visits : goal.visit_from-returns-in_default-gap-clause-visits
visit_from-returns-in_default-gap-clause-visits g t c =
    none_visited c.args.self.now c.args.node c.args.field c.args.gap c.args.first c.requires.node c.in_default.ensures.diagrams
    c.in_default.ensures.link c.requires.goes_on c.requires.clear c.in_default-gap.is c.args.found.now.items c.args.seen.now.items

pub visit_from-with-requires-in-Some-untested_below-clause-fits : goal.visit_from-with-requires-in-Some-untested_below-clause-fits
visit_from-with-requires-in-Some-untested_below-clause-fits g t c =
    gap_room c.args.self.now c.args.node c.in-Some.link.yes c.in-Some.link.no c.args.field c.in-Some.link.value c.in-Some.ensures.link
    c.in-Some.ensures.diagrams c.args.gap c.in-Some-untested_below.free c.in-Some-untested_below.ensures.0 c.requires.goes_on

pub visit_from-visit-requires-in-Some-untested_below : goal.visit_from-visit-requires-in-Some-untested_below
visit_from-visit-requires-in-Some-untested_below g t c κs within =
    let d : visit_from_weight c.args.field (slice_get c.args.self.now c.args.node) ≡ t = c.decreases in (
      subst (λ n. visit_weight (slice_get c.args.self.now c.past-behind.result) < n) d
          (rest_falls c.args.self.now c.args.node c.in-Some.link.yes c.in-Some.link.no c.args.field c.in-Some.link.value
          c.in-Some.ensures.link c.in-Some.ensures.diagrams c.past-behind.result c.past-behind.ensures.past),
      (
        within,
        (
          c.past-behind.ensures.within,
          (
            c.requires.seen,
            rest_first c.args.self.now c.args.node c.in-Some.link.yes c.in-Some.link.no c.args.field c.in-Some.link.value
                c.in-Some.ensures.link c.in-Some.ensures.diagrams c.args.first c.requires.clear c.in-Some-untested_below.free c.past-behind.result
                c.past-behind.ensures.past c.with-in-Some-untested_below.result c.with-in-Some-untested_below.ensures,
          ),
        ),
      ),
    )

pub visit_from-with-requires-in-Some-untested_below-2-clause-fits : goal.visit_from-with-requires-in-Some-untested_below-2-clause-fits
visit_from-with-requires-in-Some-untested_below-2-clause-fits g t c =
    number_room c.args.self.now c.args.node c.in-Some.link.yes c.in-Some.link.no c.args.field c.in-Some.link.value c.in-Some.ensures.link
    c.in-Some.ensures.diagrams

pub visit_from-visit-requires-in-Some-untested_below-2 : goal.visit_from-visit-requires-in-Some-untested_below-2
visit_from-visit-requires-in-Some-untested_below-2 g t c κs within =
    let d : visit_from_weight c.args.field (slice_get c.args.self.now c.args.node) ≡ t = c.decreases in (
      subst (λ n. visit_weight (slice_get c.args.self.now c.in-Some.link.yes) < n) d
          (yes_falls c.args.self.now c.args.node c.in-Some.link.yes c.in-Some.link.no c.args.field c.in-Some.link.value c.in-Some.ensures.link
          c.in-Some.ensures.diagrams),
      (
        within,
        (
          yes_there c.args.self.now c.args.node c.in-Some.link.yes c.in-Some.link.no
              (Equal c.args.field c.in-Some.link.value) c.in-Some.ensures.link,
          (
            c.in_ok-visit-2.ensures.seen,
            value_first c.args.self.now c.args.node c.in-Some.link.yes c.in-Some.link.no c.args.field c.in-Some.link.value
                c.in-Some.ensures.link c.in-Some.ensures.diagrams c.args.first c.requires.clear c.with-in-Some-untested_below-2.result
                c.with-in-Some-untested_below-2.ensures,
          ),
        ),
      ),
    )

pub visit_from-visit_from-requires : goal.visit_from-visit_from-requires
visit_from-visit_from-requires g t c κs within =
    let d : visit_from_weight c.args.field (slice_get c.args.self.now c.args.node) ≡ t = c.decreases in (
      subst (λ n. visit_from_weight c.args.field (slice_get c.args.self.now c.in-Some.link.no) < n) d
          (no_falls c.args.self.now c.args.node c.in-Some.link.yes c.in-Some.link.no c.args.field c.in-Some.link.value c.in-Some.ensures.link
          c.in-Some.ensures.diagrams),
      (
        within,
        (
          no_there c.args.self.now c.args.node c.in-Some.link.yes c.in-Some.link.no
              (Equal c.args.field c.in-Some.link.value) c.in-Some.ensures.link,
          (
            c.in_ok-visit-3.ensures.seen,
            (
              c.requires.narrow,
              (
                c.requires.clear,
                none_goes_on c.args.self.now c.args.node c.in-Some.link.yes c.in-Some.link.no c.args.field c.in-Some.link.value
                    c.in-Some.ensures.link c.in-Some.ensures.diagrams,
              ),
            ),
          ),
        ),
      ),
    )

pub visit_from-returns-in-Some-untested_below-clause-visits : goal.visit_from-returns-in-Some-untested_below-clause-visits
visit_from-returns-in-Some-untested_below-clause-visits g t c =
    gap_visited c.args.self.now c.args.node c.in-Some.link.yes c.in-Some.link.no c.args.field c.in-Some.link.value c.in-Some.ensures.link
    c.in-Some.ensures.diagrams c.args.first c.requires.clear c.node-in-Some-untested_below.inside.0
    c.node-in-Some-untested_below.view_is c.args.gap c.in-Some-untested_below.free c.in-Some-untested_below.ensures c.past-behind.result
    c.past-behind.ensures.past c.with-in-Some-untested_below.result c.with-in-Some-untested_below.ensures
    c.with-in-Some-untested_below-2.result c.with-in-Some-untested_below-2.ensures
    c.args.found.now.items c.visit-in-Some-untested_below.new.found.items c.visit-in-Some-untested_below-2.new.found.items
    c.visit_from.new.found.items c.args.seen.now.items c.visit-in-Some-untested_below.new.seen.items
    c.visit-in-Some-untested_below-2.new.seen.items c.visit_from.new.seen.items
    c.in_ok-visit_from.ensures.seen c.in_ok-visit-2.ensures.visits c.in_ok-visit-3.ensures.visits c.in_ok-visit_from.ensures.visits

pub visit_from-with-requires-2-clause-fits : goal.visit_from-with-requires-2-clause-fits
visit_from-with-requires-2-clause-fits g t c =
    number_room c.args.self.now c.args.node c.in-Some.link.yes c.in-Some.link.no c.args.field c.in-Some.link.value c.in-Some.ensures.link
    c.in-Some.ensures.diagrams

pub visit_from-visit-requires-2 : goal.visit_from-visit-requires-2
visit_from-visit-requires-2 g t c κs within =
    let d : visit_from_weight c.args.field (slice_get c.args.self.now c.args.node) ≡ t = c.decreases in (
      subst (λ n. visit_weight (slice_get c.args.self.now c.in-Some.link.yes) < n) d
          (yes_falls c.args.self.now c.args.node c.in-Some.link.yes c.in-Some.link.no c.args.field c.in-Some.link.value c.in-Some.ensures.link
          c.in-Some.ensures.diagrams),
      (
        within,
        (
          yes_there c.args.self.now c.args.node c.in-Some.link.yes c.in-Some.link.no
              (Equal c.args.field c.in-Some.link.value) c.in-Some.ensures.link,
          (
            c.requires.seen,
            value_first c.args.self.now c.args.node c.in-Some.link.yes c.in-Some.link.no c.args.field c.in-Some.link.value
                c.in-Some.ensures.link c.in-Some.ensures.diagrams c.args.first c.requires.clear c.with-2.result c.with-2.ensures,
          ),
        ),
      ),
    )

pub visit_from-raised-requires : goal.visit_from-raised-requires
visit_from-raised-requires g t c =
    next_room c.args.self.now c.args.node c.in-Some.link.yes c.in-Some.link.no c.args.field c.in-Some.link.value c.in-Some.ensures.link
    c.in-Some.ensures.diagrams c.args.gap c.requires.goes_on

pub visit_from-visit_from-requires-2 : goal.visit_from-visit_from-requires-2
visit_from-visit_from-requires-2 g t c κs within =
    let d : visit_from_weight c.args.field (slice_get c.args.self.now c.args.node) ≡ t = c.decreases in (
      subst (λ n. visit_from_weight c.args.field (slice_get c.args.self.now c.in-Some.link.no) < n) d
          (no_falls c.args.self.now c.args.node c.in-Some.link.yes c.in-Some.link.no c.args.field c.in-Some.link.value c.in-Some.ensures.link
          c.in-Some.ensures.diagrams),
      (
        within,
        (
          no_there c.args.self.now c.args.node c.in-Some.link.yes c.in-Some.link.no
              (Equal c.args.field c.in-Some.link.value) c.in-Some.ensures.link,
          (
            c.in_ok-visit-4.ensures.seen,
            (
              c.requires.narrow,
              (
                c.requires.clear,
                λ u at. subst (λ gap. GoesOn c.args.field gap u) (sym c.raised.ensures)
                    (next_goes_on c.args.self.now c.args.node c.in-Some.link.yes c.in-Some.link.no c.args.field c.in-Some.link.value
                    c.in-Some.ensures.link c.in-Some.ensures.diagrams c.args.gap c.requires.goes_on u at),
              ),
            ),
          ),
        ),
      ),
    )

pub visit_from-returns-clause-visits : goal.visit_from-returns-clause-visits
visit_from-returns-clause-visits g t c =
    next_visited c.args.self.now c.args.node c.in-Some.link.yes c.in-Some.link.no c.args.field c.in-Some.link.value c.in-Some.ensures.link
    c.in-Some.ensures.diagrams c.args.first c.requires.clear c.node-2.inside.0 c.node-2.view_is c.args.gap
    c.in_default-untested_below.ensures c.raised.result c.raised.ensures c.with-2.result c.with-2.ensures
    c.args.found.now.items c.visit-2.new.found.items c.visit_from-2.new.found.items c.args.seen.now.items c.visit-2.new.seen.items c.visit_from-2.new.seen.items
    c.in_ok-visit_from-2.ensures.seen c.in_ok-visit-4.ensures.visits c.in_ok-visit_from-2.ensures.visits
