use Rattle.std.proofs.Common.{◌<◌, ◌∙◌, length, sym, subst}
use Rattle.std.specs.Prelude.{All}
use Rattle.pq_store.specs.Compaction.{IsCompaction}
use Rattle.pq_sum.specs.Places.{Sum}
use Rattle.pq_sum.specs.Calls.{IsSameSum, IsSumIn}
use Rattle.pq_sum.proofs.Summed.{is_same_sum, sum_within}
use Rattle.pq_sum.proofs.sum.Sum.copied.Goals as goal

pub compacted-requires-clause-roots : goal.compacted-requires-clause-roots
compacted-requires-clause-roots c =
    let s : Sum = record { cells = c.self.inside.cells.items; slots = c.self.inside.slots.items } in
    subst (λ l. All (λ id. id < length c.args.store.now) l) (sym c.deref.ensures.value)
    (sum_within c.args.store.now s (subst (λ t. IsSumIn c.args.store.now t) (sym c.self.view_is) c.requires))

pub returns-clause-same : goal.returns-clause-same
returns-clause-same c =
    let s : Sum = record { cells = c.self.inside.cells.items; slots = c.self.inside.slots.items } in
    subst (λ t. IsSameSum c.args.store.now t c.in_ok-compact.compact
    (record { cells = c.in_ok-compact.cells.items; slots = c.in_ok-slots.slots.items })) c.self.view_is
    (is_same_sum c.args.store.now c.in_ok-compact.compact s c.in_ok-compact.cells.items c.in_ok-slots.slots.items
    (c.in_ok-slots.ensures.items ∙ c.deref-2.ensures.value)
    (subst (λ l. IsCompaction c.args.store.now l c.in_ok-compact.compact c.in_ok-compact.cells.items) c.deref.ensures.value c.in_ok-compact.ensures))

pub returns-clause-compact : goal.returns-clause-compact
returns-clause-compact c =
    subst (λ (t : Sum). IsCompaction c.args.store.now t.cells c.in_ok-compact.compact c.in_ok-compact.cells.items) c.self.view_is
    (subst (λ l. IsCompaction c.args.store.now l c.in_ok-compact.compact c.in_ok-compact.cells.items) c.deref.ensures.value c.in_ok-compact.ensures)
