use Rattle.std.proofs.Common.{◌≡◌, length}
use Rattle.pq_store.proofs.Marking.{MarksRoots}
use Rattle.pq_store.proofs.store.Store.marked.Given as goal

abbrev pub invariant-loop-root : goal.invariant-loop-root
invariant-loop-root g l = (length l.kept.items ≡ length l.self) × MarksRoots l.roots l.root-index l.kept.items
