use Rattle.std.proofs.Common.{◌≡◌, drop}
use Rattle.indexmap.specs.IndexSet.{insert_all}
use Rattle.pq_delta.specs.Added.{entries_added}
use Rattle.pq_delta.specs.Equal.{same_entry}
use Rattle.pq_delta.specs.Keys.{keys_of}
use Rattle.pq_delta.proofs.key.keys_of.Given as goal

-- the entries so far, with those that are left
abbrev pub invariant-loop-message : goal.invariant-loop-message
invariant-loop-message l = insert_all same_entry l.keys.keys (entries_added (drop l.message-index l.messages)) ≡ keys_of (entries_added l.messages)
