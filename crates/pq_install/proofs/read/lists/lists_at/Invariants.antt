use Rattle.std.proofs.Common.{◌≡◌, length, map, All}
use Rattle.std.specs.List.{flat_map}
use Rattle.pq_model.specs.Install.{list_bytes}
use Rattle.pq_install.specs.Damage.{IsReadList}
use Rattle.pq_install.specs.Front.{IsAtFront}
use Rattle.pq_install.proofs.read.lists.lists_at.Given as goal

-- the lists so far are at the front
abbrev pub invariant-loop : goal.invariant-loop
invariant-loop l = (length l.lists.items ≡ l.counter) × IsAtFront (All (IsReadList l.version)) (flat_map list_bytes) l.bytes
    (map (λ ms. ms.items) l.lists.items) l.rest
