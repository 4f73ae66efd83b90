use Rattle.std.proofs.Common.{◌≡◌, ◌++◌, take, map}
use Rattle.std.specs.List.{flat_map}
use Rattle.pq_model.specs.Install.{list_bytes}
use Rattle.pq_install.proofs.lists.write_lists.Given as goal

-- the lists so far are appended
abbrev pub invariant-loop-list : goal.invariant-loop-list
invariant-loop-list l = l.into.items ≡ l.initial.into.items ++ flat_map list_bytes (map (λ ms. ms.items) (take l.list-index l.lists))
