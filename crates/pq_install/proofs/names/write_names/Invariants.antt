use Rattle.std.proofs.Common.{◌≡◌, ◌++◌, take}
use Rattle.std.specs.List.{flat_map}
use Rattle.pq_model.specs.Install.{name_bytes}
use Rattle.pq_install.proofs.names.write_names.Given as goal

-- the names so far are appended
abbrev pub invariant-loop-name : goal.invariant-loop-name
invariant-loop-name l = l.into.items ≡ l.initial.into.items ++ flat_map name_bytes (take l.name-index l.names)
