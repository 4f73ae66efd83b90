use Rattle.std.proofs.Common.{◌≡◌, drop}
use Rattle.std.specs.Prelude.{find, bytes_eq}
use Rattle.pq_schedule.specs.Lines.{key_name}
use Rattle.pq_schedule.proofs.key.first_named.Given as goal

-- no key so far has the name
abbrev pub invariant-loop-key : goal.invariant-loop-key
invariant-loop-key l = find (λ key. bytes_eq (key_name key) l.name) (drop l.key-index l.keys) ≡ find (λ key. bytes_eq (key_name key) l.name) l.keys
