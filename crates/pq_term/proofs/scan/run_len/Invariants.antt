use Rattle.std.proofs.Common.{◌≡◌, ◌+◌, drop}
use Rattle.std.specs.List.{prefix_len}
use Rattle.pq_term.specs.Bytes.{is_run_byte}
use Rattle.pq_term.proofs.scan.run_len.Given as goal

-- what was seen is of the run
abbrev pub invariant-loop-len : goal.invariant-loop-len
invariant-loop-len l = l.len + prefix_len is_run_byte (drop l.len l.text) ≡ prefix_len is_run_byte l.text
