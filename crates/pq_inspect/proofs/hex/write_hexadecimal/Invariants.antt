use Rattle.std.proofs.Common.{◌≡◌, [], ◌∷◌, ◌++◌, drop}
use Rattle.json.specs.Print.{escape}
use Rattle.pq_inspect.specs.Inspection.{hexadecimal}
use Rattle.pq_inspect.proofs.hex.write_hexadecimal.Given as goal

-- with the digits of the bytes that are left and the closing quote it is the whole text
abbrev pub invariant-loop-byte : goal.invariant-loop-byte
invariant-loop-byte l = l.into.items ++ (escape (hexadecimal (drop l.byte-index l.bytes)) ++ 34 ∷ [])
    ≡ l.initial.into.items ++ (escape (hexadecimal l.bytes) ++ 34 ∷ [])
