use Rattle.std.proofs.Common.{◌≢◌, [], arith}
use Rattle.std.proofs.lemmas.Bool.Decides.{nat_tests}
use Rattle.pq_install.proofs.Ports.{tells_ports}
use Rattle.pq_install.proofs.read.switches.are_ports.Goals as goal

pub returns : goal.returns
returns c =
    let some : c.args.ports.now ≢ [] = λ none. grind (arith, nat_tests, c.is_empty.ensures, c.if-is_empty.false, none) in
    rw c.ascend.ensures (tells_ports c.args.ports.now some (omega (arith, c.if-ports-gt-MOST_PORTS.false)))
