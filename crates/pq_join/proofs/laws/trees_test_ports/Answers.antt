use Rattle.pq_join.proofs.ZeroPorts.{arriving_test_ports, leaving_test_ports}
use Rattle.pq_join.proofs.laws.trees_test_ports.Goals as goal

pub returns-clause-arriving : goal.returns-clause-arriving
returns-clause-arriving c = arriving_test_ports

pub returns-clause-leaving : goal.returns-clause-leaving
returns-clause-leaving c = leaving_test_ports
