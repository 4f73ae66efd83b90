use Rattle.std.proofs.Common.{subst, sym}
use Rattle.pq_rules.specs.Paths.{StaysLawful}
use Rattle.pq_rules.proofs.PathsLemmas.{stays_lawful}
use Rattle.pq_rules.proofs.entries.push_tree.Goals as goal

pub push_below-requires-clause-stays : goal.push_below-requires-clause-stays
push_below-requires-clause-stays g c = λ t is. subst (λ m. StaysLawful m t) (sym c.vlan_match-matching.ensures)
    (stays_lawful c.args.vlan t c.requires.vlan (c.requires.matchable t is))
