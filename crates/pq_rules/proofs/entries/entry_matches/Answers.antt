use Rattle.pq_layout.specs.Entries.{matches_below, vlan_match}
use Rattle.pq_rules.proofs.FirstLemmas.{first_tells}
use Rattle.pq_rules.proofs.FoundLemmas.{found_alone}
use Rattle.pq_rules.proofs.entries.entry_matches.Goals as goal

pub returns-clause-matches : goal.returns-clause-matches
returns-clause-matches g c = λ t is.
    found_alone c.args.store.now (matches_below (vlan_match c.args.vlan) t) c.new-found.result.items c.push_tree.new.found.items
    c.new-found.ensures.items (c.in_ok-push_tree.ensures t is)

pub returns-clause-first : goal.returns-clause-first
returns-clause-first g c = λ t is.
    first_tells c.args.store.now t c.args.vlan c.push_tree.new.found.items (c.requires.matchable t is)
    (found_alone c.args.store.now (matches_below (vlan_match c.args.vlan) t) c.new-found.result.items c.push_tree.new.found.items
    c.new-found.ensures.items (c.in_ok-push_tree.ensures t is))
