use Rattle.policy_sizes.specs.Routes.{any_of, first_routes}
use Rattle.policy_sizes.proofs.Nowhere.{fits_nowhere}
use Rattle.policy_sizes.proofs.Operands.{routes_example}
use Rattle.policy_sizes.proofs.sizes.routes_size.Goals as goal

pub size_of-requires-clause-lawful : goal.size_of-requires-clause-lawful
size_of-requires-clause-lawful c = let example = routes_example c.args.count c.requires in rw c.in_ok-policy.ensures example.lawful

pub size_of-requires-clause-fit : goal.size_of-requires-clause-fit
size_of-requires-clause-fit c =
    rw (c.in_ok-policy.ensures, c.nowhere-topology.ensures)
    (fits_nowhere (any_of (first_routes c.args.count)) (routes_example c.args.count c.requires))
