use Rattle.std.proofs.Common.{◌≡◌, drop}
use Rattle.std.specs.List.{list_any}
use Rattle.pq_model.specs.Install.{ends_of}
use Rattle.pq_install.specs.Links.{same_end}
use Rattle.pq_install.proofs.read.links.is_linked.Given as goal

-- the links that are left tell the answer
abbrev pub invariant-loop-link : goal.invariant-loop-link
invariant-loop-link l = list_any (λ e. same_end e l.end) (ends_of (drop l.link-index l.links)) ≡ list_any (λ e. same_end e l.end) (ends_of l.links)
