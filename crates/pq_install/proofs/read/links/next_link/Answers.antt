use Rattle.std.proofs.Common.{arith, refl, ◌++◌, ◌∷◌, []}
use Rattle.pq_model.specs.Install.{link_bytes}
use Rattle.pq_install.specs.Links.{HasEnds, AreReadLinks}
use Rattle.pq_install.proofs.Sequences.{none_but}
use Rattle.pq_install.proofs.LinkUnits.{unique_link}
use Rattle.pq_install.proofs.LinkLists.{last_has_ends}
use Rattle.pq_install.proofs.read.links.next_link.Goals as goal

-- no link is there
pub returns-in_default-clause-err : goal.returns-in_default-clause-err
returns-in_default-clause-err c =
    (refl, λ l rest are e. c.in_default.ensures l rest (last_has_ends c.args.topology.now.switches c.args.before.now c.requires.switches l are) e)

-- the link that is there may not follow
pub returns-then-not-may_follow-clause-err : goal.returns-then-not-may_follow-clause-err
returns-then-not-may_follow-clause-err c = (
  refl,
  none_but HasEnds link_bytes unique_link (λ l. AreReadLinks c.args.topology.now.switches (c.args.before.now ++ l ∷ []))
      c.args.bytes.now _ _ (last_has_ends c.args.topology.now.switches c.args.before.now c.requires.switches) c.in-Some.ensures
      (λ are. grind (arith, c.may_follow.ensures.1 are, c.if-not-may_follow.true)),
)
