use Rattle.std.proofs.Common.{arith, refl, sym, ◌∙◌}
use Rattle.pq_flowmod.proofs.OneMessage.{one_message}
use Rattle.pq_install.proofs.MessageLists.{front_of}
use Rattle.pq_install.proofs.read.lists.next_message.Goals as goal

-- the message that is there is none that the spelling has
pub returns-then-not-may_stand_in-clause-err : goal.returns-then-not-may_stand_in-clause-err
returns-then-not-may_stand_in-clause-err c =
    let found = c.in-Ok.ensures.ok in (
      refl,
      λ other rest fit e.
          let same = one_message c.in-Ok.message other _ rest found.0 fit.0 (sym (front_of c.args.bytes.now _ found.1) ∙ e) in
          grind (arith, c.may_stand_in.ensures.1 (rw same fit.1), c.if-not-may_stand_in.true),
    )
