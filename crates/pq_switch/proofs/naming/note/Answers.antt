use Rattle.std.proofs.Common.{get_or, subst, sym}
use Rattle.std.proofs.lemmas.List.{drop_all, get_or_default}
use Rattle.pq_model.specs.declared.action.Action.TheVariants.{Output}
use Rattle.pq_switch.specs.Namings.{AreNoted}
use Rattle.pq_switch.proofs.Noted.{completes-more, grows-itself}
use Rattle.pq_switch.proofs.naming.note.Goals as goal

pub loop-action-init : goal.loop-action-init
loop-action-init c = record {
  grows = grows-itself c.args.index.now.keys;
  lacks = λ more grows all. all;
}

pub loop-action-preserved : goal.loop-action-preserved
loop-action-preserved c =
    let i = c.loop-action.action-index in
    let a = get_or c.args.actions.now i (Output 0) in
    record {
      grows = λ g p h. c.note_one.ensures.kept g p (c.loop-action.invariant.grows g p h);
      lacks = completes-more c.loop-action.index.keys c.note_one.new.index.keys c.args.place c.args.actions.now i a c.loop-action-test.true
          (get_or_default c.args.actions.now i (Output 0) a c.loop-action-test.true) c.in_ok-note_one.ensures.ok c.note_one.ensures.kept
          c.loop-action.invariant.lacks;
    }

pub returns-clause-ok : goal.returns-clause-ok
returns-clause-ok c =
    let index = c.loop-action.index.keys in
    c.loop-action.invariant.lacks index (grows-itself index)
    (subst (AreNoted index c.args.place) (sym (drop_all c.loop-action.action-index c.args.actions.now c.loop-action-test.false)) tt)
