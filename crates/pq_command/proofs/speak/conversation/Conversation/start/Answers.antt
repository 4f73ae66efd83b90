use Rattle.std.proofs.Common.{arith, ◌≡◌, ◌∙◌, ◌-◌, ℕ, List, ap, drop, length, subst, take}
use Rattle.std.proofs.lemmas.List.{take_rest}
use Rattle.pq_command.specs.Speaks.{Bars, IsOpened, IsTurnEnd, said, session_of, talk_after}
use Rattle.pq_command.proofs.Turns.{begun, start-bars, start-ends, unread-stops}
use Rattle.pq_command.proofs.speak.conversation.Conversation.start.Goals as goal

pub returns-in-Err-clause-err : goal.returns-in-Err-clause-err
returns-in-Err-clause-err g c =
    let e = c.in-Err.ensures.err in
    rw c.outcome_of.ensures (unread-stops c.args.datapath _ _ (g.K.Sink.put c.args.sink.now) e.0 c.in-Err.unread e.1 e.2)

pub returns-in-Err-opening_of-clause-err : goal.returns-in-Err-opening_of-clause-err
returns-in-Err-opening_of-clause-err g c =
    let ok = c.in-Ok.ensures.ok in
    start-bars c.args.datapath _ _ (g.K.Sink.put c.args.sink.now) c.in-Ok.text.items c.in-Err-opening_of.outcome ok.1 ok.0 ok.2
    (subst (Bars c.args.datapath c.in-Err-opening_of.outcome) c.deref.ensures.value c.in-Err-opening_of.ensures.err)

pub returns-in-Ok-greet-clause-under_way : goal.returns-in-Ok-greet-clause-under_way
returns-in-Ok-greet-clause-under_way g c =
    let ok = c.in-Ok.ensures.ok in
    let at = c.in-Ok-opening_of.opening.at in
    let messages = c.in-Ok-opening_of.opening.messages.items in
    let first : take (length c.deref-2.result.now - at) (drop at c.deref-2.result.now) ≡ drop at c.in-Ok.text.items =
    take_rest c.deref-2.result.now at ∙ ap (drop at) c.deref-2.ensures.value in
    let opened : IsOpened c.args.datapath c.in-Ok.text.items (session_of c.args.datapath messages) (drop at c.in-Ok.text.items) =
    subst (λ (t : List ℕ). IsOpened c.args.datapath t (session_of c.args.datapath messages) (drop at t)) c.deref.ensures.value
    c.in-Ok-opening_of.ensures.opened in (
      c.in-Ok.text.items,
      begun c.args.datapath _ _ (g.K.Sink.put c.args.sink.now) (g.K.Sink.put c.greet.new.sink) c.in-Ok.text.items _ at messages c.in-Ok-greet.speaker ok.1
          opened first c.in-Ok-greet.ensures.state c.in-Ok-greet.ensures.put c.in-Ok-greet.ensures.going,
      omega (arith, c.in-Ok.text.ok, c.len.ensures),
      omega (arith, c.in-Ok.text.ok, c.len.ensures, ok.0),
    )

pub returns-clause-err : goal.returns-clause-err
returns-clause-err g c =
    let ok = c.in-Ok.ensures.ok in
    let at = c.in-Ok-opening_of.opening.at in
    let messages = c.in-Ok-opening_of.opening.messages.items in
    let first : take (length c.deref-2.result.now - at) (drop at c.deref-2.result.now) ≡ drop at c.in-Ok.text.items =
    take_rest c.deref-2.result.now at ∙ ap (drop at) c.deref-2.ensures.value in
    let opened : IsOpened c.args.datapath c.in-Ok.text.items (session_of c.args.datapath messages) (drop at c.in-Ok.text.items) =
    subst (λ (t : List ℕ). IsOpened c.args.datapath t (session_of c.args.datapath messages) (drop at t)) c.deref.ensures.value
    c.in-Ok-opening_of.ensures.opened in
    start-ends c.args.datapath _ _ (g.K.Sink.put c.args.sink.now) (g.K.Sink.put c.greet.new.sink) c.in-Ok.text.items (session_of c.args.datapath messages)
    (drop at c.in-Ok.text.items) c.in-Err-greet.outcome ok.1 ok.0 ok.2 opened
    (subst (λ (came : List ℕ). IsTurnEnd (talk_after (session_of c.args.datapath messages) came) (said (session_of c.args.datapath messages) came)
    c.in-Err-greet.outcome (g.K.Sink.put c.args.sink.now) (g.K.Sink.put c.greet.new.sink)) first c.in-Err-greet.ensures.err)
