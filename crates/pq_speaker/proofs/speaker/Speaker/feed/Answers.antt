use Rattle.std.proofs.Common.{◌≡◌, [], ◌++◌, drop, refl, sym, ap, subst, ◌∙◌}
use Rattle.pq_speaker.specs.Division.{divided}
use Rattle.pq_speaker.specs.Rules.{replies_bytes}
use Rattle.pq_speaker.specs.Speaking.{Heard, IsState, State, heard, heard_of}
use Rattle.pq_speaker.proofs.Dividing.{rest-uncut}
use Rattle.pq_speaker.proofs.Pieces.{failed-heard, heard-is, heard-waiting}
use Rattle.pq_speaker.proofs.speaker.Speaker.feed.Goals as goal

pub returns-then-has_failed-clause-state : goal.returns-then-has_failed-clause-state
returns-then-has_failed-clause-state c =
    let before : State = record { session = c.self.inside.session; talk = c.self.inside.talk; waiting = c.self.inside.waiting.items } in
    let stays = failed-heard before c.args.piece.now (sym c.has_failed.ensures ∙ c.if-has_failed.true) c.self.invariant in
    sym c.self.view_is ∙ ap (λ (h : Heard). h.state) (sym stays) ∙ ap (λ s. (heard s c.args.piece.now).state) c.self.view_is

pub returns-then-has_failed-clause-sent : goal.returns-then-has_failed-clause-sent
returns-then-has_failed-clause-sent c =
    let before : State = record { session = c.self.inside.session; talk = c.self.inside.talk; waiting = c.self.inside.waiting.items } in
    let stays = failed-heard before c.args.piece.now (sym c.has_failed.ensures ∙ c.if-has_failed.true) c.self.invariant in
    c.new.ensures.items
    ∙ ap (λ (h : Heard). replies_bytes before.session.messages h.replies) (sym stays)
    ∙ ap (λ (s : State). replies_bytes s.session.messages (heard s c.args.piece.now).replies) c.self.view_is

pub invariant_of-self-in-Ok : goal.invariant_of-self-in-Ok
invariant_of-self-in-Ok c =
    let bytes = c.deref.result.now in
    let waits : c.forget.new.waiting.items ≡ drop c.in-Ok.progress.used bytes = c.forget.ensures
    ∙ ap (drop c.in-Ok.progress.used) (sym c.deref.ensures.value) in
    subst (λ l. IsState (record { session = c.self.inside.session; talk = c.in-Ok.progress.talk; waiting = l })) (sym waits)
    (subst IsState c.in-Ok.ensures.state (heard-is c.self.inside.session c.self.inside.talk (divided [] bytes) (rest-uncut [] bytes refl)))

pub returns-in-Ok-clause-state : goal.returns-in-Ok-clause-state
returns-in-Ok-clause-state c =
    let before : State = record { session = c.self.inside.session; talk = c.self.inside.talk; waiting = c.self.inside.waiting.items } in
    let bytes = c.deref.result.now in
    let all : bytes ≡ c.self.inside.waiting.items ++ c.args.piece.now = c.deref.ensures.value ∙ c.in_ok-extend_from_slice.ensures.items in
    (λ i. record {
      session = c.self.inside.session;
      talk = c.in-Ok.progress.talk;
      waiting = (c.forget.ensures ∙ ap (drop c.in-Ok.progress.used) (sym c.deref.ensures.value)) i;
    })
    ∙ sym c.in-Ok.ensures.state
    ∙ ap (λ l. (heard_of before.session before.talk (divided [] l)).state) all
    ∙ ap (λ (h : Heard). h.state) (heard-waiting before c.args.piece.now c.self.invariant)
    ∙ ap (λ s. (heard s c.args.piece.now).state) c.self.view_is

pub returns-in-Ok-clause-sent : goal.returns-in-Ok-clause-sent
returns-in-Ok-clause-sent c =
    let before : State = record { session = c.self.inside.session; talk = c.self.inside.talk; waiting = c.self.inside.waiting.items } in
    let bytes = c.deref.result.now in
    let all : bytes ≡ c.self.inside.waiting.items ++ c.args.piece.now = c.deref.ensures.value ∙ c.in_ok-extend_from_slice.ensures.items in
    c.in-Ok.ensures.sent
    ∙ ap (λ l. replies_bytes before.session.messages (heard_of before.session before.talk (divided [] l)).replies) all
    ∙ ap (λ (h : Heard). replies_bytes before.session.messages h.replies) (heard-waiting before c.args.piece.now c.self.invariant)
    ∙ ap (λ (s : State). replies_bytes s.session.messages (heard s c.args.piece.now).replies) c.self.view_is
