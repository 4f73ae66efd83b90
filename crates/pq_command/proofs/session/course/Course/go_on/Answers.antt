use Rattle.std.proofs.Common.{◌∙◌, arith, subst, sym}
use Rattle.std.specs.Io.KnownBytes.{Appends}
use Rattle.pq_command.specs.Answers.{streams}
use Rattle.pq_command.specs.Sessions.{IsCut, IsGoingOn, IsSessionAnswer, IsStep, current_of}
use Rattle.pq_command.proofs.Courses.{full, later_cut, later_memory, later_put, later_unread}
use Rattle.pq_command.proofs.session.course.Course.go_on.Goals as goal

pub returns-then-self-clause-answer : goal.returns-then-self-clause-answer
returns-then-self-clause-answer g c left before first =
    let t = c.loop-turn in
    let rest = g.S.Source.left t.source in
    let put = g.K.Sink.put t.sink in
    let going = subst (λ b. IsGoingOn (streams left rest before put) t.self.pieces.pending b (current_of t.self.engine) t.turn)
    c.if-self.true (t.invariant.going_on left before first) in
    c.finish.ensures.answer left rest before t.turn going (omega (arith, c.loop-turn-test.true))

pub returns-in-Err-clause-answer : goal.returns-in-Err-clause-answer
returns-in-Err-clause-answer g c left before first =
    let t = c.loop-turn in
    let mid = g.S.Source.left t.source in
    let now = g.S.Source.left c.next_piece.new.source in
    let put = g.K.Sink.put t.sink in
    let going = subst (λ b. IsGoingOn (streams left mid before put) t.self.pieces.pending b (current_of t.self.engine) t.turn)
    c.if-self.false (t.invariant.going_on left before first) in
    subst (λ o. IsSessionAnswer o (streams left now before put)) (sym c.outcome_of.ensures)
    (later_unread left mid now before put t.self.pieces.pending (current_of t.self.engine) t.turn c.in-Err.unread going c.in-Err.ensures.unread)

pub returns-in_default-clause-answer : goal.returns-in_default-clause-answer
returns-in_default-clause-answer g c left before first =
    let t = c.loop-turn in
    let mid = g.S.Source.left t.source in
    let now = g.S.Source.left c.next_piece.new.source in
    let put = g.K.Sink.put t.sink in
    let going = subst (λ b. IsGoingOn (streams left mid before put) t.self.pieces.pending b (current_of t.self.engine) t.turn)
    c.if-self.false (t.invariant.going_on left before first) in
    later_memory left mid now before put t.self.pieces.pending c.next_piece.new.self.pending
    (current_of t.self.engine) t.turn c.in-Ok.piece going c.in-Ok.ensures.next

pub returns-in-Err-put-clause-answer : goal.returns-in-Err-put-clause-answer
returns-in-Err-put-clause-answer g c left before first =
    let t = c.loop-turn in
    let mid = g.S.Source.left t.source in
    let now = g.S.Source.left c.next_piece.new.source in
    let middle = g.K.Sink.put t.sink in
    let after = g.K.Sink.put c.put.new.sink in
    let frame = c.in-Ok-step.frame.items in
    let old = current_of t.self.engine in
    let next = current_of c.step.new.engine in
    let going = subst (λ b. IsGoingOn (streams left mid before middle) t.self.pieces.pending b old t.turn) c.if-self.false
    (t.invariant.going_on left before first) in
    let step = subst (λ p. IsStep old p frame next) c.deref.ensures.value c.in-Ok-step.ensures in
    let cut = subst (λ f. IsCut c.in-Err-put.outcome middle after f) c.deref-in-loop-turn.ensures.value c.in-Err-put.ensures.cut in
    later_cut left mid now before middle after t.self.pieces.pending c.next_piece.new.self.pending frame old next t.turn c.in-Ok.piece c.in-Err-put.outcome
    going c.in-Ok.ensures.next step cut c.in-Ok.ensures.few (omega (arith, c.loop-turn-test.true))

pub loop-turn-preserved : goal.loop-turn-preserved
loop-turn-preserved g c =
    let t = c.loop-turn in
    let mid = g.S.Source.left t.source in
    let now = g.S.Source.left c.next_piece.new.source in
    let middle = g.K.Sink.put t.sink in
    let after = g.K.Sink.put c.put.new.sink in
    let frame = c.in-Ok-step.frame.items in
    let old = current_of t.self.engine in
    let next = current_of c.step.new.engine in
    let step = subst (λ p. IsStep old p frame next) c.deref.ensures.value c.in-Ok-step.ensures in
    let put = subst (Appends middle after) c.deref-in-loop-turn.ensures.value c.in-Ok-put.ensures.whole in
    record {
      going_on = λ left before first. (
          let going = subst (λ b. IsGoingOn (streams left mid before middle) t.self.pieces.pending b old t.turn) c.if-self.false
          (t.invariant.going_on left before first) in
          later_put left mid now before middle after t.self.pieces.pending c.next_piece.new.self.pending frame old next t.turn c.in-Ok.piece
          going c.in-Ok.ensures.next step put
          );
      ended = c.in-Ok.ensures.ended;
      few = c.in-Ok.ensures.few;
      reads = c.in-Ok.ensures.cause ∙ t.invariant.reads;
      writes = c.in-Ok-put.ensures.kept ∙ t.invariant.writes;
    }

pub returns-then-self-2-clause-answer : goal.returns-then-self-2-clause-answer
returns-then-self-2-clause-answer g c left before first =
    let t = c.loop-turn in
    let rest = g.S.Source.left t.source in
    let put = g.K.Sink.put t.sink in
    let going = subst (λ b. IsGoingOn (streams left rest before put) t.self.pieces.pending b (current_of t.self.engine) t.turn)
    c.if-self-2.true (t.invariant.going_on left before first) in
    c.finish-then-self-2.ensures.answer left rest before t.turn going (omega (arith, t.auto.turn-end))

pub returns-clause-answer : goal.returns-clause-answer
returns-clause-answer g c left before first =
    let t = c.loop-turn in
    let rest = g.S.Source.left t.source in
    let put = g.K.Sink.put t.sink in
    let going = subst (λ b. IsGoingOn (streams left rest before put) t.self.pieces.pending b (current_of t.self.engine) t.turn)
    c.if-self-2.false (t.invariant.going_on left before first) in
    full left rest before put t.self.pieces.pending (current_of t.self.engine) t.turn going
    (omega (arith, t.auto.turn-end, c.loop-turn-test.false)) t.invariant.few
