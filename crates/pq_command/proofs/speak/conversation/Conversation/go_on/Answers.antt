use Rattle.std.proofs.Common.{rules, ◌≡◌, ◌≤◌, ◌<◌, ◌+◌, ◌++◌, ◌∙◌, [], ap, arith, length, length-append, length-take, subst, sym, take}
use Rattle.std.proofs.lemmas.Grind.{common_steps}
use Rattle.std.specs.Io.KnownBytes.{Appends, Consumes, IsAtEnd}
use Rattle.pq_speaker.specs.Speaking.{heard}
use Rattle.pq_command.specs.Answers.{OnRefusalInTurns, streams}
use Rattle.pq_command.specs.Reading.{install_limit, piece_size}
use Rattle.pq_command.specs.Speaks.{IsSpeakAnswer, IsTurnEnd, sends}
use Rattle.pq_command.proofs.Readings.{piece-after}
use Rattle.pq_command.proofs.Turns.{end-is-none, ends, goes-on, no-memory, read-fails, too-long, turn-ends, turn-is-none}
use Rattle.pq_command.proofs.speak.conversation.Conversation.go_on.Goals as goal

pub returns-in_default-clause-answer : goal.returns-in_default-clause-answer
returns-in_default-clause-answer g c datapath left before text is long =
    no-memory datapath left (g.S.Source.left c.args.source.now) before (g.K.Sink.put c.args.sink.now) c.args.self.speaker text is
    (omega (arith, long, c.requires))

pub returns-in-Err-clause-answer : goal.returns-in-Err-clause-answer
returns-in-Err-clause-answer g c datapath left before text is long =
    let i = c.loop-turn.invariant in
    let u = i.under_way datapath left before text is long in
    read-fails datapath left (g.S.Source.left c.loop-turn.source) (g.S.Source.left c.read.new.self) before
    (g.K.Sink.put c.loop-turn.sink) c.loop-turn.speaker u.0 u.1 c.in-Err.ensures.bytes (omega (arith, u.2, i.short))

pub returns-then-taken-eq0-clause-answer : goal.returns-then-taken-eq0-clause-answer
returns-then-taken-eq0-clause-answer g c datapath left before text is long =
    let i = c.loop-turn.invariant in
    let u = i.under_way datapath left before text is long in
    let mid = g.S.Source.left c.loop-turn.source in
    let now = g.S.Source.left c.read.new.self in
    let room : length c.read.new.into ≡ piece_size = grind (arith, common_steps, c.read.auto.into, c.deref_mut.ensures.value, i.room) in
    let none : Consumes mid now [] = subst (λ n. Consumes mid now (take n c.read.new.into)) c.if-taken-eq0.true c.in-Ok-read.ensures.bytes.0 in
    let end : IsAtEnd now = c.in-Ok-read.ensures.bytes.1 c.if-taken-eq0.true (omega (arith, room)) in
    subst (λ o. IsSpeakAnswer datapath o (streams left now before (g.K.Sink.put c.loop-turn.sink))) (sym c.end_of.ensures)
    (ends datapath left mid now before (g.K.Sink.put c.loop-turn.sink) c.loop-turn.speaker u.0 u.1 none end (omega (arith, u.2, i.short)))

pub returns-then-read-gt-INSTALL_LIMIT-clause-answer : goal.returns-then-read-gt-INSTALL_LIMIT-clause-answer
returns-then-read-gt-INSTALL_LIMIT-clause-answer g c datapath left before text is long =
    let i = c.loop-turn.invariant in
    let u = i.under_way datapath left before text is long in
    let piece = take c.in-Ok-read.taken c.read.new.into in
    let room : length c.read.new.into ≡ piece_size = grind (arith, common_steps, c.read.auto.into, c.deref_mut.ensures.value, i.room) in
    let short : length piece ≤ piece_size = omega (arith, length-take c.in-Ok-read.taken c.read.new.into, room) in
    let more : install_limit < length u.0 + length piece = omega (arith, c.if-read-gt-INSTALL_LIMIT.true, u.2, c.in-Ok-read.ensures.bound.1) in
    too-long datapath left (g.S.Source.left c.loop-turn.source) (g.S.Source.left c.read.new.self) before
    (g.K.Sink.put c.loop-turn.sink) c.loop-turn.speaker u.0 piece u.1 c.in-Ok-read.ensures.bytes.0
    (omega (arith, u.2, i.short)) more short

pub returns-in-Err-hear-clause-answer : goal.returns-in-Err-hear-clause-answer
returns-in-Err-hear-clause-answer g c datapath left before text is long =
    let i = c.loop-turn.invariant in
    let u = i.under_way datapath left before text is long in
    let into = c.read.new.into in
    let n = c.in-Ok-read.taken in
    let put = g.K.Sink.put in
    let room : length into ≡ piece_size = grind (arith, common_steps, c.read.auto.into, c.deref_mut.ensures.value, i.room) in
    let short : length (take n into) ≤ piece_size = omega (arith, length-take n into, room) in
    let here : c.deref.result.now ≡ into = c.deref.ensures.value
    ∙ piece-after c.loop-turn.piece.len into c.loop-turn.piece.items (room ∙ sym i.room) c.loop-turn.piece.ok.0 in
    let fits : length u.0 + length (take n into) ≤ install_limit = omega (arith, c.if-read-gt-INSTALL_LIMIT.false, u.2, c.in-Ok-read.ensures.bound.1) in
    let end = subst (λ p. IsTurnEnd (heard c.loop-turn.speaker (take n p)).state.talk
    (sends c.loop-turn.speaker (take n p)) c.in-Err-hear.outcome (put c.loop-turn.sink) (put c.hear.new.sink)) here
    c.in-Err-hear.ensures.err in
    turn-ends datapath left (g.S.Source.left c.loop-turn.source) (g.S.Source.left c.read.new.self) before (put c.loop-turn.sink)
    (put c.hear.new.sink) c.loop-turn.speaker u.0 (take n into) c.in-Err-hear.outcome u.1 c.in-Ok-read.ensures.bytes.0 fits short end

pub loop-turn-preserved : goal.loop-turn-preserved
loop-turn-preserved g c =
    let i = c.loop-turn.invariant in
    let into = c.read.new.into in
    let n = c.in-Ok-read.taken in
    let put = g.K.Sink.put in
    let room : length into ≡ piece_size = grind (arith, common_steps, c.read.auto.into, c.deref_mut.ensures.value, i.room) in
    let now = piece-after c.loop-turn.piece.len into c.loop-turn.piece.items (room ∙ sym i.room) c.loop-turn.piece.ok.0 in
    let here : c.deref.result.now ≡ into = c.deref.ensures.value ∙ now in
    let same : g.S.Source.faults c.read.new.self ≡ g.S.Source.faults c.loop-turn.source = search rules in
    let state : c.hear.new.speaker ≡ (heard c.loop-turn.speaker (take n into)).state =
    subst (λ p. c.hear.new.speaker ≡ (heard c.loop-turn.speaker (take n p)).state) here c.in-Ok-hear.ensures.state in
    let said : Appends (put c.loop-turn.sink) (put c.hear.new.sink) (sends c.loop-turn.speaker (take n into)) =
    subst (λ p. Appends (put c.loop-turn.sink) (put c.hear.new.sink) (sends c.loop-turn.speaker (take n p))) here
    c.in-Ok-hear.ensures.put in
    record {
      under_way = λ datapath left before text is long. (
          let u = i.under_way datapath left before text is long in (
            u.0 ++ take n into,
            goes-on datapath left (g.S.Source.left c.loop-turn.source) (g.S.Source.left c.read.new.self) before (put c.loop-turn.sink)
                (put c.hear.new.sink) c.loop-turn.speaker c.hear.new.speaker u.0
                (take n into) u.1 c.in-Ok-read.ensures.bytes.0 state said c.in-Ok-hear.ensures.going,
            omega (arith, length-append u.0 (take n into), u.2, c.in-Ok-read.ensures.bound.1),
          )
          );
      reads = same ∙ i.reads;
      writes = c.in-Ok-hear.ensures.kept ∙ i.writes;
      turns = omega (arith, i.turns, c.if-taken-eq0.false);
      room = ap length now ∙ room;
      short = omega (arith, c.if-read-gt-INSTALL_LIMIT.false);
    }

pub returns-then-taken-eq0-clause-in_turns : goal.returns-then-taken-eq0-clause-in_turns
returns-then-taken-eq0-clause-in_turns g c = subst (λ o. OnRefusalInTurns o ⊥) (sym c.end_of.ensures) (end-is-none c.loop-turn.speaker.talk)

pub returns-in-Err-hear-clause-in_turns : goal.returns-in-Err-hear-clause-in_turns
returns-in-Err-hear-clause-in_turns g c =
    let said = take c.in-Ok-read.taken c.deref.result.now in
    turn-is-none (heard c.loop-turn.speaker said).state.talk (sends c.loop-turn.speaker said) c.in-Err-hear.outcome
    (g.K.Sink.put c.loop-turn.sink) (g.K.Sink.put c.hear.new.sink) c.in-Err-hear.ensures.err
