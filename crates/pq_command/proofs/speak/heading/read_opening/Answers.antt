use Rattle.std.proofs.Common.{rules, ◌≡◌, ◌≤◌, ◌<◌, ◌++◌, ◌∙◌, [], ap, arith, length, length-append, length-take, false, subst, sym, take}
use Rattle.std.proofs.KnownBytes.{Consumes-trans}
use Rattle.std.proofs.lemmas.Grind.{common_steps}
use Rattle.std.specs.Io.KnownBytes.{Consumes, IsAtEnd}
use Rattle.pq_command.specs.Reading.{install_limit, piece_size}
use Rattle.pq_command.specs.Speaks.{needs_more}
use Rattle.pq_command.proofs.Readings.{ended-enough, piece-after, read-enough, read-some, read-too-long}
use Rattle.pq_command.proofs.speak.heading.read_opening.Goals as goal

pub returns-then-taken-eq0-clause-ok : goal.returns-then-taken-eq0-clause-ok
returns-then-taken-eq0-clause-ok g c =
    let i = c.loop-turn.invariant in
    let left = g.S.Source.left in
    let room : length c.read.new.into ≡ piece_size = grind (arith, common_steps, c.read.auto.into, c.deref_mut.ensures.value, i.room) in
    let none : Consumes (left c.loop-turn.source) (left c.read.new.self) [] =
    subst (λ n. Consumes (left c.loop-turn.source) (left c.read.new.self) (take n c.read.new.into)) c.if-taken-eq0.true
    c.in-Ok-read.ensures.bytes.0 in
    let end : IsAtEnd (left c.read.new.self) = c.in-Ok-read.ensures.bytes.1 c.if-taken-eq0.true (omega (arith, room)) in
    ended-enough (left c.args.source.now) (left c.loop-turn.source) (left c.read.new.self) c.loop-turn.text.items i.bytes none end i.short i.needed

pub returns-in-Err-extend_from_slice-clause-err : goal.returns-in-Err-extend_from_slice-clause-err
returns-in-Err-extend_from_slice-clause-err g c =
    let i = c.loop-turn.invariant in
    let left = g.S.Source.left in
    let piece = take c.in-Ok-read.taken c.read.new.into in
    let room : length c.read.new.into ≡ piece_size = grind (arith, common_steps, c.read.auto.into, c.deref_mut.ensures.value, i.room) in
    let short : length piece ≤ piece_size = omega (arith, length-take c.in-Ok-read.taken c.read.new.into, room) in
    read-some (left c.args.source.now) (left c.loop-turn.source)
    (left c.read.new.self) c.loop-turn.text.items piece i.bytes c.in-Ok-read.ensures.bytes.0 short i.short

pub returns-then-len-gt-INSTALL_LIMIT-clause-err : goal.returns-then-len-gt-INSTALL_LIMIT-clause-err
returns-then-len-gt-INSTALL_LIMIT-clause-err g c =
    let i = c.loop-turn.invariant in
    let left = g.S.Source.left in
    let into = c.read.new.into in
    let n = c.in-Ok-read.taken in
    let all = c.extend_from_slice.new.self.items in
    let room : length into ≡ piece_size = grind (arith, common_steps, c.read.auto.into, c.deref_mut.ensures.value, i.room) in
    let short : length (take n into) ≤ piece_size = omega (arith, length-take n into, room) in
    let here : c.deref.result.now ≡ into = c.deref.ensures.value
    ∙ piece-after c.loop-turn.piece.len into c.loop-turn.piece.items (room ∙ sym i.room) c.loop-turn.piece.ok.0 in
    let grown : all ≡ c.loop-turn.text.items ++ take n into = c.in-Ok-extend_from_slice.ensures.items ∙ ap (λ p. c.loop-turn.text.items ++ take n p) here in
    let long : install_limit < length all = omega (arith, c.if-len-gt-INSTALL_LIMIT.true, c.len.ensures, c.extend_from_slice.new.self.ok.0) in
    read-too-long (left c.args.source.now) (left c.loop-turn.source) (left c.read.new.self) c.loop-turn.text.items
    (take n into) all grown i.bytes c.in-Ok-read.ensures.bytes.0 short i.short i.needed long

pub returns-then-not-needs_more-clause-ok : goal.returns-then-not-needs_more-clause-ok
returns-then-not-needs_more-clause-ok g c =
    let i = c.loop-turn.invariant in
    let left = g.S.Source.left in
    let into = c.read.new.into in
    let n = c.in-Ok-read.taken in
    let all = c.extend_from_slice.new.self.items in
    let room : length into ≡ piece_size = grind (arith, common_steps, c.read.auto.into, c.deref_mut.ensures.value, i.room) in
    let short : length (take n into) ≤ piece_size = omega (arith, length-take n into, room) in
    let here : c.deref.result.now ≡ into = c.deref.ensures.value
    ∙ piece-after c.loop-turn.piece.len into c.loop-turn.piece.items (room ∙ sym i.room) c.loop-turn.piece.ok.0 in
    let grown : all ≡ c.loop-turn.text.items ++ take n into = c.in-Ok-extend_from_slice.ensures.items ∙ ap (λ p. c.loop-turn.text.items ++ take n p) here in
    let fits : length all ≤ install_limit = omega (arith, c.if-len-gt-INSTALL_LIMIT.false, c.len.ensures, c.extend_from_slice.new.self.ok.0) in
    let whole : needs_more all ≡ false = ap needs_more (sym c.deref-in-loop-turn.ensures.value) ∙ sym c.if-not-needs_more.ensures in
    read-enough (left c.args.source.now) (left c.loop-turn.source) (left c.read.new.self) c.loop-turn.text.items
    (take n into) all grown i.bytes c.in-Ok-read.ensures.bytes.0 short fits i.needed whole

pub loop-turn-preserved : goal.loop-turn-preserved
loop-turn-preserved g c =
    let i = c.loop-turn.invariant in
    let left = g.S.Source.left in
    let into = c.read.new.into in
    let n = c.in-Ok-read.taken in
    let all = c.extend_from_slice.new.self.items in
    let room : length into ≡ piece_size = grind (arith, common_steps, c.read.auto.into, c.deref_mut.ensures.value, i.room) in
    let now = piece-after c.loop-turn.piece.len into c.loop-turn.piece.items (room ∙ sym i.room) c.loop-turn.piece.ok.0 in
    let here : c.deref.result.now ≡ into = c.deref.ensures.value ∙ now in
    let grown : all ≡ c.loop-turn.text.items ++ take n into = c.in-Ok-extend_from_slice.ensures.items ∙ ap (λ p. c.loop-turn.text.items ++ take n p) here in
    let same : g.S.Source.faults c.read.new.self ≡ g.S.Source.faults c.loop-turn.source = search rules in
    let read = Consumes-trans (left c.args.source.now) (left c.loop-turn.source) (left c.read.new.self) c.loop-turn.text.items
    (take n into) i.bytes c.in-Ok-read.ensures.bytes.0 in
    record {
      bytes = subst (Consumes (left c.args.source.now) (left c.read.new.self)) (sym grown) read;
      kept = same ∙ i.kept;
      turns = omega (arith, i.turns, ap length grown, length-append c.loop-turn.text.items (take n into), c.in-Ok-read.ensures.bound.1, c.if-taken-eq0.false);
      room = ap length now ∙ room;
      short = omega (arith, c.if-len-gt-INSTALL_LIMIT.false, c.len.ensures, c.extend_from_slice.new.self.ok.0);
      needed = ap needs_more (sym c.deref-in-loop-turn.ensures.value) ∙ sym c.if-not-needs_more.ensures;
    }
