use Rattle.std.proofs.Common.{◌++◌, [], ◌∙◌, ap, arith, length, subst, sym, refl}
use Rattle.pq_pieces.specs.declared.line.Line.TheVariants.{Start}
use Rattle.pq_pieces.specs.declared.piece.Piece.{Piece}
use Rattle.pq_pieces.specs.Lines.{going, held}
use Rattle.pq_pieces.specs.Reading.{IsWithin, Looks}
use Rattle.pq_pieces.proofs.Readings.{begins, goes_on_reading, no_fault, one_turn}
use Rattle.pq_pieces.proofs.pieces.Pieces.next_piece.Goals as goal

pub loop-turn-init : goal.loop-turn-init
loop-turn-init g c = record {
  read = subst (λ p. IsWithin c.args.self.now.pending (g.S.Source.left c.args.source.now)
      (g.S.Source.left c.args.source.now) c.args.self.now.pending Start p) (sym c.new-text.ensures.items)
      (begins c.args.self.now.pending (g.S.Source.left c.args.source.now));
  short = omega (arith, c.new-text.ensures.len, c.new-text.result.ok);
  turns = omega arith;
  some = λ none. omega (arith, none);
  ended = c.requires.ended;
  kept = refl;
}

pub returns-in-Err-clause-cause : goal.returns-in-Err-clause-cause
returns-in-Err-clause-cause g c =
    no_fault Piece c.in-Err.unread c.args.limit (going c.loop-turn.line c.loop-turn.text.items (c.loop-turn.self.pending ++ []))
    (g.S.Source.faults c.args.source.now) (g.S.Source.faults c.loop-turn.source) (c.in-Err.ensures.stopped []) c.loop-turn.invariant.kept

pub loop-turn-preserved : goal.loop-turn-preserved
loop-turn-preserved g c =
    let i = c.loop-turn.invariant in
    let looks = subst (λ r. Looks c.loop-turn.line c.loop-turn.text.items c.loop-turn.self c.look.new.self r c.look.new.piece.items)
    c.in-Ok-Some.field-0-is c.in-Ok-Some.ensures.looks in
    record {
      read = goes_on_reading c.args.self.now.pending (g.S.Source.left c.args.source.now) (g.S.Source.left c.loop-turn.source)
          (g.S.Source.left c.fill.new.source) c.loop-turn.self.pending c.loop-turn.line c.loop-turn.text.items c.in-Ok-Some.next
          c.look.new.piece.items c.fill.new.self.pending i.read looks.0 c.in-Ok.ensures.bytes;
      short = c.in-Ok-Some.ensures.short;
      turns = one_turn c.loop-turn.turn (held c.loop-turn.line c.loop-turn.text.items) (length c.loop-turn.self.pending)
          (held c.in-Ok-Some.next c.look.new.piece.items) i.turns i.some looks.0.held;
      some = λ more. c.in-Ok.ensures.filled.some (sym (ap (λ r. r.is_ended) c.self.view_is) ∙ c.if-self.false);
      ended = c.in-Ok.ensures.ended;
      kept = c.in-Ok.ensures.kept ∙ i.kept;
    }
