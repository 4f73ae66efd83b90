use Rattle.std.proofs.Common.{◌≤◌, ◌+◌, length, subst, sym, arith, get_or}
use Rattle.std.proofs.lemmas.List.{take_all}
use Rattle.pq_pieces.specs.Lines.{GoesOn, Takes}
use Rattle.pq_pieces.proofs.Steps.{goes_nowhere, long_with, next_ends, next_goes}
use Rattle.pq_pieces.proofs.scan.scan.Goals as goal

pub loop-index-init : goal.loop-index-init
loop-index-init c = record { gone = goes_nowhere c.args.line c.args.piece.now.items; short = c.requires.short }

pub returns-in-Ok-None-clause-found : goal.returns-in-Ok-None-clause-found
returns-in-Ok-None-clause-found c =
    let i = c.loop-index.invariant in
    let takes = subst (Takes c.loop-index.now c.loop-index.piece.items
    (get_or c.args.bytes.now c.loop-index.index 0) c.take.new.piece.items) c.in-Ok-None.field-0-is c.in-Ok-None.ensures in
    next_ends c.args.line c.args.piece.now.items c.args.bytes.now c.loop-index.index c.loop-index.now c.loop-index.piece.items
    c.take.new.piece.items c.loop-index-test.true i.gone takes

pub returns-in-Ok-None-clause-short : goal.returns-in-Ok-None-clause-short
returns-in-Ok-None-clause-short c =
    let takes = subst (Takes c.loop-index.now c.loop-index.piece.items
    (get_or c.args.bytes.now c.loop-index.index 0) c.take.new.piece.items) c.in-Ok-None.field-0-is c.in-Ok-None.ensures in
    subst (λ p. length p ≤ c.args.limit) (sym takes.1) c.loop-index.invariant.short

pub returns-then-len-limit-clause-stopped : goal.returns-then-len-limit-clause-stopped
returns-then-len-limit-clause-stopped c rest =
    let i = c.loop-index.invariant in
    let takes = subst (Takes c.loop-index.now c.loop-index.piece.items
    (get_or c.args.bytes.now c.loop-index.index 0) c.take.new.piece.items) c.in-Ok-Some.field-0-is c.in-Ok-Some.ensures in
    let gone = next_goes c.args.line c.args.piece.now.items c.args.bytes.now c.loop-index.index c.loop-index.now c.loop-index.piece.items
    c.in-Ok-Some.next c.take.new.piece.items c.loop-index-test.true i.gone takes in
    long_with c.args.limit c.args.line c.args.piece.now.items c.args.bytes.now
    (c.loop-index.index + 1) c.in-Ok-Some.next c.take.new.piece.items gone
    (omega (arith, c.if-len-limit.true, c.len.ensures, c.take.new.piece.ok)) rest

pub loop-index-preserved : goal.loop-index-preserved
loop-index-preserved c =
    let i = c.loop-index.invariant in
    let takes = subst (Takes c.loop-index.now c.loop-index.piece.items
    (get_or c.args.bytes.now c.loop-index.index 0) c.take.new.piece.items) c.in-Ok-Some.field-0-is c.in-Ok-Some.ensures in
    record {
      gone = next_goes c.args.line c.args.piece.now.items c.args.bytes.now c.loop-index.index c.loop-index.now c.loop-index.piece.items
          c.in-Ok-Some.next c.take.new.piece.items c.loop-index-test.true i.gone takes;
      short = omega (arith, c.if-len-limit.false, c.len.ensures, c.take.new.piece.ok);
    }

pub returns-clause-found : goal.returns-clause-found
returns-clause-found c =
    let i = c.loop-index.invariant in
    subst (λ t. GoesOn c.args.line c.args.piece.now.items t c.loop-index.now c.loop-index.piece.items)
    (take_all c.loop-index.index c.args.bytes.now c.loop-index-test.false) i.gone

pub returns-clause-short : goal.returns-clause-short
returns-clause-short c = c.loop-index.invariant.short
