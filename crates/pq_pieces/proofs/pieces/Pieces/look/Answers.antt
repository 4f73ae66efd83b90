use Rattle.std.proofs.Common.{◌≡◌, ◌≤◌, ◌+◌, ◌-◌, ◌++◌, ◌∷◌, ap, subst, ◌∙◌, arith, take, drop}
use Rattle.std.proofs.lemmas.List.{length-take}
use Rattle.pq_pieces.specs.Lines.{going}
use Rattle.pq_pieces.specs.Pieces.{pieces_of}
use Rattle.pq_pieces.specs.Scans.{Finds}
use Rattle.pq_pieces.proofs.Steps.{pending_after}
use Rattle.pq_pieces.proofs.pieces.Pieces.look.Goals as goal

pub returns-in-Ok-Parted-clause-looks : goal.returns-in-Ok-Parted-clause-looks
returns-in-Ok-Parted-clause-looks c rest =
    let p = c.self.inside in
    let bytes = take (p.to - p.from) (drop p.from p.chunk.items) in
    let seen = subst (λ k. Finds c.args.line c.args.piece.now.items
    (take (p.to - p.from) (drop p.from k)) c.in-Ok-Parted.field-0 c.scan.new.piece.items) c.deref.ensures.value
    c.in-Ok-Parted.ensures.found in
    let found = subst (λ f. Finds c.args.line c.args.piece.now.items bytes f c.scan.new.piece.items) c.in-Ok-Parted.field-0-is seen in
    let within : p.from + c.in-Ok-Parted.used ≤ p.to = omega (
      arith,
      found.within,
      length-take (p.to - p.from) (drop p.from p.chunk.items),
      c.self.invariant.1,
    ) in
    let after = ap (λ t. c.scan.new.piece.items ∷ pieces_of (t ++ rest)) (pending_after p.chunk.items p.from p.to c.in-Ok-Parted.used within) in
    subst (λ r. going c.args.line c.args.piece.now.items (r.pending ++ rest) ≡ c.scan.new.piece.items ∷ pieces_of
    (take (p.to - (p.from + c.in-Ok-Parted.used)) (drop (p.from + c.in-Ok-Parted.used) p.chunk.items) ++ rest)) c.self.view_is
    (found.same rest ∙ after)
