use Rattle.std.proofs.Common.{◌≡◌, ◌∙◌, ◌-◌, length, take, drop, arith, refl}
use Rattle.std.proofs.lemmas.List.{take_rest, length-drop}
use Rattle.pq_model.specs.Spelling.{match_bytes}
use Rattle.pq_oxm.proofs.Places.{followed}
use Rattle.pq_oxm.proofs.Whole.{spelled}
use Rattle.pq_oxm.proofs.reading.read_match.Goals as goal

-- nothing is after the end
pub returns-then-bytes-at-clause-err : goal.returns-then-bytes-at-clause-err
returns-then-bytes-at-clause-err c = (
  refl,
  λ m law there.
      let parts = spelled (drop c.args.at c.args.bytes.now) m (drop (length (match_bytes m)) (drop c.args.at c.args.bytes.now))
      (followed c.args.bytes.now c.args.at (match_bytes m) there) in
      omega (arith, parts.long, length-drop c.args.at c.args.bytes.now, c.if-bytes-at.true),
)

-- what is spelled there would be read
pub returns-in_default-clause-err : goal.returns-in_default-clause-err
returns-in_default-clause-err c = (
  refl,
  λ m law there.
      let read = c.in_default.ensures m (drop (length (match_bytes m)) (drop c.args.at c.args.bytes.now)) law
      (take_rest c.args.bytes.now c.args.at ∙ followed c.args.bytes.now c.args.at (match_bytes m) there) in
      absurd cc,
)

-- what is spelled there would be this
pub returns-in-Ok-None-clause-err : goal.returns-in-Ok-None-clause-err
returns-in-Ok-None-clause-err c = (
  refl,
  λ m law there.
      let rest : take (length c.args.bytes.now - c.args.at) (drop c.args.at c.args.bytes.now) ≡ drop c.args.at c.args.bytes.now =
      take_rest c.args.bytes.now c.args.at in
      let read = c.in-Some.ensures m (drop (length (match_bytes m)) (drop c.args.at c.args.bytes.now)) law (rest
      ∙ followed c.args.bytes.now c.args.at (match_bytes m) there) in
      let other = rw c.in-Ok-None.field-0-is at c.in-Ok-None.ensures in
      let found : c.in-Some.found ≡ m = cc in
      other (rw (found, rest) there),
)
