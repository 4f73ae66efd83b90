use Rattle.std.proofs.Common.{refl, arith, drop, length}
use Rattle.std.proofs.lemmas.List.{length-drop}
use Rattle.pq_model.specs.Spelling.{message_bytes}
use Rattle.pq_oxm.proofs.Places.{followed}
use Rattle.pq_flowmod.proofs.Parts.{message_parted}
use Rattle.pq_flowmod.proofs.reading.read_message.Goals as goal

-- nothing is after the end
pub returns-then-bytes-at-clause-err : goal.returns-then-bytes-at-clause-err
returns-then-bytes-at-clause-err c = (
  refl,
  λ m law there.
      let parts = message_parted (drop c.args.at c.args.bytes.now) m (drop (length (message_bytes m)) (drop c.args.at c.args.bytes.now)) law
      (followed c.args.bytes.now c.args.at (message_bytes m) there) in
      omega (arith, parts.within, length-drop c.args.at c.args.bytes.now, c.if-bytes-at.true),
)
