use Rattle.std.proofs.Common.{◌≡◌, ◌∙◌, Some, sym}
use Rattle.pq_fields.specs.Writes.{written_in}
use Rattle.pq_store.specs.Test.{field_of}
use Rattle.pq_rewrite.proofs.Passed.{known_answer}
use Rattle.pq_rewrite.proofs.written.known.Goals as goal
use Rattle.pq_rewrite.proofs.written.known.Goals.{in-None, in-Some}

pub returns : goal.returns
returns c = elim c.match-presence.branch [
  | in-None w ↦
      let test = c.args.test in
      let number : written_in (field_of test) c.args.by.now ≡ Some c.in_ok-value.value = sym (rw c.field.ensures at c.in_ok-value.ensures.number) in
      let has = rw c.field-2.ensures at w.in-None.ensures in
      rw w.result-is (λ x. known_answer c.args.by.now test c.in_ok-value.value number has x ∙ sym w.decided.ensures)
  | in-Some w ↦ rw w.result-is tt
]
