use Rattle.std.proofs.Common.{◌∙◌}
use Rattle.pq_letters.proofs.Places.{put_last}
use Rattle.pq_letters.proofs.numbering.add.Goals as goal
use Rattle.pq_letters.proofs.numbering.add.Goals.{in-Ok, in-Err}

pub returns : goal.returns
returns c = elim c.match-insert_full.branch [
  | in-Ok w ↦ rw w.result-is (
      put_last c.args.signatures.now.keys c.insert_full.new.self.keys c.in_ok-truths.truths.items c.args.signature.now
      (c.in_ok-truths.ensures.items ∙ c.deref.ensures.value ∙ c.signature.view_is) c.requires w.in-Ok.ensures.keys)
  | in-Err w ↦ rw w.result-is tt
]
