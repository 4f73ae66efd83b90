use Rattle.pq_auto.proofs.Keys.{numbers}
use Rattle.pq_auto.proofs.product.number.Goals as goal
use Rattle.pq_auto.proofs.product.number.Goals.{in-Ok, in-Err}

pub returns : goal.returns
returns c = elim c.match-insert_full.branch [
  | in-Ok w ↦ rw w.result-is
      (numbers c.args.states.now.keys c.insert_full.new.self.keys c.args.state w.in-Ok.number w.in-Ok.ensures.keys w.in-Ok.ensures.stored
      w.in-Ok.ensures.index)
  | in-Err w ↦ rw w.result-is tt
]
