use Rattle.pq_auto.proofs.Seen.{gives_number}
use Rattle.pq_auto.proofs.partition.number.Goals as goal
use Rattle.pq_auto.proofs.partition.number.Goals.{in-Ok, in-Err}

pub returns : goal.returns
returns c = elim c.match-insert_full.branch [
  | in-Ok w ↦ rw w.result-is (
      let stored = w.in-Ok.ensures.stored in
      gives_number c.args.key c.args.seen.now.keys c.insert_full.new.self.keys w.in-Ok.class w.in-Ok.ensures.keys w.in-Ok.ensures.index
      stored.0 stored.1 stored.2)
  | in-Err w ↦ rw w.result-is tt
]
