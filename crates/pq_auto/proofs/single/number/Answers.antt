use Rattle.std.proofs.Common.{sym, subst}
use Rattle.pq_auto.specs.Met.{met_eq}
use Rattle.pq_auto.specs.Rests.{AreLike, AreRestsOf}
use Rattle.pq_auto.proofs.Alike.{rest_numbers, rests_more, like_more, exact_key}
use Rattle.pq_auto.proofs.single.number.Goals as goal
use Rattle.pq_auto.proofs.single.number.Goals.{in-Ok, in-Err}

pub returns-clause-number : goal.returns-clause-number
returns-clause-number c = elim c.match-insert_full.branch [
  | in-Ok w ↦ rw w.result-is
      (rest_numbers met_eq exact_key c.args.states.now.keys c.insert_full.new.self.keys c.args.state w.in-Ok.ensures.keys w.in-Ok.number
      c.requires w.in-Ok.ensures.stored w.in-Ok.ensures.index)
  | in-Err w ↦ rw w.result-is tt
]

pub returns-clause-alike : goal.returns-clause-alike
returns-clause-alike c = elim c.match-insert_full.branch [
  | in-Ok w ↦ like_more met_eq exact_key c.args.states.now.keys c.insert_full.new.self.keys c.args.state w.in-Ok.ensures.keys c.requires
  | in-Err w ↦ subst (AreLike c.args.state) (sym w.in-Err.ensures.err) c.requires
]

pub returns-clause-rests : goal.returns-clause-rests
returns-clause-rests c e are own = elim c.match-insert_full.branch [
  | in-Ok w ↦ rests_more met_eq exact_key c.args.states.now.keys c.insert_full.new.self.keys c.args.state w.in-Ok.ensures.keys e are own
  | in-Err w ↦ subst (AreRestsOf e) (sym w.in-Err.ensures.err) are
]
