use Rattle.std.proofs.Common.{Some, refl, sym, ap, ◌∙◌, drop, map}
use Rattle.std.proofs.lemmas.List.{drop_all}
use Rattle.pq_rewrite.specs.Leaves.{same_copies}
use Rattle.pq_rules.specs.Grouping.{in_bucket}
use Rattle.pq_rules.proofs.GatherLemmas.{made_all}
use Rattle.pq_rules.proofs.grouping.add_group.Goals as goal
use Rattle.pq_rules.proofs.grouping.add_group.Goals.{in-Ok, in-Err}

pub returns-clause-place : goal.returns-clause-place
returns-clause-place c = elim c.match-insert_full.branch [
  | in-Ok w ↦ (
      let stored = w.in-Ok.ensures.stored in
      let all = made_all (map in_bucket) c.loop-copy.list.items (map in_bucket c.args.copies.now) (drop c.loop-copy.copy-index c.args.copies.now) refl
      (drop_all c.loop-copy.copy-index c.args.copies.now c.loop-copy-test.false) c.loop-copy.invariant in
      rw w.result-is (stored.1 ∙ ap Some (sym (same_copies c.of.result stored.0 stored.2) ∙ c.of.ensures ∙ all)))
  | in-Err w ↦ rw w.result-is tt
]
