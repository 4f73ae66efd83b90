use Rattle.std.proofs.Common.{map, arith}
use Rattle.pq_query.specs.Query.{queries, query_tree}
use Rattle.pq_query.specs.Atoms.{atoms}
use Rattle.automaton_sizes.proofs.Atoms.{one_counted}
use Rattle.automaton_sizes.proofs.atom_count.+counted.Goals as goal

pub atoms_of-loop-query-preserved : goal.atoms_of-loop-query-preserved
atoms_of-loop-query-preserved t c =
    let few = c.loop-query.invariant.few in
    let fits = c.if-room-more.false in
    record {
      few = omega (arith, few, fits);
      all = one_counted (atoms (queries (map query_tree c.args.operands.now))) c.loop-query.count c.atom_count-more.result
          c.loop-query.query-index c.args.operands.now c.query-item.result c.loop-query-test.true c.query-item.is c.loop-query.invariant.all
          (c.atom_count-more.ensures (omega (arith, few, fits)));
    }
