use Rattle.pq_fields.specs.Packet.{rank}
use Rattle.pq_apply.specs.Atoms.{number_tree, present_tree}
use Rattle.pq_apply.proofs.AtomTrees.{number_inner}
use Rattle.pq_apply.proofs.SingleTests.{inner_at, number_holds}
use Rattle.pq_apply.proofs.atoms.equal_number.Goals as goal

pub where_present-requires : goal.where_present-requires
where_present-requires c = record {
  inner = inner_at c.of_number.new.store (rank c.args.field) 1 c.in_ok-inner.inner
      (number_tree c.args.field c.args.value) c.in_ok-inner.ensures.tree (number_inner c.args.field c.args.value);
}

pub returns-clause-holds : goal.returns-clause-holds
returns-clause-holds c =
    let tree = number_tree c.args.field c.args.value in
    (present_tree c.args.field tree, c.in_ok-id.ensures.makes tree c.in_ok-inner.ensures.tree, number_holds c.args.field c.args.value c.requires.fits)
