use Rattle.pq_fields.specs.Packet.{rank}
use Rattle.pq_apply.specs.Atoms.{bits_tree, present_tree}
use Rattle.pq_apply.proofs.AtomTrees.{bits_inner, bits_tests}
use Rattle.pq_apply.proofs.SingleTests.{inner_at, leads_hold, wide_holds}
use Rattle.pq_apply.proofs.atoms.equal_prefix.Goals as goal

pub where_present-requires : goal.where_present-requires
where_present-requires c =
    let tree = bits_tree c.args.field c.args.value 0 c.args.len in
    record {
      inner = inner_at c.leading_bits.new.store (rank c.args.field) 1 c.in_ok-inner.inner tree c.in_ok-inner.ensures.tree
          (bits_inner c.args.field 0 tree (bits_tests c.args.field c.args.value 0 c.args.len));
    }

pub returns-clause-holds : goal.returns-clause-holds
returns-clause-holds c =
    let tree = bits_tree c.args.field c.args.value 0 c.args.len in (
      present_tree c.args.field tree,
      c.in_ok-id.ensures.makes tree c.in_ok-inner.ensures.tree,
      leads_hold c.args.field c.args.value c.args.len c.requires.fits c.requires.len,
    )

pub returns-clause-wide : goal.returns-clause-wide
returns-clause-wide c =
    let tree = bits_tree c.args.field c.args.value 0 c.args.len in (
      present_tree c.args.field tree,
      c.in_ok-id.ensures.makes tree c.in_ok-inner.ensures.tree,
      wide_holds c.args.field c.args.value c.args.len c.requires.fits c.requires.len,
    )
