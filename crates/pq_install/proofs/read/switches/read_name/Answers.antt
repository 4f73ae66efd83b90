use Rattle.std.proofs.Common.{arith, ◌∙◌, sym}
use Rattle.pq_install.proofs.ReadNames.{named}
use Rattle.pq_install.proofs.read.switches.read_name.Goals as goal

-- the text is a name
pub unreachable-requires : goal.unreachable-requires
unreachable-requires c =
    let given = rw (c.as_bytes.ensures.value ∙ c.in_ok-text.ensures.ok, named c.args.datapath c.ranges.datapath.fits) at c.of.ensures in
    grind (arith, sym c.in-None.is ∙ given)
