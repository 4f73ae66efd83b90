use Rattle.pq_inspect.proofs.Objects.{inspection_written}
use Rattle.std.proofs.Common.{sym}
use Rattle.pq_inspect.proofs.inspection.inspect_given.Goals as goal

pub returns : goal.returns
returns c =
    let front = rw (c.new-text.ensures.items, c.deref.ensures.value, c.deref-2.ensures.value) at c.in_ok-write_front.ensures in
    let switches = rw c.switches.ensures.switches at c.in_ok-give_switches.ensures in
    rw (sym c.install.view_is) (inspection_written _ _ _ _ front switches c.in_ok-extend_from_slice.ensures.items)
