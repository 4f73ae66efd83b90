use Rattle.std.proofs.Common.{◌≡◌, ◌++◌, sym}
use Rattle.serde_json.specs.Written.{compact_text}
use Rattle.pq_inspect.specs.Inspection.{list, natural}
use Rattle.pq_inspect.proofs.Objects.{switch_written}
use Rattle.pq_inspect.proofs.switch.write_switch.Goals as goal

pub returns : goal.returns
returns c =
    let switch = c.args.switch.now in
    let datapath : c.write_shown.new.into.items ≡ c.extend_from_slice.new.self.items ++ compact_text (natural switch.datapath) =
    rw (sym c.switch.view_is) c.in_ok-write_shown.ensures in
    let entries = rw c.entries.ensures at c.in_ok-write_shown-2.ensures in
    let groups = rw c.groups.ensures at c.in_ok-write_shown-3.ensures in
    let ports : c.write_list.new.into.items ≡ c.extend_from_slice-5.new.self.items ++ compact_text (list natural switch.ports) =
    rw (sym c.switch.view_is) (rw c.deref.ensures.value at c.in_ok-write_list.ensures) in
    switch_written (switch, c.args.to_it.now) c.args.into.now.items _ _ _ _ _ _ _ _ _ _ _ c.in_ok-extend_from_slice.ensures.items
    datapath c.in_ok-extend_from_slice-2.ensures.items entries c.in_ok-extend_from_slice-3.ensures.items groups
    c.in_ok-extend_from_slice-4.ensures.items c.in_ok-write_messages.ensures c.in_ok-extend_from_slice-5.ensures.items ports c.in_ok-push.ensures.items
