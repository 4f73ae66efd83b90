use Rattle.std.proofs.Common.{◌≡◌, ◌<◌, ◌^◌, length, sym, subst, ◌∙◌, ap, arith}
use Rattle.std.specs.Prelude.{sum_by}
use Rattle.pq_model.specs.Install.{Install, port_count}
use Rattle.pq_inspect.specs.Inspection.{count, is_flow_add, is_group_add}
use Rattle.pq_summary.proofs.Counted.{few_counted, summary_made}
use Rattle.pq_summary.proofs.InstallLemmas.{counts_short, install_long, install_short}
use Rattle.pq_summary.proofs.summary.Summary.of.Goals as goal

pub entries-requires : goal.entries-requires
entries-requires c =
    rw c.deref.ensures.value (subst (λ (i : Install). sum_by (count is_flow_add) i.messages < 2 ^ 64) (sym c.install.view_is)
    (counts_short (count is_flow_add) (few_counted is_flow_add) c.args.install.now c.requires))

pub groups-requires : goal.groups-requires
groups-requires c =
    rw c.deref-2.ensures.value (subst (λ (i : Install). sum_by (count is_group_add) i.messages < 2 ^ 64) (sym c.install.view_is)
    (counts_short (count is_group_add) (few_counted is_group_add) c.args.install.now c.requires))

pub messages-requires : goal.messages-requires
messages-requires c =
    rw c.deref-3.ensures.value (subst (λ (i : Install). sum_by length i.messages < 2 ^ 64) (sym c.install.view_is)
    (counts_short length (λ ms. omega arith) c.args.install.now c.requires))

pub install_length-requires : goal.install_length-requires
install_length-requires c = install_short c.args.install.now c.requires

pub returns : goal.returns
returns c =
    let same = c.install.view_is in
    let entries = rw c.deref.ensures.value at c.entries.ensures in
    let groups = rw c.deref-2.ensures.value at c.groups.ensures in
    let messages = rw c.deref-3.ensures.value at c.messages.ensures in
    summary_made c.args.counts c.args.install.now _ c.ports.result _ c.entries.result c.groups.result c.messages.result c.install_length.result
    (ap length c.switches.ensures.switches ∙ ap (λ (i : Install). length i.topology.switches) same)
    (c.ports.ensures ∙ ap port_count c.switches-2.ensures.switches ∙ ap (λ (i : Install). port_count i.topology.switches) same)
    (ap length c.links.ensures.links ∙ ap (λ (i : Install). length i.topology.links) same)
    (subst (λ (i : Install). c.entries.result ≡ sum_by (count is_flow_add) i.messages) same entries)
    (subst (λ (i : Install). c.groups.result ≡ sum_by (count is_group_add) i.messages) same groups)
    (subst (λ (i : Install). c.messages.result ≡ sum_by length i.messages) same messages)
    (c.install_length.ensures ∙ sym (install_long c.args.install.now c.requires))
