use Rattle.std.proofs.Common.{ap, ◌∙◌, length, map}
use Rattle.std.specs.List.{flat_map}
use Rattle.pq_model.specs.Install.{list_bytes}
use Rattle.pq_install.specs.Damage.{magic_bytes, report_bytes, topology_bytes}
use Rattle.std.proofs.lemmas.List.{length-map}
use Rattle.std.proofs.lemmas.Result.{err_from_is_err_and}
use Rattle.pq_install.proofs.Whole.{report_fails, messages_fail, four_parts}
use Rattle.pq_install.proofs.read.whole.install_at.Goals as goal

pub returns-in_err-names-clause-err : goal.returns-in_err-names-clause-err
returns-in_err-names-clause-err c =
    let p = err_from_is_err_and c.from_residual-in_err-names.result c.from_residual-in_err-names.ensures.1 in
    rw (p.1, p.2) (report_fails c.args.bytes.now c.in-Some.version c.in-Some.rest.now c.in-Some.ensures c.in_ok-topology.topology
    c.in_ok-topology.rest.now c.in_ok-topology.ensures.ok c.in_err-names.field-0.0 c.in_err-names.ensures.err)

pub returns-in_err-messages-clause-err : goal.returns-in_err-messages-clause-err
returns-in_err-messages-clause-err c =
    let p = err_from_is_err_and c.from_residual-in_err-messages.result c.from_residual-in_err-messages.ensures.1 in
    let fails = rw c.switches.ensures.switches at c.in_err-messages.ensures.err in
    rw (p.1, p.2) (messages_fail c.args.bytes.now c.in-Some.version c.in-Some.rest.now c.in-Some.ensures c.in_ok-topology.topology
    c.in_ok-topology.rest.now c.in_ok-topology.ensures.ok _ c.in_ok-names.rest.now c.in_err-messages.field-0.0 c.in_ok-names.ensures.ok
    fails)

pub returns-clause-ok : goal.returns-clause-ok
returns-clause-ok c =
    let magic = c.in-Some.ensures in
    let topology = c.in_ok-topology.ensures.ok in
    let report = c.in_ok-names.ensures.ok in
    let lists = c.in_ok-messages.ensures in (
      c.in-Some.version,
      record {
        topology = topology.0;
        report = report.0;
        listed = length-map c.in_ok-messages.messages.items (λ ms. ms.items) ∙ (lists.length ∙ ap length c.switches.ensures.switches);
        messages = lists.ok.0;
      },
      four_parts c.args.bytes.now (magic_bytes c.in-Some.version) (topology_bytes c.in_ok-topology.topology)
          (report_bytes (c.in_ok-names.names.items, c.in_ok-names.report.items))
          (flat_map list_bytes (map (λ ms. ms.items) c.in_ok-messages.messages.items)) c.in-Some.rest.now c.in_ok-topology.rest.now
          c.in_ok-names.rest.now c.in_ok-messages.rest.now magic.1 topology.1 report.1 lists.ok.1,
    )
