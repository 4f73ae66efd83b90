use Rattle.std.proofs.Common.{◌≤◌, length, ap, sym, subst, ◌∙◌, map}
use Rattle.std.specs.Prelude.{All, IsTrue, bytes_eq}
use Rattle.std.specs.List.{IsDistinct}
use Rattle.std.proofs.lemmas.List.{length-map}
use Rattle.pq_model.specs.Install.{IsLawfulRow, IsLawfulTopology}
use Rattle.pq_model.specs.Lawful.{Ascends}
use Rattle.pq_term.specs.Names.{is_name}
use Rattle.pq_emit.proofs.Reported.{report_ascends, report_lawful, reported}
use Rattle.pq_emit.proofs.assembly.install_of.Goals as goal

pub returns-clause-report : goal.returns-clause-report
returns-clause-report c = λ a. c.in_ok-report.ensures ∙ reported c.args.classes.now c.args.instances.now a

-- the install keeps the rules
pub returns-clause-lawful : goal.returns-clause-lawful
returns-clause-lawful c =
    let topology = c.in_ok-topology.ensures in
    let names = c.in_ok-names.ensures.items in
    let rows = report_lawful c.args.classes.now c.args.instances.now (length c.args.names.now) c.requires.classes c.requires.instances c.requires.held in
    record {
      topology = subst IsLawfulTopology (sym topology) c.switches.ensures.lawful.lawful;
      few_queries = subst (λ ns. length ns ≤ 256) (sym names) c.requires.names;
      names = subst (All (λ name. IsTrue (is_name name))) (sym names) c.are_names.ensures;
      names_differ = subst (IsDistinct bytes_eq) (sym names) c.requires.names_differ;
      rows = subst (λ ns. All (IsLawfulRow (length ns)) c.in_ok-report.report.items) (sym names)
          (subst (All (IsLawfulRow (length c.args.names.now))) (sym c.in_ok-report.ensures) rows);
      tags_ascend = subst (λ rs. Ascends (map (λ row. row.tag) rs)) (sym c.in_ok-report.ensures) (report_ascends c.args.classes.now c.args.instances.now);
      listed = length-map c.args.messages.items (λ ms. ms.items) ∙ c.requires.listed ∙ ap (λ t. length t.switches) (sym topology);
      messages = c.requires.lawful;
    }
