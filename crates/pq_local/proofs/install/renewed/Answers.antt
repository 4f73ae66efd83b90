use Rattle.std.proofs.Common.{map, sym, subst}
use Rattle.pq_compile.specs.Compiled.{IsInstalled}
use Rattle.pq_compile.specs.Documents.{document_tree}
use Rattle.pq_local.proofs.Renewed.{is_installed, tables_small}
use Rattle.pq_local.proofs.install.renewed.Goals as goal

pub returns-clause-installed : goal.returns-clause-installed
returns-clause-installed c =
    let d = document_tree c.args.document.now in
    let told = c.args.told.now in
    subst (IsInstalled d) (sym c.in_ok-install.ensures)
    (is_installed c.parts_depart.ensures.departures c.classes_tag.ensures d told.instances.items told.letters told.classes c.requires.told c.requires.compilable
    c.args.forward.now c.args.policy c.requires.policy (map (λ ms. ms.items) c.args.messages.items) c.requires.served
    c.documents_have_one_set_of_trees.ensures c.one_install.ensures c.args.before c.args.old.now c.requires.old c.compiled_implements.ensures)

pub returns-clause-complete : goal.returns-clause-complete
returns-clause-complete c =
    let d = document_tree c.args.document.now in
    let told = c.args.told.now in
    tables_small c.parts_depart.ensures.departures c.classes_tag.ensures d told.instances.items told.letters told.classes c.requires.told c.requires.compilable
    c.args.forward.now c.args.policy c.requires.policy (map (λ ms. ms.items) c.args.messages.items) c.requires.served
