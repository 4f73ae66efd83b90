use Rattle.std.proofs.Common.{◌∙◌, Global, List, Vec, map, sym, ap, subst}
use Rattle.pq_model.specs.declared.message.Message.{Message}
use Rattle.pq_model.specs.Install.{Install}
use Rattle.pq_compile.specs.Documents.{document_tree}
use Rattle.pq_local.specs.Local.{AreServedAt}
use Rattle.pq_local.proofs.Before.{served_at_before}
use Rattle.pq_local.proofs.install.installed_after.Goals as goal

pub all_served-requires-clause-old : goal.all_served-requires-clause-old
all_served-requires-clause-old c =
    let d = document_tree c.args.document.now in
    let told = c.args.told.now in
    subst (AreServedAt d.topology c.args.forward.now c.args.before told.letters told.classes)
    (sym (ap (λ (all : List (Vec Message Global)). map (λ ms. ms.items) all) c.deref.ensures.value ∙ ap (λ (i : Install). i.messages) c.old.view_is))
    (served_at_before c.parts_depart.ensures.departures c.classes_tag.ensures d told.instances.items told.letters told.classes c.requires.told
    c.documents_have_one_set_of_trees.ensures c.requires.compilable c.args.forward.now c.args.before c.args.old.now c.requires.old)
