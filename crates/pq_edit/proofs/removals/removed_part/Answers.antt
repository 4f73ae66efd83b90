use Rattle.std.proofs.Common.{List, ℕ, map, ap, subst, ◌∙◌}
use Rattle.pq_tree.specs.Texts.{text_in}
use Rattle.pq_topo.specs.Naming.{IsAnswer}
use Rattle.pq_topo.specs.declared.fault.NameKind.TheVariants.{UnknownPart}
use Rattle.pq_pred.specs.Values.{name_in}
use Rattle.pq_edit.specs.Reading.{removed_name}
use Rattle.pq_edit.proofs.Statements.{part_names}
use Rattle.pq_edit.proofs.removals.removed_part.Goals as goal

pub returns : goal.returns
returns c =
    subst (λ names. IsAnswer (λ (n : List ℕ). n) c.removed_name.result
    (removed_name UnknownPart names c.args.token.now (name_in (text_in c.args.bytes.now c.args.token.now))))
    (ap (map (λ n. n.0)) c.deref.ensures.value ∙ part_names c.args.document.now.parts.items) c.removed_name.ensures
