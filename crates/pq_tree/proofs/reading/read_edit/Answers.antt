use Rattle.std.proofs.Common.{subst}
use Rattle.pq_grammar.specs.declared.sort.Sort.TheVariants.{Edit}
use Rattle.pq_tree.specs.Reading.{IsForestOf}
use Rattle.pq_tree.proofs.OneEdit.{is_alone, some_term, first_term}
use Rattle.pq_tree.proofs.reading.read_edit.Goals as goal

-- an edit has a tree
pub bounds-terms-0 : goal.bounds-terms-0
bounds-terms-0 c = some_term c.in-Ok.terms.now (is_alone c.args.bytes.now _ c.in-Ok.ensures.ok)

-- and no more than one
pub returns-in-Ok-clause-ok : goal.returns-in-Ok-clause-ok
returns-in-Ok-clause-ok c =
    subst (IsForestOf Edit c.args.bytes.now) (first_term c.in-Ok.terms.now _ (is_alone c.args.bytes.now _ c.in-Ok.ensures.ok))
    c.in-Ok.ensures.ok
