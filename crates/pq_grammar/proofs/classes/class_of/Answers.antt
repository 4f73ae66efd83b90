use Rattle.std.proofs.Common.{◌∙◌, ap}
use Rattle.pq_grammar.specs.Classes.{class_of_text}
use Rattle.pq_grammar.proofs.Classified.{is_unreserved}
use Rattle.pq_grammar.proofs.classes.class_of.Goals as goal

-- a word is a name where it is not reserved
pub returns-clause-name : goal.returns-clause-name
returns-clause-name c = is_unreserved c.args.token.now.kind _ c.class_of_text.result (c.class_of_text.ensures
    ∙ ap (class_of_text c.args.token.now.kind) c.text.ensures)
