use Rattle.std.proofs.Common.{map, ap, subst, ◌∙◌}
use Rattle.pq_term.specs.declared.token.Token.{Token}
use Rattle.pq_topo.specs.Naming.{IsAnswer}
use Rattle.pq_edit.specs.Reading.{keyword_at}
use Rattle.pq_edit.proofs.Statements.{query_names}
use Rattle.pq_edit.proofs.puts.query_keyword.Goals as goal

pub returns : goal.returns
returns c =
    subst (λ names. IsAnswer (λ (t : Token). t) c.keyword_at.result (keyword_at 256 names c.args.keyword.now c.args.name.now))
    (ap (map (λ n. n.0)) c.deref.ensures.value ∙ query_names c.args.document.now.queries.items) c.keyword_at.ensures
