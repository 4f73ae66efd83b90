use Rattle.std.proofs.Common.{subst}
use Rattle.std.specs.Prelude.{All, IsTrue}
use Rattle.std.proofs.lemmas.List.{take_all}
use Rattle.std.proofs.lemmas.List.Elements.{All-more}
use Rattle.pq_term.specs.Names.{is_name}
use Rattle.pq_emit.proofs.names.are_names.Goals as goal

pub loop-name-preserved : goal.loop-name-preserved
loop-name-preserved c =
    All-more (λ name. IsTrue (is_name name)) c.args.names.now c.loop-name.name-index c.name-item.result c.loop-name-test.true c.loop-name.invariant
    (subst (λ name. IsTrue (is_name name)) c.name-item.is c.bytes.ensures.name)

pub returns : goal.returns
returns c =
    let last = c.loop-name-test.false in
    subst (All (λ name. IsTrue (is_name name))) (take_all c.loop-name.name-index c.args.names.now last) c.loop-name.invariant
