use Rattle.pq_rewrite.proofs.Examples.{writing_example}
use Rattle.call_tests.proofs.rewriting.writing.Goals as goal

pub returns-clause-example : goal.returns-clause-example
returns-clause-example c = writing_example c.args.field c.args.value c.write.new.store c.in_ok-id.id c.requires.known c.in_ok-id.ensures.writes
