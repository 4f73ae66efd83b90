use Rattle.std.proofs.lemmas.Option.{slice_get_within}
use Rattle.pq_rewrite.proofs.Examples.{example_idle_free, examples_in_sequence, sequence_example}
use Rattle.call_tests.proofs.rewriting.counted_sequence.Goals as goal

pub then-requires : goal.then-requires
then-requires g c =
    let first = c.requires.first in
    let second = c.requires.second in
    record {
      x = slice_get_within c.args.store.now c.args.x first.0 first.1;
      y = slice_get_within c.args.store.now c.args.y second.0 second.1;
      x_idle_free = example_idle_free c.args.store.now c.args.x first;
      y_idle_free = example_idle_free c.args.store.now c.args.y second;
      fit = examples_in_sequence c.args.store.now c.args.x c.args.y first second;
    }

pub returns-clause-example : goal.returns-clause-example
returns-clause-example g c =
    sequence_example c.args.store.now c.args.x c.args.y c.requires.first c.requires.second c.then.new.store c.in_ok-id.id
    c.in_ok-id.ensures.sequences
