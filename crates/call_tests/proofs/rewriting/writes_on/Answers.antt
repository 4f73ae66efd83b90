use Rattle.std.proofs.lemmas.Option.{slice_get_within}
use Rattle.call_tests.proofs.rewriting.writes_on.Goals as goal

pub eval-requires : goal.eval-requires
eval-requires c = let example = c.requires in slice_get_within c.args.store.now c.args.node example.0 example.1
