use Rattle.pq_inspect.proofs.Names.{name_is_utf8}
use Rattle.pq_inspect.proofs.text.NameShown.shown.Goals as goal

pub text-requires : goal.text-requires
text-requires c = rw c.bytes.ensures.bytes (name_is_utf8 c.args.self.now c.bytes.ensures.name)
