use Rattle.std.proofs.Common.{◌∙◌, sym}
use Rattle.pq_term.proofs.Stored.{name_over_zeros}
use Rattle.pq_term.proofs.name.Name.of.Goals as goal

pub invariant_of-result : goal.invariant_of-result
invariant_of-result c = name_over_zeros c.args.bytes.now _ (sym c.is_name.ensures ∙ c.if-not-is_name.false) c.copy_from_slice.ensures.after
