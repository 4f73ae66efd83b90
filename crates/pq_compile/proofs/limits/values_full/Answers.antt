use Rattle.std.proofs.Common.{ap, ◌∙◌}
use Rattle.pq_values.specs.Limits.{first_full}
use Rattle.pq_compile.proofs.Values.{stated_are}
use Rattle.pq_compile.proofs.limits.values_full.Goals as goal

pub returns : goal.returns
returns c =
    c.in_ok-full.ensures ∙ ap first_full (stated_are c.args.document.now c.deref.result.now c.deref-2.result.now c.deref.ensures.value c.deref-2.ensures.value)
