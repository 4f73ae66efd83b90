use Rattle.std.proofs.Common.{◌∙◌}
use Rattle.pq_install.proofs.NameUnits.{name_tells}
use Rattle.pq_install.proofs.read.names.name_at.Goals as goal

pub returns : goal.returns
returns c =
    let parts = c.split_at.ensures in
    name_tells c.args.bytes.now c.in-Some.rest.now _ _ c.in-Some.len.now c.in-Some.ensures.cases.0 parts.by_index.0 (parts.front_len
    ∙ c.from-len.ensures) c.of.result c.of.ensures
