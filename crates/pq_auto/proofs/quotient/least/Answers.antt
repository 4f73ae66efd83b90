use Rattle.std.proofs.Common.{ap}
use Rattle.pq_auto.proofs.Whole.{is_least, is_numbered, says_same, are_joined}
use Rattle.pq_auto.proofs.quotient.least.Goals as goal

pub returns-clause-letters : goal.returns-clause-letters
returns-clause-letters c = ap (λ m. m.letters) c.in_ok-classes.ensures

pub returns-clause-same : goal.returns-clause-same
returns-clause-same c = says_same c.args.table.now c.in_ok-parts.parts c.is_lawful.ensures c.in_ok-parts.ensures c.in_ok-classes.classes c.in_ok-classes.ensures

pub returns-clause-least : goal.returns-clause-least
returns-clause-least c = is_least c.args.table.now c.in_ok-parts.parts c.is_lawful.ensures c.in_ok-parts.ensures c.in_ok-classes.classes c.in_ok-classes.ensures

pub returns-clause-numbered : goal.returns-clause-numbered
returns-clause-numbered c =
    is_numbered c.args.table.now c.in_ok-parts.parts c.is_lawful.ensures c.in_ok-parts.ensures c.in_ok-classes.classes
    c.in_ok-classes.ensures

pub returns-clause-joined : goal.returns-clause-joined
returns-clause-joined c =
    are_joined c.args.table.now c.in_ok-parts.parts c.is_lawful.ensures c.in_ok-parts.ensures c.in_ok-classes.classes
    c.in_ok-classes.ensures
