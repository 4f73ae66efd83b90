use Rattle.diagram_sizes.proofs.Operands.{number_operand}
use Rattle.diagram_sizes.proofs.disjunctions.operand.Goals as goal

pub returns-in-Numbers : goal.returns-in-Numbers
returns-in-Numbers c =
    rw (c.in-Numbers.is, c.from.ensures)
    (number_operand c.in-Numbers.field c.args.count c.args.place (rw c.in-Numbers.is at c.requires.testable) c.requires.place)
