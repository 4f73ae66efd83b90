use Rattle.pq_turning.proofs.Turned.{delta-listed, edits, first-tables, turned}
use Rattle.pq_turning.proofs.laws.edits_turn_tables.Goals as goal

pub returns : goal.returns
returns c = record {
  listed = delta-listed;
  turned = turned c.deltas_turn_tables.ensures.turned;
  edited = λ d i es h all before order lawful. edits c.deltas_turn_tables.ensures.turned d i es h all _ (first-tables d i h before order lawful);
}
