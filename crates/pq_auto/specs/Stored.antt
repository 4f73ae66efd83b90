-- Automata, and parts of their states, that are stored.
use Rattle.std.specs.Prelude.{map}
use Rattle.pq_auto.specs.declared.table.Table.TheInside.{Inside}
use Rattle.pq_auto.specs.declared.partition.Partition.TheInside.{Inside as Places}
use Rattle.pq_auto.specs.Machine.{Machine}
use Rattle.pq_auto.specs.Parts.{Parts}

abbrev pub stored_machine : Inside → Machine
stored_machine a = record {
  letters = a.letters;
  rows = map (λ row. row.items) a.rows.items;
  even = a.even.items;
  accepted = map (λ list. list.items) a.accepted.items;
}

-- the parts that are stored
abbrev pub stored_parts : Places → Parts
stored_parts p = record { seen = map (λ key. key.items) p.seen.keys; classes = p.classes.items; firsts = p.firsts.items }
