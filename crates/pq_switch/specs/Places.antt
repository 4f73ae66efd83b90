-- The places of entries.
use Rattle.std.specs.Prelude.{ℕ, true, false, ◌-◌}
use Rattle.std.specs.declared.cmp.Ordering.{Ordering}
use Rattle.std.specs.declared.option.Option.{Option}
use Rattle.pq_model.specs.MatchFields.{MatchFields}
use Rattle.pq_switch.specs.Patterns.{no_pattern, pattern_of, shape_of}
use Rattle.pq_switch.specs.declared.pattern.Pattern.{Pattern}
use Rattle.pq_switch.specs.declared.place.Block.{Block}
use Rattle.pq_switch.specs.declared.place.Place.{Place}
use Rattle.pq_switch.specs.contracts.pattern.PatternOrd.TheImpl as pattern_order
use Rattle.pq_switch.specs.contracts.place.BlockOrd.TheImpl as block_order
use Rattle.pq_switch.specs.contracts.place.PlaceOrd.TheImpl as order

-- the block of a table with this arriving port and this VLAN word
abbrev pub block_at : ℕ → Option ℕ → Option ℕ → Block
block_at table in_port vlan = record { table = table; in_port = in_port; vlan = vlan }

-- the place in a table with this pattern, and so far down
abbrev pub place_at : ℕ → Pattern → ℕ → Place
place_at table pattern down = record {
  block = block_at table pattern.in_port pattern.vlan;
  shape = shape_of pattern;
  behind = false;
  pattern = pattern;
  down = down;
}

-- the place of an entry with this table, match and priority
abbrev pub place_of : ℕ → MatchFields → ℕ → Place
place_of table m priority = place_at table (pattern_of m) (0x10000 - priority)

-- how two patterns compare
abbrev pub pattern_cmp : Pattern → Pattern → Ordering
pattern_cmp = (pattern_order.ghosts).cmp

-- how two blocks compare
abbrev pub block_cmp : Block → Block → Ordering
block_cmp = (block_order.ghosts).cmp

-- how two places compare
abbrev pub place_cmp : Place → Place → Ordering
place_cmp = (order.ghosts).cmp

-- before all entries of a block
abbrev pub first_of : Block → Place
first_of block = record { block = block; shape = no_pattern; behind = false; pattern = no_pattern; down = 0 }

-- after all entries of the same block and shape, and before those of the next shape
abbrev pub past : Place → Place
past q = record q { behind = true }
