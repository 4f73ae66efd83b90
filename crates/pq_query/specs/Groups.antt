-- Grouped fields of atoms.
use Rattle.std.specs.Prelude.{ℕ, List, Option, option_map, IfSome, nat_eq}
use Rattle.std.specs.List.{IsDistinct}
use Rattle.pq_fields.specs.declared.field.Field.{Field}
use Rattle.pq_query.specs.declared.group.Group.TheInside.{Inside}

-- a grouped field, and the values that it takes; without values it takes all datapath numbers or all port numbers of the topology
pub record Group : Type 0 where
  pub field : Field
  pub values : Option (List ℕ)

-- the group that is stored
abbrev pub stored_group : Inside → Group
stored_group g = record { field = g.field; values = option_map (λ ns. ns.items) g.values }

-- each stated value is once
abbrev pub DiffersEach : Group → Type 0
DiffersEach g = IfSome g.values (λ ns. IsDistinct nat_eq ns)
