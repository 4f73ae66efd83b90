-- What the collector gets: entries of the buckets of instances.
use Rattle.std.specs.Prelude.{ℕ, ◌+◌, List, [], ◌∷◌, ◌++◌, map}
use Rattle.pq_fields.specs.Packet.{Numbers, numbers}

-- an instance: the index of a query, and one of its labels
pub record Instance : Type 0 where
  pub query : ℕ
  pub label : List ℕ

-- an entry: the instance in whose bucket it lies, and the observed packet at the port at which it arrived at its switch
pub record BucketEntry : Type 0 where
  pub pair : Instance
  pub packet : Numbers

-- instances are in the order of their query and then of their label, a label standing before each that it begins
abbrev pub instance_numbers : Instance → List ℕ
instance_numbers i = i.query ∷ (map (λ v. v + 1) i.label ++ 0 ∷ [])

-- entries are in the order of their instance and then of their packet
abbrev pub entry_numbers : BucketEntry → List ℕ
entry_numbers e = instance_numbers e.pair ++ numbers e.packet
