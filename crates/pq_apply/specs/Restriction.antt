-- A diagram with one field's number set beforehand.
use Rattle.std.specs.Prelude.{ℕ, ◌≡◌, List, Some, slice_get}
use Rattle.pq_fields.specs.declared.field.Field.{Field}
use Rattle.pq_fields.specs.Packet.{Numbers, with_number}
use Rattle.pq_store.specs.declared.test.Test.{Test}
use Rattle.pq_store.specs.Store.{HasAt}
use Rattle.pq_store.specs.Test.{field_of}
use Rattle.pq_store.specs.Tree.{Tree, value, IsTested}

module _ {L : Type 0} where
  -- the tree has on each packet the value of the other on the packet with the field set, tests only what that tests, and the
  -- field no more
  pub record IsRestriction (f : Field) (v : ℕ) (t restricted : Tree L) : Type 0 where
    pub gives : (p : Numbers) → value restricted p ≡ value t (with_number f v p)
    pub tests : (s : Test) → IsTested s restricted → IsTested s t
    pub untested : (s : Test) → IsTested s restricted → field_of s ≡ f → ⊥

  -- a new place has the restriction of the tree of an old one
  abbrev pub RestrictsAt : Field → ℕ → List (Tree L) → ℕ → List (Tree L) → ℕ → Type 0
  RestrictsAt f v old k new id =
      (t : Tree L) → slice_get old k ≡ Some t → HasAt (IsRestriction f v t) new id
