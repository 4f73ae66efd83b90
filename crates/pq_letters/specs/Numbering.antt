-- The numbers of letters.
use Rattle.std.specs.Prelude.{ℕ, zero, suc, ◌≡◌, Bool, List, [], ◌∷◌, Some, map, slice_get, if◌then◌else◌, All}
use Rattle.pq_fields.specs.Packet.{Numbers}
use Rattle.pq_store.specs.declared.least.Least.{Least}
use Rattle.pq_store.specs.declared.test.Test.{Test}
use Rattle.pq_store.specs.Store.{HasAt}
use Rattle.pq_store.specs.Tree.{Tree, value, IsTested}
use Rattle.pq_store.specs.Tree.Tree.{Tip}
use Rattle.pq_store.specs.Room.{HasRoom, Within}
use Rattle.pq_letters.specs.Order.{truths_eq}

-- what was found are leaves of the store
abbrev pub AreLeaves : List (Tree (List Bool)) → List Least → Type 0
AreLeaves ts found = All (λ e. (s : List Bool) × (slice_get ts e.leaf ≡ Some (Tip s))) found

-- there is room for the numbers that the tree tests
abbrev pub FitsAlone : Tree (List Bool) → Type 0
FitsAlone t = HasRoom (λ ns. Within ns t)

-- the place of a signature in a list, and the list's length where it isn't there
abbrev pub place_in : List (List Bool) → List Bool → ℕ
place_in [] s = zero
place_in (t ∷ ts) s = if truths_eq t s then zero else suc (place_in ts s)

-- the packets of what was found
abbrev pub packets : List Least → List Numbers
packets found = map (λ e. e.packet) found

-- one by one the leaves that were found have these signatures
abbrev pub HaveSignatures : List (Tree (List Bool)) → List Least → List (List Bool) → Type 0
HaveSignatures ts [] [] = Unit {0}
HaveSignatures ts [] (s ∷ ss) = ⊥
HaveSignatures ts (e ∷ es) [] = ⊥
HaveSignatures ts (e ∷ es) (s ∷ ss) = (slice_get ts e.leaf ≡ Some (Tip s)) × HaveSignatures ts es ss

-- the tree has of each packet the place of the other's value, and tests only what it tests
pub record IsNumbered (signatures : List (List Bool)) (t : Tree (List Bool)) (r : Tree ℕ) : Type 0 where
  pub gives : (x : Numbers) → value r x ≡ place_in signatures (value t x)
  pub tests : (s : Test) → IsTested s r → IsTested s t

abbrev pub NumbersAt : List (List Bool) → List (Tree (List Bool)) → ℕ → List (Tree ℕ) → ℕ → Type 0
NumbersAt signatures from k into id =
    (t : Tree (List Bool)) → slice_get from k ≡ Some t → HasAt (IsNumbered signatures t) into id
