-- A name as it is stored, and its bytes.
use Rattle.std.specs.Prelude.{◌≡◌, ℕ, ◌-◌, List, ◌++◌, take, length, replicate, IsTrue}
use Rattle.pq_term.specs.declared.name.Name.TheInside.{Inside}
use Rattle.pq_term.specs.Names.{is_name}

-- the bytes of the name that is stored
abbrev pub stored_bytes : Inside → List ℕ
stored_bytes n = take n.len n.padded

-- how a name is stored: its bytes, zeros up to 32 bytes, and its length
abbrev pub stored : List ℕ → Inside
stored bytes = record { padded = bytes ++ replicate (32 - length bytes) 0; len = length bytes }

-- what is stored is a name
pub record IsStoredName (n : Inside) : Type 0 where
  pub name : IsTrue (is_name (stored_bytes n))
  pub padded : stored (stored_bytes n) ≡ n
