-- Entries as keys of a set.
use Rattle.std.specs.Prelude.{◌≡◌, ℕ, true, List, [], ◌++◌}
use mathlib.Core.Path.{ap}
use Rattle.std.specs.Cmp.{IsPartialEquivalence, IsEquivalence, partial_equiv_from_equiv}
use Rattle.std.specs.Hash as fed
use Rattle.indexmap.specs.IndexSet.{insert_all}
use Rattle.pq_model.specs.SwitchMachine.{Entry}
use Rattle.pq_delta.specs.Equal.{same_entry}
use Rattle.pq_delta.specs.Exact.{entry_exact, entry_itself, exact_equiv}

pub entry_equiv : IsEquivalence same_entry
entry_equiv = exact_equiv same_entry entry_exact entry_itself

pub entry_per : IsPartialEquivalence same_entry
entry_per = partial_equiv_from_equiv entry_equiv

-- what `hash` writes of an entry
abbrev pub entry_hash : Entry → List (List ℕ)
entry_hash e = fed.u8 e.table ++ fed.u16 e.priority

pub entry_hashes : (d e : Entry) → same_entry d e ≡ true → entry_hash d ≡ entry_hash e
entry_hashes d e same = ap entry_hash (entry_exact d e same)

-- entries, each once
abbrev pub keys_of : List Entry → List Entry
keys_of es = insert_all same_entry [] es
