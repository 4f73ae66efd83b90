-- Places in lists of what is named.
use Rattle.std.specs.Prelude.{ℕ, suc, List, [], ◌∷◌, if◌then◌else◌, bytes_eq, Option}
use Rattle.std.specs.declared.option.Option.TheVariants.{None, Some}

-- the place of the first that has the name; the length where none has
abbrev pub place_in : List ℕ → List (List ℕ) → ℕ
place_in name [] = 0
place_in name (n ∷ ns) = if bytes_eq n name then 0 else suc (place_in name ns)

-- one item or none, as a list
abbrev pub listed : {A : Type 0} → Option A → List A
listed None = []
listed (Some x) = x ∷ []
