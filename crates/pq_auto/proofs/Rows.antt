-- Rows that are stored in vectors.
use Rattle.std.proofs.Common.{ℕ, ◌<◌, ◌≡◌, ◌∙◌, List, [], length, sym, ap, subst, arith, Vec, Global, get_or}
use Rattle.std.specs.Prelude.{map}
use Rattle.std.proofs.lemmas.List.{get_or-map, length-map}
use Rattle.pq_auto.specs.Machine.{Machine, IsMachine, AllBelow}

-- the row that was read
pub row_at : (rows : List (Vec ℕ Global)) (i : ℕ) (v : Vec ℕ Global) (row : List ℕ) → i < length (map (λ w. w.items) rows) → row ≡ v.items
    → v ≡ get_or rows i v → row ≡ get_or (map (λ w. w.items) rows) i []
row_at rows i v row h is at =
    let within : i < length rows = omega (arith, length-map rows (λ (w : Vec ℕ Global). w.items)) in
    is ∙ ap (λ w. w.items) at ∙ sym (get_or-map (λ (w : Vec ℕ Global). w.items) rows i v [] within)

-- a row has a state for each letter
pub row_long : (a b : Machine) → a ≡ b → IsMachine a → (i : ℕ) (row : List ℕ) → i < length b.rows → row ≡ get_or a.rows i [] → length row ≡ b.letters
row_long a b is machine i row h at =
    let within : i < length a.rows = rw is h in
    ap length at ∙ machine.long i within ∙ ap (λ m. m.letters) is

-- its states are states
pub row_within : (a b : Machine) → a ≡ b → IsMachine a → (i : ℕ) (row : List ℕ) → i < length b.rows → row ≡ get_or a.rows i [] → AllBelow (length b.rows) row
row_within a b is machine i row h at =
    let within : i < length a.rows = rw is h in
    subst (λ m. AllBelow (length m.rows) row) is (rw at (machine.within i within))
