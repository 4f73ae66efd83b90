-- What may follow a list.
use Rattle.std.specs.Prelude.{List, [], ◌∷◌}

-- the property holds of the last, where there is one
abbrev pub AtLast : {X : Type 0} → (X → Type 0) → List X → Type 0
AtLast P [] = Unit {0}
AtLast P (x ∷ []) = P x
AtLast P (x ∷ y ∷ zs) = AtLast P (y ∷ zs)
