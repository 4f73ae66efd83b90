-- The step of a loop over values that are seen by a function of each, as vectors are by their items.
use Rattle.std.specs.Prelude.{◌≡◌, ℕ, ◌+◌, ◌<◌, List, [], ◌∷◌, ◌++◌, map, length, take, get_or}
use Rattle.std.specs.List.{flat_map}
use Rattle.std.proofs.Common.{ap, sym, ◌∙◌}
use Rattle.std.proofs.lemmas.List.{map_more, flat_map_more}

-- what is written grows by the piece of the element that was read
pub flat_map-map_more : {V A B : Type 0} (vs : List V) (f : V → A) (g : A → List B) (i : ℕ) (v : V) (start : List B) → i < length vs
    → v ≡ get_or vs i v → (start ++ flat_map g (map f (take i vs))) ++ g (f v) ≡ start ++ flat_map g (map f (take (i + 1) vs))
flat_map-map_more vs f g i v start below read =
    let longer : map f (take (i + 1) vs) ≡ map f (take i vs) ++ f v ∷ [] = map_more f vs i v below ∙ ap (λ (x : _). map f (take i vs) ++ f x ∷ []) (sym read) in
    rw longer (flat_map_more g start (map f (take i vs)) (f v))
