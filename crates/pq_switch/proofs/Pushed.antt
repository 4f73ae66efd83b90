-- A number is put at the end of one of several lists.
use Rattle.std.proofs.Common.{◌≡◌, ℕ, ◌<◌, List, [], ◌∷◌, ◌++◌, length, map, get_or, sym, ap, ◌∙◌}
use Rattle.std.specs.Prelude.{slice_set}
use Rattle.std.proofs.lemmas.List.{get_or-map, map-set, set-set}

pub put-is : {V : Type 0} (f : V → List ℕ) (xs : List V) (k : ℕ) (empty old new : V) (row : ℕ) → k < length xs → old ≡ get_or xs k old
    → f new ≡ f old ++ row ∷ []
    → map f (slice_set (slice_set xs k empty) k new) ≡ slice_set (map f xs) k (get_or (map f xs) k [] ++ row ∷ [])
put-is f xs k empty old new row within read is =
    ap (map f) (set-set xs k empty new) ∙ map-set f xs k new
    ∙ ap (slice_set (map f xs) k) (is ∙ ap (λ l. l ++ row ∷ []) (ap f read ∙ sym (get_or-map f xs k old [] within)))
