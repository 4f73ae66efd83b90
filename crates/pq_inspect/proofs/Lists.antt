-- Two lists side by side.
use Rattle.std.specs.Prelude.{◌≡◌, ℕ, ◌<◌, List, map, length, get_or, zip}
use Rattle.std.proofs.Common.{arith, ap, sym, ◌∙◌}
use Rattle.std.proofs.lemmas.List.{get_or-map, length-map}
use Rattle.std.proofs.lemmas.Slice.Zip.{get_or-zip}

-- elements that are read at one place of two lists are read there beside each other
pub read_beside : {A V B : Type 0} (xs : List A) (vs : List V) (f : V → B) (i : ℕ) (x : A) (v : V) → i < length xs → i < length vs
    → x ≡ get_or xs i x → v ≡ get_or vs i v → (x, f v) ≡ get_or (zip xs (map f vs)) i (x, f v)
read_beside xs vs f i x v first second read also =
    let image : f v ≡ get_or (map f vs) i (f v) = sym (get_or-map f vs i v (f v) second ∙ ap f (sym also)) in
    (λ k. (read k, image k)) ∙ sym (get_or-zip xs (map f vs) i (x, f v) first (omega (arith, second, length-map vs f)))
