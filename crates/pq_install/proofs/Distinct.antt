-- What may follow values that differ.
use Rattle.std.specs.Prelude.{◌≡◌, Bool, false, ◌↔◌, List, [], ◌∷◌, ◌++◌}
use Rattle.std.proofs.Common.{refl}
use Rattle.std.specs.List.{IsDistinct, list_any, AllByRecursion}
use Rattle.std.proofs.lemmas.Bool.{or_parts}

module _ {X : Type 0} (same : X → X → Bool) where
  none_more : (y : X) (xs : List X) (x : X)
      → AllByRecursion (λ z. same y z ≡ false) (xs ++ x ∷ []) ↔ AllByRecursion (λ z. same y z ≡ false) xs × (same y x ≡ false)
  none_more y [] x = (λ all. (tt, all.0), λ all. (all.1, tt))
  none_more y (z ∷ zs) x =
      let later = none_more y zs x in
      (λ all. let l = later.0 all.1 in ((all.0, l.0), l.1), λ all. (all.0.0, later.1 (all.0.1, all.1)))

  -- a value that is none of them may follow
  pub distinct_more : (xs : List X) (x : X) → IsDistinct same (xs ++ x ∷ []) ↔ IsDistinct same xs × (list_any (λ y. same y x) xs ≡ false)
  unfolding IsDistinct
  distinct_more [] x = (λ d. (tt, refl), λ d. (tt, tt))
  distinct_more (y ∷ ys) x =
      let first = none_more y ys x in
      let later = distinct_more ys x in (
        λ d. let f = first.0 d.0 in let l = later.0 d.1 in ((f.0, l.0), rw (f.1, l.1) refl),
        λ d. let n =
            or_parts (same y x) (list_any (λ z. same z x) ys) d.1 in (first.1 (d.0.0, n.0), later.1 (d.0.1, n.1)),
      )
