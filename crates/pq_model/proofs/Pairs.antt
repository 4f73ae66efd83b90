-- Lists whose values are related at the same places.
use Rattle.std.proofs.Common.{ℕ, zero, suc, List, [], ◌∷◌, ◌++◌, take, drop}
use Rattle.std.specs.List.{remove}
use Rattle.pq_model.specs.Simulation.{Pairwise}

module _ {A B : Type 0} (R : A → B → Type 0) where
  pub Pairwise-append : (xs : List A) (ys : List B) (us : List A) (vs : List B) → Pairwise R xs ys → Pairwise R us vs → Pairwise R (xs ++ us) (ys ++ vs)
  Pairwise-append [] [] us vs p q = q
  Pairwise-append [] (y ∷ ys) us vs p q = absurd p
  Pairwise-append (x ∷ xs) [] us vs p q = absurd p
  Pairwise-append (x ∷ xs) (y ∷ ys) us vs p q = (p.0, Pairwise-append xs ys us vs p.1 q)

  pub Pairwise-take : (k : ℕ) (xs : List A) (ys : List B) → Pairwise R xs ys → Pairwise R (take k xs) (take k ys)
  Pairwise-take zero xs ys p = tt
  Pairwise-take (suc k) [] [] p = tt
  Pairwise-take (suc k) [] (y ∷ ys) p = absurd p
  Pairwise-take (suc k) (x ∷ xs) [] p = absurd p
  Pairwise-take (suc k) (x ∷ xs) (y ∷ ys) p = (p.0, Pairwise-take k xs ys p.1)

  pub Pairwise-drop : (k : ℕ) (xs : List A) (ys : List B) → Pairwise R xs ys → Pairwise R (drop k xs) (drop k ys)
  Pairwise-drop zero xs ys p = p
  Pairwise-drop (suc k) [] [] p = tt
  Pairwise-drop (suc k) [] (y ∷ ys) p = absurd p
  Pairwise-drop (suc k) (x ∷ xs) [] p = absurd p
  Pairwise-drop (suc k) (x ∷ xs) (y ∷ ys) p = Pairwise-drop k xs ys p.1

  pub Pairwise-remove : (xs : List A) (ys : List B) (k : ℕ) → Pairwise R xs ys → Pairwise R (remove xs k) (remove ys k)
  Pairwise-remove xs ys k p = Pairwise-append (take k xs) (take k ys) (drop (suc k) xs) (drop (suc k) ys) (Pairwise-take k xs ys p)
      (Pairwise-drop (suc k) xs ys p)
