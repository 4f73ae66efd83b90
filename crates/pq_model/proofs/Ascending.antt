-- Lists that ascend, shortened and prolonged.
use Rattle.std.specs.Prelude.{ℕ, ◌<◌, List, [], ◌∷◌, ◌++◌, All}
use Rattle.std.proofs.lemmas.List.Elements.{All-head, All-tail}
use Rattle.pq_model.specs.Install.{AscendsBy}
use Rattle.pq_model.specs.Lawful.{Ascends}

-- without its first value a list still ascends
pub rest_ascends : {A : Type 0} (key : A → List ℕ) (x : A) (xs : List A) → AscendsBy key (x ∷ xs) → AscendsBy key xs
rest_ascends key x [] up = tt
rest_ascends key x (y ∷ ys) up = up.1

-- a number above all that ascend may come after them
pub ascend_push : (ns : List ℕ) (n : ℕ) → Ascends ns → All (λ m. m < n) ns → Ascends (ns ++ n ∷ [])
ascend_push [] n up below = tt
ascend_push (m ∷ []) n up below = (All-head (λ k. k < n) m [] below, tt)
ascend_push (m ∷ k ∷ ns) n up below = (up.0, ascend_push (k ∷ ns) n up.1 (All-tail (λ l. l < n) m (k ∷ ns) below))
