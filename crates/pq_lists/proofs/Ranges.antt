-- Numbers one after another.
use Rattle.std.proofs.Common.{ℕ, zero, suc, ◌+◌, ◌<◌, ◌≡◌, ◌∙◌, false, [], ◌∷◌, ◌++◌, ap, inl, inr, arith}
use Rattle.std.specs.Prelude.{nat_eq}
use Rattle.std.specs.List.{AllByRecursion, IsDistinct, range_with_len}
use Rattle.std.proofs.lemmas.Bool.Decides.{eqb_tells}

-- a number is none of those from a greater one on
beyond : (a b n : ℕ) → a < b → AllByRecursion (λ c. nat_eq a c ≡ false) (range_with_len b n)
beyond a b zero h = tt
beyond a b (suc n) h = (elim (eqb_tells a b) [ inl same ↦ absurd (omega (arith, same.1, h)) | inr other ↦ other.0 ], beyond a (b + 1) n (omega (arith, h)))

-- so they are distinct
pub range_differs : (a n : ℕ) → IsDistinct nat_eq (range_with_len a n)
unfolding IsDistinct
range_differs a zero = tt
range_differs a (suc n) = (beyond a (a + 1) n (omega arith), range_differs (a + 1) n)

-- the next number is last
pub range_push : (a n : ℕ) → range_with_len a (suc n) ≡ range_with_len a n ++ (a + n) ∷ []
range_push a zero = ap (λ m. m ∷ []) (omega arith)
range_push a (suc n) = ap (λ l. a ∷ l) (range_push (a + 1) n ∙ ap (λ m. range_with_len (a + 1) n ++ m ∷ []) (omega arith))
