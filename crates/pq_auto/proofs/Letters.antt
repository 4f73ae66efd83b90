-- Numbering the keys after a key letter by letter.
use Rattle.std.proofs.Common.{◌≡◌, ℕ, suc, ◌+◌, ◌-◌, ◌<◌, ◌≤◌, List, [], ◌∷◌, ◌++◌, refl, sym, ap, subst, ◌∙◌, arith, append-nil, append_assoc}
use Rattle.pq_auto.specs.Search.{IsNumber, AreNumbers, targets}

module _ {K : Type 0} (goes : K → ℕ → K) (k : K) where
  -- the letters that are left are one and later ones
  next_target : (l letters : ℕ) → l < letters → targets goes k l (letters - l) ≡ goes k l ∷ targets goes k (l + 1) (letters - (l + 1))
  next_target l letters h =
      let left : letters - l ≡ suc (letters - (l + 1)) = omega (arith, h) in
      let place : suc l ≡ l + 1 = omega arith in
      ap (targets goes k l) left ∙ ap (λ m. goes k l ∷ targets goes k m (letters - (l + 1))) place

  -- the number of one key, and those of later ones
  pub numbers_more : (l letters : ℕ) (old mid : List K) (n : ℕ) (row pushed : List ℕ) (begins : List K) (all : List K) → l < letters
      → IsNumber old (goes k l) n mid → pushed ≡ row ++ n ∷ []
      → ((more : List ℕ) (new : List K) → AreNumbers old (targets goes k l (letters - l)) more new → AreNumbers begins all (row ++ more) new)
      → (more : List ℕ) (new : List K) → AreNumbers mid (targets goes k (l + 1) (letters - (l + 1))) more new → AreNumbers begins all (pushed ++ more) new
  numbers_more l letters old mid n row pushed begins all h number grown before more new later =
      let whole : AreNumbers old (targets goes k l (letters - l)) (n ∷ more) new =
      subst (λ ts. AreNumbers old ts (n ∷ more) new) (sym (next_target l letters h)) (n, more, mid, refl, number, later) in
      subst (λ ns. AreNumbers begins all ns new) (sym (ap (λ ns. ns ++ more) grown ∙ append_assoc row (n ∷ []) more)) (before (n ∷ more) new whole)

  -- no letter is left
  pub numbers_all : (l letters : ℕ) (old : List K) (row : List ℕ) (begins all : List K) → letters ≤ l
      → ((more : List ℕ) (new : List K) → AreNumbers old (targets goes k l (letters - l)) more new → AreNumbers begins all (row ++ more) new)
      → AreNumbers begins all row old
  numbers_all l letters old row begins all h before =
      let none : letters - l ≡ 0 = omega (arith, h) in
      subst (λ ns. AreNumbers begins all ns old) (append-nil row)
      (before [] old (subst (λ n. AreNumbers old (targets goes k l n) [] old) (sym none) (refl, refl)))

  -- no letter was read yet
  pub numbers_none : (letters : ℕ) (old : List K) (row more : List ℕ) (new : List K) → row ≡ []
      → AreNumbers old (targets goes k 0 (letters - 0)) more new → AreNumbers old (targets goes k 0 letters) (row ++ more) new
  numbers_none letters old row more new none numbers =
      let all : letters - 0 ≡ letters = omega arith in
      subst (λ r. AreNumbers old (targets goes k 0 letters) (r ++ more) new) (sym none) (subst (λ n. AreNumbers old (targets goes k 0 n) more new) all numbers)
