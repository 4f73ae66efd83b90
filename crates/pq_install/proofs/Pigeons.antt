-- Links in which no port is twice are fewer than the ports.
use Rattle.std.specs.Prelude.{◌≡◌, ℕ, ◌+◌, ◌≤◌, Bool, true, false, ◌||◌, if◌then◌else◌, List, [], ◌∷◌, All, length}
use Rattle.std.proofs.Common.{arith, refl, suc, zero}
use Rattle.std.specs.List.{IsDistinct, AllByRecursion, list_any}
use Rattle.std.proofs.lemmas.Bool.Decides.{nat_tests}
use Rattle.std.proofs.lemmas.List.Elements.{All-tail}
use Rattle.pq_install.specs.Links.{same_end}

-- whether the end is among others
abbrev pub is_among : List (ℕ × ℕ) → ℕ × ℕ → Bool
is_among ends e = list_any (λ d. same_end d e) ends

-- the ends without one of them
abbrev without : List (ℕ × ℕ) → ℕ × ℕ → List (ℕ × ℕ)
without [] e = []
without (d ∷ ds) e = if same_end d e then ds else d ∷ without ds e

one_fewer : (ends : List (ℕ × ℕ)) (e : ℕ × ℕ) → is_among ends e ≡ true → length (without ends e) + 1 ≡ length ends
one_fewer [] e there = absurd cc
one_fewer (d ∷ ds) e there = by (one_fewer ds e) (same_end d e) refl
  where
    by : (is_among ds e ≡ true → length (without ds e) + 1 ≡ length ds) → (b : Bool) → same_end d e ≡ b → length (without (d ∷ ds) e) + 1 ≡ length (d ∷ ds)
    by later true same = rw same (omega arith)
    by later false same =
        let behind : is_among ds e ≡ true = rw same at there in
        rw same (omega (arith, later behind))

others_stay : (ends : List (ℕ × ℕ)) (e f : ℕ × ℕ) → same_end e f ≡ false → is_among ends f ≡ true → is_among (without ends e) f ≡ true
others_stay [] e f differ there = absurd cc
others_stay (d ∷ ds) e f differ there = by (others_stay ds e f differ) (same_end d e) refl
  where
    by : (is_among ds f ≡ true → is_among (without ds e) f ≡ true) → (b : Bool) → same_end d e ≡ b → is_among (without (d ∷ ds) e) f ≡ true
    by later true same =
        let other : same_end d f ≡ false = grind (arith, nat_tests, same, differ) in
        let behind : is_among ds f ≡ true = rw other at there in
        rw same behind
    by later false same = rw same (split (same_end d f) refl)
      where
        split : (b : Bool) → same_end d f ≡ b → (same_end d f || is_among (without ds e) f) ≡ true
        split true here = rw here refl
        split false away =
            let behind : is_among ds f ≡ true = rw away at there in
            rw (away, later behind) refl

all_others_stay : (ends es : List (ℕ × ℕ)) (e : ℕ × ℕ) → AllByRecursion (λ f. same_end e f ≡ false) es
    → All (λ f. is_among ends f ≡ true) es → All (λ f. is_among (without ends e) f ≡ true) es
all_others_stay ends [] e differ there k f below = absurd (omega (arith, below))
all_others_stay ends (g ∷ gs) e differ there zero f below = others_stay ends e g differ.0 (there 0 g (omega arith))
all_others_stay ends (g ∷ gs) e differ there (suc k) f below =
    all_others_stay ends gs e differ.1 (All-tail (λ h. is_among ends h ≡ true) g gs there) k f (omega (arith, below))

-- different ends among others are at most as many
pub at_most : (es ends : List (ℕ × ℕ)) → IsDistinct same_end es → All (λ e. is_among ends e ≡ true) es → length es ≤ length ends
unfolding IsDistinct
at_most [] ends differ there = omega arith
at_most (e ∷ es) ends differ there =
    let fewer = one_fewer ends e (there 0 e (omega arith)) in
    let rest = at_most es (without ends e) differ.1 (all_others_stay ends es e differ.0 (All-tail (λ f. is_among ends f ≡ true) e es there)) in
    omega (arith, fewer, rest)
