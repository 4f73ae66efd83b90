-- The order of words: by length, then by letters.
use Rattle.std.proofs.Common.{◌≡◌, ℕ, ◌<◌, inl, inr, Less, Equal, List, [], ◌∷◌, ◌++◌, length, refl, sym, ap, subst, ◌∙◌}
use Rattle.std.proofs.Common.{arith, length-append}
use Rattle.std.specs.Ordering.{nat_cmp, ordering_then}
use Rattle.std.specs.Cmp.{nat_cmp_is, tied_itself}
use Rattle.std.specs.Cmp.Lexicographic.{slice_cmp}
use Rattle.std.proofs.lemmas.Cmp.{nat_list_cmp_total}
use Rattle.pq_lists.proofs.Orderings.{then_grouped}
use Rattle.pq_auto.specs.Numbering.{IsBefore}
use Rattle.pq_auto.specs.Searched.{IsAtMost}

-- words of one length compare before what follows them
compared : (u v x y : List ℕ) → length u ≡ length v → slice_cmp nat_cmp (u ++ x) (v ++ y) ≡ ordering_then (slice_cmp nat_cmp u v) (slice_cmp nat_cmp x y)
compared [] [] x y same = refl
compared [] (b ∷ v) x y same = absurd (omega (arith, same))
compared (a ∷ u) [] x y same = absurd (omega (arith, same))
compared (a ∷ u) (b ∷ v) x y same = ap (ordering_then (nat_cmp a b)) (compared u v x y (omega (arith, same)))
    ∙ then_grouped (nat_cmp a b) (slice_cmp nat_cmp u v) (slice_cmp nat_cmp x y)

pub before_trans : (u v w : List ℕ) → IsBefore u v → IsBefore v w → IsBefore u w
before_trans u v w (inl h) (inl k) = inl (omega (arith, h, k))
before_trans u v w (inl h) (inr k) = inl (omega (arith, h, k.0))
before_trans u v w (inr h) (inl k) = inl (omega (arith, h.0, k))
before_trans u v w (inr h) (inr k) = inr (h.0 ∙ k.0, nat_list_cmp_total.trans u v w h.1 k.1)

-- a word at most one that is before a third one is before that one
pub most_before : (u v w : List ℕ) → IsAtMost u v → IsBefore v w → IsBefore u w
most_before u v w (inl h) k = subst (λ x. IsBefore x w) (sym h) k
most_before u v w (inr h) k = before_trans u v w h k

pub most_trans : (u v w : List ℕ) → IsAtMost u v → IsAtMost v w → IsAtMost u w
most_trans u v w h (inl k) = subst (λ x. IsAtMost u x) k h
most_trans u v w h (inr k) = inr (most_before u v w h k)

-- words in order stay so with a letter more
pub before_more : (u v : List ℕ) (a b : ℕ) → IsBefore u v → IsBefore (u ++ a ∷ []) (v ++ b ∷ [])
before_more u v a b (inl h) = inl (omega (arith, h, length-append u (a ∷ []), length-append v (b ∷ [])))
before_more u v a b (inr h) = inr (
  omega (arith, h.0, length-append u (a ∷ []), length-append v (b ∷ [])),
  compared u v (a ∷ []) (b ∷ []) h.0 ∙ ap (λ o. ordering_then o (slice_cmp nat_cmp (a ∷ []) (b ∷ []))) h.1,
)

-- the lesser last letter decides
pub before_last : (u : List ℕ) (a b : ℕ) → a < b → IsBefore (u ++ a ∷ []) (u ++ b ∷ [])
before_last u a b h = inr (
  omega (arith, length-append u (a ∷ []), length-append u (b ∷ [])),
  compared u u (a ∷ []) (b ∷ []) refl ∙ ap (λ o. ordering_then o (slice_cmp nat_cmp (a ∷ []) (b ∷ []))) (tied_itself nat_list_cmp_total u)
      ∙ ap (λ o. ordering_then o Equal) (sym (nat_cmp_is a b Less h)),
)

pub most_more : (u v : List ℕ) (a : ℕ) → IsAtMost u v → IsAtMost (u ++ a ∷ []) (v ++ a ∷ [])
most_more u v a (inl h) = inl (ap (λ x. x ++ a ∷ []) h)
most_more u v a (inr h) = inr (before_more u v a a h)
