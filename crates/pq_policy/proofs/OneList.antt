-- Packets have one list in packet order.
use Rattle.std.proofs.Common.{◌≡◌, ◌⊎◌, ◌∙◌, ℕ, true, List, [], ◌∷◌, refl, sym, subst, inl, inr, arith}
use Rattle.std.specs.List.{All}
use Rattle.std.proofs.lemmas.Bool.{both_ways}
use Rattle.std.proofs.lemmas.List.Elements.{All-contains}
use Rattle.pq_model.proofs.NumberLists.{first_or_rest}
use Rattle.pq_fields.specs.Packet.{Numbers, is_before, numbers}
use Rattle.pq_policy.specs.Policy.{IsInPacketOrder, IsListOf}
use Rattle.pq_policy.proofs.Members.{IsIn, contained, is_in}

-- no two lists are before each other
never_both : (xs ys : List ℕ) → is_before xs ys ≡ true → is_before ys xs ≡ true → ⊥
never_both [] [] is back = both_ways true (sym is) refl
never_both [] (y ∷ ys) is back = both_ways true (sym back) refl
never_both (x ∷ xs) [] is back = both_ways true (sym is) refl
never_both (x ∷ xs) (y ∷ ys) is back =
    elim (first_or_rest x y xs ys is) [
      | inl less ↦ elim (first_or_rest y x ys xs back) [ inl more ↦ omega (arith, less, more) | inr same ↦ omega (arith, less, same.0) ]
      | inr same ↦ elim (first_or_rest y x ys xs back) [ inl more ↦ omega (arith, same.0, more) | inr also ↦ never_both xs ys same.1 also.1 ]
    ]

-- x is before y
abbrev Before : Numbers → Numbers → Type 0
Before x y = is_before (numbers x) (numbers y) ≡ true

-- what is in the list is after what is before all of it
behind : (x : Numbers) (xs : List Numbers) (y : Numbers) → All (Before x) xs → IsIn y xs → Before x y
behind x xs y all here = All-contains (Before x) xs y all (contained xs y here)

-- the first of two lists of the same packets is the same
same_first : (x y : Numbers) (xs ys : List Numbers) → All (Before x) xs → All (Before y) ys → (x ≡ y) ⊎ IsIn x ys → (y ≡ x) ⊎ IsIn y xs → x ≡ y
same_first x y xs ys before after (inl same) back = same
same_first x y xs ys before after (inr later) (inl same) = sym same
same_first x y xs ys before after (inr later) (inr also) = absurd (never_both (numbers x) (numbers y) (behind x xs y before also) (behind y ys x after later))

-- what is after x and is y or after it is after y, where x is y
in_rest : (x y z : Numbers) (ys : List Numbers) → x ≡ y → Before x z → (z ≡ y) ⊎ IsIn z ys → IsIn z ys
in_rest x y z ys first less (inl same) =
    let itself = subst (Before x) (same ∙ sym first) less in
    absurd (never_both (numbers x) (numbers x) itself itself)
in_rest x y z ys first less (inr later) = later

same_lists : (xs ys : List Numbers) → IsInPacketOrder xs → IsInPacketOrder ys → ((z : Numbers) → IsIn z xs → IsIn z ys)
    → ((z : Numbers) → IsIn z ys → IsIn z xs) → xs ≡ ys
same_lists [] [] a b there back = refl
same_lists [] (y ∷ ys) a b there back = absurd (back y (inl refl))
same_lists (x ∷ xs) [] a b there back = absurd (there x (inl refl))
same_lists (x ∷ xs) (y ∷ ys) a b there back =
    let first = same_first x y xs ys a.0 b.0 (there x (inl refl)) (back y (inl refl)) in
    let rest = same_lists xs ys a.1 b.1 (λ z here. in_rest x y z ys first (behind x xs z a.0 here) (there z (inr here)))
    (λ z here. in_rest y x z xs (sym first) (behind y ys z b.0 here) (back z (inr here))) in
    λ i. first i ∷ rest i

pub one_list : (P : Numbers → Type 0) (xs ys : List Numbers) → IsListOf P xs → IsListOf P ys → xs ≡ ys
one_list P xs ys a b =
    same_lists xs ys a.ordered b.ordered
    (λ z here. is_in ys z ((b.exact z).1 ((a.exact z).0 (contained xs z here))))
    (λ z here. is_in xs z ((a.exact z).1 ((b.exact z).0 (contained ys z here))))
