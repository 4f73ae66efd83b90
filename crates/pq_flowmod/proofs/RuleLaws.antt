-- Facts of every element of a list, one after another; and numbers that ascend.
use Rattle.std.proofs.Common.{◌≡◌, ℕ, ◌+◌, ◌<◌, ◌≤◌, List, [], ◌∷◌, ◌++◌, length, take, get_or, map, sym, subst, arith}
use Rattle.std.specs.Prelude.{All}
use Rattle.std.proofs.lemmas.List.{take_all}
use Rattle.std.proofs.lemmas.List.Elements.{All-append, All-cons, All-nil, All-tail}
use Rattle.std.proofs.lemmas.Grind.{take_at_read}
use Rattle.pq_model.specs.declared.action.Action.{Action}
use Rattle.pq_model.specs.Lawful.{Ascends, bucket_place}

-- one more element
pub all_more : {A : Type 0} (P : A → Type 0) (xs : List A) (i : ℕ) (d : A) → i < length xs → P (get_or xs i d) → All P (take i xs) → All P (take (i + 1) xs)
all_more P xs i d below here front =
    let longer : take (i + 1) xs ≡ take i xs ++ get_or xs i d ∷ [] = (take_at_read xs i d below).1 in
    subst (All P) (sym longer) (All-append P (take i xs) (get_or xs i d ∷ []) front (All-cons P (get_or xs i d) [] here (All-nil P)))

-- all elements
pub all_done : {A : Type 0} (P : A → Type 0) (xs : List A) (i : ℕ) → length xs ≤ i → All P (take i xs) → All P xs
all_done P xs i end front = subst (All P) (take_all i xs end) front

-- a list that is too short has no two places out of order
pub places_end : (xs : List Action) → length xs < 2 → Ascends (map bucket_place xs)
places_end [] short = tt
places_end (x ∷ []) short = tt
places_end (x ∷ y ∷ zs) short = absurd (omega arith)

-- what holds of each inside
pub all_inside : {V A : Type 0} (f : V → A) (P : A → Type 0) (vs : List V) → All (λ v. P (f v)) vs → All P (map f vs)
all_inside f P [] all = All-nil P
all_inside f P (v ∷ vs) all = All-cons P (f v) (map f vs) (all 0 v (omega arith)) (all_inside f P vs (All-tail (λ x. P (f x)) v vs all))
