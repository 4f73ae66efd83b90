-- Members that a set has twice.
use Rattle.std.proofs.Common.{Equal, ◌≡◌, ℕ, zero, suc, Bool, true, false, ◌||◌, ◌<◌, List, [], ◌∷◌, length, map, get_or, take, drop, ◌++◌}
use Rattle.std.proofs.Common.{refl, sym, ap, ◌∙◌, arith}
use Rattle.std.specs.List.{list_any}
use Rattle.pq_expr.specs.Word.{Word}
use Rattle.pq_expr.specs.Language.{Language, joined}
use Rattle.pq_expr.proofs.Cuts.{joined_cons, joined_empty}
use Rattle.std.specs.Ordering.{is_eq, nat_cmp}
use Rattle.std.specs.Cmp.Lexicographic.{slice_cmp}
use Rattle.std.proofs.lemmas.List.{take-append-drop}
use Rattle.std.proofs.lemmas.Slice.Eq.{bytes_eq-Decides}
use Rattle.std.proofs.lemmas.Map.Text.{is_eq-slice_cmp}
use Rattle.pq_lists.proofs.Booleans.{or_swapped, or_twice}

-- lists that compare as equal are one
pub same_lists : (xs ys : List ℕ) → slice_cmp nat_cmp xs ys ≡ Equal → xs ≡ ys
same_lists xs ys equal = (bytes_eq-Decides xs ys).0 (sym (is_eq-slice_cmp xs ys) ∙ ap is_eq equal)

later : (a b c : Bool) → c ≡ (b || c) → (a || c) ≡ (b || (a || c))
later true true c h = refl
later true false c h = refl
later false b c h = h

-- a member that the set has already tells no test anything
pub had : {V : Type 0} (items : V → List ℕ) (t : List ℕ → Bool) (r : List ℕ) (vs : List V) (i : ℕ) → i < length vs
    → ((d : V) → slice_cmp nat_cmp (items (get_or vs i d)) r ≡ Equal) →
    list_any t (map items vs) ≡ (t r || list_any t (map items vs))
had items t r [] i within equal = absurd (omega (arith, within))
had items t r (v ∷ vs) zero within equal = let same = same_lists (items v) r (equal v) in rw same (or_twice (t r) (list_any t (map items vs)))
had items t r (v ∷ vs) (suc i) within equal = later (t (items v)) (t r) (list_any t (map items vs)) (had items t r vs i (omega (arith, within)) equal)

-- a member that is put in somewhere
pub put_in : {V : Type 0} (items : V → List ℕ) (t : List ℕ → Bool) (v : V) (before behind : List V) →
    list_any t (map items (before ++ (v ∷ behind))) ≡ (t (items v) || list_any t (map items (before ++ behind)))
put_in items t v [] behind = refl
put_in items t v (u ∷ before) behind =
    rw (put_in items t v before behind) (or_swapped (t (items u)) (t (items v)) (list_any t (map items (before ++ behind))))

pub inserted : {V : Type 0} (items : V → List ℕ) (t : List ℕ → Bool) (v : V) (vs : List V) (i : ℕ) →
    list_any t (map items (take i vs ++ (v ∷ drop i vs))) ≡ (t (items v) || list_any t (map items vs))
inserted items t v vs i = put_in items t v (take i vs) (drop i vs) ∙ rw (take-append-drop i vs) refl

-- rests that accept nothing
pub none_joined : (L P : Language) → ((w : Word) → L w ≡ false) → (w : Word) → joined L P w ≡ false
none_joined L P none [] = rw (joined_empty L P, none []) refl
none_joined L P none (l ∷ w) = rw (joined_cons L P l w, none []) (none_joined (λ v. L (l ∷ v)) P (λ v. none (l ∷ v)) w)
