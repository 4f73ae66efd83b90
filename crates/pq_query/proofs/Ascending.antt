-- Numbers in ascending order, each once: which they are, and how many.
use Rattle.std.proofs.Common.{◌≡◌, ℕ, ◌+◌, ◌<◌, ◌≤◌, ◌==◌, Bool, true, false, ◌||◌, if◌then◌else◌, List, [], ◌∷◌, length, drop, get_or, ◌-◌}
use Rattle.std.proofs.Common.{Ordering, Less, Equal, Greater, nat_cmp, nat_eq, refl, sym, ap, ◌∙◌, arith}
use Rattle.std.specs.BTreeSet.{insert_key}
use Rattle.std.specs.Cmp.{ranks}
use Rattle.std.specs.List.{list_any, AllByRecursion, IsDistinct}
use Rattle.std.specs.Ordering.{match_ordering, MatchOrdering}
use Rattle.std.proofs.lemmas.Bool.Decides.{nat_tests}
use Rattle.std.proofs.lemmas.List.{drop_more}
use Rattle.std.proofs.lemmas.Map.Keys.{IsDistinct-head, IsDistinct-tail}
use Rattle.pq_lists.proofs.Booleans.{or_swapped, or_twice}
use Rattle.pq_model.specs.Lawful.{Ascends}
use Rattle.pq_query.specs.Counts.{put_last_first}
use Rattle.pq_query.specs.Labels.{ascending}

-- the number is one of these
abbrev pub has : List ℕ → ℕ → Bool
has ks n = list_any (λ k. k == n) ks

-- a number that is put among others is there, and the others stay
has_put : (ks : List ℕ) (n m : ℕ) → has (insert_key nat_cmp ks n) m ≡ ((n == m) || has ks m)
has_put [] n m = refl
has_put (k ∷ ks) n m = by (nat_cmp n k) (ranks n k) (has_put ks n m)
  where
    by : (r : Ordering) → MatchOrdering r (n < k) (n ≡ k) (k < n) → has (insert_key nat_cmp ks n) m ≡ ((n == m) || has ks m)
        → has (match_ordering r (n ∷ k ∷ ks) (k ∷ ks) (k ∷ insert_key nat_cmp ks n)) m ≡ ((n == m) || has (k ∷ ks) m)
    by Less below later = refl
    by Equal same later = rw same (or_twice (k == m) (has ks m))
    by Greater above later = rw later (or_swapped (k == m) (n == m) (has ks m))

pub has_ascending : (ns : List ℕ) (m : ℕ) → has (ascending ns) m ≡ has ns m
has_ascending [] m = refl
has_ascending (n ∷ ns) m = has_put (ascending ns) n m ∙ ap (λ b. (n == m) || b) (has_ascending ns m)

-- what ascends still does with one more number
put_behind : (x n : ℕ) (ks : List ℕ) → Ascends (x ∷ ks) → x < n → Ascends (x ∷ insert_key nat_cmp ks n)
put_behind x n [] up lt = (lt, tt)
put_behind x n (k ∷ ks) up lt = by (nat_cmp n k) (ranks n k) (put_behind k n ks up.1)
  where
    by : (r : Ordering) → MatchOrdering r (n < k) (n ≡ k) (k < n) → (k < n → Ascends (k ∷ insert_key nat_cmp ks n))
        → Ascends (x ∷ match_ordering r (n ∷ k ∷ ks) (k ∷ ks) (k ∷ insert_key nat_cmp ks n))
    by Less below later = (lt, (below, up.1))
    by Equal same later = up
    by Greater above later = (up.0, later above)

put_ascends : (ks : List ℕ) (n : ℕ) → Ascends ks → Ascends (insert_key nat_cmp ks n)
put_ascends [] n up = tt
put_ascends (k ∷ ks) n up = by (nat_cmp n k) (ranks n k)
  where
    by : (r : Ordering) → MatchOrdering r (n < k) (n ≡ k) (k < n) → Ascends (match_ordering r (n ∷ k ∷ ks) (k ∷ ks) (k ∷ insert_key nat_cmp ks n))
    by Less below = (below, up)
    by Equal same = up
    by Greater above = put_behind k n ks up above

ascends : (ns : List ℕ) → Ascends (ascending ns)
ascends [] = tt
ascends (n ∷ ns) = put_ascends (ascending ns) n (ascends ns)

-- a number below the first of ascending ones is none of them
none_below : (ks : List ℕ) (k n : ℕ) → Ascends (k ∷ ks) → n < k → has (k ∷ ks) n ≡ false
none_below [] k n up lt = grind (arith, nat_tests, lt)
none_below (l ∷ ks) k n up lt =
    let later : has (l ∷ ks) n ≡ false = none_below ks l n up.1 (omega (arith, lt, up.0)) in
    let differs : (k == n) ≡ false = grind (arith, nat_tests, lt) in
    rw differs later

-- the first of ascending numbers is none of the others
pub first_once : (k : ℕ) (ks : List ℕ) → Ascends (k ∷ ks) → has ks k ≡ false
first_once k [] up = refl
first_once k (l ∷ ks) up = none_below ks l k up.1 up.0

-- one more, where the number is new
abbrev pub one_more : Bool → ℕ → ℕ
one_more known n = if known then n else n + 1

length_put : (ks : List ℕ) (n : ℕ) → Ascends ks → length (insert_key nat_cmp ks n) ≡ one_more (has ks n) (length ks)
length_put [] n up = refl
length_put (k ∷ ks) n up = by (nat_cmp n k) (ranks n k) (length_put ks n)
  where
    by : (r : Ordering) → MatchOrdering r (n < k) (n ≡ k) (k < n)
        → (Ascends ks → length (insert_key nat_cmp ks n) ≡ one_more (has ks n) (length ks))
        → length (match_ordering r (n ∷ k ∷ ks) (k ∷ ks) (k ∷ insert_key nat_cmp ks n)) ≡ one_more (has (k ∷ ks) n) (length (k ∷ ks))
    by Less below later = rw (none_below ks k n up below) (omega arith)
    by Equal same later = let here : (k == n) ≡ true = grind (arith, nat_tests, same) in rw here refl
    by Greater above later =
        let differs : (k == n) ≡ false = grind (arith, nat_tests, above) in
        rw differs (last (has ks n) (later (rest_up ks up)))
      where
        rest_up : (ls : List ℕ) → Ascends (k ∷ ls) → Ascends ls
        rest_up [] u = tt
        rest_up (l ∷ ls) u = u.1

        last : (b : Bool) → length (insert_key nat_cmp ks n) ≡ one_more b (length ks) → length (k ∷ insert_key nat_cmp ks n) ≡ one_more b (length (k ∷ ks))
        last true e = grind (arith, e)
        last false e = grind (arith, e)

-- a number counts where it is none of the others
pub length_ascending : (n : ℕ) (ns : List ℕ) → length (ascending (n ∷ ns)) ≡ one_more (has ns n) (length (ascending ns))
length_ascending n ns = length_put (ascending ns) n (ascends ns) ∙ ap (λ b. one_more b (length (ascending ns))) (has_ascending ns n)

-- none counts twice
pub length_within : (ns : List ℕ) → length (ascending ns) ≤ length ns
length_within [] = omega arith
length_within (n ∷ ns) = by (has ns n) (length_ascending n ns) (length_within ns)
  where
    by : (b : Bool) → length (ascending (n ∷ ns)) ≡ one_more b (length (ascending ns)) → length (ascending ns) ≤ length ns
        → length (ascending (n ∷ ns)) ≤ length (n ∷ ns)
    by true e later = omega (arith, e, later)
    by false e later = omega (arith, e, later)

-- all count where they ascend
pub length_ascends : (ns : List ℕ) → Ascends ns → length (ascending ns) ≡ length ns
length_ascends [] up = refl
length_ascends (n ∷ ns) up = length_ascending n ns ∙ (rw (first_once n ns up) (ap (λ k. k + 1) (length_ascends ns (rest ns up)) ∙ omega arith))
  where
    rest : (ls : List ℕ) → Ascends (n ∷ ls) → Ascends ls
    rest [] u = tt
    rest (l ∷ ls) u = u.1

none_same : (n : ℕ) (ns : List ℕ) → AllByRecursion (λ m. nat_eq n m ≡ false) ns → has ns n ≡ false
none_same n [] differ = refl
none_same n (m ∷ ns) differ =
    let here : (m == n) ≡ false = grind (arith, nat_tests, differ.0) in
    rw here (none_same n ns differ.1)

-- all count where they differ
pub length_distinct : (ns : List ℕ) → IsDistinct nat_eq ns → length (ascending ns) ≡ length ns
length_distinct [] differ = refl
length_distinct (n ∷ ns) differ = length_ascending n ns
    ∙ (rw (none_same n ns (IsDistinct-head nat_eq n ns differ)) (ap (λ k. k + 1) (length_distinct ns (IsDistinct-tail nat_eq n ns differ))
    ∙ omega arith))

-- to put numbers into the empty set gives them in ascending order
pub put_all_ascends : (ns : List ℕ) → put_last_first ns [] ≡ ascending ns
put_all_ascends [] = refl
put_all_ascends (n ∷ ns) = ap (λ ks. insert_key nat_cmp ks n) (put_all_ascends ns)

-- one more number is put, of those before the last ones
pub put_more : (ns : List ℕ) (left : ℕ) (old ks new : List ℕ) → 0 < left → left ≤ length ns → ks ≡ put_last_first (drop left ns) old
    → new ≡ insert_key nat_cmp ks (get_or ns (left - 1) 0) → new ≡ put_last_first (drop (left - 1) ns) old
put_more ns left old ks new some within is put =
    let shown : drop (left - 1) ns ≡ get_or ns (left - 1) 0 ∷ drop (left - 1 + 1) ns = drop_more ns (left - 1) 0 (omega (arith, some, within)) in
    let same : left - 1 + 1 ≡ left = omega (arith, some) in
    put ∙ (ap (λ k. insert_key nat_cmp k (get_or ns (left - 1) 0)) is
    ∙ sym (ap (λ k. put_last_first k old) (shown ∙ ap (λ j. get_or ns (left - 1) 0 ∷ drop j ns) same)))
