-- The leaves that were found under a node, and their signatures.
use Rattle.std.proofs.Common.{ℕ, ◌+◌, ◌<◌, ◌≡◌, ◌≢◌, ◌∙◌, Bool, List, [], ◌∷◌, ◌++◌, Some, length, get_or, take, refl, sym, ap, subst, inl, inr, arith}
use Rattle.std.specs.Prelude.{slice_get}
use Rattle.std.specs.List.{All, AllPairs}
use Rattle.std.proofs.lemmas.List.{get_or-take, get_or_default, length-take, take_more}
use Rattle.std.proofs.lemmas.List.Elements.{All-head, All-tail}
use Rattle.std.proofs.lemmas.Option.{slice_get_within}
use Rattle.std.proofs.lemmas.Bool.{cases_Bool}
use Rattle.pq_store.specs.declared.least.Least.{Least}
use Rattle.pq_store.specs.Tree.{Tree}
use Rattle.pq_store.specs.Tree.Tree.{Tip}
use Rattle.pq_store.specs.Store.{IsCanonical, ShowsBranch}
use Rattle.pq_store.proofs.LeastCalls.{one_tip}
use Rattle.pq_letters.specs.Numbering.{AreLeaves, HaveSignatures, place_in}
use Rattle.pq_letters.specs.Order.{same_truths, truths_eq}
use Rattle.pq_letters.proofs.Places.{place_later}

-- the leaf of what was found at a place
leaf_at : (ts : List (Tree (List Bool))) (found : List Least) (i : ℕ) (e : Least) → AreLeaves ts found → i < length found
    → e ≡ get_or found i e → (s : List Bool) × (slice_get ts e.leaf ≡ Some (Tip s))
leaf_at ts found i e leaves within is = subst (λ (d : Least). (s : List Bool) × (slice_get ts d.leaf ≡ Some (Tip s))) (sym is) (leaves i e within)

-- its id is one of the store
pub leaf_within : (ts : List (Tree (List Bool))) (found : List Least) (i : ℕ) (e : Least) → AreLeaves ts found → i < length found
    → e ≡ get_or found i e → e.leaf < length ts
leaf_within ts found i e leaves within is = let leaf = leaf_at ts found i e leaves within is in slice_get_within ts e.leaf (Tip leaf.0) leaf.1

-- no branch is there
pub no_branch : (ts : List (Tree (List Bool))) (found : List Least) (i : ℕ) (e : Least) → AreLeaves ts found → i < length found
    → e ≡ get_or found i e → {s : _} {j k : ℕ} → ShowsBranch ts e.leaf s j k → ⊥
no_branch ts found i e leaves within is shows = let leaf = leaf_at ts found i e leaves within is in absurd cc

-- one more leaf with its signature
push_signature : (ts : List (Tree (List Bool))) (es : List Least) (ss : List (List Bool)) (e : Least) (s : List Bool)
    → HaveSignatures ts es ss → slice_get ts e.leaf ≡ Some (Tip s) → HaveSignatures ts (es ++ e ∷ []) (ss ++ s ∷ [])
push_signature ts [] [] e s have here = (here, tt)
push_signature ts [] (r ∷ ss) e s have here = absurd have
push_signature ts (d ∷ es) [] e s have here = absurd have
push_signature ts (d ∷ es) (r ∷ ss) e s have here = (have.0, push_signature ts es ss e s have.1 here)

-- the signature of another leaf isn't there
fresh_signature : (ts : List (Tree (List Bool))) → IsCanonical ts → (es : List Least) (ss : List (List Bool)) (leaf : ℕ) (s : List Bool)
    → slice_get ts leaf ≡ Some (Tip s) → All (λ e. e.leaf ≢ leaf) es → HaveSignatures ts es ss → place_in ss s ≡ length ss
fresh_signature ts canonical [] [] leaf s is others have = refl
fresh_signature ts canonical [] (r ∷ ss) leaf s is others have = absurd have
fresh_signature ts canonical (e ∷ es) [] leaf s is others have = absurd have
fresh_signature ts canonical (e ∷ es) (r ∷ ss) leaf s is others have = elim (cases_Bool (truths_eq r s)) [
  | inl equal ↦ absurd (All-head (λ (d : Least). d.leaf ≢ leaf) e es others
      (one_tip ts canonical e.leaf leaf s (have.0 ∙ ap (λ t. Some (Tip t)) (same_truths r s equal)) is))
  | inr other ↦ omega (
    arith,
    place_later r ss s other,
    fresh_signature ts canonical es ss leaf s is (All-tail (λ (d : Least). d.leaf ≢ leaf) e es others) have.1,
  )
]

-- nor is that of a later leaf
pub next_signature : (ts : List (Tree (List Bool))) → IsCanonical ts
    → (found : List Least) (ss : List (List Bool)) (i : ℕ) (e : Least) (s : List Bool) → AllPairs (λ d e. d.leaf ≢ e.leaf) found
    → i < length found → e ≡ get_or found i e → slice_get ts e.leaf ≡ Some (Tip s) → HaveSignatures ts (take i found) ss
    → place_in ss s ≡ length ss
next_signature ts canonical found ss i e s differ within is leaf have = fresh_signature ts canonical (take i found) ss e.leaf s leaf others have
  where
    others : All (λ d. d.leaf ≢ e.leaf) (take i found)
    others k d less =
        let below : k < i = omega (arith, length-take i found) in
        subst (λ (c : Least). c.leaf ≢ e.leaf) (sym (get_or-take i found k d below))
        (subst (λ (c : Least). (get_or found k d).leaf ≢ c.leaf) (get_or_default found i d e within ∙ sym is) (differ k i d below within))

-- with it all up to it have theirs
pub more_signatures : (ts : List (Tree (List Bool))) (found : List Least) (ss us : List (List Bool)) (i : ℕ) (e : Least) (s : List Bool)
    → i < length found → e ≡ get_or found i e → slice_get ts e.leaf ≡ Some (Tip s) → HaveSignatures ts (take i found) ss → us ≡ ss ++ s ∷ []
    → HaveSignatures ts (take (i + 1) found) us
more_signatures ts found ss us i e s within is leaf have grown =
    let more : take (i + 1) found ≡ take i found ++ e ∷ [] = take_more found i e within ∙ ap (λ d. take i found ++ d ∷ []) (sym is) in
    rw (grown, more) (push_signature ts (take i found) ss e s have leaf)
