-- Two sets of writes, sorted as one list with each once, and trees that are merged leaf by leaf.
use Rattle.std.proofs.Common.{ℕ, ◌≡◌, ◌⊎◌, List, [], ◌∷◌, ◌++◌, Some, inl, inr, arith}
use Rattle.std.specs.Prelude.{slice_get}
use Rattle.std.specs.List.{Contains, dedup}
use Rattle.std.specs.List.Sorted.{IsPermutation, IsSorted, IsStrictlySortedBy}
use Rattle.std.specs.declared.cmp.Ordering.TheVariants.{Less}
use Rattle.std.proofs.lemmas.List.Elements.{Contains-append_cases, Contains-append_left, Contains-append_right}
use Rattle.std.proofs.lemmas.List.Kept.{AllPairs-cons, Contains-dedup, Contains-from_dedup, IsStrictlySortedBy-dedup}
use Rattle.std.proofs.lemmas.List.Sorted.{Contains-permutation, IsPermutation-sym}
use Rattle.std.proofs.lemmas.Map.Keys.{sorted_tail}
use Rattle.std.proofs.lemmas.Map.Views.{All-after_first}
use Rattle.pq_fields.specs.contracts.writes.WritesEq.TheImpl as equivalence
use Rattle.pq_fields.specs.contracts.writes.WritesOrd.TheImpl as order
use Rattle.pq_fields.specs.declared.field.Field.{Field}
use Rattle.pq_fields.specs.Order.{writes_cmp, writes_eq}
use Rattle.pq_fields.specs.Packet.{Numbers}
use Rattle.pq_fields.specs.Writes.{Written, written_in}
use Rattle.pq_fields.proofs.Places.{same_writes}
use Rattle.pq_store.specs.declared.test.Test.TheVariants.{Equal}
use Rattle.pq_store.specs.Tree.{Tree, value}
use Rattle.pq_store.specs.Room.{Within}
use Rattle.pq_rewrite.specs.Calls.{IsIdleFreeAt, IsUnion, UnitesAt}
use Rattle.pq_rewrite.specs.Merged.{IsMerge, IsMerged, MergesAt}
use Rattle.pq_rewrite.specs.Rewriting.{Ascend, Gives, IsGiven, IsIdleFree}
use Rattle.pq_rewrite.proofs.Given.{any_merged, given_merged}

-- writes that are strictly sorted ascend
ascend_sorted : (ws : List Written) → IsStrictlySortedBy writes_cmp ws → Ascend ws
ascend_sorted [] sorted = λ i j d less within. absurd (omega (arith, within))
ascend_sorted (w ∷ ws) sorted = AllPairs-cons (λ v u. writes_cmp v u ≡ Less) w ws (All-after_first writes_cmp w ws sorted)
    (ascend_sorted ws (sorted_tail writes_cmp w ws sorted))

-- the writes of two sets, sorted and each once, are merged of them
pub sorted_merged : (a b sorted : List Written) → IsPermutation (a ++ b) sorted → IsSorted writes_cmp sorted → IsMerged a b (dedup writes_eq sorted)
sorted_merged a b sorted permutation ascends = record {
  ascend = ascend_sorted (dedup writes_eq sorted) (IsStrictlySortedBy-dedup order.Laws.total-law order.Laws.matches_eq-law sorted ascends);
  each = λ w. (
    λ at. Contains-append_cases a b w (Contains-permutation sorted (a ++ b) w (IsPermutation-sym (a ++ b) sorted permutation)
        (Contains-from_dedup writes_eq sorted w at)),
    into w,
  );
}
  where
    kept : (w : Written) → Contains (a ++ b) w → Contains (dedup writes_eq sorted) w
    kept w at = Contains-dedup equivalence.Laws.laws-law (λ u v equal. (same_writes u v).0 equal) sorted w
        (Contains-permutation (a ++ b) sorted w permutation at)

    into : (w : Written) → Contains a w ⊎ Contains b w → Contains (dedup writes_eq sorted) w
    into w (inl in_a) = kept w (Contains-append_left a b w in_a)
    into w (inr in_b) = kept w (Contains-append_right a b w in_b)

module _ (t u r : Tree (List Written)) (merge : IsMerge t u r) where
  -- what two trees give of a packet the tree that is merged of them gives
  pub merge_given : (P Q : Numbers → Type 0) (x : Numbers) → IsGiven x P (value t x) → IsGiven x Q (value u x) → IsGiven x (λ y. P y ⊎ Q y) (value r x)
  merge_given P Q x first second = given_merged (merge.merged x) x P Q first second

  -- it tests only numbers that both may test
  pub merge_within : (ns : Field → List ℕ) → Within ns t → Within ns u → Within ns r
  merge_within ns left right f v tested = elim (merge.tests (Equal f v) tested) [ inl in_t ↦ left f v in_t | inr in_u ↦ right f v in_u ]

  -- where both are idle-free it is their union
  merge_unites : IsIdleFree t → IsIdleFree u → IsUnion t u r
  merge_unites t_idle_free u_idle_free = record {
    giving = λ x fit. merge_given (Gives t x) (Gives u x) x (t_idle_free x fit) (u_idle_free x fit);
    tests = merge.tests;
    writes = λ f n (x, fit, written). elim (any_merged (merge.merged x) (λ w. written_in f w ≡ Some n) written) [
      | inl in_t ↦
          inl (x, fit, in_t)
      | inr in_u ↦ inr (x, fit, in_u)
    ];
  }

-- so it is at its place
pub merges_unite : (old new : List (Tree (List Written))) (i j id : ℕ) → IsIdleFreeAt old i → IsIdleFreeAt old j → MergesAt old i j new id
    → UnitesAt old i j new id
merges_unite old new i j id first second merges t u t_is u_is =
    let made = merges t u t_is u_is in
    (made.0, made.1, merge_unites t u made.0 made.2 (first t t_is) (second u u_is))
