-- Which row may follow others.
use Rattle.std.specs.Prelude.{◌≡◌, ℕ, ◌<◌, ◌≤◌, ◌↔◌, true, nat_lt, List, [], ◌∷◌, ◌++◌, All, IsTrue}
use Rattle.std.proofs.Common.{arith, refl}
use Rattle.std.specs.List.{list_all}
use Rattle.std.proofs.lemmas.Bool.Decides.{nat_tests}
use Rattle.std.proofs.lemmas.List.Elements.{All-cons, All-tail}
use Rattle.std.proofs.lemmas.Bool.{and_parts}
use Rattle.pq_model.specs.Buckets.{Instance}
use Rattle.pq_model.specs.TablesMachine.{Row}
use Rattle.pq_model.specs.Install.{IsLawfulPair, IsLawfulRow}
use Rattle.pq_install.specs.Following.{AtLast}
use Rattle.pq_install.specs.Rows.{AreReadRows, HasNumbers, HasPairs}
use Rattle.pq_install.proofs.Chains.{chain_more, ascending_chain}
use Rattle.pq_install.proofs.UnitLists.{all_more}

-- the test on the queries of instances tells whether they are lawful
pub lawful_pairs : (queries : ℕ) (pairs : List Instance) → All HasNumbers pairs
    → IsTrue (list_all (λ i. nat_lt i.query queries) pairs) ↔ All (IsLawfulPair queries) pairs
lawful_pairs queries [] fit = (λ e. λ k d below. absurd (omega (arith, below)), λ all. refl)
lawful_pairs queries (i ∷ is) fit =
    let later = lawful_pairs queries is (All-tail HasNumbers i is fit) in
    let here = fit 0 i (omega arith) in (
      λ e. let parts = and_parts (nat_lt i.query queries) (list_all (λ j. nat_lt j.query queries) is) e in
          All-cons (IsLawfulPair queries) i is (grind (arith, nat_tests, parts.0), here.1.0, here.1.1) (later.0 parts.1),
      λ all. let first : nat_lt i.query queries ≡ true = grind (arith, nat_tests, (all 0 i (omega arith)).0) in
          rw (first, later.1 (All-tail (IsLawfulPair queries) i is all)) refl,
    )

-- a lawful row has numbers that fit their places
pub lawful_has_pairs : (queries : ℕ) → queries ≤ 256 → (row : Row) → IsLawfulRow queries row → HasPairs row
lawful_has_pairs queries few row lawful =
    (omega (arith, lawful.1), (lawful.3, λ k i below. let pair = lawful.4 k i below in (omega (arith, pair.0, few), (pair.1, pair.2))))

-- a lawful row above the last
pub row_follows : (queries : ℕ) (before : List Row) (row : Row) → AreReadRows queries before
    → IsLawfulRow queries row × AtLast (λ r. r.tag < row.tag) before ↔ AreReadRows queries (before ++ row ∷ [])
row_follows queries before row are =
    let above = λ (r s : Row). r.tag < s.tag in
    let chain = chain_more above before row in
    let up = ascending_chain (λ (r : Row). r.tag) in
    let each = all_more (IsLawfulRow queries) before row in (
      λ may. record {
        each = each.1 (are.each, may.0);
        ascending = (up (before ++ row ∷ [])).1 (chain.1 ((up before).0 are.ascending, may.1));
      },
      λ all. ((each.0 all.each).1, (chain.0 ((up (before ++ row ∷ [])).0 all.ascending)).1),
    )

pub last_has_pairs : (queries : ℕ) → queries ≤ 256 → (before : List Row) (row : Row) → AreReadRows queries (before ++ row ∷ []) → HasPairs row
last_has_pairs queries few before row are = lawful_has_pairs queries few row ((all_more (IsLawfulRow queries) before row).0 are.each).1
