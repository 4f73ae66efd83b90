-- Trees of packets that are written by one of some writes first.
use Rattle.std.proofs.Common.{ℕ, ◌<◌, ◌≡◌, List, [], ◌∷◌, ◌++◌, length, Some}
use Rattle.std.specs.Prelude.{◌⊎◌, slice_get}
use Rattle.std.specs.List.{Any}
use Rattle.std.proofs.lemmas.List.Elements.{All-head}
use Rattle.pq_fields.specs.Writes.{Written, on}
use Rattle.pq_store.specs.Tree.{Tree, value}
use Rattle.pq_store.specs.Tree.Tree.{Tip}
use Rattle.pq_store.specs.Store.{Keeps}
use Rattle.pq_lists.proofs.Places.{at_place}
use Rattle.pq_store.proofs.RoomLemmas.{room_for}
use Rattle.pq_apply.specs.Product.{FitTogetherAt}
use Rattle.pq_apply.proofs.Kept.{tree_before}
use Rattle.pq_rewrite.specs.Merged.{IsMerge, MergesAt}
use Rattle.pq_rewrite.specs.Rewriting.{CoversWrites, Gives}
use Rattle.pq_rewrite.specs.Sequence.{AreReady, FitAsFollowedAt, FitAsFollowedEach, FitAsFollowedEachAt, FollowsEachAt, IsFollowedAt, IsFollowedEach}
use Rattle.pq_rewrite.proofs.Following.{followed_there}
use Rattle.pq_rewrite.proofs.Halves.{all_halves, any_halves, any_one}
use Rattle.pq_rewrite.proofs.Merging.{merge_given, merge_within}
use Rattle.pq_rewrite.proofs.Sets.{any_none, given_none, given_same}
use Rattle.pq_rewrite.proofs.Standing.{has_still, has_there, has_within}

-- the leaf without writes gives what is given of packets written by none
pub none_followed : (old new : List (Tree (List Written))) (k id : ℕ) → slice_get new id ≡ Some (Tip []) → FollowsEachAt [] old k new id
none_followed old new k id is u u_is = (
  Tip [],
  is,
  record {
    giving = λ x fit ready. given_none x (λ y. Any (λ w. Gives u (on w x) y) []) (λ y. any_none (λ w. Gives u (on w x) y));
    tests = λ ns first second f v none. absurd none;
  },
)

-- each of one write may come before a tree where that may
pub one_before : (w : Written) (ts : List (Tree (List Written))) (k : ℕ) → FitAsFollowedEachAt (w ∷ []) ts k → FitAsFollowedAt w ts k
one_before w ts k fits u u_is = room_for (λ ns within. (All-head (CoversWrites ns) w [] within.0, within.1)) (fits u u_is)

-- and what follows it follows each
pub one_followed : (w : Written) (old new : List (Tree (List Written))) (k id : ℕ) → Keeps old new → IsFollowedAt w new k id
    → FollowsEachAt (w ∷ []) old k new id
one_followed w old new k id keeps made u u_is =
    let followed = followed_there w new k id u made.followed made (keeps k u u_is) made.followed_is in (
      made.followed,
      made.followed_is,
      record {
        giving = λ x fit ready.
            given_same x (Gives u (on w x)) (λ y. Any (λ v. Gives u (on v x) y) (w ∷ [])) (value made.followed x) (λ y. any_one (λ v. Gives u (on v x) y) w)
            (followed.giving x fit (All-head (λ v. AreReady x v (value u (on v x))) w [] ready));
        tests = λ ns first second. followed.tests ns (All-head (CoversWrites ns) w [] first) second;
      },
    )

module _ (front back : List Written) where
  -- the tree that is merged of those of two halves gives what is given of packets written by either
  halves_followed : (u t s r : Tree (List Written)) → IsFollowedEach front u t → IsFollowedEach back u s → IsMerge t s r → IsFollowedEach (front ++ back) u r
  halves_followed u t s r left right merge = record {
    giving = λ x fit ready.
        let parts = all_halves (λ w. AreReady x w (value u (on w x))) front back ready in
        given_same x (λ y. Any (λ w. Gives u (on w x) y) front ⊎ Any (λ w. Gives u (on w x) y) back)
        (λ y. Any (λ w. Gives u (on w x) y) (front ++ back)) (value r x)
        (λ y. any_halves (λ w. Gives u (on w x) y) front back)
        (merge_given t s r merge (λ y. Any (λ w. Gives u (on w x) y) front) (λ y. Any (λ w. Gives u (on w x) y) back) x
        (left.giving x fit parts.0) (right.giving x fit parts.1));
    tests = λ ns first second.
        let parts = all_halves (CoversWrites ns) front back first in
        merge_within t s r merge ns (left.tests ns parts.0 second) (right.tests ns parts.1 second);
  }

  -- both halves may come before a tree where all may
  halves_fit : (u : Tree (List Written)) → FitAsFollowedEach (front ++ back) u → FitAsFollowedEach front u × FitAsFollowedEach back u
  halves_fit u fit = (
    room_for (λ ns within. ((all_halves (CoversWrites ns) front back within.0).0, within.1)) fit,
    room_for (λ ns within. ((all_halves (CoversWrites ns) front back within.0).1, within.1)) fit,
  )

  module _ (old mid : List (Tree (List Written))) (k : ℕ) (inside : k < length old) (keeps : Keeps old mid) where
    -- so they may in a store that has grown
    pub front_before : FitAsFollowedEachAt (front ++ back) old k → FitAsFollowedEachAt front mid k
    front_before fits u u_is = (halves_fit u (fits u (tree_before old mid k u keeps inside u_is))).0

    pub back_before : FitAsFollowedEachAt (front ++ back) old k → FitAsFollowedEachAt back mid k
    back_before fits u u_is = (halves_fit u (fits u (tree_before old mid k u keeps inside u_is))).1

  module _ (old mid : List (Tree (List Written))) (k i j : ℕ) (inside : k < length old) (left : FollowsEachAt front old k mid i)
      (right : FollowsEachAt back old k mid j) where
    -- the trees of both halves are within
    pub halves_within : (i < length mid) × (j < length mid)
    halves_within =
        let u = at_place old k inside in
        (has_within (IsFollowedEach front u.0) mid i (left u.0 u.1), has_within (IsFollowedEach back u.0) mid j (right u.0 u.1))

    -- they may come together
    pub halves_meet : FitAsFollowedEachAt (front ++ back) old k → FitTogetherAt mid i mid j
    halves_meet fits t s t_is s_is =
        let u = at_place old k inside in
        let first = has_there (IsFollowedEach front u.0) mid i t (left u.0 u.1) t_is in
        let second = has_there (IsFollowedEach back u.0) mid j s (right u.0 u.1) s_is in
        room_for (λ ns within. let parts = all_halves (CoversWrites ns) front back within.0 in
        (first.tests ns parts.0 within.1, second.tests ns parts.1 within.1)) (fits u.0 u.1)

    -- and what is merged of them is the tree of all
    pub each_merged : (new : List (Tree (List Written))) (id : ℕ) → MergesAt mid i j new id → FollowsEachAt (front ++ back) old k new id
    each_merged new id merges u u_is =
        let first = left u u_is in
        let second = right u u_is in
        let made = merges first.0 second.0 first.1 second.1 in
        (made.0, made.1, halves_followed u first.0 second.0 made.0 first.2 second.2 made.2)

-- what follows each stays
pub each_still : (ws : List Written) (old mid new : List (Tree (List Written))) (k id : ℕ) → Keeps mid new → FollowsEachAt ws old k mid id
    → FollowsEachAt ws old k new id
each_still ws old mid new k id keeps each u u_is = has_still (IsFollowedEach ws u) mid new id keeps (each u u_is)

-- what follows each in a store that has grown follows each
pub each_before : (ws : List Written) (old mid new : List (Tree (List Written))) (k id : ℕ) → Keeps old mid → FollowsEachAt ws mid k new id
    → FollowsEachAt ws old k new id
each_before ws old mid new k id keeps each u u_is = each u (keeps k u u_is)
