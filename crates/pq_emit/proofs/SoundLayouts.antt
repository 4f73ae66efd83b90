-- Layouts whose trees entries can stand for.
use Rattle.std.proofs.Common.{◌≡◌, ◌<◌, ◌≤◌, ◌+◌, ◌∙◌, ℕ, zero, suc, Bool, true, false, cond, not, List, [], ◌∷◌, ◌++◌, map, filter, length}
use Rattle.std.proofs.Common.{nat_eq, refl, sym, ap, ap₂, subst, inl, inr, arith, ◌^◌}
use Rattle.std.specs.Prelude.{◌⊎◌, All}
use Rattle.std.specs.List.{AllByRecursion, AllZip, IsDistinct}
use Rattle.std.proofs.lemmas.Bool.Decides.{nat_tests}
use Rattle.std.proofs.lemmas.List.{append-nil, map-append}
use Rattle.std.proofs.lemmas.List.Elements.{All-nil, All-cons, All-head, All-tail, filter-append}
use Rattle.pq_fields.specs.Writes.{Written}
use Rattle.pq_auto.specs.Machine.{Machine}
use Rattle.pq_join.specs.Sound.{ArrivingAreSound, ArrivingTestPorts, HasTags, IsKeyOf, IsTagOf, LeavingAreSound, LeavingTestPorts, TestsPortsOrZero}
use Rattle.pq_join.specs.Tags.{tagging_of}
use Rattle.pq_layout.specs.Actions.{key_word, tag_word}
use Rattle.pq_layout.specs.Leaves.{departing}
use Rattle.pq_layout.specs.Sound.{IsSoundArriving, IsSoundLeaving, TestsPorts, AreSoundArriving, AreSoundLeaving}
use Rattle.pq_layout.specs.Tagging.{Tagging, even_tags, odd_tags, up_to}
use Rattle.pq_layout.specs.Trees.{IsArriving, IsLeaving, keys_of}
use Rattle.pq_layout.specs.Messages.{ArrivingTrees, LeavingTrees}
use Rattle.pq_layout.specs.Emission.{AreTrees}
use Rattle.pq_letters.specs.Letters.{LettersValue}
use Rattle.pq_model.specs.MatchFields.{IsTagWord}
use Rattle.pq_model.specs.Topology.{Topology}
use Rattle.pq_rewrite.specs.declared.trees.Key.{Key}
use Rattle.pq_rewrite.specs.declared.trees.Key.TheVariants.{Plain, Tag}
use Rattle.pq_rewrite.specs.Rewriting.{IsIdleFree}
use Rattle.pq_store.specs.Diagram.{IsDiagram}
use Rattle.pq_store.specs.Tree.{Tree, value}
use Rattle.pq_emit.specs.Network.{StandBelowAll}

-- The words of tags differ.

abbrev AreBelow : ℕ → List ℕ → Type 0
AreBelow n xs = AllByRecursion (λ x. (0 < x) × (x < n)) xs

below_more : (n : ℕ) (xs : List ℕ) → AreBelow n xs → AreBelow (n + 1) xs
below_more n [] all = tt
below_more n (x ∷ xs) all = let low = all.0.0 in let high = all.0.1 in ((omega (arith, low), omega (arith, high)), below_more n xs all.1)

below_push : (n y : ℕ) (xs : List ℕ) → AreBelow n xs → 0 < y → y < n → AreBelow n (xs ++ y ∷ [])
below_push n y [] all low high = ((low, high), tt)
below_push n y (x ∷ xs) all low high = (all.0, below_push n y xs all.1 low high)

other_push : (x y n : ℕ) (xs : List ℕ) → x < n → y ≡ n → AllByRecursion (λ z. nat_eq x z ≡ false) xs → AllByRecursion (λ z. nat_eq x z ≡ false) (xs ++ y ∷ [])
other_push x y n [] below same all = (grind (arith, nat_tests), tt)
other_push x y n (z ∷ zs) below same all = (all.0, other_push x y n zs below same all.1)

distinct_push : (n y : ℕ) (xs : List ℕ) → y ≡ n → AreBelow n xs → IsDistinct nat_eq xs → IsDistinct nat_eq (xs ++ y ∷ [])
unfolding IsDistinct
distinct_push n y [] same below distinct = (tt, tt)
distinct_push n y (x ∷ xs) same below distinct = (other_push x y n xs below.0.1 same distinct.0, distinct_push n y xs same below.1 distinct.1)

none_apart : IsDistinct nat_eq []
unfolding IsDistinct
none_apart = tt

module _ (p : ℕ → Bool) where
  abbrev AreApart : ℕ → List ℕ → Type 0
  AreApart n xs = IsDistinct nat_eq xs × AreBelow (tag_word (suc n)) xs

  apart_push : (n : ℕ) (b : Bool) (xs : List ℕ) → AreApart n xs → AreApart (suc n) (xs ++ map tag_word (cond b (suc n ∷ []) []))
  apart_push n true xs apart = (
    distinct_push (tag_word (suc n)) (tag_word (suc n)) xs refl apart.1 apart.0,
    below_push (tag_word (suc (suc n))) (tag_word (suc n)) xs
        (subst (λ k. AreBelow k xs) (omega arith) (below_more (tag_word (suc n)) xs apart.1)) (omega arith) (omega arith),
  )
  apart_push n false xs apart =
      subst (AreApart (suc n)) (sym (append-nil xs)) (apart.0, subst (λ k. AreBelow k xs) (omega arith) (below_more (tag_word (suc n)) xs apart.1))

  words_apart : (n : ℕ) → AreApart n (map tag_word (filter p (up_to n)))
  words_apart zero = (none_apart, tt)
  words_apart (suc n) =
      subst (AreApart (suc n)) (sym (ap (map tag_word) (filter-append p (up_to n) (suc n ∷ []))
      ∙ map-append tag_word (filter p (up_to n)) (filter p (suc n ∷ []))))
      (apart_push n (p (suc n)) (map tag_word (filter p (up_to n))) (words_apart n))

others_of : (n : ℕ) (xs : List ℕ) → AreBelow n xs → AllByRecursion (λ z. nat_eq 0 z ≡ false) xs
others_of n [] below = tt
others_of n (x ∷ xs) below = let low = below.0.0 in (grind (arith, nat_tests), others_of n xs below.1)

key_words : (ts : List ℕ) → map key_word (map Tag ts) ≡ map tag_word ts
key_words [] = refl
key_words (t ∷ ts) = ap (λ xs. tag_word t ∷ xs) (key_words ts)

keys_apart : (g : Tagging) → IsDistinct nat_eq (map key_word (keys_of g))
unfolding IsDistinct
keys_apart g =
    let words = words_apart g.is_even g.count in
    subst (λ xs. IsDistinct nat_eq (0 ∷ xs)) (sym (key_words (even_tags g))) (others_of (tag_word (suc g.count)) (map tag_word (even_tags g)) words.1, words.0)

-- Each tree.

words_of : {A B : Type 0} (word : A → ℕ) (R : A → B → Type 0) (ks : List A) (ps : List (ℕ × B))
    → AllZip (λ k p. (p.0 ≡ word k) × R k p.1) ks ps → map (λ p. p.0) ps ≡ map word ks
words_of word R [] [] all = refl
words_of word R [] (p ∷ ps) all = absurd all
words_of word R (k ∷ ks) [] all = absurd all
words_of word R (k ∷ ks) (p ∷ ps) all = ap₂ (λ x xs. x ∷ xs) all.0.0 (words_of word R ks ps all.1)

each_of : {A B : Type 0} (K : A → Type 0) (R : A → B → Type 0) (P Q : B → Type 0) → ((k : A) (p : B) → K k → R k p → P p → Q p)
    → (ks : List A) (ps : List B) → AllByRecursion K ks → AllZip R ks ps → All P ps → All Q ps
each_of K R P Q makes [] [] keys all each = All-nil Q
each_of K R P Q makes [] (p ∷ ps) keys all each = absurd all
each_of K R P Q makes (k ∷ ks) [] keys all each = absurd all
each_of K R P Q makes (k ∷ ks) (p ∷ ps) keys all each =
    All-cons Q p ps (makes k p keys.0 all.0 (All-head P p ps each)) (each_of K R P Q makes ks ps keys.1 all.1 (All-tail P p ps each))

-- the tags of classes
tags_within : (p : ℕ → Bool) (m : Machine) (n : ℕ) → n ≤ length m.rows → AllByRecursion (IsTagOf m) (filter p (up_to n))
tags_within p m zero few = tt
tags_within p m (suc n) few =
    subst (AllByRecursion (IsTagOf m)) (sym (filter-append p (up_to n) (suc n ∷ [])))
    (push (p (suc n)) (filter p (up_to n)) (tags_within p m n (omega (arith, few))))
  where
    at_end : (xs : List ℕ) → AllByRecursion (IsTagOf m) xs → AllByRecursion (IsTagOf m) (xs ++ suc n ∷ [])
    at_end [] all = ((omega arith, few), tt)
    at_end (x ∷ xs) all = (all.0, at_end xs all.1)

    push : (b : Bool) (xs : List ℕ) → AllByRecursion (IsTagOf m) xs → AllByRecursion (IsTagOf m) (xs ++ cond b (suc n ∷ []) [])
    push true xs all = at_end xs all
    push false xs all = subst (AllByRecursion (IsTagOf m)) (sym (append-nil xs)) all

keys_within : (m : Machine) (ts : List ℕ) → AllByRecursion (IsTagOf m) ts → AllByRecursion (IsKeyOf m) (map Tag ts)
keys_within m [] all = tt
keys_within m (t ∷ ts) all = (all.0, keys_within m ts all.1)

module _ (T : Topology) (a : LettersValue) (m : Machine) (p : Tree (List Written)) (tags : HasTags T a m) (idle_free : IsIdleFree p)
    (arriving_sound : ArrivingAreSound) (leaving_sound : LeavingAreSound)
    (arriving_ports : ArrivingTestPorts) (leaving_ports : LeavingTestPorts) (diagram : IsDiagram p) (policy_ports : TestsPorts p)
    (below : StandBelowAll T (tagging_of a m) (departing T (value p))) where
  abbrev g : Tagging
  g = tagging_of a m

  tag_is_word : (t : ℕ) → IsTagOf m t → IsTagWord (tag_word t)
  tag_is_word t is = let low = is.0 in let high = is.1 in let few = tags.few in (omega (arith, low), omega (arith, high, few))

  key_is_word : (k : Key) (word : ℕ) → IsKeyOf m k → word ≡ key_word k → (word ≡ 0) ⊎ IsTagWord word
  key_is_word Plain word is same = inl same
  key_is_word (Tag t) word is same = inr (subst IsTagWord (sym same) (tag_is_word t is))

  -- entries can stand for the trees of a switch that test numbers of ports alone, or 0
  pub sound_layout : (d : ℕ) (firsts : ArrivingTrees) (seconds : LeavingTrees) → d < 2 ^ 64
      → AreTrees T (tagging_of a m) (departing T (value p)) d firsts seconds
      → All (λ q. TestsPortsOrZero q.1) firsts → All (λ q. TestsPortsOrZero q.1) seconds → AreSoundArriving firsts × AreSoundLeaving seconds
  sound_layout d firsts seconds fits trees first_ports second_ports =
      let stand = below d in (
        record {
          words = subst (IsDistinct nat_eq) (sym (words_of key_word (IsArriving T g d) (keys_of g) firsts trees.arriving)) (keys_apart g);
          each = each_of (IsKeyOf m) (λ k q. (q.0 ≡ key_word k) × IsArriving T g d k q.1) (λ q. TestsPortsOrZero q.1) (λ q. IsSoundArriving q.0 q.1)
              (λ k q is tree tests. let sound = arriving_sound T a m d tags fits k q.1 is tree.1 in record {
                vlan = key_is_word k q.0 is tree.0;
                matchable = record {
                  diagram = tree.1.diagram;
                  switch = sound.switch;
                  prerequisites = (stand fits).0 k q.1 tree.1;
                  ports = arriving_ports T a m d tags.lawful fits k q.1 tree.1 tests;
                };
                leaves = sound.leaves;
              })
              (keys_of g) firsts (tt, keys_within m (even_tags g) (tags_within g.is_even m (length m.rows) (omega arith))) trees.arriving first_ports;
        },
        record {
          words = subst (IsDistinct nat_eq)
              (sym (words_of tag_word (IsLeaving T g (departing T (value p)) d) (odd_tags g) seconds trees.leaving))
              (words_apart (λ t. not (g.is_even t)) g.count).0;
          each = each_of (IsTagOf m) (λ t q. (q.0 ≡ tag_word t) × IsLeaving T g (departing T (value p)) d t q.1) (λ q. TestsPortsOrZero q.1)
              (λ q. IsSoundLeaving q.0 q.1)
              (λ t q is tree tests. let sound = leaving_sound T a m d tags fits p idle_free t q.1 is tree.1 in record {
                vlan = subst IsTagWord (sym tree.0) (tag_is_word t is);
                matchable = record {
                  diagram = tree.1.diagram;
                  switch = sound.switch;
                  prerequisites =
                      (stand fits).1 t q.1 tree.1;
                  ports = leaving_ports T a m d tags.lawful fits p diagram policy_ports t q.1 tree.1 tests;
                };
                leaves = sound.leaves;
                idle_free = sound.idle_free;
              })
              (odd_tags g) seconds (tags_within (λ t. not (g.is_even t)) m (length m.rows) (omega arith)) trees.leaving second_ports;
        },
      )
