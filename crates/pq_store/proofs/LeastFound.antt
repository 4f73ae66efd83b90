-- What is found of the leaves under a root, and how it grows.
use Rattle.std.proofs.Common.{◌≡◌, ℕ, ◌<◌, inl, inr, Bool, true, false, if◌then◌else◌, List, [], ◌∷◌, ◌++◌, Some, length, get_or, set, refl}
use Rattle.std.proofs.Common.{sym, ap, subst, ◌∙◌, true≢false, length-append, arith}
use Rattle.std.proofs.Math.ListN.{get_or-append}
use Rattle.std.specs.Prelude.{slice_get}
use Rattle.std.specs.List.{Any}
use Rattle.std.proofs.lemmas.Bool.{cases_eq, cases_Bool}
use Rattle.std.proofs.lemmas.List.{get_or-set_same, get_or-set_other}
use Rattle.std.proofs.lemmas.List.Elements.{All-weaker, All-push, All-nil}
use Rattle.std.proofs.lemmas.List.Quantifiers.{Any-push, all_pairs_push}
use Rattle.std.proofs.lemmas.Option.{same_Some}
use Rattle.pq_fields.specs.Packet.{Numbers, Fit}
use Rattle.pq_store.specs.declared.test.Test.{Test}
use Rattle.pq_store.specs.declared.least.Least.{Least}
use Rattle.pq_store.specs.Test.{passes}
use Rattle.pq_store.specs.Tree.{Tree, value}
use Rattle.pq_store.specs.Tree.Tree.{Tip, Fork}
use Rattle.pq_store.specs.Least.{precedes}
use Rattle.pq_store.specs.Search.{Hits, IsFound, AreFound, IsLeastIn, IsSeen, IsSound, IsReady, Leads, IsSearched, Reaching}

-- a place stays marked
seen_set : (seen : List Bool) (k j : ℕ) → k < length seen → IsSeen seen j → IsSeen (set seen k true) j
seen_set seen k j within h = elim (cases_eq j k) [
  | inl same ↦ subst (λ i. IsSeen (set seen k true) i) (sym same) (get_or-set_same seen k true false within)
  | inr other ↦ get_or-set_other seen k j true false other ∙ h
]

module _ {X : Type 0} where
  -- what holds of an element holds of one of a longer list
  any_more : (P : X → Type 0) (xs ys : List X) → Any P xs → Any P (xs ++ ys)
  any_more P xs ys h = (h.0, h.1, omega (arith, h.2, length-append xs ys), get_or-append xs ys h.1 h.0 h.2 ∙ h.3, h.4)

  -- what follows from it holds of one too
  pub any_weaker : (P Q : X → Type 0) → ((x : X) → P x → Q x) → (xs : List X) → Any P xs → Any Q xs
  any_weaker P Q weaker xs h = (h.0, h.1, h.2, h.3, weaker h.1 h.4)

module _ {L : Type 0} where
  -- what is found stays found
  pub found_more : (ts : List (Tree L)) (old more : List Least) (t : Tree L) (x : Numbers) → IsFound ts old t x → IsFound ts (old ++ more) t x
  found_more ts old more t x h = any_more (λ e. Hits ts t x e.leaf) old more h

  -- packets with one value reach one leaf
  pub found_same : (ts : List (Tree L)) (found : List Least) (t u : Tree L) (x : Numbers) → value t x ≡ value u x → IsFound ts found u x → IsFound ts found t x
  found_same ts found t u x same h = any_weaker (λ e. Hits ts u x e.leaf) (λ e. Hits ts t x e.leaf) (λ e hit. hit ∙ ap (λ l. Some (Tip l)) (sym same)) found h

  -- what is found under both sides is found under their test
  pub fork_found : (ts : List (Tree L)) (found : List Least) (s : Test) (y n : Tree L) → AreFound ts found y → AreFound ts found n
      → AreFound ts found (Fork s y n)
  fork_found ts found s y n in_yes in_no x fit = elim (cases_Bool (passes s x)) [
    | inl h ↦ found_same ts found (Fork s y n) y x (ap (λ b. if b then value y x else value n x) h) (in_yes x fit)
    | inr h ↦ found_same ts found (Fork s y n) n x (ap (λ b. if b then value y x else value n x) h) (in_no x fit)
  ]

  -- a tree may be marked whose leaves are found
  pub sound_marked : (ts : List (Tree L)) (root : Tree L) (found : List Least) (seen : List Bool) (k : ℕ) (t : Tree L) → k < length seen
      → slice_get ts k ≡ Some t → AreFound ts found t → IsSound ts root found seen → IsSound ts root found (set seen k true)
  sound_marked ts root found seen k t within is all sound = record {
    each = sound.each;
    ascending = sound.ascending;
    settled = λ j u seen_j at. elim (cases_eq j k) [
      | inl same ↦ subst (λ v. AreFound ts found v) (same_Some t u (sym is ∙ ap (slice_get ts) (sym same) ∙ at)) all
      | inr other ↦ sound.settled j u (sym (get_or-set_other seen k j true false other) ∙ seen_j) at
    ];
    marked = All-weaker (λ e. IsSeen seen e.leaf) (λ e. IsSeen (set seen k true) e.leaf) (λ e. seen_set seen k e.leaf within) found sound.marked;
  }

  -- a leaf that isn't marked is found by the packet before which all is found
  pub leaf_searched : (ts : List (Tree L)) (root : Tree L) (found : List Least) (seen : List Bool) (k : ℕ) (l : L) (p : Numbers)
      → k < length seen → slice_get ts k ≡ Some (Tip l) → ((i j : ℕ) (m : L) → slice_get ts i ≡ Some (Tip m) → slice_get ts j ≡ Some (Tip m)
      → i ≡ j) → get_or seen k false ≡ false → Fit p → IsSound ts root found seen → IsReady ts root found p → Leads root (Tip l) p
      → IsSearched ts root (Tip l) (λ x. Reaching (Tip l) x p) found (found ++ record { packet = p; leaf = k } ∷ []) (set seen k true)
  leaf_searched ts root found seen k l p within is one fresh fit sound ready leads = record {
    more = entry ∷ [];
    grown = refl;
    kinds = All-push (λ e. Fit e.packet × Reaching (Tip l) e.packet p) [] entry (All-nil (λ e. Fit e.packet × Reaching (Tip l) e.packet p)) (fit, λ g. refl);
    all = all;
    sound = record {
      each = All-push (IsLeastIn ts root) found entry sound.each least;
      ascending = all_pairs_push (λ d e. precedes d.packet e.packet ≡ true) found entry sound.ascending ready.behind;
      settled = λ j u seen_j at. elim (cases_eq j k) [
        | inl same ↦ subst (λ v. AreFound ts (found ++ entry ∷ []) v) (same_Some (Tip l) u (sym is ∙ ap (slice_get ts) (sym same) ∙ at)) all
        | inr other ↦ λ x x_fit. found_more ts found (entry ∷ []) u x (sound.settled j u (sym (get_or-set_other seen k j true false other) ∙ seen_j) at x x_fit)
      ];
      marked = All-push (λ e. IsSeen (set seen k true) e.leaf) found entry
          (All-weaker (λ e. IsSeen seen e.leaf) (λ e. IsSeen (set seen k true) e.leaf)
          (λ e. seen_set seen k e.leaf within) found sound.marked) (get_or-set_same seen k true false within);
    };
  }
    where
      entry : Least
      entry = record { packet = p; leaf = k }

      all : AreFound ts (found ++ entry ∷ []) (Tip l)
      all x x_fit = Any-push (λ e. Hits ts (Tip l) x e.leaf) found entry is

      least : IsLeastIn ts root entry
      least = record {
        fit = fit;
        hits = is ∙ ap (λ m. Some (Tip m)) (sym (leads p fit (λ g. refl)));
        least = λ x x_fit hit. elim (cases_Bool (precedes x p)) [ inl before ↦ absurd (other x x_fit hit before) | inr h ↦ h ];
      }
        where
          other : (x : Numbers) → Fit x → Hits ts root x k → precedes x p ≡ true → ⊥
          other x x_fit hit before =
              let w = ready.covered x x_fit before in
              let same : k ≡ w.1.leaf = one k w.1.leaf (value root x) hit w.4 in
              let seen_leaf : IsSeen seen w.1.leaf = subst (λ e. IsSeen seen e.leaf) w.3 (sound.marked w.0 w.1 w.2) in
              true≢false (sym seen_leaf ∙ ap (λ i. get_or seen i false) (sym same) ∙ fresh)
