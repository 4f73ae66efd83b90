-- The groups of entries, entry after entry.
use Rattle.std.proofs.Common.{◌≡◌, ◌==◌, ℕ, zero, suc, ◌+◌, ◌<◌, ◌≤◌, Bool, true, false, if◌then◌else◌, List, []}
use Rattle.std.proofs.Common.{◌∷◌, ◌++◌, Some, None, length, get_or, drop, map, refl, sym, ap, subst, ◌∙◌, arith, eqb-true}
use Rattle.std.specs.Prelude.{slice_get, ◌||◌}
use Rattle.std.specs.List.{list_any}
use Rattle.std.specs.declared.option.Option.{Option}
use Rattle.std.proofs.lemmas.List.{append-nil, append_assoc, drop_more}
use Rattle.pq_lists.proofs.Places.{kept_places}
use Rattle.indexmap.specs.IndexMap.{IndexMap, Updates}
use Rattle.indexmap.specs.IndexSet.{insert_key}
use Rattle.pq_apply.specs.Memo.{Remembers}
use Rattle.pq_apply.proofs.Remembered.{remembers_more, remembers_still}
use Rattle.pq_model.specs.MatchFields.{MatchFields}
use Rattle.pq_rewrite.specs.declared.outgoing.Outgoing.{Outgoing}
use Rattle.pq_rewrite.specs.Leaves.{copies_eq, copies_equiv}
use Rattle.pq_store.specs.Tree.{Tree}
use Rattle.pq_rules.specs.Grouping.{ArePlaces, IsNoted, IsPlace, group_copies, in_bucket, leaf_at, resolved, with_group, with_groups}

-- each place keeps its group
abbrev pub Grows : List (List Outgoing) → List (List Outgoing) → Type 0
Grows old new = (i : ℕ) (g : List Outgoing) → slice_get old i ≡ Some g → slice_get new i ≡ Some g

grows_self : (gs : List (List Outgoing)) → Grows gs gs
grows_self gs i g is = is

pub insert_grows : (gs : List (List Outgoing)) (g : List Outgoing) → Grows gs (insert_key copies_eq gs g)
insert_grows gs g = by (list_any (copies_eq g) gs)
  where
    by : (b : Bool) → Grows gs (if b then gs else gs ++ g ∷ [])
    by true = grows_self gs
    by false = λ i h is. kept_places gs (g ∷ []) i h is

pub group_grows : (gs : List (List Outgoing)) (o : Option (List Outgoing)) → Grows gs (with_group gs o)
group_grows gs None = grows_self gs
group_grows gs (Some g) = insert_grows gs g

-- a group that is at a place is there
at_any : (gs : List (List Outgoing)) (i : ℕ) (g : List Outgoing) → slice_get gs i ≡ Some g → list_any (copies_eq g) gs ≡ true
at_any [] i g is = absurd cc
at_any (h ∷ gs) zero g is = let one : h ≡ g = cc in subst (λ k. list_any (copies_eq g) (k ∷ gs) ≡ true) (sym one) (rw (copies_equiv.refl g) refl)
at_any (h ∷ gs) (suc i) g is = by (copies_eq g h) (at_any gs i g is)
  where
    by : (b : Bool) → list_any (copies_eq g) gs ≡ true → b || list_any (copies_eq g) gs ≡ true
    by true there = refl
    by false there = there

-- so it isn't put again
pub noted_stays : (gs : List (List Outgoing)) (cs : List Outgoing) (p : ℕ) → IsPlace gs cs (Some p) → with_group gs (group_copies cs) ≡ gs
noted_stays gs cs p place =
    ap (with_group gs) place.1 ∙ ap (λ b. if b then gs else gs ++ place.0 ∷ []) (at_any gs p place.0 place.2)

-- places stay where groups keep theirs
pub place_stays : (old new : List (List Outgoing)) (cs : List Outgoing) (p : Option ℕ) → Grows old new → IsPlace old cs p → IsPlace new cs p
place_stays old new cs None grows place = place
place_stays old new cs (Some p) grows place = (place.0, place.1, grows p place.0 place.2)

pub notes_stay : {S : Type 0} (old new : List (List Outgoing)) (ts : List (Tree (List Outgoing))) (known : IndexMap ℕ ℕ S) → Grows old new
    → Remembers (λ x y. x == y) (IsNoted old ts) known → Remembers (λ x y. x == y) (IsNoted new ts) known
notes_stay old new ts known grows noted = remembers_still (λ x y. x == y) (IsNoted old ts) (IsNoted new ts) known
    (λ k p place. place_stays old new (leaf_at [] ts k) (Some p) grows place) noted

-- what is left of the entries completes the places, whatever groups are added
abbrev pub PlacesComplete : List (List Outgoing) → List (MatchFields × List Outgoing) → List (MatchFields × List Outgoing) → List (Option ℕ) → Type 0
PlacesComplete gs es left places =
    (more : List (List Outgoing)) (rest : List (Option ℕ)) → Grows gs more → ArePlaces more left rest → ArePlaces more es (places ++ rest)

pub none_placed : (gs : List (List Outgoing)) (es : List (MatchFields × List Outgoing)) → PlacesComplete gs es es []
none_placed gs es more rest grows places = places

-- one place more
pub one_placed : (old new : List (List Outgoing)) (es left : List (MatchFields × List Outgoing)) (e : MatchFields × List Outgoing)
    (places : List (Option ℕ)) (p : Option ℕ) → Grows old new
    → IsPlace new e.1 p
    → PlacesComplete old es (e ∷ left) places → PlacesComplete new es left (places ++ p ∷ [])
one_placed old new es left e places p grows place complete more rest later rests =
    subst (ArePlaces more es) (sym (append_assoc places (p ∷ []) rest))
    (complete more (p ∷ rest) (λ i g is. later i g (grows i g is)) (place_stays new more e.1 p later place, rests))

-- at the end all are placed
pub all_placed : (gs : List (List Outgoing)) (es left : List (MatchFields × List Outgoing)) (places : List (Option ℕ)) → left ≡ []
    → PlacesComplete gs es left places → ArePlaces gs es places
all_placed gs es left places none complete =
    subst (ArePlaces gs es) (append-nil places) (complete gs [] (grows_self gs) (subst (λ l. ArePlaces gs l []) (sym none) tt))

-- a list of fewer than two copies needs no group, and one of two or more has one
pub few_need_none : (cs : List Outgoing) → length cs < 2 → group_copies cs ≡ None
few_need_none [] few = refl
few_need_none (c ∷ []) few = refl
few_need_none (c ∷ d ∷ cs) few = absurd (omega arith)

pub more_need_one : (cs : List Outgoing) → 2 ≤ length cs → group_copies cs ≡ Some (map in_bucket cs)
more_need_one [] more = absurd (omega arith)
more_need_one (c ∷ []) more = absurd (omega arith)
more_need_one (c ∷ d ∷ cs) more = refl

-- a group more, and its place noted
pub noted_more : {S : Type 0} (old new : List (List Outgoing)) (ts : List (Tree (List Outgoing))) (known more : IndexMap ℕ ℕ S) (k p : ℕ)
    (cs : List Outgoing) → cs ≡ leaf_at [] ts k → 2 ≤ length cs
    → new ≡ insert_key copies_eq old (map in_bucket cs) → slice_get new p ≡ Some (map in_bucket cs)
    → Remembers (λ x y. x == y) (IsNoted old ts) known → Updates (λ x y. x == y) known more k (Some p)
    → Remembers (λ x y. x == y) (IsNoted new ts) more
noted_more old new ts known more k p cs is many grown at noted updates =
    let grows : Grows old new = subst (Grows old) (sym grown) (insert_grows old (map in_bucket cs)) in
    remembers_more (λ x y. x == y) (IsNoted new ts) known more k p eqb-true (notes_stay old new ts known grows noted)
    (map in_bucket cs, subst (λ l. group_copies l ≡ Some (map in_bucket cs)) is (more_need_one cs many), at) updates

-- one entry more
pub entry_grouped : (ts : List (Tree (List Outgoing))) (es : List (MatchFields × ℕ)) (i : ℕ) (e : MatchFields × ℕ)
    (old new : List (List Outgoing)) (places placed : List (Option ℕ)) (p : Option ℕ)
    → i < length es → e ≡ get_or es i e → new ≡ with_group old (group_copies (leaf_at [] ts e.1)) → IsPlace new (leaf_at [] ts e.1) p
    → placed ≡ places ++ p ∷ []
    → with_groups old (resolved [] ts (drop i es)) ≡ with_groups [] (resolved [] ts es)
    → PlacesComplete old (resolved [] ts es) (resolved [] ts (drop i es)) places
    → (with_groups new (resolved [] ts (drop (i + 1) es)) ≡ with_groups [] (resolved [] ts es)) × PlacesComplete new (resolved [] ts es)
    (resolved [] ts (drop (i + 1) es)) placed
entry_grouped ts es i e old new places placed p within is grown place pushed groups complete =
    let next : resolved [] ts (drop i es) ≡ (e.0, leaf_at [] ts e.1) ∷ resolved [] ts (drop (i + 1) es) =
    ap (resolved [] ts) (drop_more es i e within ∙ ap (λ d. d ∷ drop (i + 1) es) (sym is)) in
    let grows : Grows old new = subst (Grows old) (sym grown) (group_grows old (group_copies (leaf_at [] ts e.1))) in (
      ap (λ gs. with_groups gs (resolved [] ts (drop (i + 1) es))) grown ∙ ap (with_groups old) (sym next) ∙ groups,
      subst (PlacesComplete new (resolved [] ts es) (resolved [] ts (drop (i + 1) es))) (sym pushed)
          (one_placed old new (resolved [] ts es) (resolved [] ts (drop (i + 1) es)) (e.0, leaf_at [] ts e.1) places p grows place
          (subst (λ l. PlacesComplete old (resolved [] ts es) l places) next complete)),
    )
