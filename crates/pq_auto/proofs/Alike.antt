-- States of one expression, in a set.
use Rattle.std.proofs.Common.{◌≡◌, ◌<◌, ℕ, Vec, Global, arith, length-append, Bool, true, false, nat_eq, if◌then◌else◌, List, [], ◌∷◌, ◌++◌}
use Rattle.std.proofs.Common.{length, map, Some, inl, inr, refl, sym, ap, ap₂, subst, ◌∙◌}
use Rattle.std.specs.List.{slice_get, list_any, position_or_len}
use Rattle.std.proofs.lemmas.List.{get_or-map, map-append, length-map}
use Rattle.std.proofs.Math.ListN.{get_or}
use Rattle.std.proofs.lemmas.Option.{slice_get-get_or, same_Some}
use Rattle.indexmap.specs.IndexSet.{insert_key}
use Rattle.std.specs.contracts.prelude.BoolPartialEq.TheImpl.{ghosts as bools}
use Rattle.std.specs.Cmp.Lexicographic.{pointwise, same_text}
use Rattle.std.proofs.lemmas.Bool.{and_parts}
use Rattle.pq_expr.specs.declared.expr.Expr.{Expr}
use Rattle.pq_expr.specs.Expr.{ExprTree, expr_tree}
use Rattle.pq_deriv.specs.Rests.{IsRest}
use Rattle.pq_deriv.specs.State.{StateValue}
use Rattle.pq_auto.specs.Met.{met_eq}
use Rattle.pq_auto.specs.Rests.{Rest, rest_of, rests, behind, after, AreAlike, AreLike, AreRestsOf, IsRestOf}
use Rattle.pq_auto.specs.Search.{IsNumber}
use Rattle.pq_auto.proofs.Keys.{none_found}
use Rattle.pq_lists.proofs.Places.{kept_places, older_or_last, image_place}

-- the test tells states of one expression apart
abbrev pub IsExact : (StateValue × Bool → StateValue × Bool → Bool) → Type 0
IsExact eq = (k m : StateValue × Bool) → m.0.expr ≡ k.0.expr → eq k m ≡ true → rest_of k ≡ rest_of m

-- truth values that compare as equal are one
pub exact_bool : (a b : Bool) → bools.eq a b ≡ true → a ≡ b
exact_bool true true same = refl
exact_bool true false same = absurd cc
exact_bool false true same = absurd cc
exact_bool false false same = refl

-- equal ones of one expression are one
pub exact_key : IsExact met_eq
exact_key k m expr same =
    let p = and_parts (pointwise nat_eq k.0.rest m.0.rest) (bools.eq k.1 m.1) same in
    let rest : k.0.rest ≡ m.0.rest = same_text k.0.rest m.0.rest (sym p.0) in
    ap₂ (λ s b. rest_of (s, b)) (ap₂ (λ (e : Expr) (r : List ℕ). record { expr = e; rest = r }) (sym expr) rest) (exact_bool k.1 m.1 p.1)

module _ (eq : StateValue × Bool → StateValue × Bool → Bool) (exact : IsExact eq) (old new : List (StateValue × Bool))
    (k : StateValue × Bool) (inserted : new ≡ insert_key eq old k) where
  -- an insertion keeps states of one expression
  pub like_more : AreLike k old → AreLike k new
  like_more like j m at = by (list_any (eq k) old) (subst (λ ks. slice_get ks j ≡ Some m) inserted at)
    where
      by : (there : Bool) → slice_get (if there then old else old ++ k ∷ []) j ≡ Some m → m.0.expr ≡ k.0.expr
      by true there = like j m there
      by false there = elim (older_or_last old k j m there) [
        | inl before ↦ like j m before
        | inr own ↦ ap (λ x. x.0.expr) own.1
      ]

  -- an insertion keeps states that have rests of an expression
  pub rests_more : (e : ExprTree) → AreRestsOf e old → IsRestOf e k → AreRestsOf e new
  rests_more e are own j m at = by (list_any (eq k) old) (subst (λ ks. slice_get ks j ≡ Some m) inserted at)
    where
      by : (there : Bool) → slice_get (if there then old else old ++ k ∷ []) j ≡ Some m → IsRestOf e m
      by true there = are j m there
      by false there = elim (older_or_last old k j m there) [
        | inl before ↦ are j m before
        | inr last ↦ subst (IsRestOf e) (sym last.1) own
      ]

  -- an insertion numbers the rest
  pub rest_numbers : (n : ℕ) → AreLike k old → (s : StateValue × Bool) × (slice_get new n ≡ Some s) × (eq k s ≡ true)
      → n ≡ position_or_len (eq k) old → IsNumber (rests old) (rest_of k) n (rests new)
  rest_numbers n like stored index = by (list_any (eq k) old) refl
    where
      by : (b : Bool) → list_any (eq k) old ≡ b → IsNumber (rests old) (rest_of k) n (rests new)
      by true is =
          let same : new ≡ old = inserted ∙ ap (λ b. if b then old else old ++ k ∷ []) is in
          let at : slice_get old n ≡ Some stored.0 = ap (λ ks. slice_get ks n) (sym same) ∙ stored.1 in
          inl (ap rests same, image_place rest_of old n stored.0 at ∙ ap Some (sym (exact k stored.0 (like n stored.0 at) stored.2)))
      by false is =
          let grown : new ≡ old ++ k ∷ [] = inserted ∙ ap (λ b. if b then old else old ++ k ∷ []) is in
          inr (ap rests grown ∙ map-append rest_of old (k ∷ []), index ∙ none_found (eq k) old is ∙ sym (length-map old rest_of))

-- a state of the expression of one of them is like all of them
pub like_of : (keys : List (StateValue × Bool)) (place : ℕ) (k next : StateValue × Bool) → AreAlike keys → slice_get keys place ≡ Some k
    → next.0.expr ≡ k.0.expr → AreLike next keys
like_of keys place k next alike at expr j m at_j = alike j place m k at_j at ∙ sym expr

-- states that are like one are alike
pub alike_of : (keys : List (StateValue × Bool)) (k : StateValue × Bool) → AreLike k keys → AreAlike keys
alike_of keys k like i j a b at_i at_j = like i a at_i ∙ sym (like j b at_j)

-- a state of the expression of one of them has a rest of the same expression
pub next_own : (e : ExprTree) (keys : List (StateValue × Bool)) (place : ℕ) (k next : StateValue × Bool) → AreRestsOf e keys
    → slice_get keys place ≡ Some k → next.0.expr ≡ k.0.expr → IsRest (expr_tree next.0.expr) next.0.rest → IsRestOf e next
next_own e keys place k next are at expr own = (ap expr_tree expr ∙ (are place k at).0, own)

-- no state is there
pub no_rests : (e : ExprTree) (keys : List (StateValue × Bool)) → keys ≡ [] → AreRestsOf e keys
no_rests e [] none j m at = absurd cc
no_rests e (k ∷ keys) none j m at = absurd cc

-- numbered rests keep their places
pub rest_stays : {K : Type 0} (old new : List K) (k : K) (n i : ℕ) (r : K) → IsNumber old k n new → slice_get old i ≡ Some r → slice_get new i ≡ Some r
rest_stays old new k n i r (inl same) at = ap (λ ks. slice_get ks i) same.0 ∙ at
rest_stays old new k n i r (inr own) at = ap (λ ks. slice_get ks i) own.0 ∙ kept_places old (k ∷ []) i r at

-- there are no fewer states
pub still_within : (old new : List (StateValue × Bool)) (k : Rest) (n i : ℕ) → IsNumber (rests old) k n (rests new) → i < length old → i < length new
still_within old new k n i (inl same) h = omega (arith, h, sym (length-map old rest_of) ∙ ap length (sym same.0) ∙ length-map new rest_of)
still_within old new k n i (inr own) h = omega (
  arith,
  h,
  length-map old rest_of,
  sym (length-map new rest_of)
      ∙ ap length own.0,
  length-append (rests old) (k ∷ []),
)

-- the rest of a state after one letter more
pub letter_rest : (alphabet : List (Vec Bool Global)) (letter : ℕ) (v : Vec Bool Global) (signature : List Bool)
    (k next : StateValue × Bool) (r : Rest) → letter < length alphabet → v ≡ get_or alphabet letter v → signature ≡ v.items → rest_of k ≡ r
    → rest_of next ≡ behind (rest_of k) signature → rest_of next ≡ after (map (λ v. v.items) alphabet) r letter
letter_rest alphabet letter v signature k next r h is same rest stepped =
    let told : get_or (map (λ v. v.items) alphabet) letter [] ≡ v.items = get_or-map (λ v. v.items) alphabet letter v [] h ∙ ap (λ u. u.items) (sym is) in
    stepped ∙ ap₂ behind rest (same ∙ sym told)

-- the state that is read at a place
pub read_at : (keys slice : List (StateValue × Bool)) (place : ℕ) (k : StateValue × Bool) → place < length keys → slice ≡ keys
    → k ≡ get_or slice place k → slice_get keys place ≡ Some k
read_at keys slice place k h same is = slice_get-get_or keys place k h ∙ ap Some (sym (is ∙ ap (λ ks. get_or ks place k) same))

-- the rest of the state at a place
pub rest_at : (keys : List (StateValue × Bool)) (place : ℕ) (k : StateValue × Bool) (r : Rest) → slice_get keys place ≡ Some k
    → slice_get (rests keys) place ≡ Some r → rest_of k ≡ r
rest_at keys place k r at told = same_Some (rest_of k) r (sym (image_place rest_of keys place k at) ∙ told)
