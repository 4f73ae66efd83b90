-- Which instances hold a word, by their expressions.
use Rattle.std.proofs.Common.{◌≡◌, ◌<◌, ◌+◌, ℕ, suc, zero, Bool, true, false, if◌then◌else◌, List, [], ◌∷◌, length, get_or, map, refl, sym}
use Rattle.std.proofs.Common.{ap, ap₂, subst, ◌∙◌, arith}
use Rattle.std.specs.Prelude.{slice_get, Some, All}
use Rattle.std.specs.List.{AllZip, Contains}
use Rattle.std.specs.Option.{unwrap_or}
use Rattle.std.proofs.lemmas.List.Elements.{All-head, All-tail}
use Rattle.std.proofs.lemmas.Option.{slice_get_within, get_or_from_slice_get}
use Rattle.pq_lists.proofs.Places.{at_place}
use Rattle.pq_fields.specs.Packet.{Numbers, Fit}
use Rattle.pq_fields.specs.Pred.{PredTree, holds as holds_pred}
use Rattle.pq_model.specs.Buckets.{Instance}
use Rattle.pq_model.specs.Classes.{AllObservedFit, IsPath}
use Rattle.pq_model.specs.Lawful.{Ascends}
use Rattle.pq_model.specs.Word.{Word, In, Out, alternates, is_word, observed_packet}
use Rattle.pq_query.specs.Languages.{IsHeld}
use Rattle.pq_query.specs.Query.{QueryTree}
use Rattle.pq_expr.specs.declared.side.Side.{Side}
use Rattle.pq_expr.specs.declared.side.Side.TheVariants.{In as Inward, Out as Outward}
use Rattle.pq_expr.specs.Expr.{ExprTree}
use Rattle.pq_expr.specs.Language.{holds}
use Rattle.pq_expr.specs.Word.{Word as HalfSteps}
use Rattle.pq_lower.specs.HalfSteps.{half_steps}
use Rattle.pq_auto.specs.Exploration.{half_steps_from, holding, holding_from, half_steps as letter_steps}
use Rattle.pq_letters.specs.Letters.{LettersValue, IsLettered, letter_at}
use Rattle.pq_letters.specs.Words.{letter_number, letters_of}
use Rattle.pq_classes.specs.Lowered.{AreLowered, IsLowered}
use Rattle.pq_classes.specs.Told.{AreHolding}
use Rattle.pq_classes.proofs.Following.{has_from}

-- Lists of the expressions that hold a word.

-- the places of those that hold it are these
holding_has : (k : ℕ) (es : List ExprTree) (w : HalfSteps) (j : ℕ) (e : ExprTree) → slice_get es j ≡ Some e → holds e w ≡ true
    → Contains (holding_from k es w) (k + j)
holding_has k [] w j e at is = absurd cc
holding_has k (d ∷ es) w zero e at is = here (holds d w) (ap (λ o. holds (unwrap_or o e) w) at ∙ is)
  where
    here : (b : Bool) → b ≡ true → Contains (if b then k ∷ holding_from (suc k) es w else holding_from (suc k) es w) (k + 0)
    here true is = (0, omega arith, omega arith)
    here false is = absurd cc
holding_has k (d ∷ es) w (suc j) e at is = let more = holding_has (suc k) es w j e at is in
    there (holds d w) (subst (λ i. Contains (holding_from (suc k) es w) i) (omega arith) more)
  where
    there : (b : Bool) → Contains (holding_from (suc k) es w) (k + suc j)
        → Contains (if b then k ∷ holding_from (suc k) es w else holding_from (suc k) es w) (k + suc j)
    there true (i, within, is) = (suc i, omega (arith, within), is)
    there false found = found

-- what a place among them says
abbrev IsAt : ℕ → List ExprTree → HalfSteps → ℕ → Type 0
IsAt k es w i = (j : ℕ) × (e : ExprTree) × (i ≡ k + j) × (slice_get es j ≡ Some e) × (holds e w ≡ true)

holding_from_has : (k : ℕ) (es : List ExprTree) (w : HalfSteps) (i n : ℕ) → slice_get (holding_from k es w) n ≡ Some i → IsAt k es w i
holding_from_has k [] w i n at = absurd cc
holding_from_has k (d ∷ es) w i n at =
    by (holds d w) refl (λ n at. (let found = holding_from_has (suc k) es w i n at in (suc found.0, found.1, omega (arith, found.2), found.3, found.4))) n at
  where
    by : (b : Bool) → holds d w ≡ b → ((n : ℕ) → slice_get (holding_from (suc k) es w) n ≡ Some i → IsAt k (d ∷ es) w i) → (n : ℕ)
        → slice_get (if b then k ∷ holding_from (suc k) es w else holding_from (suc k) es w) n ≡ Some i → IsAt k (d ∷ es) w i
    by true is later zero at = let same : k ≡ i = cc in (0, d, omega (arith, same), refl, is)
    by true is later (suc n) at = later n at
    by false is later n at = later n at

-- they ascend
rises : (k l : ℕ) (es : List ExprTree) (w : HalfSteps) → k < l → Ascends (k ∷ holding_from l es w)
rises k l [] w less = tt
rises k l (d ∷ es) w less = by (holds d w) (rises l (suc l) es w (omega arith)) (rises k (suc l) es w (omega (arith, less)))
  where
    by : (b : Bool) → Ascends (l ∷ holding_from (suc l) es w) → Ascends (k ∷ holding_from (suc l) es w)
        → Ascends (k ∷ (if b then l ∷ holding_from (suc l) es w else holding_from (suc l) es w))
    by true taken passed = (less, taken)
    by false taken passed = passed

holding_rises : (k : ℕ) (es : List ExprTree) (w : HalfSteps) → Ascends (holding_from k es w)
holding_rises k [] w = tt
holding_rises k (d ∷ es) w = by (holds d w) (rises k (suc k) es w (omega arith)) (holding_rises (suc k) es w)
  where
    by : (b : Bool) → Ascends (k ∷ holding_from (suc k) es w) → Ascends (holding_from (suc k) es w)
        → Ascends (if b then k ∷ holding_from (suc k) es w else holding_from (suc k) es w)
    by true taken passed = taken
    by false taken passed = passed

-- Two lists side by side.

zip_at : {A B : Type 0} (R : A → B → Type 0) (xs : List A) (ys : List B) (i : ℕ) (x : A) → AllZip R xs ys → slice_get xs i ≡ Some x
    → (y : B) × (slice_get ys i ≡ Some y) × R x y
zip_at R [] ys i x all at = absurd cc
zip_at R (z ∷ xs) [] i x all at = absurd all
zip_at R (z ∷ xs) (y ∷ ys) zero x all at = (y, refl, subst (λ o. R (unwrap_or o z) y) at all.0)
zip_at R (z ∷ xs) (y ∷ ys) (suc i) x all at = zip_at R xs ys i x all.1 at

zip_back : {A B : Type 0} (R : A → B → Type 0) (xs : List A) (ys : List B) (i : ℕ) (y : B) → AllZip R xs ys → slice_get ys i ≡ Some y
    → (x : A) × (slice_get xs i ≡ Some x) × R x y
zip_back R [] [] i y all at = absurd cc
zip_back R [] (z ∷ ys) i y all at = absurd all
zip_back R (x ∷ xs) [] i y all at = absurd cc
zip_back R (x ∷ xs) (z ∷ ys) zero y all at = (x, refl, subst (λ o. R x (unwrap_or o z)) at all.0)
zip_back R (x ∷ xs) (z ∷ ys) (suc i) y all at = zip_back R xs ys i y all.1 at

-- The instances that hold a word.

pub are_holding : (qs : List QueryTree) (ps : List PredTree) (is : List Instance) (es : List ExprTree) → AreLowered qs ps is es
    → All (λ i. i.query < length qs) is
    → (w : Word) → is_word w ≡ true → AreHolding (IsHeld qs is) w (holding es (half_steps ps w))
are_holding qs ps is es lowered within w word = record {
  ascend = holding_rises 0 es (half_steps ps w);
  exact = λ i. (
    λ h.
        let place = has_from (holding es (half_steps ps w)) i h in
        let found = holding_from_has 0 es (half_steps ps w) i place.0 place.1 in
        let instance = zip_back (IsLowered qs ps) is es found.0 found.1 lowered found.3 in
        let query = at_place qs instance.0.query (below found.0 instance.0 instance.1) in
        let same : i ≡ found.0 = omega (arith, found.2) in
        record {
          instance = instance.0;
          at = ap (slice_get is) same ∙ instance.1;
          query = query.0;
          asked = query.1;
          holds = (instance.2.language query.0 query.1 w word).1 found.4;
        },
    λ h.
        let e = zip_at (IsLowered qs ps) is es i h.instance lowered h.at in
        subst (Contains (holding es (half_steps ps w))) (omega arith)
        (holding_has 0 es (half_steps ps w) i e.0 e.1 ((e.2.language h.query h.asked w word).0 h.holds)),
  );
}
  where
    below : (j : ℕ) (x : Instance) → slice_get is j ≡ Some x → x.query < length qs
    below j x at = subst (λ y. y.query < length qs) (get_or_from_slice_get is j x x at) (within j x (slice_get_within is j x at))

-- Words of letters say what words of packets do.

pub same_steps : (a : LettersValue) (ps : List PredTree) → IsLettered a
    → ((x : Numbers) (l : ℕ) → Fit x → letter_at a x ≡ Some l → get_or a.signatures l [] ≡ map (λ p. holds_pred p x) ps)
    → (w : Word) → IsPath w → half_steps ps w ≡ letter_steps a.signatures (letters_of a w)
same_steps a ps lettered tells w (word, fits) = by true w word fits
  where
    side_of : Bool → Side
    side_of true = Inward
    side_of false = Outward

    truth : (x : Numbers) → Fit x → map (λ p. holds_pred p x) ps ≡ get_or a.signatures (letter_number a x) []
    truth x fit =
        let whole = lettered.whole x fit in
        sym (tells x whole.0 fit whole.2) ∙ ap (λ o. get_or a.signatures (unwrap_or o 0) []) (sym whole.2)

    by : (enters : Bool) (w : Word) → alternates enters w ≡ true → AllObservedFit w
        → half_steps ps w ≡ half_steps_from (side_of enters) a.signatures (letters_of a w)
    by enters [] word fits = refl
    by true (In x ∷ w) word fits =
        ap₂ (λ t v. record { side = Inward; truth = t } ∷ v) (truth x (All-head (λ o. Fit (observed_packet o)) (In x) w fits))
        (by false w word (All-tail (λ o. Fit (observed_packet o)) (In x) w fits))
    by false (Out x ∷ w) word fits =
        ap₂ (λ t v. record { side = Outward; truth = t } ∷ v) (truth x (All-head (λ o. Fit (observed_packet o)) (Out x) w fits))
        (by true w word (All-tail (λ o. Fit (observed_packet o)) (Out x) w fits))
    by true (Out x ∷ w) word fits = absurd cc
    by false (In x ∷ w) word fits = absurd cc
