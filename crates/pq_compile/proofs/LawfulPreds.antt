-- Predicates that are read are lawful.
use Rattle.std.specs.Prelude.{◌≡◌, ◌≢◌, ℕ, Bool, true, false, if◌then◌else◌, List, [], ◌∷◌, Ok, Err}
use Rattle.std.specs.List.{AllByRecursion}
use Rattle.std.proofs.Common.{ap, subst}
use Rattle.pq_term.specs.declared.token.Token.{Token}
use Rattle.pq_grammar.specs.declared.class.Class.TheVariants.{TrueWord, FalseWord, NotWord, AndWord, OrWord}
use Rattle.pq_grammar.specs.Tables.{is_class}
use Rattle.pq_tree.specs.Trees.{Forest, nothing, grown, Tree}
use Rattle.pq_tree.specs.Texts.{text_in, class_in_text}
use Rattle.pq_fields.specs.declared.field.Field.{Field}
use Rattle.pq_fields.specs.Pred.{PredTop, Always, Never, Every, Some as SomeHold, Negated, Preds, none, PredTree, preds, leaf, IsTopOver}
use Rattle.pq_fields.specs.Pred.{ArePredsOver, IsPredOver}
use Rattle.pq_model.specs.Topology.{Topology}
use Rattle.pq_topo.specs.Naming.{Reading, named, next, gathered}
use Rattle.pq_topo.proofs.Readings.{next_ok}
use Rattle.pq_pred.specs.Values.{Ruled, field_at, test_of}
use Rattle.pq_pred.specs.Predicates.{test_below, negation, joined, pred_step, pred_readings, pred_of}
use Rattle.pq_compile.proofs.Fits.{ReadsOver, test_over}

-- what a token names
pub named_ok : {A : Type 0} (t : Token) (r : Ruled A) (v : A) → named t r ≡ Ok v → r ≡ Ok v
named_ok t (Ok value) v e = let same : value ≡ v = cc in ap Ok same
named_ok t (Err kind) v e = absurd cc

-- what holds of each value that may be read holds of all that are
pub all_gathered : {A : Type 0} (P : A → Type 0) (rs : List (Reading A)) (vs : List A) → AllByRecursion (λ r. (v : A) → r ≡ Ok v → P v) rs
    → gathered rs ≡ Ok vs → AllByRecursion P vs
all_gathered P [] [] all e = tt
all_gathered P [] (v ∷ vs) all e = absurd cc
all_gathered P (r ∷ rs) vs all e =
    let one = next_ok r (λ value. next (gathered rs) (λ values. Ok (value ∷ values))) vs e in
    let more = next_ok (gathered rs) (λ values. Ok (one.0 ∷ values)) vs one.2 in
    let same : one.0 ∷ more.0 ≡ vs = cc in
    subst (AllByRecursion P) same (all.0 one.0 one.1, all_gathered P rs more.0 all.1 more.1)

-- a list of such predicates
all_over : (V : Field → ℕ → Type 0) (ps : List PredTree) → AllByRecursion (IsPredOver V) ps → ArePredsOver V (preds ps)
all_over V [] all = tt
all_over V (p ∷ ps) all = (all.0.0, all.0.1, all_over V ps all.1)

some_below : (p : PredTree) (ps : List PredTree) → preds (p ∷ ps) ≢ none
some_below p ps e = absurd cc

negation_over : (V : Field → ℕ → Type 0) (head : Token) (ps : List PredTree) (p : PredTree) → AllByRecursion (IsPredOver V) ps
    → negation head ps ≡ Ok p → IsPredOver V p
negation_over V head [] p all e = absurd cc
negation_over V head (q ∷ []) p all e = let same : record { top = Negated; below = preds (q ∷ []) } ≡ p = cc in
    subst (IsPredOver V) same (some_below q [], all_over V (q ∷ []) all, tt)
negation_over V head (q ∷ r ∷ qs) p all e = absurd cc

joined_over : (V : Field → ℕ → Type 0) (head : Token) (top : PredTop) (ps : List PredTree) (p : PredTree)
    → ((below : Preds) → below ≢ none → IsTopOver V top below) → AllByRecursion (IsPredOver V) ps → joined head top ps ≡ Ok p
    → IsPredOver V p
joined_over V head top [] p here all e = absurd cc
joined_over V head top (q ∷ qs) p here all e = let same : record { top = top; below = preds (q ∷ qs) } ≡ p = cc in
    subst (IsPredOver V) same (here (preds (q ∷ qs)) (some_below q qs), all_over V (q ∷ qs) all, tt)

module _ (T : Topology) (V : Field → ℕ → Type 0) (over : ReadsOver T V) (bytes : List ℕ) where
  below_over : (field : Token) (below : Forest) (p : PredTree) → test_below T bytes field below ≡ Ok p → IsPredOver V p
  below_over field nothing p e = absurd cc
  below_over field (grown value x y) p e =
      let told = next_ok (field_at bytes field) (λ f. named value (test_of T f (text_in bytes value))) p e in
      test_over T V over told.0 (text_in bytes value) p (named_ok value (test_of T told.0 (text_in bytes value)) p told.2)

  step_over : (head : Token) (below : Forest) (rs : List (Reading PredTree))
      → AllByRecursion (λ r. (p : PredTree) → r ≡ Ok p → IsPredOver V p) rs → (p : PredTree) → pred_step T bytes head below rs ≡ Ok p
      → IsPredOver V p
  step_over head below rs all p e = let class = class_in_text bytes head in
      by (is_class class TrueWord) (is_class class FalseWord) (is_class class NotWord) (is_class class AndWord) (is_class class OrWord) e
    where
      by : (a b c d f : Bool)
          → (if a then Ok (leaf Always) else if b then Ok (leaf Never) else if c then next (gathered rs) (negation head) else if d then next
          (gathered rs) (joined head Every) else if f then next (gathered rs) (joined head SomeHold) else test_below T bytes head below)
          ≡ Ok p → IsPredOver V p
      by true b c d f e = let same : leaf Always ≡ p = cc in subst (IsPredOver V) same (tt, tt, tt)
      by false true c d f e = let same : leaf Never ≡ p = cc in subst (IsPredOver V) same (tt, tt, tt)
      by false false true d f e = let told = next_ok (gathered rs) (negation head) p e in
          negation_over V head told.0 p (all_gathered (IsPredOver V) rs told.0 all told.1) told.2
      by false false false true f e = let told = next_ok (gathered rs) (joined head Every) p e in
          joined_over V head Every told.0 p (λ below some. some) (all_gathered (IsPredOver V) rs told.0 all told.1) told.2
      by false false false false true e = let told = next_ok (gathered rs) (joined head SomeHold) p e in
          joined_over V head SomeHold told.0 p (λ below some. some) (all_gathered (IsPredOver V) rs told.0 all told.1) told.2
      by false false false false false e = below_over head below p e

  readings_over : (f : Forest) → AllByRecursion (λ r. (p : PredTree) → r ≡ Ok p → IsPredOver V p) (pred_readings T bytes f)
  readings_over nothing = tt
  readings_over (grown head below rest) = (step_over head below (pred_readings T bytes below) (readings_over below), readings_over rest)

  pub pred_over : (t : Tree) (p : PredTree) → pred_of T bytes t ≡ Ok p → IsPredOver V p
  pred_over t p e = step_over t.head t.below (pred_readings T bytes t.below) (readings_over t.below) p e
