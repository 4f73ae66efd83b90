-- Predicates on packets.
use Rattle.std.specs.Prelude.{ℕ, ◌-◌, ◌/◌, ◌^◌, ◌<◌, ◌≤◌, ◌≡◌, ◌≢◌, Bool, true, false, not, List, [], ◌∷◌, map, ◌==◌, ◌&&◌, nat_lt}
use Rattle.std.specs.List.{list_all, list_any}
use Rattle.pq_fields.specs.declared.field.Field.{Field}
use Rattle.pq_fields.specs.declared.pred.Pred.{Pred}
use Rattle.pq_fields.specs.declared.pred.Pred.TheOpen.{Pred-F}
use Rattle.pq_fields.specs.declared.pred.Pred.TheFolds.{fold-Pred}
use Rattle.pq_fields.specs.Packet.{Numbers, has_field, number_in, width_of, is_wide, rank}

-- what is at the top of a predicate
pub data PredTop : Type 0 where
  Always : PredTop
  Never : PredTop
  Equals : Field → ℕ → PredTop
  Leads : Field → ℕ → ℕ → PredTop
  LeadsWide : Field → ℕ → ℕ → PredTop
  Every : PredTop
  Some : PredTop
  Negated : PredTop

-- predicates as plain data: the top of the first, its operands, and the predicates after it
pub data Preds : Type 0 where
  none : Preds
  put : PredTop → Preds → Preds → Preds

-- a predicate as plain data
pub record PredTree : Type 0 where
  pub top : PredTop
  pub below : Preds

-- predicates one after another
abbrev pub preds : List PredTree → Preds
preds [] = none
preds (p ∷ ps) = put p.top p.below (preds ps)

abbrev pub leaf : PredTop → PredTree
leaf top = record { top = top; below = none }

abbrev pub pred_step : Pred-F PredTree → PredTree
pred_step Pred-F.True = leaf Always
pred_step Pred-F.False = leaf Never
pred_step (Pred-F.Equal f n) = leaf (Equals f n)
pred_step (Pred-F.Prefix f n len) = leaf (Leads f n len)
pred_step (Pred-F.Wide f n len) = leaf (LeadsWide f n len)
pred_step (Pred-F.And ps) = record { top = Every; below = preds ps.items }
pred_step (Pred-F.Or ps) = record { top = Some; below = preds ps.items }
pred_step (Pred-F.Not p) = record { top = Negated; below = preds (p.value ∷ []) }

-- a predicate as plain data
abbrev pub pred_tree : Pred → PredTree
pred_tree = fold-Pred PredTree pred_step

abbrev pub pred_trees : List Pred → Preds
pred_trees ps = preds (map pred_tree ps)

-- the leading bits of a number of the field, this many
abbrev pub leading : Field → ℕ → ℕ → ℕ
leading f len n = n / 2 ^ (width_of f - len)

-- whether what is at the top holds of the packet, given whether the operands do
abbrev pub is_true : PredTop → List Bool → Numbers → Bool
is_true Always bs x = true
is_true Never bs x = false
is_true (Equals f n) bs x = has_field f x && (number_in f x == n)
is_true (Leads f n len) bs x = has_field f x && (leading f len (number_in f x) == leading f len n)
is_true (LeadsWide f n len) bs x = has_field f x && (leading f len (number_in f x) == leading f len n)
is_true Every bs x = list_all (λ b. b) bs
is_true Some bs x = list_any (λ b. b) bs
is_true Negated bs x = not (list_any (λ b. b) bs)

-- whether each of the predicates holds of the packet
abbrev pub truths : Preds → Numbers → List Bool
truths none x = []
truths (put top below rest) x = is_true top (truths below x) x ∷ truths rest x

-- whether the predicate holds of the packet
abbrev pub holds : PredTree → Numbers → Bool
holds p x = is_true p.top (truths p.below x) x

-- the field is an IPv4 address
abbrev pub is_prefixed : Field → Bool
is_prefixed f = nat_lt 5 (rank f) && nat_lt (rank f) 8

-- each number may stand for its field, as V says; prefixes are of addresses and no longer than they, and no list of operands is empty
abbrev pub IsTopOver : (Field → ℕ → Type 0) → PredTop → Preds → Type 0
IsTopOver V Always below = Unit {0}
IsTopOver V Never below = Unit {0}
IsTopOver V (Equals f n) below = V f n
IsTopOver V (Leads f n len) below = (is_prefixed f ≡ true) × (n < 2 ^ 32) × (len ≤ 32)
IsTopOver V (LeadsWide f n len) below = (is_wide f ≡ true) × (n < 2 ^ 128) × (len ≤ 128)
IsTopOver V Every below = below ≢ none
IsTopOver V Some below = below ≢ none
IsTopOver V Negated below = below ≢ none

abbrev pub ArePredsOver : (Field → ℕ → Type 0) → Preds → Type 0
ArePredsOver V none = Unit {0}
ArePredsOver V (put top below rest) = IsTopOver V top below × ArePredsOver V below × ArePredsOver V rest

abbrev pub IsPredOver : (Field → ℕ → Type 0) → PredTree → Type 0
IsPredOver V p = ArePredsOver V (preds (p ∷ []))

-- the number fits the width of the field
abbrev pub FitsField : Field → ℕ → Type 0
FitsField f n = n < 2 ^ width_of f

-- all numbers fit their fields
abbrev pub IsLawfulTop : PredTop → Preds → Type 0
IsLawfulTop = IsTopOver FitsField

abbrev pub AreLawful : Preds → Type 0
AreLawful = ArePredsOver FitsField

abbrev pub IsLawfulPred : PredTree → Type 0
IsLawfulPred = IsPredOver FitsField
