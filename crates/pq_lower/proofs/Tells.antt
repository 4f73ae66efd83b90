-- Expressions that hold the led words of a language.
use Rattle.std.proofs.Common.{◌≡◌, ◌↔◌, ℕ, zero, suc, Bool, true, false, not, ◌&&◌, ◌||◌, inl, inr, List, [], ◌∷◌, ◌++◌, length, take, drop}
use Rattle.std.proofs.Common.{refl, sym, ap, subst, ◌∙◌, rules}
use Rattle.std.specs.List.{list_any, list_all}
use Rattle.std.proofs.lemmas.Bool.{or_left, or_right, and_parts, or_cases}
use Rattle.pq_fields.specs.Packet.{Numbers}
use Rattle.pq_fields.specs.Pred.{PredTree}
use Rattle.pq_model.specs.Word.{In, Out, Word, alternates, is_word}
use Rattle.pq_query.specs.Query.{Queries, none, put}
use Rattle.pq_query.specs.Language.{Rounds, IsHop, share, AnyOne, All, Joined, First, Holds, HoldTogether}
use Rattle.pq_expr.specs.Expr.{ExprTree, NoWord, Enters, Leaves, leaf, exprs}
use Rattle.pq_expr.specs.Word.{Word as HalfSteps}
use Rattle.pq_expr.specs.Language.{Language, is_empty, joined, in_pieces, holds, languages}
use Rattle.pq_expr.proofs.Cuts.{any_number}
use Rattle.pq_expr.proofs.Pieces.{joined_cut, cut_joined}
use Rattle.pq_lower.specs.HalfSteps.{half_step, half_steps}
use Rattle.pq_lower.specs.Operators.{optional_out, entry, hop, turn_of, any_of, all_of, other_than, repeated}
use Rattle.pq_lower.specs.Lowered.{first_expr}
use Rattle.pq_lower.proofs.Seams.{behind, alternating_cut}
use Rattle.pq_lower.proofs.Seen.{truth, IsAlways, turn, turn_one, is_none, one_in, in_one, one_out, out_one, lead_optional, optional_lead}
use Rattle.pq_lower.proofs.Led.{IsLed, Join, led_map, lead_on, led_either, led_both, both_led, led_never, led_some, led_cut, cut_led}

-- led words of the language are held, of those that alternate
abbrev pub Shows : List PredTree → (Word → Type 0) → Language → Type 0
Shows ps L P = (b : Bool) (w : Word) → alternates b w ≡ true → IsLed L w → P (half_steps ps w) ≡ true

-- and they alone
abbrev pub Keeps : List PredTree → Language → (Word → Type 0) → Type 0
Keeps ps P L = (b : Bool) (w : Word) → alternates b w ≡ true → P (half_steps ps w) ≡ true → IsLed L w

pub record Tells (ps : List PredTree) (P : Language) (L : Word → Type 0) : Type 0 where
  pub shows : Shows ps L P
  pub keeps : Keeps ps P L

-- each expression holds the led words of its query, in order
abbrev pub EachTells : List PredTree → List ExprTree → Queries → List ℕ → Type 0
EachTells ps [] none label = Unit {0}
EachTells ps [] (put top below rest) label = ⊥
EachTells ps (e ∷ es) none label = ⊥
EachTells ps (e ∷ es) (put top below rest) label = Tells ps (holds e) (Holds top (HoldTogether below) (take (share top below) label))
    × EachTells ps es rest (drop (share top below) label)

-- Atoms.

-- the words of a language that begin with In, after an optional Out
pub lead_tells : (ps : List PredTree) (t : ℕ) (Q : Language) (L : Word → Type 0) → IsAlways ps t
    → ((w : Word) → L w → Q (half_steps ps w) ≡ true)
    → ((w : Word) → Q (half_steps ps w) ≡ true → L w × (x : Numbers) × (v : Word) × (w ≡ In x ∷ v) × (is_word w ≡ true))
    → Tells ps (joined (holds (optional_out t)) Q) L
lead_tells ps t Q L always to from = record { shows = shown; keeps = kept } where
  behind_lead : (lead w : Word) → holds (optional_out t) (half_steps ps lead) ≡ true → L w
      → joined (holds (optional_out t)) Q (half_steps ps (lead ++ w)) ≡ true
  behind_lead lead w optional held = cut_joined (half_step ps) lead w (holds (optional_out t)) Q optional (to w held)

  shown : Shows ps L (joined (holds (optional_out t)) Q)
  shown b [] word held = behind_lead [] [] refl held
  shown b (In x ∷ w) word held = behind_lead [] (In x ∷ w) refl held
  shown b (Out x ∷ []) word held = absurd held
  shown b (Out x ∷ o ∷ w) word held = behind_lead (Out x ∷ []) (o ∷ w) (lead_optional ps t (Out x ∷ []) always (inr (x, refl))) held

  kept : Keeps ps (joined (holds (optional_out t)) Q) L
  kept b w word h =
      let cut = joined_cut (half_step ps) w (holds (optional_out t)) Q h in
      let own = from cut.1 cut.4 in
      subst (λ z. IsLed L z) (sym cut.2) (lead_on L cut.0 cut.1 (optional_lead ps t cut.0 cut.3) own.4 (λ none. search (sym own.3 ∙ none, rules)) own.0)

pub entry_tells : (ps : List PredTree) (t n : ℕ) (L : Word → Type 0) → IsAlways ps t
    → ((w : Word) → L w ↔ ((x : Numbers) × (w ≡ In x ∷ []) × (truth ps n x ≡ true))) → Tells ps (holds (entry t n)) L
entry_tells ps t n L always told = lead_tells ps t (turn (leaf (Enters n) ∷ [])) L always
    (λ w held. let one = (told w).0 held in
    subst (λ z. turn (leaf (Enters n) ∷ []) (half_steps ps z) ≡ true) (sym one.1)
    (turn_one (leaf (Enters n)) (half_steps ps (In one.0 ∷ [])) ∙ in_one ps n one.0 one.2))
    (λ w h. let one = one_in ps n w (sym (turn_one (leaf (Enters n)) (half_steps ps w)) ∙ h) in ((told w).1 one, one.0, [], one.1, ap (λ z. is_word z) one.1))

hop_word : (ps : List PredTree) (n m : ℕ) (w : Word) → turn (leaf (Enters n) ∷ leaf (Leaves m) ∷ []) (half_steps ps w) ≡ true
    → (x : Numbers) × (y : Numbers) × IsHop w x y × (truth ps n x ≡ true) × (truth ps m y ≡ true)
hop_word ps n m w h =
    let cut = joined_cut (half_step ps) w (holds (leaf (Enters n))) (turn (leaf (Leaves m) ∷ [])) h in
    let first = one_in ps n cut.0 cut.3 in
    let second = one_out ps m cut.1 (sym (turn_one (leaf (Leaves m)) (half_steps ps cut.1)) ∙ cut.4) in
    (first.0, second.0, cut.2 ∙ ap (λ z. z ++ cut.1) first.1 ∙ ap (λ z. In first.0 ∷ z) second.1, first.2, second.2)

word_hop : (ps : List PredTree) (n m : ℕ) (x y : Numbers) → truth ps n x ≡ true → truth ps m y ≡ true
    → turn (leaf (Enters n) ∷ leaf (Leaves m) ∷ []) (half_steps ps (In x ∷ Out y ∷ [])) ≡ true
word_hop ps n m x y first second =
    cut_joined (half_step ps) (In x ∷ []) (Out y ∷ []) (holds (leaf (Enters n))) (turn (leaf (Leaves m) ∷ [])) (in_one ps n x first)
    (turn_one (leaf (Leaves m)) (half_steps ps (Out y ∷ [])) ∙ out_one ps m y second)

pub hop_tells : (ps : List PredTree) (t n m : ℕ) (L : Word → Type 0) → IsAlways ps t
    → ((w : Word) → L w ↔ ((x : Numbers) × (y : Numbers) × IsHop w x y × (truth ps n x ≡ true) × (truth ps m y ≡ true)))
    → Tells ps (holds (hop t n m)) L
hop_tells ps t n m L always told = lead_tells ps t (turn (leaf (Enters n) ∷ leaf (Leaves m) ∷ [])) L always
    (λ w held. let two = (told w).0 held in subst (λ z. turn (leaf (Enters n) ∷ leaf (Leaves m) ∷ []) (half_steps ps z) ≡ true) (sym two.2)
    (word_hop ps n m two.0 two.1 two.3 two.4))
    (λ w h. let two = hop_word ps n m w h in ((told w).1 two, two.0, Out two.1 ∷ [], two.2, ap (λ z. is_word z) two.2))

-- Any of the expressions.

any_shown : (ps : List PredTree) (es : List ExprTree) (qs : Queries) (label : List ℕ) → EachTells ps es qs label
    → Shows ps (HoldTogether qs AnyOne label) (λ v. list_any (λ P. P v) (languages (exprs es)))
any_shown ps [] none label each b w word held = absurd (led_never w held)
any_shown ps [] (put top below rest) label each b w word held = absurd each
any_shown ps (e ∷ es) none label each b w word held = absurd each
any_shown ps (e ∷ es) (put top below rest) label each b w word held =
    elim (led_either (Holds top (HoldTogether below) (take (share top below) label)) (HoldTogether rest AnyOne (drop (share top below) label)) w held) [
      | inl own ↦ or_left _ _ (each.0.shows b w word own)
      | inr later ↦ or_right _ _ (any_shown ps es rest (drop (share top below) label) each.1 b w word later)
    ]

any_kept : (ps : List PredTree) (es : List ExprTree) (qs : Queries) (label : List ℕ) → EachTells ps es qs label
    → Keeps ps (λ v. list_any (λ P. P v) (languages (exprs es))) (HoldTogether qs AnyOne label)
any_kept ps [] none label each b w word h = absurd (search (h, rules))
any_kept ps [] (put top below rest) label each b w word h = absurd each
any_kept ps (e ∷ es) none label each b w word h = absurd each
any_kept ps (e ∷ es) (put top below rest) label each b w word h =
    elim (or_cases (holds e (half_steps ps w)) _ h) [
      | inl own ↦ led_map (Holds top (HoldTogether below) (take (share top below) label)) (HoldTogether (put top below rest) AnyOne label) w
          (λ u held. inl held) (each.0.keeps b w word own)
      | inr later ↦ led_map (HoldTogether rest AnyOne (drop (share top below) label)) (HoldTogether (put top below rest) AnyOne label) w
          (λ u held. inr held) (any_kept ps es rest (drop (share top below) label) each.1 b w word later)
    ]

any_holds : (es : List ExprTree) (w : HalfSteps) → holds (any_of es) w ≡ list_any (λ P. P w) (languages (exprs es))
any_holds [] w = refl
any_holds (e ∷ es) w = refl

pub any_tells : (ps : List PredTree) (es : List ExprTree) (qs : Queries) (label : List ℕ) → EachTells ps es qs label
    → Tells ps (holds (any_of es)) (HoldTogether qs AnyOne label)
any_tells ps es qs label each = record {
  shows = λ b w word held. any_holds es (half_steps ps w) ∙ any_shown ps es qs label each b w word held;
  keeps = λ b w word h. any_kept ps es qs label each b w word (sym (any_holds es (half_steps ps w)) ∙ h);
}

-- What an expression doesn't hold.

neither : (a b : Bool) → (a ≡ true → ⊥) → b ≡ false → not (a || (b || false)) ≡ true
neither true b never other = absurd (never refl)
neither false b never other = rw other refl

denied : (a b : Bool) → not (a || (b || false)) ≡ true → (a ≡ true → ⊥) × (b ≡ true → ⊥)
denied true b h = absurd (search (h, rules))
denied false true h = absurd (search (h, rules))
denied false false h = ((λ never. search (never, rules)), (λ never. search (never, rules)))

-- the words that aren't held
abbrev pub NotIn : (Word → Type 0) → Word → Type 0
NotIn L w = (is_word w ≡ true) × (L w → ⊥)

longer : (a : Bool) → (a && false) ≡ false
longer true = refl
longer false = refl

pub other_tells : (ps : List PredTree) (t : ℕ) (e : ExprTree) (L : Word → Type 0) → IsAlways ps t → Tells ps (holds e) L
    → Tells ps (holds (other_than t e)) (NotIn L)
other_tells ps t e L always told = record { shows = shown; keeps = kept } where
  shown : Shows ps (NotIn L) (holds (other_than t e))
  shown b [] word held = neither (holds e []) false (λ h. held.1 (told.keeps b [] word h)) refl
  shown b (In x ∷ w) word held = neither (holds e (half_steps ps (In x ∷ w))) false (λ h. held.1 (told.keeps b (In x ∷ w) word h)) refl
  shown b (Out x ∷ []) word held = absurd held
  shown b (Out x ∷ o ∷ w) word held = neither (holds e (half_steps ps (Out x ∷ o ∷ w))) (truth ps t x && false)
      (λ h. held.1 (told.keeps b (Out x ∷ o ∷ w) word h)) (longer (truth ps t x))

  kept : Keeps ps (holds (other_than t e)) (NotIn L)
  kept b [] word h = (refl, λ own. (denied (holds e []) false h).0 (told.shows b [] word own))
  kept true (In x ∷ w) word h = (word, λ own. (denied (holds e (half_steps ps (In x ∷ w))) false h).0 (told.shows true (In x ∷ w) word own))
  kept false (In x ∷ w) word h = absurd (search (word, rules))
  kept b (Out x ∷ []) word h = (denied (holds e (half_steps ps (Out x ∷ []))) (holds (leaf (Leaves t)) (half_steps ps (Out x ∷ []))) h).1
      (out_one ps t x (always x))
  kept true (Out x ∷ o ∷ w) word h = absurd (search (word, rules))
  kept false (Out x ∷ o ∷ w) word h = (
    word,
    λ own. (denied (holds e (half_steps ps (Out x ∷ o ∷ w))) (holds (leaf (Leaves t)) (half_steps ps (Out x ∷ o ∷ w))) h).0
        (told.shows false (Out x ∷ o ∷ w) word own),
  )

-- All the expressions.

all_shown : (ps : List PredTree) (es : List ExprTree) (qs : Queries) (label : List ℕ) → EachTells ps es qs label
    → Shows ps (HoldTogether qs All label) (λ v. list_all (λ P. P v) (languages (exprs es)))
all_shown ps [] none label each b w word held = refl
all_shown ps [] (put top below rest) label each b w word held = absurd each
all_shown ps (e ∷ es) none label each b w word held = absurd each
all_shown ps (e ∷ es) (put top below rest) label each b w word held =
    let parts = led_both (Holds top (HoldTogether below) (take (share top below) label)) (HoldTogether rest All (drop (share top below) label)) w held in
    rw (each.0.shows b w word parts.0) (all_shown ps es rest (drop (share top below) label) each.1 b w word parts.1)

all_kept : (ps : List PredTree) (e : ExprTree) (es : List ExprTree) (qs : Queries) (label : List ℕ) → EachTells ps (e ∷ es) qs label
    → Keeps ps (λ v. list_all (λ P. P v) (languages (exprs (e ∷ es)))) (HoldTogether qs All label)
all_kept ps e es none label each b w word h = absurd each
all_kept ps e [] (put top below none) label each b w word h =
    led_map (Holds top (HoldTogether below) (take (share top below) label)) (HoldTogether (put top below none) All label) w
    (λ u held. (held, tt)) (each.0.keeps b w word (and_parts (holds e (half_steps ps w)) _ h).0)
all_kept ps e [] (put top below (put next lower rest)) label each b w word h = absurd each.1
all_kept ps e (f ∷ es) (put top below rest) label each b w word h =
    let parts = and_parts (holds e (half_steps ps w)) _ h in
    both_led (Holds top (HoldTogether below) (take (share top below) label)) (HoldTogether rest All (drop (share top below) label)) w
    (each.0.keeps b w word parts.0) (all_kept ps f es rest (drop (share top below) label) each.1 b w word parts.1)

-- none of them
nothing_tells : (ps : List PredTree) (t : ℕ) → IsAlways ps t → Tells ps (holds (other_than t (leaf NoWord))) (λ w. Unit {0})
nothing_tells ps t always = record { shows = shown; keeps = kept } where
  shown : Shows ps (λ w. Unit {0}) (holds (other_than t (leaf NoWord)))
  shown b [] word held = refl
  shown b (In x ∷ w) word held = refl
  shown b (Out x ∷ []) word held = absurd held
  shown b (Out x ∷ o ∷ w) word held = neither false (truth ps t x && false) (λ never. search (never, rules)) (longer (truth ps t x))

  kept : Keeps ps (holds (other_than t (leaf NoWord))) (λ w. Unit {0})
  kept b [] word h = tt
  kept b (In x ∷ w) word h = tt
  kept b (Out x ∷ []) word h = (denied false (holds (leaf (Leaves t)) (half_steps ps (Out x ∷ []))) h).1 (out_one ps t x (always x))
  kept b (Out x ∷ o ∷ w) word h = tt

pub all_tells : (ps : List PredTree) (t : ℕ) (es : List ExprTree) (qs : Queries) (label : List ℕ) → IsAlways ps t → EachTells ps es qs label
    → Tells ps (holds (all_of t es)) (HoldTogether qs All label)
all_tells ps t [] none label always each = nothing_tells ps t always
all_tells ps t [] (put top below rest) label always each = absurd each
all_tells ps t (e ∷ es) qs label always each = record { shows = all_shown ps (e ∷ es) qs label each; keeps = all_kept ps e es qs label each }

-- The first expression.

never_tells : (ps : List PredTree) → Tells ps (holds (leaf NoWord)) (λ w. ⊥)
never_tells ps = record { shows = λ b w word held. absurd (led_never w held); keeps = λ b w word h. absurd (search (h, rules)) }

pub first_tells : (ps : List PredTree) (es : List ExprTree) (qs : Queries) (label : List ℕ) → EachTells ps es qs label
    → Tells ps (holds (first_expr es)) (HoldTogether qs First label)
first_tells ps [] none label each = never_tells ps
first_tells ps [] (put top below rest) label each = absurd each
first_tells ps (e ∷ es) none label each = absurd each
first_tells ps (e ∷ es) (put top below rest) label each = each.0

-- Joins.

join_shown : (ps : List PredTree) (L M : Word → Type 0) (P Q : Language) → Shows ps L P → Shows ps M Q → Shows ps (Join L M) (joined P Q)
join_shown ps L M P Q first later b w word held =
    let cut = led_cut L M b w word held in
    let sides = alternating_cut b cut.first cut.second (ap (λ z. alternates b z) (sym cut.whole) ∙ word) in
    subst (λ z. joined P Q (half_steps ps z) ≡ true) (sym cut.whole)
    (cut_joined (half_step ps) cut.first cut.second P Q (first b cut.first sides.0 cut.held)
    (later (behind b cut.first) cut.second sides.1 cut.later))

join_kept : (ps : List PredTree) (L M : Word → Type 0) (P Q : Language) → Keeps ps P L → Keeps ps Q M → Keeps ps (joined P Q) (Join L M)
join_kept ps L M P Q first later b w word h =
    let cut = joined_cut (half_step ps) w P Q h in
    let parts = ap (λ z. alternates b z) (sym cut.2) ∙ word in
    let sides = alternating_cut b cut.0 cut.1 parts in
    subst (λ z. IsLed (Join L M) z) (sym cut.2) (cut_led L M b cut.0 cut.1 parts (first b cut.0 sides.0 cut.3) (later (behind b cut.0) cut.1 sides.1 cut.4))

-- nothing
abbrev pub IsNothing : Word → Type 0
IsNothing w = w ≡ []

nothing_shown : (ps : List PredTree) → Shows ps IsNothing is_empty
nothing_shown ps b [] word held = refl
nothing_shown ps b (In x ∷ w) word held = absurd (search (held, rules))
nothing_shown ps b (Out x ∷ []) word held = absurd held
nothing_shown ps b (Out x ∷ o ∷ w) word held = absurd (search (held, rules))

nothing_kept : (ps : List PredTree) → Keeps ps is_empty IsNothing
nothing_kept ps b w word h = subst (λ z. IsLed IsNothing z) (sym (is_none ps w h)) refl

-- One after another.

turn_shown : (ps : List PredTree) (es : List ExprTree) (qs : Queries) (label : List ℕ) → EachTells ps es qs label
    → Shows ps (HoldTogether qs Joined label) (turn es)
turn_shown ps [] none label each = nothing_shown ps
turn_shown ps [] (put top below rest) label each = absurd each
turn_shown ps (e ∷ es) none label each = absurd each
turn_shown ps (e ∷ es) (put top below rest) label each =
    join_shown ps (Holds top (HoldTogether below) (take (share top below) label)) (HoldTogether rest Joined (drop (share top below) label))
    (holds e) (turn es) each.0.shows (turn_shown ps es rest (drop (share top below) label) each.1)

turn_kept : (ps : List PredTree) (es : List ExprTree) (qs : Queries) (label : List ℕ) → EachTells ps es qs label
    → Keeps ps (turn es) (HoldTogether qs Joined label)
turn_kept ps [] none label each = nothing_kept ps
turn_kept ps [] (put top below rest) label each = absurd each
turn_kept ps (e ∷ es) none label each = absurd each
turn_kept ps (e ∷ es) (put top below rest) label each =
    join_kept ps (Holds top (HoldTogether below) (take (share top below) label)) (HoldTogether rest Joined (drop (share top below) label))
    (holds e) (turn es) each.0.keeps (turn_kept ps es rest (drop (share top below) label) each.1)

pub turn_tells : (ps : List PredTree) (es : List ExprTree) (qs : Queries) (label : List ℕ) → EachTells ps es qs label
    → Tells ps (holds (turn_of es)) (HoldTogether qs Joined label)
turn_tells ps [] qs label each = record { shows = turn_shown ps [] qs label each; keeps = turn_kept ps [] qs label each }
turn_tells ps (e ∷ es) qs label each = record { shows = turn_shown ps (e ∷ es) qs label each; keeps = turn_kept ps (e ∷ es) qs label each }

-- Any number of words.

-- words of any number of rounds
abbrev pub AnyRounds : (Word → Type 0) → Word → Type 0
AnyRounds L w = (n : ℕ) × Rounds L n w

rounds_shown : (n : ℕ) (ps : List PredTree) (L : Word → Type 0) (P : Language) → Shows ps L P → Shows ps (Rounds L n) (in_pieces P n)
rounds_shown zero ps L P own b w word held = nothing_shown ps b w word held
rounds_shown (suc n) ps L P own b w word held = or_right _ _ (join_shown ps L (Rounds L n) P (in_pieces P n) own (rounds_shown n ps L P own) b w word held)

rounds_kept : (n : ℕ) (ps : List PredTree) (L : Word → Type 0) (P : Language) → Keeps ps P L → Keeps ps (in_pieces P n) (AnyRounds L)
rounds_kept zero ps L P own b w word h = subst (λ z. IsLed (AnyRounds L) z) (sym (is_none ps w h)) (zero, refl)
rounds_kept (suc n) ps L P own b w word h =
    elim (or_cases (is_empty (half_steps ps w)) (joined P (in_pieces P n) (half_steps ps w)) h) [
      | inl nothing ↦ subst (λ z. IsLed (AnyRounds L) z) (sym (is_none ps w nothing)) (zero, refl)
      | inr more ↦ led_map (Join L (AnyRounds L)) (AnyRounds L) w (λ u all. (suc all.4.0, (all.0, all.1, all.2, all.3, all.4.1)))
          (join_kept ps L (AnyRounds L) P (in_pieces P n) own (rounds_kept n ps L P own) b w word more)
    ]

pub repeated_tells : (ps : List PredTree) (e : ExprTree) (L : Word → Type 0) → Tells ps (holds e) L → Tells ps (holds (repeated e)) (AnyRounds L)
repeated_tells ps e L told = record {
  shows = λ b w word held. let some = led_some (Rounds L) w held in
      any_number (holds e) some.0 (half_steps ps w) (rounds_shown some.0 ps L (holds e) told.shows b w word some.1);
  keeps = λ b w word h. rounds_kept (length (half_steps ps w)) ps L (holds e) told.keeps b w word h;
}
