-- Led words: what is after a word where queries join words.
use Rattle.std.proofs.Common.{◌≡◌, ◌≢◌, ℕ, Bool, true, false, inl, inr, ◌⊎◌, [], ◌∷◌, ◌++◌, refl, sym, ap, subst, ◌∙◌, append-nil, append_assoc, rules}
use Rattle.pq_model.specs.Word.{In, Out, Word, alternates, is_word}
use Rattle.pq_query.specs.Language.{Joins}
use Rattle.pq_lower.proofs.Seams.{behind, alternating_cut, AtEnd, AtOnce, Over, seam, seam_before, out_next, join_at_once, join_over}
use Rattle.pq_lower.proofs.Seen.{IsLead}

-- a word of the language, or a word that isn't empty after an Out
abbrev pub IsLed : (Word → Type 0) → Word → Type 0
IsLed L [] = L []
IsLed L (In x ∷ w) = L (In x ∷ w)
IsLed L (Out x ∷ []) = ⊥
IsLed L (Out x ∷ o ∷ w) = L (o ∷ w)

-- a word that joins words of the two languages
abbrev pub Join : (Word → Type 0) → (Word → Type 0) → Word → Type 0
Join L M w = (u : Word) × (v : Word) × Joins u v w × L u × M v

pub led_map : (L M : Word → Type 0) (w : Word) → ((u : Word) → L u → M u) → IsLed L w → IsLed M w
led_map L M [] more held = more [] held
led_map L M (In x ∷ w) more held = more (In x ∷ w) held
led_map L M (Out x ∷ []) more held = held
led_map L M (Out x ∷ o ∷ w) more held = more (o ∷ w) held

-- a word that begins with In is led where it is held
pub word_led : (L : Word → Type 0) (w : Word) → is_word w ≡ true → L w → IsLed L w
word_led L [] word held = held
word_led L (In x ∷ w) word held = held
word_led L (Out x ∷ w) word held = absurd (search (word, rules))

pub led_word : (L : Word → Type 0) (w : Word) → is_word w ≡ true → IsLed L w → L w
led_word L [] word held = held
led_word L (In x ∷ w) word held = held
led_word L (Out x ∷ w) word held = absurd (search (word, rules))

-- a word that isn't empty, after a lead
pub lead_on : (L : Word → Type 0) (lead w : Word) → IsLead lead → is_word w ≡ true → w ≢ [] → L w → IsLed L (lead ++ w)
lead_on L lead [] is_lead word some held = absurd (some refl)
lead_on L lead (Out x ∷ w) is_lead word some held = absurd (search (word, rules))
lead_on L lead (In x ∷ w) (inl none) word some held = subst (λ z. IsLed L (z ++ In x ∷ w)) (sym none) held
lead_on L lead (In x ∷ w) (inr (y, one)) word some held = subst (λ z. IsLed L (z ++ In x ∷ w)) (sym one) held

-- Unions and intersections.

pub led_either : (L M : Word → Type 0) (w : Word) → IsLed (λ u. L u ⊎ M u) w → IsLed L w ⊎ IsLed M w
led_either L M [] held = held
led_either L M (In x ∷ w) held = held
led_either L M (Out x ∷ []) held = absurd held
led_either L M (Out x ∷ o ∷ w) held = held

pub led_both : (L M : Word → Type 0) (w : Word) → IsLed (λ u. L u × M u) w → IsLed L w × IsLed M w
led_both L M [] held = held
led_both L M (In x ∷ w) held = held
led_both L M (Out x ∷ []) held = absurd held
led_both L M (Out x ∷ o ∷ w) held = held

pub both_led : (L M : Word → Type 0) (w : Word) → IsLed L w → IsLed M w → IsLed (λ u. L u × M u) w
both_led L M [] first second = (first, second)
both_led L M (In x ∷ w) first second = (first, second)
both_led L M (Out x ∷ []) first second = first
both_led L M (Out x ∷ o ∷ w) first second = (first, second)

pub led_never : (w : Word) → IsLed (λ u. ⊥) w → ⊥
led_never [] held = held
led_never (In x ∷ w) held = held
led_never (Out x ∷ []) held = held
led_never (Out x ∷ o ∷ w) held = held

-- one of many languages
pub led_some : (L : ℕ → Word → Type 0) (w : Word) → IsLed (λ u. (n : ℕ) × L n u) w → (n : ℕ) × IsLed (L n) w
led_some L [] held = held
led_some L (In x ∷ w) held = held
led_some L (Out x ∷ []) held = absurd held
led_some L (Out x ∷ o ∷ w) held = held

-- Joins.

-- a led word is cut into led words
pub record Cut (L M : Word → Type 0) (w : Word) : Type 0 where
  pub first : Word
  pub second : Word
  pub whole : w ≡ first ++ second
  pub held : IsLed L first
  pub later : IsLed M second

-- where the first word isn't empty
cut_some : (L M : Word → Type 0) (lead u v w : Word) → IsLead lead → is_word w ≡ true → u ≢ [] → Joins u v w → L u → M v → Cut L M (lead ++ w)
cut_some L M lead u v w is_lead word some joins held later =
    elim (seam u v w word joins) [
      | AtEnd last whole ↦ record {
        first = lead ++ u;
        second = [];
        whole = ap (λ z. lead ++ z) whole ∙ sym (append-nil (lead ++ u));
        held = lead_on L lead u is_lead (seam_before u v w word (AtEnd last whole)) some held;
        later = subst (λ z. M z) last later;
      }
      | AtOnce even second some_second whole ↦ record {
        first = lead ++ u;
        second = v;
        whole = ap (λ z. lead ++ z) whole ∙ sym (append_assoc lead u v);
        held = lead_on L lead u is_lead (seam_before u v w word (AtOnce even second some_second whole)) some held;
        later = word_led M v second later;
      }
      | Over x odd second some_second whole ↦ record {
        first = lead ++ u;
        second = Out x ∷ v;
        whole = ap (λ z. lead ++ z) whole ∙ sym (append_assoc lead u (Out x ∷ v));
        held = lead_on L lead u is_lead (seam_before u v w word (Over x odd second some_second whole)) some held;
        later = lead_on M (Out x ∷ []) v (inr (x, refl)) second some_second later;
      }
    ]

-- where it is empty
cut_none : (L M : Word → Type 0) (lead v w : Word) → IsLead lead → is_word w ≡ true → w ≢ [] → Joins [] v w → L [] → M v → Cut L M (lead ++ w)
cut_none L M lead v w is_lead word some joins held later =
    elim (seam [] v w word joins) [
      | AtEnd last whole ↦ absurd (some whole)
      | AtOnce even second some_second whole ↦ record {
        first = [];
        second = lead ++ v;
        whole = ap (λ z. lead ++ z) whole;
        held = held;
        later = lead_on M lead v is_lead second some_second later;
      }
      | Over x odd second some_second whole ↦ absurd (search (odd, rules))
    ]

cut_behind : (L M : Word → Type 0) (lead w : Word) → IsLead lead → is_word w ≡ true → w ≢ [] → Join L M w → Cut L M (lead ++ w)
cut_behind L M lead w is_lead word some ([], v, joins, held, later) = cut_none L M lead v w is_lead word some joins held later
cut_behind L M lead w is_lead word some (o ∷ u, v, joins, held, later) = cut_some L M lead (o ∷ u) v w is_lead word (λ none. cc) joins held later

cut_nothing : (L M : Word → Type 0) (u v : Word) → Joins u v [] → L u → M v → Cut L M []
cut_nothing L M u v joins held later =
    elim (seam u v [] refl joins) [
      | AtEnd last whole ↦ record { first = []; second = []; whole = refl; held = subst (λ z. L z) (sym whole) held; later = subst (λ z. M z) last later }
      | AtOnce even second some whole ↦ absurd (joined_some u v some whole)
      | Over x odd second some whole ↦ absurd (joined_some u (Out x ∷ v) (λ none. cc) whole)
    ] where
      joined_some : (a b : Word) → b ≢ [] → [] ≡ a ++ b → ⊥
      joined_some [] b some whole = some (sym whole)
      joined_some (o ∷ a) b some whole = search (whole, rules)

pub led_cut : (L M : Word → Type 0) (b : Bool) (w : Word) → alternates b w ≡ true → IsLed (Join L M) w → Cut L M w
led_cut L M b [] word (u, v, joins, held, later) = cut_nothing L M u v joins held later
led_cut L M true (In x ∷ w) word joined = cut_behind L M [] (In x ∷ w) (inl refl) word (λ none. cc) joined
led_cut L M false (In x ∷ w) word joined = absurd (search (word, rules))
led_cut L M b (Out x ∷ []) word joined = absurd joined
led_cut L M true (Out x ∷ o ∷ w) word joined = absurd (search (word, rules))
led_cut L M false (Out x ∷ o ∷ w) word joined = cut_behind L M (Out x ∷ []) (o ∷ w) (inr (x, refl)) word (λ none. cc) joined

-- a word and a led word after it
join_led : (L M : Word → Type 0) (u v : Word) → is_word u ≡ true → alternates (behind true u) v ≡ true → L u → IsLed M v → Join L M (u ++ v)
join_led L M u [] word more held later = (u, [], append-nil u, held, later)
join_led L M u (In x ∷ v) word more held later = (u, In x ∷ v, join_at_once u (In x ∷ v) word (in_next (behind true u) more), held, later) where
  in_next : (b : Bool) → alternates b (In x ∷ v) ≡ true → b ≡ true
  in_next true h = refl
  in_next false h = absurd (search (h, rules))
join_led L M u (Out x ∷ []) word more held later = absurd later
join_led L M u (Out x ∷ o ∷ v) word more held later =
    (u, o ∷ v, join_over u (o ∷ v) x (λ none. cc) word (out_next (behind true u) x (o ∷ v) more).0, held, later)

-- led words one after another are led
pub cut_led : (L M : Word → Type 0) (b : Bool) (u v : Word) → alternates b (u ++ v) ≡ true → IsLed L u → IsLed M v → IsLed (Join L M) (u ++ v)
cut_led L M b [] v word held later = led_map M (Join L M) v (λ w own. ([], w, join_at_once [] w refl refl, held, own)) later
cut_led L M true (In x ∷ u) v word held later = let cut = alternating_cut true (In x ∷ u) v word in join_led L M (In x ∷ u) v cut.0 cut.1 held later
cut_led L M false (In x ∷ u) v word held later = absurd (search (word, rules))
cut_led L M b (Out x ∷ []) v word held later = absurd held
cut_led L M true (Out x ∷ o ∷ u) v word held later = absurd (search (word, rules))
cut_led L M false (Out x ∷ o ∷ u) v word held later = let cut = alternating_cut true (o ∷ u) v word in join_led L M (o ∷ u) v cut.0 cut.1 held later
