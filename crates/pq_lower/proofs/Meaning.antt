-- A lowered query holds the words of the query.
use Rattle.std.proofs.Common.{◌≡◌, ◌↔◌, ℕ, ◌+◌, true, List, [], ◌∷◌, length, take, drop, refl, sym, subst, ◌∙◌}
use Rattle.pq_fields.specs.Pred.{PredTree}
use Rattle.pq_model.specs.Word.{Word, is_word}
use Rattle.pq_query.specs.Query.{QueryTop, Enters, Leaves, Passes, Ends, InTurn, Either, Both, Other, Repeated, Queries, none, put, QueryTree}
use Rattle.pq_query.specs.Language.{First, Holds, HoldTogether, share, lang}
use Rattle.pq_expr.specs.Language.{holds}
use Rattle.pq_lower.specs.HalfSteps.{half_steps}
use Rattle.pq_lower.specs.Added.{dropped, sent, fulfilling, top_preds, preds_of, query_preds, top_count, pred_count}
use Rattle.pq_lower.specs.Lowered.{first_expr, lowered_top, lowered_each, lowered}
use Rattle.pq_lower.proofs.Seen.{IsAlways}
use Rattle.pq_lower.proofs.Led.{word_led, led_word}
use Rattle.pq_lower.proofs.Places.{HasAt, has_first, has_second, number_tells, next_tells, counted}
use Rattle.pq_lower.proofs.Fulfilling.{meets_window, fulfils_holds, holds_fulfils, dropped_port, port_dropped, sent_port, port_sent}
use Rattle.pq_lower.proofs.Windows.{share_window}
use Rattle.pq_lower.proofs.Tells.{Tells, EachTells, entry_tells, hop_tells, any_tells, all_tells, other_tells, first_tells, turn_tells, repeated_tells}

-- an expression holds the led words of a query where the expressions of the operands do
top_tells : (all : List PredTree) (t n : ℕ) (top : QueryTop) (below : Queries) (label : List ℕ) → IsAlways all t
    → HasAt all n (top_preds top label (preds_of below label))
    → (HasAt all n (preds_of below label) → EachTells all (lowered_each t n below) below label)
    → Tells all (holds (lowered_top t n top (lowered_each t n below))) (Holds top (HoldTogether below) label)
top_tells all t n (Enters p gs) below label always has each =
    let told = number_tells all n (fulfilling p gs label []) [] has in
    entry_tells all t n (Holds (Enters p gs) (HoldTogether below) label) always (λ w. (
      (λ held. (held.0, held.1, told held.0 ∙ fulfils_holds p gs label [] held.0 held.2 refl)),
      (λ seen. (seen.0, seen.1, (holds_fulfils p gs label [] seen.0 (sym (told seen.0) ∙ seen.2)).0)),
    ))
top_tells all t n (Leaves p gs) below label always has each =
    let told = number_tells all n (fulfilling p gs label (sent ∷ [])) [] has in
    hop_tells all t t n (Holds (Leaves p gs) (HoldTogether below) label) always (λ w. (
      (λ held. (held.0, held.1, held.2, always held.0, told held.1 ∙ fulfils_holds p gs label (sent ∷ []) held.1 held.3 (port_sent held.1 held.4))),
      (λ seen. let met = holds_fulfils p gs label (sent ∷ []) seen.1 (sym (told seen.1) ∙ seen.4) in (seen.0, seen.1, seen.2, met.0, sent_port seen.1 met.1)),
    ))
top_tells all t n (Passes p gs q hs) below label always has each =
    let later = drop (length gs) label in
    let first = number_tells all n (fulfilling p gs label []) (fulfilling q hs later (sent ∷ []) ∷ []) has in
    let second = next_tells all n (fulfilling p gs label []) (fulfilling q hs later (sent ∷ [])) has in
    hop_tells all t n (n + 1) (Holds (Passes p gs q hs) (HoldTogether below) label) always (λ w. (
      (λ held. (
        held.0,
        held.1,
        held.2,
        first held.0 ∙ fulfils_holds p gs label [] held.0 (
          held.3.0,
          sym (meets_window gs label held.0)
              ∙ held.3.1,
        ) refl,
        second held.1 ∙ fulfils_holds q hs later (sent ∷ []) held.1 held.4 (port_sent held.1 held.5),
      )),
      (λ seen.
          let one = (holds_fulfils p gs label [] seen.0 (sym (first seen.0) ∙ seen.3)).0 in
          let two = holds_fulfils q hs later (sent ∷ []) seen.1 (sym (second seen.1) ∙ seen.4) in
          (seen.0, seen.1, seen.2, (one.0, meets_window gs label seen.0 ∙ one.1), two.0, sent_port seen.1 two.1)),
    ))
top_tells all t n (Ends p) below label always has each =
    let first = number_tells all n p (dropped ∷ []) has in
    let second = next_tells all n p dropped has in
    hop_tells all t n (n + 1) (Holds (Ends p) (HoldTogether below) label) always (λ w. (
      (λ held. (held.0, held.1, held.2, first held.0 ∙ held.3, second held.1 ∙ port_dropped held.1 held.4)),
      (λ seen. (seen.0, seen.1, seen.2, sym (first seen.0) ∙ seen.3, dropped_port seen.1 (sym (second seen.1) ∙ seen.4))),
    ))
top_tells all t n InTurn below label always has each = turn_tells all (lowered_each t n below) below label (each has)
top_tells all t n Either below label always has each = any_tells all (lowered_each t n below) below label (each has)
top_tells all t n Both below label always has each = all_tells all t (lowered_each t n below) below label always (each has)
top_tells all t n Other below label always has each =
    other_tells all t (first_expr (lowered_each t n below)) (HoldTogether below First label) always
    (first_tells all (lowered_each t n below) below label (each has))
top_tells all t n Repeated below label always has each =
    repeated_tells all (first_expr (lowered_each t n below)) (HoldTogether below First label)
    (first_tells all (lowered_each t n below) below label (each has))

-- expressions hold the led words of queries
each_tells : (all : List PredTree) (t n : ℕ) (qs : Queries) (label : List ℕ) → IsAlways all t → HasAt all n (preds_of qs label)
    → EachTells all (lowered_each t n qs) qs label
each_tells all t n none label always has = tt
each_tells all t n (put top below rest) label always has =
    let window = take (share top below) label in
    let later = drop (share top below) label in
    let own = top_preds top label (preds_of below label) in
    let here : HasAt all n (top_preds top window (preds_of below window)) =
    subst (λ ps. HasAt all n ps) (sym (share_window top below label)) (has_first all n own (preds_of rest later) has) in
    let next : HasAt all (n + top_count top (pred_count below)) (preds_of rest later) =
    subst (λ k. HasAt all (n + k) (preds_of rest later)) (counted (record { top = top; below = below }) label)
    (has_second all n own (preds_of rest later) has) in (
      top_tells all t n top below window always here (λ operands. each_tells all t n below window always operands),
      each_tells all t (n + top_count top (pred_count below)) rest later always next,
    )

-- a lowered query holds the words of the query
pub lowered_tells : (all : List PredTree) (t n : ℕ) (q : QueryTree) (label : List ℕ) → IsAlways all t → HasAt all n (query_preds q label)
    → (w : Word) → is_word w ≡ true → lang q label w ↔ (holds (lowered t n q) (half_steps all w) ≡ true)
lowered_tells all t n q label always has w word =
    let told = top_tells all t n q.top q.below label always has (λ operands. each_tells all t n q.below label always operands) in
    ((λ held. told.shows true w word (word_led (lang q label) w word held)), (λ h. led_word (lang q label) w word (told.keeps true w word h)))
