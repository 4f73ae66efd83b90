-- A query reads no more of a label than its share.
use Rattle.std.proofs.Common.{◌≡◌, ℕ, zero, suc, ◌-◌, ◌+◌, ◌≤◌, List, [], ◌∷◌, ◌++◌, length, take, drop, refl, ap, ◌∙◌, length-append, arith}
use Rattle.std.proofs.lemmas.List.{drop-take}
use Rattle.pq_fields.specs.Pred.{PredTree}
use Rattle.pq_query.specs.Groups.{Group}
use Rattle.pq_query.specs.Query.{QueryTop, Enters, Leaves, Passes, Ends, InTurn, Either, Both, Other, Repeated, Queries, none, put}
use Rattle.pq_query.specs.Labels.{top_groups, groups_of}
use Rattle.pq_query.specs.Language.{share}
use Rattle.pq_lower.specs.Added.{tests, top_preds, preds_of}

-- the tests of grouped fields
tests_window : (gs : List Group) (n : ℕ) (label : List ℕ) → length gs ≤ n → tests gs (take n label) ≡ tests gs label
tests_window [] n label enough = refl
tests_window (g ∷ gs) zero label enough = absurd (omega (arith, enough))
tests_window (g ∷ gs) (suc n) [] enough = refl
tests_window (g ∷ gs) (suc n) (m ∷ label) enough = rw (tests_window gs n label (omega (arith, enough))) refl

-- what is left of a window
drop_window : (k n : ℕ) (label : List ℕ) → k ≤ n → drop k (take n label) ≡ take (n - k) (drop k label)
drop_window k n label enough =
    let parts : n ≡ k + (n - k) = omega (arith, enough) in
    ap (λ m. drop k (take m label)) parts ∙ drop-take k (n - k) label

-- an atom
top_window : (top : QueryTop) (n : ℕ) (label : List ℕ) (ps : List PredTree) → length (top_groups top) ≤ n
    → top_preds top (take n label) ps ≡ top_preds top label ps
top_window (Enters p gs) n label ps enough = rw (tests_window gs n label enough) refl
top_window (Leaves p gs) n label ps enough = rw (tests_window gs n label enough) refl
top_window (Passes p gs q hs) n label ps enough =
    let parts = length-append gs hs in
    let second = ap (λ z. tests hs z) (drop_window (length gs) n label (omega (arith, enough, parts)))
    ∙ tests_window hs (n - length gs) (drop (length gs) label) (omega (arith, enough, parts)) in
    rw (tests_window gs n label (omega (arith, enough, parts)), second) refl
top_window (Ends p) n label ps enough = refl
top_window InTurn n label ps enough = refl
top_window Either n label ps enough = refl
top_window Both n label ps enough = refl
top_window Other n label ps enough = refl
top_window Repeated n label ps enough = refl

-- queries
each_window : (qs : Queries) (n : ℕ) (label : List ℕ) → length (groups_of qs) ≤ n → preds_of qs (take n label) ≡ preds_of qs label
each_window none n label enough = refl
each_window (put top below rest) n label enough =
    let all = length-append (top_groups top) (groups_of below ++ groups_of rest) in
    let lower = length-append (groups_of below) (groups_of rest) in
    let own = length-append (top_groups top) (groups_of below) in
    rw (
      each_window below n label (omega (arith, enough, all, lower)),
      top_window top n label (preds_of below label) (omega (arith, enough, all)),
      drop_window (share top below) n label (omega (arith, enough, all, lower, own)),
      each_window rest (n - share top below) (drop (share top below) label) (omega (arith, enough, all, lower, own)),
    )
    refl

-- a query reads its share
pub share_window : (top : QueryTop) (below : Queries) (label : List ℕ)
    → top_preds top (take (share top below) label) (preds_of below (take (share top below) label))
    ≡ top_preds top label (preds_of below label)
share_window top below label =
    let own = length-append (top_groups top) (groups_of below) in
    rw (each_window below (share top below) label (omega (arith, own))) (top_window top (share top below) label (preds_of below label) (omega (arith, own)))
