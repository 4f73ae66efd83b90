-- Words whose truths agree below the bound of an expression are held alike.
use Rattle.std.proofs.Common.{◌≡◌, ◌≤◌, ◌<◌, ℕ, zero, suc, not, List, [], ◌∷◌, length, refl, sym, ap, ◌∙◌, arith}
use Rattle.std.specs.List.{list_any, list_all}
use Rattle.pq_expr.specs.declared.side.Side.{Side}
use Rattle.pq_expr.specs.declared.side.Side.TheVariants.{In, Out}
use Rattle.pq_expr.specs.Word.{Word, AgreeBelow}
use Rattle.pq_expr.specs.Expr.{ExprTop, NoWord, EmptyWord, Enters, Leaves, InTurn, Either, Both, Other, Repeated, Exprs, none, put}
use Rattle.pq_expr.specs.Expr.{ExprTree, exprs, bounds, top_bound, bound}
use Rattle.pq_expr.specs.Language.{Language, is_empty, is_step, joined, in_turn, in_pieces, repeated, first, top_language, languages, holds}
use Rattle.pq_expr.proofs.Cuts.{after, joined_empty, joined_cons}

-- the languages hold words alike that agree
abbrev Alike : ℕ → Language → Language → Type 0
Alike n P Q = (v w : Word) → AgreeBelow n v w → P v ≡ Q w

abbrev AllAlike : ℕ → List Language → List Language → Type 0
AllAlike n [] [] = Unit {0}
AllAlike n [] (Q ∷ Qs) = ⊥
AllAlike n (P ∷ Ps) [] = ⊥
AllAlike n (P ∷ Ps) (Q ∷ Qs) = Alike n P Q × AllAlike n Ps Qs

empty_alike : (n : ℕ) → Alike n is_empty is_empty
empty_alike n [] [] agree = refl
empty_alike n [] (m ∷ w) agree = absurd agree
empty_alike n (l ∷ v) [] agree = absurd agree
empty_alike n (l ∷ v) (m ∷ w) agree = refl

step_alike : (n p : ℕ) (s : Side) → p < n → Alike n (is_step s p) (is_step s p)
step_alike n p s small [] [] agree = refl
step_alike n p s small [] (m ∷ w) agree = absurd agree
step_alike n p s small (l ∷ v) [] agree = absurd agree
step_alike n p s small (l ∷ v) (m ∷ w) agree = rw (agree.0, agree.1 p small, empty_alike n v w agree.2) refl

joined_alike : (n : ℕ) (v w : Word) (P Q R S : Language) → Alike n P Q → Alike n R S → AgreeBelow n v w → joined P R v ≡ joined Q S w
joined_alike n [] [] P Q R S first second agree = joined_empty P R ∙ rw (first [] [] tt, second [] [] tt) (sym (joined_empty Q S))
joined_alike n [] (m ∷ w) P Q R S first second agree = absurd agree
joined_alike n (l ∷ v) [] P Q R S first second agree = absurd agree
joined_alike n (l ∷ v) (m ∷ w) P Q R S first second agree =
    let later = joined_alike n v w (after l P) (after m Q) R S (λ a b same. first (l ∷ a) (m ∷ b) (agree.0, agree.1, same)) second agree.2 in
    joined_cons P R l v ∙ rw (first [] [] tt, second (l ∷ v) (m ∷ w) agree, later) (sym (joined_cons Q S m w))

turn_alike : (n : ℕ) (Ps Qs : List Language) → AllAlike n Ps Qs → Alike n (in_turn Ps) (in_turn Qs)
turn_alike n [] [] all v w agree = empty_alike n v w agree
turn_alike n [] (Q ∷ Qs) all v w agree = absurd all
turn_alike n (P ∷ Ps) [] all v w agree = absurd all
turn_alike n (P ∷ Ps) (Q ∷ Qs) all v w agree = joined_alike n v w P Q (in_turn Ps) (in_turn Qs) all.0 (turn_alike n Ps Qs all.1) agree

any_alike : (n : ℕ) (Ps Qs : List Language) → AllAlike n Ps Qs → Alike n (λ v. list_any (λ P. P v) Ps) (λ v. list_any (λ P. P v) Qs)
any_alike n [] [] all v w agree = refl
any_alike n [] (Q ∷ Qs) all v w agree = absurd all
any_alike n (P ∷ Ps) [] all v w agree = absurd all
any_alike n (P ∷ Ps) (Q ∷ Qs) all v w agree = rw (all.0 v w agree, any_alike n Ps Qs all.1 v w agree) refl

all_alike : (n : ℕ) (Ps Qs : List Language) → AllAlike n Ps Qs → Alike n (λ v. list_all (λ P. P v) Ps) (λ v. list_all (λ P. P v) Qs)
all_alike n [] [] all v w agree = refl
all_alike n [] (Q ∷ Qs) all v w agree = absurd all
all_alike n (P ∷ Ps) [] all v w agree = absurd all
all_alike n (P ∷ Ps) (Q ∷ Qs) all v w agree = rw (all.0 v w agree, all_alike n Ps Qs all.1 v w agree) refl

first_alike : (n : ℕ) (Ps Qs : List Language) → AllAlike n Ps Qs → Alike n (first Ps) (first Qs)
first_alike n [] [] all v w agree = refl
first_alike n [] (Q ∷ Qs) all v w agree = absurd all
first_alike n (P ∷ Ps) [] all v w agree = absurd all
first_alike n (P ∷ Ps) (Q ∷ Qs) all v w agree = all.0 v w agree

pieces_alike : (n k : ℕ) (P Q : Language) → Alike n P Q → Alike n (in_pieces P k) (in_pieces Q k)
pieces_alike n zero P Q own v w agree = empty_alike n v w agree
pieces_alike n (suc k) P Q own v w agree =
    rw (empty_alike n v w agree, joined_alike n v w P Q (in_pieces P k) (in_pieces Q k) own (pieces_alike n k P Q own) agree) refl

as_long : (n : ℕ) (v w : Word) → AgreeBelow n v w → length v ≡ length w
as_long n [] [] agree = refl
as_long n [] (m ∷ w) agree = absurd agree
as_long n (l ∷ v) [] agree = absurd agree
as_long n (l ∷ v) (m ∷ w) agree = ap suc (as_long n v w agree.2)

repeated_alike : (n : ℕ) (P Q : Language) → Alike n P Q → Alike n (repeated P) (repeated Q)
repeated_alike n P Q own v w agree = pieces_alike n (length v) P Q own v w agree ∙ ap (λ k. in_pieces Q k w) (as_long n v w agree)

top_alike : (n : ℕ) (top : ExprTop) (Ps Qs : List Language) → top_bound top ≤ n → AllAlike n Ps Qs → Alike n (top_language top Ps) (top_language top Qs)
top_alike n NoWord Ps Qs small all v w agree = refl
top_alike n EmptyWord Ps Qs small all v w agree = empty_alike n v w agree
top_alike n (Enters p) Ps Qs small all v w agree = step_alike n p In small v w agree
top_alike n (Leaves p) Ps Qs small all v w agree = step_alike n p Out small v w agree
top_alike n InTurn Ps Qs small all v w agree = turn_alike n Ps Qs all v w agree
top_alike n Either Ps Qs small all v w agree = any_alike n Ps Qs all v w agree
top_alike n Both Ps Qs small all v w agree = all_alike n Ps Qs all v w agree
top_alike n Other Ps Qs small all v w agree = ap not (first_alike n Ps Qs all v w agree)
top_alike n Repeated Ps Qs small all v w agree = repeated_alike n (first Ps) (first Qs) (first_alike n Ps Qs all) v w agree

each_alike : (n : ℕ) (es : Exprs) → bounds es ≤ n → AllAlike n (languages es) (languages es)
each_alike n none small = tt
each_alike n (put top below rest) small =
    let own : top_bound top ≤ n = omega (arith, small) in
    let inner : bounds below ≤ n = omega (arith, small) in
    let later : bounds rest ≤ n = omega (arith, small) in
    (top_alike n top (languages below) (languages below) own (each_alike n below inner), each_alike n rest later)

pub holds_alike : (e : ExprTree) (n : ℕ) → bound e ≤ n → (v w : Word) → AgreeBelow n v w → holds e v ≡ holds e w
holds_alike e n small v w agree = (each_alike n (exprs (e ∷ [])) small).0 v w agree
