-- What is true of the predicates of a query and of the tests of its label is true of those that are added.
use Rattle.std.proofs.Common.{◌≡◌, ℕ, List, [], ◌∷◌, ◌++◌, length, drop, sym, subst, append-nil, append_assoc, arith}
use Rattle.std.specs.List.{All}
use Rattle.std.proofs.lemmas.List.Elements.{All-nil, All-cons, All-append}
use Rattle.pq_fields.specs.declared.field.Field.TheVariants.{Port}
use Rattle.pq_fields.specs.Pred.{Equals, Preds, none, put, PredTree, preds, IsLawfulTop, AreLawful, IsLawfulPred}
use Rattle.pq_query.specs.Groups.{Group}
use Rattle.pq_query.specs.Labels.{top_groups, groups_of}
use Rattle.pq_query.specs.Language.{share}
use Rattle.pq_query.specs.Query.{QueryTop, Enters, Leaves, Passes, Ends, InTurn, Either, Both, Other, Repeated, Queries, none as no_queries}
use Rattle.pq_query.specs.Query.{put as add, QueryTree, queries}
use Rattle.pq_query.specs.Lawful.{IsLawfulTop as IsLawfulQueryTop, AreLawfulQueries, IsLawfulQuery}
use Rattle.pq_lower.specs.Added.{sent, tests, fulfilling, top_preds, preds_of, query_preds, added_preds}
use Rattle.pq_lower.specs.Built.{Say, AreBuilt, IsBuilt, IsKept, AreTested, top_own, own_preds, Brings, DoFit, IsFittingLabel}

-- Lists.

built_more : (P : Say) (p : PredTree) (ps : List PredTree) → IsBuilt P p → AreBuilt P (preds ps) → AreBuilt P (preds (p ∷ ps))
built_more P p ps own later = (own.0, own.1, later)

built_both : (P : Say) (ps qs : List PredTree) → AreBuilt P (preds ps) → AreBuilt P (preds qs) → AreBuilt P (preds (ps ++ qs))
built_both P [] qs first second = second
built_both P (p ∷ ps) qs first second = (first.0, first.1, built_both P ps qs first.2 second)

built_first : (P : Say) (ps qs : List PredTree) → AreBuilt P (preds (ps ++ qs)) → AreBuilt P (preds ps)
built_first P [] qs all = tt
built_first P (p ∷ ps) qs all = (all.0, all.1, built_first P ps qs all.2)

built_second : (P : Say) (ps qs : List PredTree) → AreBuilt P (preds (ps ++ qs)) → AreBuilt P (preds qs)
built_second P [] qs all = all
built_second P (p ∷ ps) qs all = built_second P ps qs all.2

none_tested : (P : Say) (gs : List Group) → AreTested P gs []
none_tested P [] = tt
none_tested P (g ∷ gs) = tt

tested_first : (P : Say) (gs hs : List Group) (label : List ℕ) → AreTested P (gs ++ hs) label → AreTested P gs label
tested_first P [] hs label all = tt
tested_first P (g ∷ gs) hs [] all = tt
tested_first P (g ∷ gs) hs (n ∷ label) all = (all.0, tested_first P gs hs label all.1)

tested_second : (P : Say) (gs hs : List Group) (label : List ℕ) → AreTested P (gs ++ hs) label → AreTested P hs (drop (length gs) label)
tested_second P [] hs label all = all
tested_second P (g ∷ gs) hs [] all = none_tested P hs
tested_second P (g ∷ gs) hs (n ∷ label) all = tested_second P gs hs label all.1

-- Atoms.

tests_built : (P : Say) (gs : List Group) (label : List ℕ) → IsKept P → AreTested P gs label → AreBuilt P (preds (tests gs label))
tests_built P [] label kept tested = tt
tests_built P (g ∷ gs) [] kept tested = (kept.never, tt, tests_built P gs [] kept (none_tested P gs))
tests_built P (g ∷ gs) (n ∷ label) kept tested = (tested.0, tt, tests_built P gs label kept tested.1)

fulfilling_built : (P : Say) (p : PredTree) (gs : List Group) (label : List ℕ) (more : List PredTree) → IsKept P → IsBuilt P p
    → AreTested P gs label → AreBuilt P (preds more) → IsBuilt P (fulfilling p gs label more)
fulfilling_built P p gs label more kept own tested last = (
  kept.every (preds ((p ∷ tests gs label) ++ more)) (λ no. cc),
  built_both P (p ∷ tests gs label) more (built_more P p (tests gs label) own (tests_built P gs label kept tested)) last,
  tt,
)

sent_built : (P : Say) → IsKept P → AreBuilt P (preds (sent ∷ []))
sent_built P kept = (kept.negated (put (Equals Port 0) none none) (λ no. cc), (kept.dropped, tt, tt), tt)

-- Queries.

top_built : (P : Say) (top : QueryTop) (below : Queries) (label : List ℕ) → IsKept P → AreBuilt P (preds (top_own top))
    → AreTested P (top_groups top ++ groups_of below) label
    → (AreTested P (groups_of below) label → AreBuilt P (preds (preds_of below label)))
    → AreBuilt P (preds (top_preds top label (preds_of below label)))
top_built P (Enters p gs) below label kept own tested each = fulfilling_built P p gs label [] kept own (tested_first P gs (groups_of below) label tested) tt
top_built P (Leaves p gs) below label kept own tested each =
    fulfilling_built P p gs label (sent ∷ []) kept own (tested_first P gs (groups_of below) label tested) (sent_built P kept)
top_built P (Passes p gs q hs) below label kept own tested each =
    let groups = tested_first P (gs ++ hs) (groups_of below) label tested in
    built_more P (fulfilling p gs label []) (fulfilling q hs (drop (length gs) label) (sent ∷ []) ∷ [])
    (fulfilling_built P p gs label [] kept (own.0, own.1, tt) (tested_first P gs hs label groups) tt)
    (fulfilling_built P q hs (drop (length gs) label) (sent ∷ []) kept own.2 (tested_second P gs hs label groups) (sent_built P kept))
top_built P (Ends p) below label kept own tested each = (own.0, own.1, (kept.dropped, tt, tt))
top_built P InTurn below label kept own tested each = each tested
top_built P Either below label kept own tested each = each tested
top_built P Both below label kept own tested each = each tested
top_built P Other below label kept own tested each = each tested
top_built P Repeated below label kept own tested each = each tested

each_built : (P : Say) (qs : Queries) (label : List ℕ) → IsKept P → AreBuilt P (preds (own_preds qs)) → AreTested P (groups_of qs) label
    → AreBuilt P (preds (preds_of qs label))
each_built P no_queries label kept own tested = tt
each_built P (add top below rest) label kept own tested =
    let groups = subst (λ gs. AreTested P gs label) (sym (append_assoc (top_groups top) (groups_of below) (groups_of rest))) tested in
    let operands = built_second P (top_own top) (own_preds below ++ own_preds rest) own in
    let later = drop (share top below) label in
    built_both P (top_preds top label (preds_of below label)) (preds_of rest later)
    (top_built P top below label kept (built_first P (top_own top) (own_preds below ++ own_preds rest) own)
    (tested_first P (top_groups top ++ groups_of below) (groups_of rest) label groups)
    (λ inner. each_built P below label kept (built_first P (own_preds below) (own_preds rest) operands) inner))
    (each_built P rest later kept (built_second P (own_preds below) (own_preds rest) operands)
    (tested_second P (top_groups top ++ groups_of below) (groups_of rest) label groups))

-- each of the list
each_of : (P : Say) (ps : List PredTree) → AreBuilt P (preds ps) → All (IsBuilt P) ps
each_of P [] all = All-nil (IsBuilt P)
each_of P (p ∷ ps) all = All-cons (IsBuilt P) p ps (all.0, all.1, tt) (each_of P ps all.2)

-- what is added
added_tops : (P : Say) (q : QueryTree) (label : List ℕ) → IsKept P → Brings P q label → AreBuilt P (preds (added_preds q label))
added_tops P q label kept brings =
    let all = each_built P (queries (q ∷ [])) label kept brings.own brings.tests in
    (kept.always, tt, subst (λ ps. AreBuilt P (preds ps)) (append-nil (query_preds q label)) all)

pub added_built : (P : Say) (q : QueryTree) (label : List ℕ) → IsKept P → Brings P q label → All (IsBuilt P) (added_preds q label)
added_built P q label kept brings = each_of P (added_preds q label) (added_tops P q label kept brings)

-- Lawful predicates.

lawful_built : (ps : Preds) → AreLawful ps → AreBuilt IsLawfulTop ps
lawful_built none lawful = tt
lawful_built (put top below rest) lawful = (lawful.0, lawful_built below lawful.1, lawful_built rest lawful.2)

built_lawful : (ps : Preds) → AreBuilt IsLawfulTop ps → AreLawful ps
built_lawful none built = tt
built_lawful (put top below rest) built = (built.0, built_lawful below built.1, built_lawful rest built.2)

all_lawful : (ps : List PredTree) → AreBuilt IsLawfulTop (preds ps) → All IsLawfulPred ps
all_lawful [] all = All-nil IsLawfulPred
all_lawful (p ∷ ps) all = All-cons IsLawfulPred p ps (built_lawful (preds (p ∷ [])) (all.0, all.1, tt)) (all_lawful ps all.2)

kept_lawful : IsKept IsLawfulTop
kept_lawful = record { always = tt; never = tt; dropped = omega arith; every = λ ps some. some; negated = λ ps some. some }

tested_lawful : (gs : List Group) (label : List ℕ) → DoFit gs label → AreTested IsLawfulTop gs label
tested_lawful [] label fit = tt
tested_lawful (g ∷ gs) [] fit = tt
tested_lawful (g ∷ gs) (n ∷ label) fit = (fit.0, tested_lawful gs label fit.1)

top_lawful : (top : QueryTop) (below : Queries) → IsLawfulQueryTop top below → AreBuilt IsLawfulTop (preds (top_own top))
top_lawful (Enters p gs) below lawful = lawful_built (preds (p ∷ [])) lawful.0
top_lawful (Leaves p gs) below lawful = lawful_built (preds (p ∷ [])) lawful.0
top_lawful (Passes p gs q hs) below lawful = built_more IsLawfulTop p (q ∷ []) (lawful_built (preds (p ∷ [])) lawful.0) (lawful_built (preds (q ∷ [])) lawful.2)
top_lawful (Ends p) below lawful = lawful_built (preds (p ∷ [])) lawful
top_lawful InTurn below lawful = tt
top_lawful Either below lawful = tt
top_lawful Both below lawful = tt
top_lawful Other below lawful = tt
top_lawful Repeated below lawful = tt

own_lawful : (qs : Queries) → AreLawfulQueries qs → AreBuilt IsLawfulTop (preds (own_preds qs))
own_lawful no_queries lawful = tt
own_lawful (add top below rest) lawful = built_both IsLawfulTop (top_own top) (own_preds below ++ own_preds rest)
    (top_lawful top below lawful.0) (built_both IsLawfulTop (own_preds below) (own_preds rest) (own_lawful below lawful.1)
    (own_lawful rest lawful.2))

pub added_lawful : (q : QueryTree) (label : List ℕ) → IsLawfulQuery q → IsFittingLabel q label → All IsLawfulPred (added_preds q label)
added_lawful q label lawful fit = all_lawful (added_preds q label) (added_tops IsLawfulTop q label kept_lawful (record {
  own = own_lawful (queries (q ∷ [])) lawful;
  tests = tested_lawful (groups_of (queries (q ∷ []))) label fit;
}))

-- lawful predicates stay so
pub lawful_more : (q : QueryTree) (label : List ℕ) (old new : List PredTree) → new ≡ old ++ added_preds q label → IsLawfulQuery q
    → IsFittingLabel q label → All IsLawfulPred old → All IsLawfulPred new
lawful_more q label old new whole lawful fit all =
    subst (λ ps. All IsLawfulPred ps) (sym whole) (All-append IsLawfulPred old (added_preds q label) all (added_lawful q label lawful fit))
