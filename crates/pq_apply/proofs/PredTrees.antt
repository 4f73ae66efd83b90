-- The diagrams of predicates, from those of their parts.
use Rattle.std.proofs.Common.{ℕ, ◌+◌, ◌<◌, ◌≤◌, ◌≡◌, ◌∙◌, Bool, true, false, not, List, [], ◌∷◌, map, drop, get_or, length, suc, Some}
use Rattle.std.proofs.Common.{if◌then◌else◌, refl, sym, ap, subst, add-one}
use Rattle.std.specs.Prelude.{slice_get, All}
use Rattle.std.specs.List.{list_any}
use Rattle.std.proofs.Math.Seq.{drop-cons}
use Rattle.std.proofs.lemmas.List.{drop_all}
use Rattle.std.proofs.lemmas.List.Elements.{All-nil, All-cons}
use Rattle.std.proofs.lemmas.Option.{get_or_from_slice_get, slice_get_within}
use Rattle.pq_fields.specs.declared.field.Field.{Field}
use Rattle.pq_fields.specs.declared.pred.Pred.{Pred}
use Rattle.pq_fields.specs.Packet.{Numbers, Fit}
use Rattle.pq_fields.specs.Pred.{PredTop, Preds, PredTree, preds, pred_tree, pred_trees, truths, holds}
use Rattle.pq_fields.specs.Pred.PredTop.{Negated}
use Rattle.pq_fields.specs.Pred.Preds.{none, put}
use Rattle.pq_store.specs.declared.test.Test.TheVariants.{Equal}
use Rattle.pq_store.specs.Tree.{Tree, value}
use Rattle.pq_store.specs.Tree.Tree.{Tip}
use Rattle.pq_store.specs.Room.{Within}
use Rattle.pq_store.proofs.RoomLemmas.{room_for}
use Rattle.pq_apply.specs.Junction.{joined, trees_at, FitTogetherAll, JunctionAt, RecodesAt}
use Rattle.pq_apply.specs.Predicates.{ArePredsWithin, HoldsAt}
use Rattle.pq_apply.specs.Operands.{FitAsNodes, HoldAt, JoinedAt}

-- the first of some predicates
abbrev first_of_all : PredTop → Preds → PredTree
first_of_all top below = record { top = top; below = below }

-- of predicates that may come together those after the first may
pub rest_fit : (top : PredTop) (below rest : Preds) → FitAsNodes (put top below rest) → FitAsNodes rest
rest_fit top below rest = room_for (λ ns within. within.2)

-- predicates from an index on are the one there and those from the next on
pub one_of : (ps : List Pred) (i : ℕ) (p : Pred) → i < length ps → p ≡ get_or ps i p
    → pred_trees (drop i ps) ≡ put (pred_tree p).top (pred_tree p).below (pred_trees (drop (i + 1) ps))
one_of ps i p within is =
    ap pred_trees (drop-cons ps i p within)
    ∙ (ap (λ q. put (pred_tree q).top (pred_tree q).below (pred_trees (drop (suc i) ps))) (sym is)
    ∙ ap (λ k. put (pred_tree p).top (pred_tree p).below (pred_trees (drop k ps))) (sym (add-one i)))

-- after the last there are none
pub none_of : (ps : List Pred) (i : ℕ) → length ps ≤ i → pred_trees (drop i ps) ≡ none
none_of ps i h = ap pred_trees (drop_all i ps h)

-- the diagrams of operands are within the store
pub hold_within : (ps : Preds) (ts : List (Tree Bool)) (ids : List ℕ) → HoldAt ps ts ids → All (λ id. id < length ts) ids
hold_within none ts [] h = All-nil (λ id. id < length ts)
hold_within none ts (id ∷ ids) h = absurd h
hold_within (put top below rest) ts [] h = absurd h
hold_within (put top below rest) ts (id ∷ ids) h =
    let first = h.0 in
    All-cons (λ k. k < length ts) id ids (slice_get_within ts id first.0 first.1) (hold_within rest ts ids h.1)

-- the tree of a place
pub tree_is : (ts : List (Tree Bool)) (id : ℕ) (t : Tree Bool) → slice_get ts id ≡ Some t → get_or ts id (Tip false) ≡ t
tree_is ts id t is = get_or_from_slice_get ts id t (Tip false) is

-- they say whether the operands hold
pub hold_values : (ps : Preds) (ts : List (Tree Bool)) (ids : List ℕ) (x : Numbers) → Fit x → HoldAt ps ts ids
    → map (λ u. value u x) (trees_at ts ids) ≡ truths ps x
hold_values none ts [] x fit h = refl
hold_values none ts (id ∷ ids) x fit h = absurd h
hold_values (put top below rest) ts [] x fit h = absurd h
hold_values (put top below rest) ts (id ∷ ids) x fit h =
    let first = h.0 in
    let told = first.2 in
    let one : value (get_or ts id (Tip false)) x ≡ holds (first_of_all top below) x = ap (λ u. value u x) (tree_is ts id first.0 first.1) ∙ told.gives x fit in
    let more = hold_values rest ts ids x fit h.1 in
    ap (λ b. b ∷ map (λ u. value u x) (trees_at ts ids)) one ∙ ap (λ bs. holds (first_of_all top below) x ∷ bs) more

-- they test only the operands' numbers
pub hold_tests : (ns : Field → List ℕ) (ps : Preds) (ts : List (Tree Bool)) (ids : List ℕ) → ArePredsWithin ns ps → HoldAt ps ts ids
    → All (Within ns) (trees_at ts ids)
hold_tests ns none ts [] within h = All-nil (Within ns)
hold_tests ns none ts (id ∷ ids) within h = absurd h
hold_tests ns (put top below rest) ts [] within h = absurd h
hold_tests ns (put top below rest) ts (id ∷ ids) within h =
    let first = h.0 in
    let told = first.2 in
    let own : Within ns first.0 = told.tests ns (within.0, within.1, tt) in
    All-cons (Within ns) (get_or ts id (Tip false)) (trees_at ts ids) (subst (Within ns) (sym (tree_is ts id first.0 first.1)) own)
    (hold_tests ns rest ts ids within.2 h.1)

-- so they may come together
pub hold_fit : (ps : Preds) (ts : List (Tree Bool)) (ids : List ℕ) → FitAsNodes ps → HoldAt ps ts ids → FitTogetherAll (trees_at ts ids)
hold_fit ps ts ids fit h = room_for (λ ns within. hold_tests ns ps ts ids within h) fit

-- and their junction is that of the operands
pub hold_joined : (every : Bool) (ps : Preds) (ts us : List (Tree Bool)) (ids : List ℕ) (id : ℕ) → HoldAt ps ts ids
    → JunctionAt every (trees_at ts ids) us id → JoinedAt every ps us id
hold_joined every ps ts us ids id h junction =
    let made = junction.2 in (
      junction.0,
      junction.1,
      record {
        gives = λ x fit. made.gives x ∙ ap (joined every) (hold_values ps ts ids x fit h);
        tests = λ ns within. made.tests ns (hold_tests ns ps ts ids within h);
      },
    )

-- a recoded diagram is that of the negation
pub negated_node : (p : PredTree) (ts us : List (Tree Bool)) (inner id : ℕ) → HoldsAt p ts inner → RecodesAt false true ts inner us id
    → HoldsAt (first_of_all Negated (preds (p ∷ []))) us id
negated_node p ts us inner id h recodes =
    let told = h.2 in
    let made = recodes h.0 h.1 in
    let is = made.2 in (
      made.0,
      made.1,
      record {
        gives = λ x fit. is.gives x ∙ (ap (λ b. if b then false else true) (told.gives x fit) ∙ by (holds p x));
        tests = λ ns within f v tested. told.tests ns within.1 f v (is.tests (Equal f v) tested);
      },
    )
  where
    by : (b : Bool) → (if b then false else true) ≡ not (list_any (λ c. c) (b ∷ []))
    by true = refl
    by false = refl
