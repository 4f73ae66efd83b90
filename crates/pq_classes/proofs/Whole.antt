-- Instances, letters and classes together.
use Rattle.std.proofs.Common.{◌≡◌, ◌<◌, ◌≤◌, ◌+◌, ◌^◌, ℕ, List, [], ◌∷◌, length, length-append, map, refl, sym, ap, subst, ◌∙◌, arith}
use Rattle.std.specs.Prelude.{All, Some, slice_get}
use Rattle.std.specs.List.{AllByRecursion}
use Rattle.std.proofs.lemmas.List.Elements.{All-contains, All-weaker, recursion_from_All}
use Rattle.std.proofs.lemmas.List.{length-map}
use Rattle.std.proofs.lemmas.List.Sums.{sum_by-cons}
use Rattle.std.proofs.lemmas.Slice.Zip.{AllZip-long}
use Rattle.pq_fields.specs.declared.field.Field.{Field}
use Rattle.pq_fields.specs.declared.field.Field.TheVariants.{Port}
use Rattle.pq_fields.specs.Pred.{FitsField, IsLawfulPred, PredTree, Preds, none, preds, put}
use Rattle.pq_model.specs.Buckets.{Instance}
use Rattle.pq_model.specs.Classes.{IsPath}
use Rattle.pq_model.specs.Topology.{Topology}
use Rattle.pq_model.specs.Word.{Word}
use Rattle.pq_topo.specs.Named.{IsNamedTopology}
use Rattle.pq_query.specs.Groups.{Group}
use Rattle.pq_query.specs.Instances.{instances_from, instances_of, label_sum, named_trees, under_labels}
use Rattle.pq_query.specs.Labels.{group_values, groups_of, labels}
use Rattle.pq_query.specs.Languages.{IsHeld}
use Rattle.pq_query.specs.Lawful.{IsLawfulQuery}
use Rattle.pq_query.specs.declared.query.Query.{Query}
use Rattle.pq_query.specs.Query.{QueryTree, queries, query_tree}
use Rattle.pq_expr.specs.declared.expr.Expr.{Expr}
use Rattle.pq_expr.specs.Expr.{ExprTree, expr_tree}
use Rattle.pq_lower.specs.Added.{added_preds}
use Rattle.pq_lower.specs.Built.{AreBuilt, AreTested, DoFit, IsBuilt, IsKept, Say, own_preds}
use Rattle.pq_lower.specs.HalfSteps.{half_steps}
use Rattle.pq_lower.proofs.Building.{added_built, added_lawful}
use Rattle.pq_auto.specs.Exploration.{holding}
use Rattle.pq_auto.specs.Machine.{AllBelow, Machine, accepted_at}
use Rattle.pq_store.specs.Room.{HasRoom, IsAmong, IsCounted}
use Rattle.pq_apply.specs.Predicates.{ArePredsWithin, IsPredWithin, IsTopWithin, NeedsAmong}
use Rattle.pq_apply.proofs.Required.{port_needs}
use Rattle.pq_letters.specs.Letters.{LettersValue, IsLettered}
use Rattle.pq_letters.specs.Words.{letters_of}
use Rattle.pq_classes.specs.Lowered.{AreLowered, IsAdded, IsLowered}
use Rattle.pq_classes.specs.Room.{FitAsQueries, IsGroupWithin, IsQueryWithin}
use Rattle.pq_classes.specs.Told.{AreClasses, AreHolding, IsAutomatonOf, TellPreds, class_of}
use Rattle.pq_classes.proofs.Held.{are_holding, same_steps}
use Rattle.pq_classes.proofs.Joined.{are_classes}
use Rattle.pq_classes.proofs.Spelled.{letters_below}
use Rattle.pq_classes.proofs.Values.{Along, instances_along, labels_fit, query_along}

-- letters, expressions and the automaton together tell the classes of words
pub joined : (qs : List QueryTree) (ps : List PredTree) (is : List Instance) (es : List ExprTree) (a : LettersValue) (m : Machine)
    → All (λ i. i.query < length qs) is → AreLowered qs ps is es → IsLettered a → TellPreds ps a → IsAutomatonOf es a m
    → AreClasses (IsHeld qs is) a m
joined qs ps is es a m within lowered lettered tells auto =
    are_classes (IsHeld qs is) a lettered m auto.machine auto.numbered auto.least auto.letters auto.even held
  where
    held : (w : Word) → IsPath w → AreHolding (IsHeld qs is) w (accepted_at m (class_of a m w))
    held w path =
        let below = subst (λ n. AllBelow n (letters_of a w)) (sym auto.letters) (letters_below a lettered w path.1) in
        let said : accepted_at m (class_of a m w) ≡ holding es (half_steps ps w) = auto.accepted (letters_of a w) below
        ∙ ap (holding es) (sym (same_steps a ps lettered tells w path)) in
        subst (AreHolding (IsHeld qs is) w) (sym said) (are_holding qs ps is es lowered within w path.0)

-- Predicates of instances.

fits_tested : (gs : List Group) (label : List ℕ) → Along FitsField gs label → DoFit gs label
fits_tested [] label along = tt
fits_tested (g ∷ gs) [] along = tt
fits_tested (g ∷ gs) (n ∷ label) along = (along.0, fits_tested gs label along.1)

-- what holds of the predicates that each instance needs holds of all that are added
all_added : (P : PredTree → Type 0) (qs : List QueryTree) (is : List Instance) (ps : List PredTree)
    → All (λ i. (q : QueryTree) → slice_get qs i.query ≡ Some q → All P (added_preds q i.label)) is → All (IsAdded qs is) ps → All P ps
all_added P qs is ps each added =
    All-weaker (IsAdded qs is) P
    (λ p is_added. All-contains P (added_preds is_added.query is_added.instance.label) p
    (All-contains (λ i. (q : QueryTree) → slice_get qs i.query ≡ Some q
    → All P (added_preds q i.label)) is is_added.instance each is_added.listed is_added.query is_added.asked) is_added.added)
    ps added

pub preds_lawful : (T : Topology) (qs : List QueryTree) (is : List Instance) (ps : List PredTree) → IsNamedTopology T
    → is ≡ instances_of T qs → All IsLawfulQuery qs → All (IsAdded qs is) ps → All IsLawfulPred ps
preds_lawful T qs is ps named listed lawful added =
    all_added IsLawfulPred qs is ps
    (subst (All (λ i. (q : QueryTree) → slice_get qs i.query ≡ Some q → All IsLawfulPred (added_preds q i.label))) (sym listed)
    (instances_along (λ q label. All IsLawfulPred (added_preds q label)) T qs
    (All-weaker IsLawfulQuery (λ q. All (λ label. All IsLawfulPred (added_preds q label)) (labels T q))
    (λ q is. All-weaker (Along FitsField (groups_of (queries (q ∷ [])))) (λ label. All IsLawfulPred (added_preds q label))
    (λ label along. added_lawful q label is (fits_tested (groups_of (queries (q ∷ []))) label along)) (labels T q) (labels_fit T named q is))
    qs lawful)))
    added

-- a predicate and its tests are among numbers
abbrev Says : (Field → List ℕ) → Say
Says ns top below = IsTopWithin ns top

built_within : (ns : Field → List ℕ) (ps : Preds) → AreBuilt (Says ns) ps → ArePredsWithin ns ps
built_within ns none built = tt
built_within ns (put top below rest) built = (built.0, built_within ns below built.1, built_within ns rest built.2)

within_built : (ns : Field → List ℕ) (ps : Preds) → ArePredsWithin ns ps → AreBuilt (Says ns) ps
within_built ns none within = tt
within_built ns (put top below rest) within = (within.0, within_built ns below within.1, within_built ns rest within.2)

-- the predicates of a list, one after another
list_built : (ns : Field → List ℕ) (ps : List PredTree) → AllByRecursion (IsPredWithin ns) ps → AreBuilt (Says ns) (preds ps)
list_built ns [] all = tt
list_built ns (p ∷ ps) all = (all.0.0, within_built ns p.below all.0.1, list_built ns ps all.1)

-- port 0 is tested at every atom
kept_within : (ns : Field → List ℕ) → IsAmong 0 (ns Port) → IsKept (Says ns)
kept_within ns ported = record { always = tt; never = tt; dropped = ((λ narrow. ported), port_needs ns); every = λ ps some. tt; negated = λ ps some. tt }

tested_within : (ns : Field → List ℕ) (gs : List Group) (label : List ℕ) → AllByRecursion (λ g. NeedsAmong ns g.field) gs
    → Along (IsCounted ns) gs label → AreTested (Says ns) gs label
tested_within ns [] label needs along = tt
tested_within ns (g ∷ gs) [] needs along = tt
tested_within ns (g ∷ gs) (n ∷ label) needs along = ((along.0, needs.0), tested_within ns gs label needs.1 along.1)

-- the numbers that an instance adds are among those of its query
instance_within : (ns : Field → List ℕ) (T : Topology) (q : QueryTree) → IsAmong 0 (ns Port) → IsQueryWithin ns T q
    → All (λ label. All (IsPredWithin ns) (added_preds q label)) (labels T q)
instance_within ns T q ported within =
    let gs = groups_of (queries (q ∷ [])) in
    let values = query_along (IsCounted ns) T q (All-weaker (IsGroupWithin ns T) (λ g. All (IsCounted ns g.field) (group_values T g))
    (λ g is. is.1) gs within.groups) in
    let needs = recursion_from_All (λ g. NeedsAmong ns g.field) gs
    (All-weaker (IsGroupWithin ns T) (λ g. NeedsAmong ns g.field) (λ g is. is.0) gs within.groups) in
    let own = list_built ns (own_preds (queries (q ∷ []))) (recursion_from_All (IsPredWithin ns) (own_preds (queries (q ∷ []))) within.preds) in
    All-weaker (Along (IsCounted ns) gs) (λ label. All (IsPredWithin ns) (added_preds q label))
    (λ label along. All-weaker (IsBuilt (Says ns)) (IsPredWithin ns) (λ p built. built_within ns (preds (p ∷ [])) built) (added_preds q label)
    (added_built (Says ns) q label (kept_within ns ported) (record { own = own; tests = tested_within ns gs label needs along })))
    (labels T q) values

pub preds_within : (ns : Field → List ℕ) (T : Topology) (qs : List QueryTree) (is : List Instance) (ps : List PredTree) → is ≡ instances_of T qs
    → IsAmong 0 (ns Port) → All (IsQueryWithin ns T) qs → All (IsAdded qs is) ps → All (IsPredWithin ns) ps
preds_within ns T qs is ps listed ported within added =
    all_added (IsPredWithin ns) qs is ps
    (subst (All (λ i. (q : QueryTree) → slice_get qs i.query ≡ Some q → All (IsPredWithin ns) (added_preds q i.label))) (sym listed)
    (instances_along (λ q label. All (IsPredWithin ns) (added_preds q label)) T qs
    (All-weaker (IsQueryWithin ns T) (λ q. All (λ label. All (IsPredWithin ns) (added_preds q label)) (labels T q))
    (λ q is. instance_within ns T q ported is) qs within)))
    added

pub preds_room : (T : Topology) (qs : List QueryTree) (is : List Instance) (ps : List PredTree) → is ≡ instances_of T qs → FitAsQueries T qs
    → All (IsAdded qs is) ps → HasRoom (λ ns. All (IsPredWithin ns) ps)
preds_room T qs is ps listed room added =
    record { numbers = room.numbers; few = room.few; within = preds_within room.numbers T qs is ps listed room.within.0 room.within.1 added }

-- How many there are.

-- as many expressions as instances
pub few_exprs : (qs : List QueryTree) (ps : List PredTree) (is : List Instance) (es : List Expr) → AreLowered qs ps is (map expr_tree es)
    → length is ≤ 1024 → length es < 2 ^ 32
few_exprs qs ps is es lowered few =
    let long = AllZip-long (IsLowered qs ps) is (map expr_tree es) lowered in
    let own = length-map es expr_tree in
    omega (arith, long, own, few)

instances_long : (T : Topology) (place : ℕ) (qs : List QueryTree) → length (instances_from T place qs) ≡ label_sum T qs
instances_long T place [] = refl
instances_long T place (q ∷ qs) =
    let whole = length-append (under_labels place (labels T q)) (instances_from T (place + 1) qs) in
    let instance : List ℕ → Instance = λ label. record { query = place; label = label } in
    let first = length-map (labels T q) instance in
    let rest = instances_long T (place + 1) qs in
    let sum : label_sum T (q ∷ qs) ≡ length (labels T q) + label_sum T qs = sum_by-cons (λ r. length (labels T r)) q qs in
    omega (arith, whole, first, rest, sum)

pub few_instances : (T : Topology) (qs : List QueryTree) (is : List Instance) → is ≡ instances_of T qs → label_sum T qs ≤ 1024 → length is ≤ 1024
few_instances T qs is listed few = let long = ap length listed in let all = instances_long T 0 qs in omega (arith, long, all, few)

-- queries without their names are as many
pub within_trees : (queries : List (List ℕ × Query)) (is : List Instance) → All (λ i. i.query < length queries) is
    → All (λ i. i.query < length (named_trees queries)) is
within_trees queries is within = subst (λ n. All (λ i. i.query < n) is) (sym (length-map queries (λ q. query_tree q.1))) within
