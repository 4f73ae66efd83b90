-- The letters of predicates, and the automaton over them.
use Rattle.std.proofs.Common.{◌≡◌, ◌<◌, ◌+◌, ℕ, Bool, false, List, [], ◌∷◌, ◌++◌, length, map, get_or, take, refl, sym, ap, ap₂, subst, ◌∙◌, arith}
use Rattle.std.specs.Prelude.{All}
use Rattle.std.specs.List.{AllZip}
use Rattle.std.proofs.Math.ListN.{get_or-map}
use Rattle.std.proofs.lemmas.List.{length-map, take_more}
use Rattle.std.proofs.lemmas.List.Elements.{All-nil, All-cons, All-head, All-tail}
use Rattle.std.proofs.lemmas.Option.{slice_get_within}
use Rattle.std.proofs.lemmas.Slice.Zip.{all_zipped_more}
use Rattle.pq_fields.specs.declared.field.Field.{Field}
use Rattle.pq_fields.specs.declared.pred.Pred.{Pred}
use Rattle.pq_fields.specs.Packet.{Fit, Numbers, zero_packet}
use Rattle.pq_fields.specs.Pred.{PredTree, holds, pred_tree}
use Rattle.pq_expr.specs.Expr.{ExprTree}
use Rattle.pq_auto.specs.Exploration.{IsExploration, half_steps, holding}
use Rattle.pq_auto.specs.Machine.{AllBelow, IsLeastMachine, IsMachine, Machine, SaySame}
use Rattle.pq_auto.specs.Numbering.{IsNumbered}
use Rattle.pq_store.specs.Room.{HasRoom, Within}
use Rattle.pq_store.specs.Store.{Keeps}
use Rattle.pq_store.specs.Tree.{Tree, Tip, value}
use Rattle.pq_apply.specs.Junction.{trees_at}
use Rattle.pq_apply.specs.Predicates.{FitsAsNode, HoldsAt, IsPredWithin}
use Rattle.pq_apply.proofs.PredTrees.{tree_is}
use Rattle.pq_letters.specs.Letters.{IsLettered, IsPartition, LettersValue, truths}
use Rattle.pq_classes.specs.Told.{IsAutomatonOf, TellPreds}

-- a predicate of a list
pub at_pred : (P : PredTree → Type 0) (ps : List Pred) (k : ℕ) (p : Pred) → k < length ps → p ≡ get_or ps k p → All P (map pred_tree ps) → P (pred_tree p)
at_pred P ps k p within at all =
    let long : length (map pred_tree ps) ≡ length ps = length-map ps pred_tree in
    subst P (get_or-map pred_tree ps k p ∙ ap pred_tree (sym at)) (all k (pred_tree p) (omega (arith, long, within)))

pub pred_room : (ps : List Pred) (k : ℕ) (p : Pred) → k < length ps → p ≡ get_or ps k p
    → HasRoom (λ ns. All (IsPredWithin ns) (map pred_tree ps)) → FitsAsNode (pred_tree p)
pred_room ps k p within at room = record { numbers = room.numbers; few = room.few; within = at_pred (IsPredWithin room.numbers) ps k p within at room.within }

-- Diagrams of predicates, in order.

abbrev pub AreNodes : List (Tree Bool) → List PredTree → List ℕ → Type 0
AreNodes ts ps ids = AllZip (λ p id. HoldsAt p ts id) ps ids

nodes_kept : (old new : List (Tree Bool)) → Keeps old new → (ps : List PredTree) (ids : List ℕ) → AreNodes old ps ids → AreNodes new ps ids
nodes_kept old new keeps [] [] all = tt
nodes_kept old new keeps [] (id ∷ ids) all = absurd all
nodes_kept old new keeps (p ∷ ps) [] all = absurd all
nodes_kept old new keeps (p ∷ ps) (id ∷ ids) all = ((all.0.0, keeps id all.0.0 all.0.1, all.0.2), nodes_kept old new keeps ps ids all.1)

pub one_node : (old new : List (Tree Bool)) (ps : List Pred) (k : ℕ) (p : Pred) (ids more : List ℕ) (id : ℕ) → k < length ps
    → p ≡ get_or ps k p → Keeps old new → more ≡ ids ++ id ∷ [] → HoldsAt (pred_tree p) new id
    → AreNodes old (take k (map pred_tree ps)) ids → AreNodes new (take (k + 1) (map pred_tree ps)) more
one_node old new ps k p ids more id within at keeps pushed one all =
    let long : length (map pred_tree ps) ≡ length ps = length-map ps pred_tree in
    let front : take (k + 1) (map pred_tree ps) ≡ take k (map pred_tree ps) ++ pred_tree p ∷ [] =
    take_more (map pred_tree ps) k (pred_tree p) (omega (arith, long, within))
    ∙ ap (λ q. take k (map pred_tree ps) ++ q ∷ []) (get_or-map pred_tree ps k p ∙ ap pred_tree (sym at)) in
    subst (λ qs. AreNodes new qs more) (sym front) (subst (AreNodes new (take k (map pred_tree ps) ++ pred_tree p ∷ [])) (sym pushed)
    (all_zipped_more (λ p id. HoldsAt p new id) (take k (map pred_tree ps)) ids (pred_tree p) id
    (nodes_kept old new keeps (take k (map pred_tree ps)) ids all) one))

pub nodes_within : (ts : List (Tree Bool)) (ps : List PredTree) (ids : List ℕ) → AreNodes ts ps ids → All (λ id. id < length ts) ids
nodes_within ts ps [] all = All-nil (λ id. id < length ts)
nodes_within ts [] (id ∷ ids) all = absurd all
nodes_within ts (p ∷ ps) (id ∷ ids) all = All-cons (λ id. id < length ts) id ids (slice_get_within ts id all.0.0 all.0.1) (nodes_within ts ps ids all.1)

pub trees_within : (ns : Field → List ℕ) (ts : List (Tree Bool)) (ps : List PredTree) (ids : List ℕ) → AreNodes ts ps ids
    → All (IsPredWithin ns) ps → All (Within ns) (trees_at ts ids)
trees_within ns ts ps [] all within = All-nil (Within ns)
trees_within ns ts [] (id ∷ ids) all within = absurd all
trees_within ns ts (p ∷ ps) (id ∷ ids) all within =
    All-cons (Within ns) (get_or ts id (Tip false)) (trees_at ts ids)
    (subst (Within ns) (sym (tree_is ts id all.0.0 all.0.1)) (all.0.2.tests ns (All-head (IsPredWithin ns) p ps within)))
    (trees_within ns ts ps ids all.1 (All-tail (IsPredWithin ns) p ps within))

pub nodes_room : (ts : List (Tree Bool)) (ps : List PredTree) (ids : List ℕ) → AreNodes ts ps ids → HasRoom (λ ns. All (IsPredWithin ns) ps)
    → HasRoom (λ ns. All (Within ns) (trees_at ts ids))
nodes_room ts ps ids all room = record { numbers = room.numbers; few = room.few; within = trees_within room.numbers ts ps ids all room.within }

-- they say which predicates hold
nodes_tell : (ts : List (Tree Bool)) (ps : List PredTree) (ids : List ℕ) → AreNodes ts ps ids → (x : Numbers) → Fit x
    → truths (trees_at ts ids) x ≡ map (λ p. holds p x) ps
nodes_tell ts [] [] all x fit = refl
nodes_tell ts [] (id ∷ ids) all x fit = absurd all
nodes_tell ts (p ∷ ps) [] all x fit = absurd all
nodes_tell ts (p ∷ ps) (id ∷ ids) all x fit =
    ap₂ (λ b bs. b ∷ bs) (ap (λ t. value t x) (tree_is ts id all.0.0 all.0.1) ∙ all.0.2.gives x fit) (nodes_tell ts ps ids all.1 x fit)

pub partition_tells : (ts : List (Tree Bool)) (ps : List PredTree) (ids : List ℕ) (a : LettersValue) → AreNodes ts ps ids
    → IsPartition (trees_at ts ids) a → TellPreds ps a
partition_tells ts ps ids a all is x letter fit at = is.tells x letter fit at ∙ nodes_tell ts ps ids all x fit

-- The automaton.

pub some_letter : (a : LettersValue) (alphabet : List (List Bool)) → IsLettered a → alphabet ≡ a.signatures → 0 < length alphabet
some_letter a alphabet lettered same =
    let zero_fits : Fit zero_packet = record {
      switch = omega arith;
      port = omega arith;
      eth_type = omega arith;
      ip_proto = omega arith;
      eth_src = omega arith;
      eth_dst = omega arith;
      ipv4_src = omega arith;
      ipv4_dst = omega arith;
      tcp_src = omega arith;
      tcp_dst = omega arith;
      udp_src = omega arith;
      udp_dst = omega arith;
      ipv6_src = omega arith;
      ipv6_dst = omega arith;
    } in
    let first = lettered.whole zero_packet zero_fits in
    let long = ap length same in
    omega (arith, first.1, lettered.signed, long)

pub automaton_of : (es : List ExprTree) (a : LettersValue) (alphabet : List (List Bool)) (auto m : Machine) → IsLettered a
    → alphabet ≡ a.signatures → IsExploration es alphabet auto → m.letters ≡ auto.letters → SaySame auto m → IsMachine m → IsNumbered m
    → IsLeastMachine m → IsAutomatonOf es a m
automaton_of es a alphabet auto m lettered same is letters say machine numbered least =
    let long : length alphabet ≡ length a.least = ap length same ∙ lettered.signed in
    let words : (w : List ℕ) → AllBelow m.letters w → AllBelow auto.letters w = λ w below. subst (λ n. AllBelow n w) letters below in
    let own : (w : List ℕ) → AllBelow m.letters w → AllBelow (length alphabet) w = λ w below. subst (λ n. AllBelow n w) (letters ∙ is.letters) below in
    record {
      letters = letters ∙ is.letters ∙ long;
      machine = machine;
      numbered = numbered;
      least = least;
      even = λ w below. sym (say w (words w below)).0 ∙ is.even w (own w below);
      accepted = λ w below. sym (say w (words w below)).1 ∙ is.accepted w (own w below) ∙ ap (λ sigs. holding es (half_steps sigs w)) same;
    }
