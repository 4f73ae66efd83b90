-- Sums of parts as a store grows.
use Rattle.std.proofs.Common.{ℕ, zero, suc, ◌+◌, ◌-◌, ◌<◌, ◌≤◌, ◌≡◌, ◌∙◌, List, [], ◌∷◌, ◌++◌, take, drop, length, map, refl, sym, ap, subst, arith}
use Rattle.std.specs.Prelude.{All, sum_by}
use Rattle.std.proofs.lemmas.List.Elements.{All-nil, All-cons, All-head, All-tail}
use Rattle.std.proofs.lemmas.List.{length-map}
use Rattle.pq_fields.specs.Writes.{Written}
use Rattle.pq_model.specs.Topology.{Topology}
use Rattle.pq_policy.specs.declared.policy.Policy.{Policy}
use Rattle.pq_policy.specs.Policy.{PolicyTree, policy_tree}
use Rattle.pq_forward.specs.Forward.{IsPolicyWithin, work}
use Rattle.pq_store.specs.Store.{Keeps}
use Rattle.pq_store.specs.Tree.{Tree}
use Rattle.pq_store.proofs.RoomLemmas.{room_for}
use Rattle.pq_meaning.specs.Parts.{FitAsParts, part_trees, work_of_parts}
use Rattle.pq_sum.specs.Calls.{IsPuttableAt, IsRemovableAt, IsSameSum}
use Rattle.pq_sum.specs.Cells.{at_place}
use Rattle.pq_sum.specs.Places.{IsSummed, Sum}
use Rattle.pq_sum.specs.Sum.{AreParts, UnitesParts, replaced}
use Rattle.pq_sum.proofs.Trees.{tree_still}
use Rattle.pq_compile.specs.declared.document.Document.{Document}
use Rattle.pq_compile.specs.Documents.{DocumentTree, document_tree, part_tree}
use Rattle.pq_compile.specs.Prepared.{HasFewValues, IsCompilable, parts_in}
use Rattle.pq_compile.proofs.Values.{parts_are, bare_long}
use Rattle.pq_engine.specs.Sums.{AwaitsPart, AwaitsRemoval}
use Rattle.pq_engine.proofs.EngineLemmas.{parts_fit}
use Rattle.pq_engine.proofs.PlacesLemmas.{put_at_place, put_long, put_within, removed_long}

abbrev Trees : Type 0
Trees = List (Tree (List Written))

-- The item at a place.

module _ {X : Type 0} where
  pub all_at_place : (P : X → Type 0) (i : ℕ) (xs : List X) → All P xs → All P (at_place i xs)
  all_at_place P zero [] all = All-nil P
  all_at_place P zero (x ∷ xs) all = All-cons P x [] (All-head P x xs all) (All-nil P)
  all_at_place P (suc i) [] all = All-nil P
  all_at_place P (suc i) (x ∷ xs) all = all_at_place P i xs (All-tail P x xs all)

  pub one_at_place : (i : ℕ) (xs : List X) → i < length xs → length (at_place i xs) ≡ 1
  one_at_place zero [] within = absurd (omega arith)
  one_at_place zero (x ∷ xs) within = refl
  one_at_place (suc i) [] within = absurd (omega arith)
  one_at_place (suc i) (x ∷ xs) within = one_at_place i xs (omega arith)

module _ {X Y : Type 0} (f : X → Y) where
  pub map_at_place : (i : ℕ) (xs : List X) → map f (at_place i xs) ≡ at_place i (map f xs)
  map_at_place zero [] = refl
  map_at_place zero (x ∷ xs) = refl
  map_at_place (suc i) [] = refl
  map_at_place (suc i) (x ∷ xs) = map_at_place i xs

pub part_fits : (T : Topology) (ps : List PolicyTree) (i : ℕ) → FitAsParts T ps → FitAsParts T (at_place i ps)
part_fits T ps i fits = room_for (λ ns (topology, within). (topology, all_at_place (IsPolicyWithin ns) i ps within)) fits

-- the part of a place, as the slice of parts that the program takes
pub part_sliced : (d : Document) (ps : List (List ℕ × Policy)) (i : ℕ) → ps ≡ d.parts.items
    → part_trees (take (i + 1 - i) (drop i ps)) ≡ at_place i (parts_in (document_tree d))
part_sliced d ps i same =
    let one : i + 1 - i ≡ 1 = omega arith in
    ap (λ n. part_trees (take n (drop i ps))) one ∙ map_at_place (λ (part : List ℕ × Policy). policy_tree part.1) i ps ∙ ap (at_place i) (parts_are d ps same)

pub parts_long : (d : Document) → length (parts_in (document_tree d)) ≡ length d.parts.items
parts_long d = bare_long (document_tree d).parts ∙ length-map d.parts.items part_tree

pub one_work : (ps : List PolicyTree) (i : ℕ) → i < length ps → work_of_parts (at_place i ps) ≡ sum_by work (at_place i ps)
one_work ps i within = let one = one_at_place i ps within in omega (arith, one)

pub sliced_work : (d : Document) (ps : List (List ℕ × Policy)) (i : ℕ) → ps ≡ d.parts.items → i < length d.parts.items
    → work_of_parts (part_trees (take (i + 1 - i) (drop i ps))) ≡ sum_by work (at_place i (parts_in (document_tree d)))
sliced_work d ps i same within =
    let long = parts_long d in
    ap work_of_parts (part_sliced d ps i same) ∙ one_work (parts_in (document_tree d)) i (omega (arith, within, long))

-- Sums.

pub sum_still : (T : Topology) (old new : Trees) → Keeps old new → (ps : List PolicyTree) (s : Sum) → IsSummed T old ps s → IsSummed T new ps s
sum_still T old new keeps ps s is = record { slotted = is.slotted; sum = tree_still T old new keeps 10 s.cells is.slotted is.sum; placed = is.placed }

-- one more diagram
parts_next : (T : Topology) (ts : Trees) (i : ℕ) (ps : List PolicyTree) (ids : List ℕ) (id : ℕ) → i < length ps
    → AreParts T ts (take i ps) ids → UnitesParts T ts (at_place i ps) id → AreParts T ts (take (suc i) ps) (ids ++ id ∷ [])
parts_next T ts zero [] ids id within all has = absurd (omega arith)
parts_next T ts zero (p ∷ ps) [] id within all has = (has, tt)
parts_next T ts zero (p ∷ ps) (j ∷ ids) id within all has = absurd all
parts_next T ts (suc i) [] ids id within all has = absurd (omega arith)
parts_next T ts (suc i) (p ∷ ps) [] id within all has = absurd all
parts_next T ts (suc i) (p ∷ ps) (j ∷ ids) id within all has = (all.0, parts_next T ts i ps ids id (omega arith) all.1 has)

pub parts_more : (T : Topology) (ts : Trees) (i : ℕ) (ps : List PolicyTree) (ids : List ℕ) (id : ℕ) → i < length ps
    → AreParts T ts (take i ps) ids → UnitesParts T ts (at_place i ps) id → AreParts T ts (take (i + 1) ps) (ids ++ id ∷ [])
parts_more T ts i ps ids id within all has =
    let one : suc i ≡ i + 1 = omega arith in
    subst (λ n. AreParts T ts (take n ps) (ids ++ id ∷ [])) one (parts_next T ts i ps ids id within all has)

module _ (d : DocumentTree) (can : IsCompilable d) (few : HasFewValues d) (old new : Trees) (s : Sum) (place id : ℕ)
    (awaits : AwaitsPart d old s place) (keeps : Keeps old new)
    (part : UnitesParts d.topology new (at_place place (parts_in d)) id) where
  -- the part that is awaited may be put
  pub puttable : IsPuttableAt d.topology new s place id awaits.before awaits.part
  puttable = record {
    summed = sum_still d.topology old new keeps awaits.before s awaits.summed;
    gives = subst (λ ps. UnitesParts d.topology new ps id) (ap (at_place place) awaits.put ∙ put_at_place place awaits.part awaits.before awaits.within) part;
    within = awaits.within;
    room =
        let within = put_within place awaits.part awaits.before awaits.within in
        let long = ap length awaits.put in
        let few = can.lawful.few_parts in
        let bodies = bare_long d.parts in
        omega (arith, within, long, few, bodies);
    fits = subst (FitAsParts d.topology) awaits.put (parts_fit d can few);
  }

module _ (d : DocumentTree) (ts : Trees) (s : Sum) (place : ℕ) (awaits : AwaitsRemoval d ts s place) where
  pub removable : IsRemovableAt d.topology ts s place awaits.before
  removable = record { summed = awaits.summed; within = awaits.within; fits = awaits.fits }

-- what is awaited may be put into a copy as well
pub put_copied : (d : DocumentTree) (old new : Trees) (s t : Sum) (place : ℕ) → IsSameSum old s new t → AwaitsPart d old s place → AwaitsPart d new t place
put_copied d old new s t place same awaits = record {
  before = awaits.before;
  part = awaits.part;
  summed = same d.topology awaits.before awaits.summed;
  within = awaits.within;
  put = awaits.put;
}

pub removal_copied : (d : DocumentTree) (old new : Trees) (s t : Sum) (place : ℕ) → IsSameSum old s new t → AwaitsRemoval d old s place
    → AwaitsRemoval d new t place
removal_copied d old new s t place same awaits = record {
  before = awaits.before;
  summed = same d.topology awaits.before awaits.summed;
  within = awaits.within;
  fits = awaits.fits;
  removed = awaits.removed;
}

-- the place of what is awaited is one of the document
pub awaited_within : (d : Document) (ts : Trees) (s : Sum) (place : ℕ) → AwaitsPart (document_tree d) ts s place → place < length d.parts.items
awaited_within d ts s place awaits =
    let within = put_within place awaits.part awaits.before awaits.within in
    let long = ap length awaits.put in
    let parts = parts_long d in
    omega (arith, within, long, parts)

-- there were at most as many parts before one was put
pub awaited_few : (d : Document) (ts : Trees) (s : Sum) (place : ℕ) (awaits : AwaitsPart (document_tree d) ts s place)
    → length awaits.before ≤ length d.parts.items
awaited_few d ts s place awaits =
    let more = put_long place awaits.part awaits.before awaits.within in
    let long = ap length awaits.put in
    let parts = parts_long d in
    omega (arith, more, long, parts)

pub replaced_long : (d : Document) (ts : Trees) (s : Sum) (place : ℕ) (awaits : AwaitsPart (document_tree d) ts s place)
    → length (replaced place (awaits.part ∷ []) awaits.before) ≡ length d.parts.items
replaced_long d ts s place awaits = sym (ap length awaits.put) ∙ parts_long d

-- and one more before one was taken out
pub removed_before : (d : Document) (ts : Trees) (s : Sum) (place : ℕ) (awaits : AwaitsRemoval (document_tree d) ts s place)
    → length awaits.before ≡ suc (length d.parts.items)
removed_before d ts s place awaits =
    let less = removed_long place awaits.before awaits.within in
    let long = ap length awaits.removed in
    let parts = parts_long d in
    omega (arith, less, long, parts)

-- a union of parts stays where it is
pub kept_union : (T : Topology) (ps : List PolicyTree) (old new : List (Tree (List Written))) (id : ℕ) → Keeps old new
    → UnitesParts T old ps id → UnitesParts T new ps id
kept_union T ps old new id keeps at = (at.0, keeps id at.0 at.1, at.2)
