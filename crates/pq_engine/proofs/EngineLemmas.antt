-- Engines, before and after an edit.
use Rattle.std.proofs.Common.{ℕ, suc, ◌+◌, ◌*◌, ◌^◌, ◌<◌, ◌≤◌, ◌≡◌, ◌∙◌, List, [], ◌∷◌, length, map, refl, sym, ap, arith}
use Rattle.std.specs.Prelude.{sum_by}
use Rattle.std.proofs.lemmas.List.{length-map}
use Rattle.pq_policy.specs.Policy.{PolicyTree}
use Rattle.pq_fields.specs.Writes.{Written}
use Rattle.pq_store.specs.Tree.{Tree}
use Rattle.pq_forward.specs.Forward.{work}
use Rattle.pq_meaning.specs.Parts.{FitAsParts}
use Rattle.pq_store.proofs.RoomLemmas.{room_for}
use Rattle.pq_sum.specs.Cells.{at_place}
use Rattle.pq_sum.specs.Places.{IsSummed}
use Rattle.pq_sum.specs.Sum.{UnitesParts, replaced}
use Rattle.pq_compile.specs.declared.preparing.PrepareFault.{PrepareFault}
use Rattle.pq_compile.specs.declared.preparing.PrepareFault.TheVariants as prepare
use Rattle.pq_compile.specs.Compiled.{IsCompileFault, prepare_fault}
use Rattle.pq_compile.specs.Documents.{DocumentTree}
use Rattle.pq_compile.specs.Lawful.{names_in}
use Rattle.pq_compile.specs.Names.{Named}
use Rattle.pq_compile.specs.Prepared.{HasFewValues, IsClassified, IsCompilable, IsPrepareFault, parts_in}
use Rattle.pq_compile.proofs.Values.{room, bare_long}
use Rattle.pq_edit.specs.Edits.{EditTree, PartPut, PartRemoved, QueryPut, QueryRemoved, IsNamedIn, edited, put, without}
use Rattle.pq_engine.specs.declared.kept.Kept.{Kept}
use Rattle.pq_engine.specs.declared.parts.PartsChange.{PartsChange}
use Rattle.pq_engine.specs.declared.queries.QueriesChange.{QueriesChange}
use Rattle.pq_local.specs.Local.{IsBefore, with_parts}
use Rattle.pq_engine.specs.Changes.{IsPartsChange, IsQueriesChange, IsRenewable, IsUnionWork, WasKept}
use Rattle.pq_engine.specs.Engine.{IsEngine, engine_of}
use Rattle.pq_engine.specs.Places.{place_in}
use Rattle.pq_engine.specs.Sums.{AwaitsPart, AwaitsRemoval}
use Rattle.pq_engine.proofs.EditedLemmas.{named_within, put_is, without_is}
use Rattle.pq_engine.proofs.PlacesLemmas.{map_replaced, place_within, put_at_place, removed_long}

-- the parts of a document that states few numbers may come together
pub parts_fit : (d : DocumentTree) → IsCompilable d → HasFewValues d → FitAsParts d.topology (parts_in d)
parts_fit d can few = room_for (λ ns within. (within.topology, within.policies)) (room d can few)

pub parts_few : (d : DocumentTree) → IsCompilable d → length (parts_in d) ≤ 1024
parts_few d can = let few = can.lawful.few_parts in let long = bare_long d.parts in omega (arith, few, long)

topology_stays : (d : DocumentTree) (e : EditTree) → (edited d e).topology ≡ d.topology
topology_stays d (PartPut p) = refl
topology_stays d (PartRemoved name) = refl
topology_stays d (QueryPut q) = refl
topology_stays d (QueryRemoved name) = refl

pub part_within : (d : DocumentTree) (i : ℕ) → i < length d.parts → i < length (parts_in d)
part_within d i within = let long = bare_long d.parts in omega (arith, within, long)

name_place : {A : Type 0} (name : List ℕ) (ns : List (Named A)) → place_in name (names_in ns) ≤ length ns
name_place {A} name ns =
    let within = place_within name (names_in ns) in
    let long : length (names_in ns) ≡ length ns = length-map ns (λ (n : Named A). n.0) in
    omega (arith, within, long)

module _ (d : DocumentTree) (k : Kept) (is : IsEngine (engine_of d k)) where
  -- before an edit is made, its document has the install of before it
  pub renewable : (e : EditTree) → IsCompilable (edited d e) → IsRenewable (edited d e) k
  renewable e can = record { compilable = can; lawful = is.installed.lawful; topology = is.installed.install.emission.topology ∙ sym (topology_stays d e) }

  -- other parts leave what queries tell apart
  pub classified_still : (ps : List (Named PolicyTree)) → IsClassified (record { topology = d.topology; parts = ps; queries = d.queries }) k.told
  classified_still ps =
      let told = is.classified.told in
      record {
        told = record {
          instances = told.instances;
          few = told.few;
          within = told.within;
          sum = told.sum;
          classes = told.classes;
          tests = told.tests;
          ignores = told.ignores;
        };
        tags = is.classified.tags;
      }

  pub put_awaits : (p : Named PolicyTree) (place : ℕ) → place ≡ place_in p.0 (names_in d.parts) → AwaitsPart (edited d (PartPut p)) k.forward k.sum place
  put_awaits p place at = record {
    before = parts_in d;
    part = p.1;
    summed = is.summed;
    within = let within = name_place p.0 d.parts in let long = bare_long d.parts in omega (arith, at, within, long);
    put =
        ap (map (λ n. n.1)) (put_is p d.parts ∙ ap (λ i. replaced i (p ∷ []) d.parts) (sym at))
        ∙ map_replaced (λ (n : Named PolicyTree). n.1) place (p ∷ []) d.parts;
  }

  pub removal_awaits : (name : List ℕ) (place : ℕ) → place ≡ place_in name (names_in d.parts) → IsNamedIn name d.parts
      → AwaitsRemoval (edited d (PartRemoved name)) k.forward k.sum place
  removal_awaits name place at there = record {
    before = parts_in d;
    summed = is.summed;
    within = let within = named_within name d.parts there in let long = bare_long d.parts in omega (arith, at, within, long);
    fits = parts_fit d is.compilable is.within.within.values;
    removed =
        ap (map (λ n. n.1)) (without_is name d.parts ∙ ap (λ i. replaced i [] d.parts) (sym at))
        ∙ map_replaced (λ (n : Named PolicyTree). n.1) place [] d.parts;
  }

  -- the engine after a change of the parts
  pub parts_engine : (ps : List (Named PolicyTree)) (c : PartsChange)
      → IsPartsChange (record { topology = d.topology; parts = ps; queries = d.queries }) k.install c
      → IsEngine (engine_of (record { topology = d.topology; parts = ps; queries = d.queries })
      (record { forward = c.forward; sum = c.sum; told = k.told; install = c.renewed.install }))
  parts_engine ps c change = record {
    compilable = change.renewed.compilable;
    within = change.renewed.within;
    installed = change.renewed.installed;
    summed = change.summed;
    classified = classified_still ps;
  }

  -- and after one of the queries: these have no part in the sum
  pub queries_engine : (e : DocumentTree) (c : QueriesChange) → e.topology ≡ d.topology → e.parts ≡ d.parts → IsQueriesChange e k.install c
      → IsEngine (engine_of e (record { forward = k.forward; sum = k.sum; told = c.told; install = c.renewed.install }))
  queries_engine e c topology parts change = record {
    compilable = change.renewed.compilable;
    within = change.renewed.within;
    installed = change.renewed.installed;
    summed = rw (topology, parts) is.summed;
    classified = change.classified;
  }

-- where the diagram of the parts before is at a place, the document is one whose parts changed
pub is_before : (d : DocumentTree) (k : Kept) → (was : WasKept d k) → (forward : List (Tree (List Written))) (before : ℕ)
    → ((ps : List PolicyTree) → IsSummed d.topology k.forward ps k.sum → UnitesParts d.topology forward ps before) → IsBefore d forward before k.install
is_before d k was forward before stays =
    let engine = was.engine in
    record {
      parts = was.parts;
      forwards = stays (parts_in (with_parts d was.parts)) engine.summed;
      installed = engine.installed;
      within =
          engine.within.tables;
    }

-- Work.

module _ (d : DocumentTree) (p : Named PolicyTree) (place before after : ℕ) (at : place ≡ place_in p.0 (names_in d.parts)) where
  part_there : at_place place (parts_in (edited d (PartPut p))) ≡ p.1 ∷ []
  part_there =
      let within = name_place p.0 d.parts in
      let long = bare_long d.parts in
      ap (at_place place) (ap (map (λ n. n.1)) (put_is p d.parts ∙ ap (λ i. replaced i (p ∷ []) d.parts) (sym at))
      ∙ map_replaced (λ (n : Named PolicyTree). n.1) place (p ∷ []) d.parts)
      ∙ put_at_place place p.1 (parts_in d) (omega (arith, at, within, long))

  pub put_work : ((k : ℕ) → length (put p d.parts) ≤ 2 ^ k → after ≤ before + sum_by work (at_place place (parts_in (edited d (PartPut p)))) + k)
      → IsUnionWork d (PartPut p) before after
  put_work counts k old new =
      let steps = counts k new in
      let one : sum_by work (at_place place (parts_in (edited d (PartPut p)))) ≡ work p.1 = ap (sum_by work) part_there ∙ single in
      omega (arith, steps, one)
    where
      single : sum_by work (p.1 ∷ []) ≡ work p.1
      single = omega arith

pub no_work : (d : DocumentTree) (p : Named PolicyTree) (n : ℕ) → IsUnionWork d (PartPut p) n n
no_work d p n k old new = omega arith

module _ (d : DocumentTree) (name : List ℕ) (there : IsNamedIn name d.parts) (before after : ℕ) where
  pub removal_work : ((k : ℕ) → suc (length (without name d.parts)) ≤ 2 ^ k → after ≤ before + 2 * k) → IsUnionWork d (PartRemoved name) before after
  removal_work counts k old =
      let less = removed_long (place_in name (names_in d.parts)) d.parts (named_within name d.parts there) in
      let long : length (without name d.parts) ≡ length (replaced (place_in name (names_in d.parts)) [] d.parts) = ap length (without_is name d.parts) in
      let steps = counts k (omega (arith, less, long, old)) in
      omega (arith, steps)

-- Faults.

-- a fault of what trees are made from is one of compiling
pub prepare_cause : (d : DocumentTree) (fault : PrepareFault) → IsPrepareFault d fault → IsCompileFault d (prepare_fault fault)
prepare_cause d (prepare.ValuesFull field count) is = is
prepare_cause d (prepare.InstancesFull count) is = is
prepare_cause d (prepare.TagWidth classes) is = is
prepare_cause d prepare.Memory is = tt
