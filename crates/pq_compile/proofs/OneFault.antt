-- A document has one fault at most besides running out of memory, and none where it is within all limits.
use Rattle.std.proofs.Common.{◌≡◌, ◌≢◌, ◌∙◌, ℕ, List, [], ◌∷◌, refl, sym, ap, arith, inl, inr}
use Rattle.std.specs.Prelude.{◌⊎◌}
use Rattle.std.specs.List.{AllByRecursion, AllZip}
use Rattle.std.proofs.lemmas.List.Elements.{recursion_from_All}
use Rattle.std.proofs.lemmas.Option.{same_Some, none-some}
use Rattle.pq_fields.specs.declared.field.Field.{Field}
use Rattle.pq_model.specs.Install.{IsLawfulSwitch, IsLawfulTopology}
use Rattle.pq_model.specs.Topology.{Switch, Topology}
use Rattle.pq_policy.specs.Policy.{PolicyTree}
use Rattle.pq_query.specs.Query.{QueryTree}
use Rattle.pq_classes.proofs.Counted.{one_count}
use Rattle.pq_layout.specs.Emission.{AreTrees}
use Rattle.pq_layout.specs.Leaves.{Departures}
use Rattle.pq_layout.specs.Tagging.{Tagging}
use Rattle.pq_rules.specs.declared.fault.RulesFault.{RulesFault}
use Rattle.pq_rules.specs.declared.fault.RulesFault.TheVariants as rules
use Rattle.pq_emit.specs.Faults.{AreTooLarge, HasNoFault, IsEmitFault, fault_of}
use Rattle.pq_emit.specs.Switches.{TablesTrees}
use Rattle.pq_emit.proofs.OneTrees.{one_all}
use Rattle.pq_meaning.specs.Compiled.{IsLaid}
use Rattle.pq_meaning.proofs.OneInstall.{one_set_of_trees}
use Rattle.pq_compile.specs.declared.compiling.CompileFault.{CompileFault}
use Rattle.pq_compile.specs.declared.compiling.CompileFault.TheVariants as compile
use Rattle.pq_compile.specs.declared.preparing.PrepareFault.{PrepareFault}
use Rattle.pq_compile.specs.declared.preparing.PrepareFault.TheVariants as prepare
use Rattle.pq_compile.specs.Compiled.{AreTablesWithin, IsCompileFault, IsLaidFor, IsWithinLimits, prepare_fault, rules_fault}
use Rattle.pq_compile.specs.Documents.{DocumentTree}
use Rattle.pq_compile.specs.Prepared.{IsPrepareFault, IsWithin, languages_in, parts_in, queries_in}

-- By whatever tags and departures a document is laid out, its trees are the same, so their fault is.

module _ (T : Topology) (lawful : IsLawfulTopology T) (ps : List PolicyTree) (qs : List QueryTree) (g h : Tagging)
    (writes more : Departures) (left : IsLaid T ps qs g writes)
    (right : IsLaid T ps qs h more) where
  all_same : (ss : List Switch) → AllByRecursion IsLawfulSwitch ss → (ts : List TablesTrees)
      → AllZip (λ s t. AreTrees T g writes s.datapath t.first t.second) ss ts → AllZip (λ s t. AreTrees T h more s.datapath t.first t.second) ss ts
  all_same [] each [] all = tt
  all_same [] each (t ∷ ts) all = absurd all
  all_same (s ∷ ss) each [] all = absurd all
  all_same (s ∷ ss) each (t ∷ ts) all = (
    one_set_of_trees T ps qs g h writes more left right s.datapath each.0.0 t.first t.second all.0,
    all_same ss each.1 ts all.1,
  )

  too_large : (fault : RulesFault) → AreTooLarge T g writes fault → AreTooLarge T h more fault
  too_large fault full = record {
    trees = full.trees;
    all = all_same T.switches (recursion_from_All IsLawfulSwitch T.switches lawful.switches) full.trees full.all;
    first = full.first;
  }

  emit_fault : (fault : RulesFault) → IsEmitFault T g writes fault → IsEmitFault T h more fault
  emit_fault (rules.TableFull switch table entries) full = too_large (rules.TableFull switch table entries) full
  emit_fault (rules.GroupFull switch copies) full = too_large (rules.GroupFull switch copies) full
  emit_fault rules.Memory full = tt

-- where the tables of one laying out are within the limits, those of all are
pub tables_within : (d : DocumentTree) → IsLawfulTopology d.topology → (g : Tagging) (writes : Departures) → IsLaidFor d g writes
    → HasNoFault d.topology g writes → AreTablesWithin d
tables_within d lawful g writes laid none h more other fault full =
    none fault (emit_fault d.topology lawful (parts_in d) (queries_in d) h g more writes other laid fault full)

-- for some tags and departures the document's tables are too large
abbrev AreTooLargeFor : DocumentTree → RulesFault → Type 0
AreTooLargeFor d fault = (g : Tagging) × (writes : Departures) × IsLaidFor d g writes × AreTooLarge d.topology g writes fault

one_tables_fault : (d : DocumentTree) → IsLawfulTopology d.topology → (f e : RulesFault) → AreTooLargeFor d f → AreTooLargeFor d e → f ≡ e
one_tables_fault d lawful f e (g, writes, laid, full) (h, more, other, fuller) =
    let moved = too_large d.topology lawful (parts_in d) (queries_in d) h g more writes other laid e fuller in
    let trees : full.trees ≡ moved.trees = one_all d.topology g writes full.trees moved.trees full.all moved.all in
    same_Some f e (sym full.first ∙ (ap (fault_of d.topology.switches) trees ∙ moved.first))

-- Faults of what tables are made from.

-- a field and a count, as a fault
abbrev values_fault : Field × ℕ → PrepareFault
values_fault full = prepare.ValuesFull full.0 full.1

pub no_prepare_fault : (d : DocumentTree) (f : PrepareFault) → IsWithin d → IsPrepareFault d f → f ≡ prepare.Memory
no_prepare_fault d (prepare.ValuesFull field count) is fault = let pair : Field × ℕ = (field, count) in absurd (none-some pair (sym is.values ∙ fault))
no_prepare_fault d (prepare.InstancesFull count) is fault = let most = is.instances in let more = fault.1.0 in absurd (omega (arith, most, more))
no_prepare_fault d (prepare.TagWidth classes) is fault =
    let most = is.classes in
    let same = one_count (languages_in d) classes most.0 fault.2 most.1 in
    let few = most.2 in
    let more = fault.3 in
    absurd (omega (arith, same, few, more))
no_prepare_fault d prepare.Memory is fault = refl

pub one_prepare_fault : (d : DocumentTree) (f g : PrepareFault) → IsPrepareFault d f → IsPrepareFault d g → f ≢ prepare.Memory → g ≢ prepare.Memory → f ≡ g
one_prepare_fault d (prepare.ValuesFull f n) (prepare.ValuesFull g m) left right some more =
    let one : Field × ℕ = (f, n) in let other : Field × ℕ = (g, m) in ap values_fault (same_Some one other (sym left ∙ right))
one_prepare_fault d (prepare.ValuesFull f n) (prepare.InstancesFull m) left right some more = let one : Field × ℕ = (f, n) in
    absurd (none-some one (sym right.0 ∙ left))
one_prepare_fault d (prepare.ValuesFull f n) (prepare.TagWidth m) left right some more = let one : Field × ℕ = (f, n) in
    absurd (none-some one (sym right.0 ∙ left))
one_prepare_fault d (prepare.InstancesFull n) (prepare.ValuesFull g m) left right some more = let other : Field × ℕ = (g, m) in
    absurd (none-some other (sym left.0 ∙ right))
one_prepare_fault d (prepare.InstancesFull n) (prepare.InstancesFull m) left right some more = ap (λ c. prepare.InstancesFull c) (left.1.1 ∙ sym right.1.1)
one_prepare_fault d (prepare.InstancesFull n) (prepare.TagWidth m) left right some more = let above = left.1.0 in let most = right.1 in
    absurd (omega (arith, above, most))
one_prepare_fault d (prepare.TagWidth n) (prepare.ValuesFull g m) left right some more = let other : Field × ℕ = (g, m) in
    absurd (none-some other (sym left.0 ∙ right))
one_prepare_fault d (prepare.TagWidth n) (prepare.InstancesFull m) left right some more = let above = right.1.0 in let most = left.1 in
    absurd (omega (arith, above, most))
one_prepare_fault d (prepare.TagWidth n) (prepare.TagWidth m) left right some more =
    ap (λ c. prepare.TagWidth c) (one_count (languages_in d) n m left.2 right.2)
one_prepare_fault d prepare.Memory g left right some more = absurd (some refl)
one_prepare_fault d (prepare.ValuesFull f n) prepare.Memory left right some more = absurd (more refl)
one_prepare_fault d (prepare.InstancesFull n) prepare.Memory left right some more = absurd (more refl)
one_prepare_fault d (prepare.TagWidth n) prepare.Memory left right some more = absurd (more refl)

-- Faults of compiling.

-- the fault is one of what tables are made from
record IsEarly (d : DocumentTree) (f : CompileFault) : Type 0 where
  fault : PrepareFault
  is : f ≡ prepare_fault fault
  cause : IsPrepareFault d fault
  named : fault ≢ prepare.Memory

-- or it is one of the tables
record IsLate (d : DocumentTree) (f : CompileFault) : Type 0 where
  fault : RulesFault
  is : f ≡ rules_fault fault
  within : IsWithin d
  full : AreTooLargeFor d fault

stage_of : (d : DocumentTree) (f : CompileFault) → IsCompileFault d f → f ≢ compile.Memory → IsEarly d f ⊎ IsLate d f
stage_of d (compile.ValuesFull field count) cause named =
    inl (record { fault = prepare.ValuesFull field count; is = refl; cause = cause; named = λ e. named (ap prepare_fault e) })
stage_of d (compile.InstancesFull count) cause named = inl (record {
  fault = prepare.InstancesFull count;
  is = refl;
  cause = cause;
  named = λ e. named (ap prepare_fault e);
})
stage_of d (compile.TagWidth classes) cause named = inl (record {
  fault = prepare.TagWidth classes;
  is = refl;
  cause = cause;
  named = λ e. named (ap prepare_fault e);
})
stage_of d (compile.TableFull switch table entries) cause named = inr (record {
  fault = rules.TableFull switch table entries;
  is = refl;
  within = cause.0;
  full = cause.1;
})
stage_of d (compile.GroupFull switch copies) cause named = inr (record { fault = rules.GroupFull switch copies; is = refl; within = cause.0; full = cause.1 })
stage_of d compile.Memory cause named = absurd (named refl)

one_of_stages : (d : DocumentTree) → IsLawfulTopology d.topology → (f g : CompileFault) → IsEarly d f ⊎ IsLate d f → IsEarly d g ⊎ IsLate d g → f ≡ g
one_of_stages d lawful f g (inl a) (inl b) = a.is ∙ (ap prepare_fault (one_prepare_fault d a.fault b.fault a.cause b.cause a.named b.named) ∙ sym b.is)
one_of_stages d lawful f g (inl a) (inr b) = absurd (a.named (no_prepare_fault d a.fault b.within a.cause))
one_of_stages d lawful f g (inr a) (inl b) = absurd (b.named (no_prepare_fault d b.fault a.within b.cause))
one_of_stages d lawful f g (inr a) (inr b) = a.is ∙ (ap rules_fault (one_tables_fault d lawful a.fault b.fault a.full b.full) ∙ sym b.is)

pub one_compile_fault : (d : DocumentTree) (f g : CompileFault) → IsLawfulTopology d.topology → IsCompileFault d f → IsCompileFault d g
    → f ≢ compile.Memory → g ≢ compile.Memory → f ≡ g
one_compile_fault d f g lawful left right some more = one_of_stages d lawful f g (stage_of d f left some) (stage_of d g right more)

-- a document within all limits is beyond none
pub no_compile_fault : (d : DocumentTree) (f : CompileFault) → IsWithinLimits d → IsCompileFault d f → f ≡ compile.Memory
no_compile_fault d (compile.ValuesFull field count) is fault = ap prepare_fault (no_prepare_fault d (prepare.ValuesFull field count) is.within fault)
no_compile_fault d (compile.InstancesFull count) is fault = ap prepare_fault (no_prepare_fault d (prepare.InstancesFull count) is.within fault)
no_compile_fault d (compile.TagWidth classes) is fault = ap prepare_fault (no_prepare_fault d (prepare.TagWidth classes) is.within fault)
no_compile_fault d (compile.TableFull switch table entries) is (within, (g, writes, laid, full)) =
    ap rules_fault (is.tables g writes laid (rules.TableFull switch table entries) full)
no_compile_fault d (compile.GroupFull switch copies) is (within, (g, writes, laid, full)) =
    ap rules_fault (is.tables g writes laid (rules.GroupFull switch copies) full)
no_compile_fault d compile.Memory is fault = refl
