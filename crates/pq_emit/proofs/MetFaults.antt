-- The first fault of a network, switch after switch.
use Rattle.std.proofs.Common.{◌≡◌, ◌<◌, ◌≤◌, ◌+◌, ℕ, true, false, if◌then◌else◌, nat_lt, List, ◌∷◌, drop, length, get_or, refl, sym, ap}
use Rattle.std.proofs.Common.{ap₂, inl, inr, ◌∙◌, arith, true≢false}
use Rattle.std.specs.declared.option.Option.{Option}
use Rattle.std.specs.declared.option.Option.TheVariants.{None, Some}
use Rattle.std.specs.Option.{is_some, option_map, option_or}
use Rattle.std.proofs.lemmas.Bool.Decides.{nat_tests}
use Rattle.pq_lists.proofs.Places.{from_place}
use Rattle.pq_model.specs.Topology.{Switch}
use Rattle.pq_rules.specs.declared.fault.RulesFault.{RulesFault}
use Rattle.pq_rules.specs.declared.fault.RulesFault.TheVariants.{TableFull, GroupFull}
use Rattle.pq_rules.specs.Counts.{capped}
use Rattle.pq_rules.specs.Refusals.{FitRules, IsRulesFault, arriving_count, leaving_count}
use Rattle.pq_emit.specs.Faults.{first_fault, full_table, group_fault, met_fault, table_fault}
use Rattle.pq_emit.specs.Switches.{TablesTrees}

-- the fault of some switches, where an entry with too many copies was met before them, or not
abbrev pub with_met : Option RulesFault → List Switch → List TablesTrees → Option RulesFault
with_met met ss ts = option_or (first_fault table_fault ss ts) (option_or met (first_fault group_fault ss ts))

or_assoc : {A : Type 0} (a b c : Option A) → option_or a (option_or b c) ≡ option_or (option_or a b) c
or_assoc None b c = refl
or_assoc (Some a) b c = refl

or_none : {A : Type 0} (a : Option A) → option_or a None ≡ a
or_none None = refl
or_none (Some a) = refl

-- a switch whose tables are small enough
met_one : (met : Option RulesFault) (s : Switch) (ss : List Switch) (t : TablesTrees) (ts : List TablesTrees) → table_fault s t ≡ None
    → with_met met (s ∷ ss) (t ∷ ts) ≡ with_met (option_or met (group_fault s t)) ss ts
met_one met s ss t ts none =
    let tables = first_fault table_fault ss ts in
    let groups = first_fault group_fault ss ts in
    ap (λ o. option_or (option_or o tables) (option_or met (option_or (group_fault s t) groups))) none
    ∙ ap (option_or tables) (or_assoc met (group_fault s t) groups)

-- a switch with a table that is too large
full_one : (met : Option RulesFault) (s : Switch) (ss : List Switch) (t : TablesTrees) (ts : List TablesTrees) (fault : RulesFault)
    → table_fault s t ≡ Some fault
    → with_met met (s ∷ ss) (t ∷ ts) ≡ Some fault
full_one met s ss t ts fault some =
    ap (λ o. option_or (option_or o (first_fault table_fault ss ts)) (option_or met (option_or (group_fault s t) (first_fault group_fault ss ts)))) some

pub met_next : (met : Option RulesFault) (ss : List Switch) (ts : List TablesTrees) (k : ℕ) (s : Switch) (t : TablesTrees) (whole : Option RulesFault)
    → k < length ss → s ≡ get_or ss k s → k < length ts → t ≡ get_or ts k t → table_fault s t ≡ None
    → with_met met (drop k ss) (drop k ts) ≡ whole → with_met (option_or met (group_fault s t)) (drop (k + 1) ss) (drop (k + 1) ts) ≡ whole
met_next met ss ts k s t whole below at among here none so_far =
    sym (met_one met s (drop (k + 1) ss) t (drop (k + 1) ts) none)
    ∙ sym (ap₂ (with_met met) (from_place ss k s below at) (from_place ts k t among here))
    ∙ so_far

pub full_here : (met : Option RulesFault) (ss : List Switch) (ts : List TablesTrees) (k : ℕ) (s : Switch) (t : TablesTrees)
    (whole : Option RulesFault) (fault : RulesFault)
    → k < length ss → s ≡ get_or ss k s → k < length ts → t ≡ get_or ts k t → table_fault s t ≡ Some fault
    → with_met met (drop k ss) (drop k ts) ≡ whole → whole ≡ Some fault
full_here met ss ts k s t whole fault below at among here some so_far =
    sym so_far ∙ ap₂ (with_met met) (from_place ss k s below at) (from_place ts k t among here)
    ∙ full_one met s (drop (k + 1) ss) t (drop (k + 1) ts) fault some

-- What is said of one switch.

under : (d limit k n : ℕ) → n ≤ limit → full_table d limit k n ≡ None
under d limit k n few =
    let off : nat_lt limit n ≡ false = grind (arith, nat_tests) in
    ap (λ b. if b then Some (TableFull d k (capped n)) else None) off

over : (d limit k n : ℕ) → limit < n → full_table d limit k n ≡ Some (TableFull d k (capped n))
over d limit k n many =
    let on : nat_lt limit n ≡ true = grind (arith, nat_tests) in
    ap (λ b. if b then Some (TableFull d k (capped n)) else None) on

small : (s : Switch) (t : TablesTrees) → arriving_count t.first ≤ s.limit → leaving_count t.second ≤ s.limit → table_fault s t ≡ None
small s t few less =
    ap₂ option_or (under s.datapath s.limit 0 (arriving_count t.first) few) (under s.datapath s.limit 1 (leaving_count t.second) less)

-- its tables are small enough, and its entries have few enough copies
pub fits_none : (s : Switch) (t : TablesTrees) → FitRules s.limit t.first t.second → (table_fault s t ≡ None) × (group_fault s t ≡ None)
fits_none s t fit = (small s t fit.tables.arriving fit.tables.leaving, ap (option_map (GroupFull s.datapath)) fit.groups)

-- an entry has too many copies
pub group_met : (s : Switch) (t : TablesTrees) (d n : ℕ) → IsRulesFault s.datapath s.limit t.first t.second (GroupFull d n)
    → (table_fault s t ≡ None) × (group_fault s t ≡ Some (GroupFull d n))
group_met s t d n is = (
  small s t is.1.arriving is.1.leaving,
  ap (option_map (GroupFull s.datapath)) is.2 ∙ ap (λ e. Some (GroupFull e n)) (sym is.0),
)

-- a table is too large
pub table_met : (s : Switch) (t : TablesTrees) (d k n : ℕ) → IsRulesFault s.datapath s.limit t.first t.second (TableFull d k n)
    → table_fault s t ≡ Some (TableFull d k n)
table_met s t d k n (same, inl (first, many, counted)) =
    ap (λ o. option_or o (full_table s.datapath s.limit 1 (leaving_count t.second))) (over s.datapath s.limit 0 (arriving_count t.first) many)
    ∙ λ i. Some (TableFull (sym same i) (sym first i) (sym counted i))
table_met s t d k n (same, inr (second, few, many, counted)) =
    ap₂ option_or (under s.datapath s.limit 0 (arriving_count t.first) few) (over s.datapath s.limit 1 (leaving_count t.second) many)
    ∙ λ i. Some (TableFull (sym same i) (sym second i) (sym counted i))

-- What was met, with one switch more.

module _ (ss : List Switch) (ts : List TablesTrees) (k : ℕ) (s : Switch) (t : TablesTrees) (whole : Option RulesFault) (full : Option (ℕ × ℕ))
    (below : k < length ss) (at : s ≡ get_or ss k s) (among : k < length ts) (here : t ≡ get_or ts k t)
    (so_far : with_met (met_fault full) (drop k ss) (drop k ts) ≡ whole) where
  -- which gives messages
  pub fits_next : (new : Option (ℕ × ℕ)) → new ≡ full → FitRules s.limit t.first t.second → with_met (met_fault new) (drop (k + 1) ss) (drop (k + 1) ts) ≡ whole
  fits_next new same fit =
      let none = fits_none s t fit in
      let kept : option_or (met_fault full) (group_fault s t) ≡ met_fault new = ap (option_or (met_fault full)) none.1
      ∙ or_none (met_fault full) ∙ ap met_fault (sym same) in
      ap (λ o. with_met o (drop (k + 1) ss) (drop (k + 1) ts)) (sym kept) ∙ met_next (met_fault full) ss ts k s t whole below at among here none.0 so_far

  -- which is the first with an entry with too many copies
  pub first_next : (new : Option (ℕ × ℕ)) (d n : ℕ) → full ≡ None → new ≡ Some (d, n) → IsRulesFault s.datapath s.limit t.first t.second (GroupFull d n)
      → with_met (met_fault new) (drop (k + 1) ss) (drop (k + 1) ts) ≡ whole
  first_next new d n none same is =
      let met = group_met s t d n is in
      let found : option_or (met_fault full) (group_fault s t) ≡ met_fault new =
      ap (λ o. option_or (met_fault o) (group_fault s t)) none ∙ met.1 ∙ ap met_fault (sym same) in
      ap (λ o. with_met o (drop (k + 1) ss) (drop (k + 1) ts)) (sym found) ∙ met_next (met_fault full) ss ts k s t whole below at among here met.0 so_far

  -- which is a later one
  pub later_next : (new : Option (ℕ × ℕ)) (d n : ℕ) (p : ℕ × ℕ) → full ≡ Some p → new ≡ full → IsRulesFault s.datapath s.limit t.first t.second (GroupFull d n)
      → with_met (met_fault new) (drop (k + 1) ss) (drop (k + 1) ts) ≡ whole
  later_next new d n p some same is =
      let met = group_met s t d n is in
      let kept : option_or (met_fault full) (group_fault s t) ≡ met_fault new =
      ap (λ o. option_or (met_fault o) (group_fault s t)) some ∙ ap met_fault (sym some) ∙ ap met_fault (sym same) in
      ap (λ o. with_met o (drop (k + 1) ss) (drop (k + 1) ts)) (sym kept) ∙ met_next (met_fault full) ss ts k s t whole below at among here met.0 so_far

  -- which has a table that is too large
  pub full_next : (d j n : ℕ) → IsRulesFault s.datapath s.limit t.first t.second (TableFull d j n) → whole ≡ Some (TableFull d j n)
  full_next d j n is = full_here (met_fault full) ss ts k s t whole (TableFull d j n) below at among here (table_met s t d j n is) so_far

-- Whether there is one.

pub is_nowhere : {A : Type 0} (o : Option A) → is_some o ≡ false → o ≡ None
is_nowhere None off = refl
is_nowhere (Some a) off = absurd (true≢false off)

pub is_somewhere : {A : Type 0} (o : Option A) → is_some o ≡ true → (a : A) × (o ≡ Some a)
is_somewhere None on = absurd (true≢false (sym on))
is_somewhere (Some a) on = (a, refl)
