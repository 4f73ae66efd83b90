-- Cells that compare as equal are one.
use Rattle.std.proofs.Common.{◌≡◌, Bool, true, false, ◌&&◌, ◌==◌, rules, refl, sym, ap, ap₂, ◌∙◌}
use Rattle.std.proofs.lemmas.Bool.{eq-eqb, eqb-true, and_parts, and_from}
use denote.Enum.Bare.{same_true, true_same}
use Rattle.pq_fields.specs.declared.field.Field.{Field}
use Rattle.pq_fields.specs.contracts.field.Field.{the_type}
use Rattle.pq_fields.specs.contracts.field.FieldPartialEq.TheImpl.{ghosts as fields}
use Rattle.pq_store.specs.declared.test.Test.{Test}
use Rattle.pq_store.specs.declared.test.Test.TheVariants.{Equal, Bit}
use Rattle.pq_store.specs.declared.cell.Branch.{Branch}
use Rattle.pq_store.specs.declared.cell.Cell.{Cell}
use Rattle.pq_store.specs.declared.cell.Cell.TheVariants as cell
use Rattle.pq_store.specs.contracts.test.TestPartialEq.TheImpl.{ghosts as tests}
use Rattle.pq_store.specs.contracts.cell.BranchPartialEq.TheImpl.{ghosts as branches}

-- fields that compare as equal are one
field_exact : (f g : Field) → fields.eq f g ≡ true → f ≡ g
field_exact f g h = same_true the_type (search rules) f g h

-- a field compares as equal to itself
field_itself : (f : Field) → fields.eq f f ≡ true
field_itself f = true_same the_type f f refl

-- tests that compare as equal are one
test_exact : (s t : Test) → tests.eq s t ≡ true → s ≡ t
test_exact (Equal f v) (Equal g w) h = let p = and_parts (fields.eq f g) (v == w) h in ap₂ Equal (field_exact f g p.0) (eqb-true v w p.1)
test_exact (Equal f v) (Bit g i) h = absurd cc
test_exact (Bit f i) (Equal g w) h = absurd cc
test_exact (Bit f i) (Bit g j) h = let p = and_parts (fields.eq f g) (i == j) h in ap₂ Bit (field_exact f g p.0) (eqb-true i j p.1)

-- a test compares as equal to itself
test_itself : (t : Test) → tests.eq t t ≡ true
test_itself (Equal f v) = and_from (fields.eq f f) (v == v) (field_itself f) (eq-eqb v v refl)
test_itself (Bit f i) = and_from (fields.eq f f) (i == i) (field_itself f) (eq-eqb i i refl)

-- branches that compare as equal are one
branch_exact : (a b : Branch) → branches.eq a b ≡ true → a ≡ b
branch_exact a b h =
    let p = and_parts (tests.eq a.test b.test) ((a.yes == b.yes) && ((a.no == b.no) && (a.past == b.past))) h in
    let q = and_parts (a.yes == b.yes) ((a.no == b.no) && (a.past == b.past)) p.1 in
    let r = and_parts (a.no == b.no) (a.past == b.past) q.1 in
    let test_is : a.test ≡ b.test = test_exact a.test b.test p.0 in
    let yes_is : a.yes ≡ b.yes = eqb-true a.yes b.yes q.0 in
    let no_is : a.no ≡ b.no = eqb-true a.no b.no r.0 in
    let past_is : a.past ≡ b.past = eqb-true a.past b.past r.1 in
    λ i. record { test = test_is i; yes = yes_is i; no = no_is i; past = past_is i }

-- a branch compares as equal to itself
branch_itself : (a : Branch) → branches.eq a a ≡ true
branch_itself a = and_from (tests.eq a.test a.test) ((a.yes == a.yes) && ((a.no == a.no) && (a.past == a.past))) (test_itself a.test)
    (and_from (a.yes == a.yes) ((a.no == a.no) && (a.past == a.past)) (eq-eqb a.yes a.yes refl)
    (and_from (a.no == a.no) (a.past == a.past) (eq-eqb a.no a.no refl) (eq-eqb a.past a.past refl)))

-- a comparison of cells goes by their leaves, or by their branches
pub record Compares {L : Type 0} (eq : Cell L → Cell L → Bool) (same : L → L → Bool) : Type 0 where
  pub leaves : (l m : L) → eq (cell.Leaf l) (cell.Leaf m) ≡ same l m
  pub leaf_branch : (l : L) (b : Branch) → eq (cell.Leaf l) (cell.Branch b) ≡ false
  pub branch_leaf : (b : Branch) (l : L) → eq (cell.Branch b) (cell.Leaf l) ≡ false
  pub both_branches : (a b : Branch) → eq (cell.Branch a) (cell.Branch b) ≡ branches.eq a b

module _ {L : Type 0} (eq : Cell L → Cell L → Bool) (same : L → L → Bool) (compares : Compares eq same) where
  -- cells that compare as equal are one, where leaves that do are
  pub cell_exact : ((l m : L) → same l m ≡ true → l ≡ m) → (c d : Cell L) → eq c d ≡ true → c ≡ d
  cell_exact exact (cell.Leaf l) (cell.Leaf m) h = ap cell.Leaf (exact l m (sym (compares.leaves l m) ∙ h))
  cell_exact exact (cell.Leaf l) (cell.Branch b) h = let e = compares.leaf_branch l b in absurd cc
  cell_exact exact (cell.Branch a) (cell.Leaf m) h = let e = compares.branch_leaf a m in absurd cc
  cell_exact exact (cell.Branch a) (cell.Branch b) h = ap cell.Branch (branch_exact a b (sym (compares.both_branches a b) ∙ h))

  -- a cell compares as equal to itself, where each leaf does
  pub cell_itself : ((l : L) → same l l ≡ true) → (c : Cell L) → eq c c ≡ true
  cell_itself itself (cell.Leaf l) = compares.leaves l l ∙ itself l
  cell_itself itself (cell.Branch b) = compares.both_branches b b ∙ branch_itself b
