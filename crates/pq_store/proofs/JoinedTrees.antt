-- Trees that a store joins: their tests and values.
use Rattle.std.proofs.Common.{◌≡◌, ◌∙◌, Bool, true, false, if◌then◌else◌, inl, inr, refl, sym, ap, subst}
use Rattle.pq_fields.specs.Packet.{Numbers}
use Rattle.pq_store.specs.declared.test.Test.{Test}
use Rattle.pq_store.specs.Diagram.{AllLawful, Ascends, IsBefore}
use Rattle.pq_store.specs.Test.{passes}
use Rattle.pq_store.specs.Tree.{Tree, IsTested, value}
use Rattle.pq_store.specs.Tree.Tree.{Fork}
use Rattle.pq_store.specs.Store.{IsJoin}
use Rattle.pq_store.proofs.Joins.{past_value}

module _ {L : Type 0} where
  -- a joined tree tests what its test and its sides do
  pub join_tests : (s : Test) (y n r : Tree L) → IsJoin s y n r → (q : Test) → IsTested q r → IsTested q (Fork s y n)
  join_tests s y n r (inl same) q tested = inr (inr (subst (IsTested q) same.1 tested))
  join_tests s y n r (inr fork) q tested = subst (IsTested q) fork.1 tested

  -- it ascends where the test is before sides that do
  pub join_ascends : (s : Test) (y n r : Tree L) → IsJoin s y n r → Ascends (Fork s y n) → Ascends r
  join_ascends s y n r (inl same) up = subst Ascends (sym same.1) up.3
  join_ascends s y n r (inr fork) up = subst Ascends (sym fork.1) up

  -- its tests are lawful where those are
  pub join_lawful : (s : Test) (y n r : Tree L) → IsJoin s y n r → AllLawful (Fork s y n) → AllLawful r
  join_lawful s y n r (inl same) lawful = subst AllLawful (sym same.1) lawful.2
  join_lawful s y n r (inr fork) lawful = subst AllLawful (sym fork.1) lawful

  -- a test is before it that is before its test and its no side
  pub join_first : (q s : Test) (y n r : Tree L) → IsJoin s y n r → IsBefore q (Fork s y n) → IsBefore q n → IsBefore q r
  join_first q s y n r (inl same) root side = subst (IsBefore q) (sym same.1) side
  join_first q s y n r (inr fork) root side = subst (IsBefore q) (sym fork.1) root

  -- it has the value of the side that the test chooses
  pub join_value : (s : Test) (y n r : Tree L) (x : Numbers) → IsJoin s y n r → IsBefore s n → Ascends n
      → value r x ≡ (if passes s x then value y x else value n x)
  join_value s y n r x (inl same) first up = ap (λ t. value t x) same.1 ∙ by (passes s x) refl
    where
      by : (b : Bool) → passes s x ≡ b → value n x ≡ (if b then value y x else value n x)
      by true pass = sym (past_value s n x first up pass) ∙ ap (λ t. value t x) (sym same.0)
      by false fail = refl
  join_value s y n r x (inr fork) first up = ap (λ t. value t x) fork.1
