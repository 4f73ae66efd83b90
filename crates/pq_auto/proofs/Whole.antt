-- The automaton of the classes of the last round is the least, and says the same.
use Rattle.std.proofs.Common.{ℕ, ◌≡◌, Bool, List, refl, sym, ap, subst, ◌∙◌}
use Rattle.pq_auto.specs.Machine.{Machine, IsMachine, IsLeastMachine, SaySame, reached}
use Rattle.pq_auto.specs.Numbering.{IsNumbered}
use Rattle.pq_auto.specs.Parts.{Parts, class_of}
use Rattle.pq_auto.specs.Refinement.{AreJoined, IsLast, quotient}
use Rattle.pq_auto.proofs.LeastWords as words
use Rattle.pq_auto.proofs.Quotients as quotients

-- an automaton is its parts
pub of_parts : (m : Machine) (letters : ℕ) (rows : List (List ℕ)) (even : List Bool) (accepted : List (List ℕ)) → letters ≡ m.letters
    → rows ≡ m.rows → even ≡ m.even → accepted ≡ m.accepted
    → record { letters = letters; rows = rows; even = even; accepted = accepted } ≡ m
of_parts m letters rows even accepted a b c d = rw (a, b, c, d) refl

module _ (m : Machine) (p : Parts) (machine : IsMachine m) (last : IsLast m p) (a : Machine) (is : a ≡ quotient m p) where
  pub is_machine : IsMachine a
  is_machine = subst IsMachine (sym is) (quotients.is_machine m p machine last)

  pub is_least : IsLeastMachine a
  is_least = subst IsLeastMachine (sym is) (quotients.is_least m p machine last)

  pub is_numbered : IsNumbered m → IsNumbered a
  is_numbered numbered = subst IsNumbered (sym is) (words.is_numbered m p machine numbered last)

  pub says_same : SaySame m a
  says_same = subst (λ b. SaySame m b) (sym is) (quotients.says_same m p machine last)

  pub are_joined : AreJoined m a
  are_joined = (class_of p, λ w below. ap (λ b. reached b w) is ∙ quotients.leads_to m p machine last w below)
