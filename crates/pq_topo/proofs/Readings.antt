-- What is known of a reading that gives a value.
use Rattle.std.specs.Prelude.{◌≡◌, Bool, true, false, if◌then◌else◌, List, [], ◌∷◌, Ok, Err}
use Rattle.std.proofs.Common.{refl}
use Rattle.std.specs.List.{AllByRecursion}
use Rattle.pq_term.specs.declared.token.Token.{Token}
use Rattle.pq_topo.specs.declared.fault.NameKind.{NameKind}
use Rattle.pq_topo.specs.Naming.{Reading, faulty, unless, next}

-- both readings gave a value
pub next_ok : {A B : Type 0} (r : Reading A) (f : A → Reading B) (v : B) → next r f ≡ Ok v → (a : A) × (r ≡ Ok a) × (f a ≡ Ok v)
next_ok (Ok a) f v e = (a, refl, e)
next_ok (Err fault) f v e = absurd cc

-- no rule is broken
pub unless_ok : {A : Type 0} (t : Token) (rules : List (Bool × NameKind)) (v w : A) → unless t rules v ≡ Ok w
    → AllByRecursion (λ rule. rule.0 ≡ false) rules × (v ≡ w)
unless_ok t [] v w e = (tt, cc)
unless_ok t (rule ∷ rules) v w e = by rule.0 refl e (unless_ok t rules v w)
  where
    by : (b : Bool) → rule.0 ≡ b → (if b then faulty t rule.1 else unless t rules v) ≡ Ok w
        → (unless t rules v ≡ Ok w → AllByRecursion (λ rule. rule.0 ≡ false) rules × (v ≡ w))
        → AllByRecursion (λ rule. rule.0 ≡ false) (rule ∷ rules) × (v ≡ w)
    by true p e more = absurd cc
    by false p e more = let r = more e in ((p, r.0), r.1)
