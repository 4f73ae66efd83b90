-- The parts of a switch statement, as its terms tell them.
use Rattle.std.specs.Prelude.{◌≡◌, ℕ, ◌-◌, ◌<◌, ◌≤◌, List, [], ◌∷◌, length, get_or, Result, Err}
use Rattle.std.proofs.Common.{arith, drop, take, ap, sym, subst, refl, ◌∙◌}
use Rattle.std.proofs.lemmas.List.{take_rest}
use Rattle.pq_term.specs.declared.token.Token.{Token}
use Rattle.pq_tree.specs.declared.term.Term.{Term}
use Rattle.pq_tree.specs.declared.term.Term.TheViews.{out-Term}
use Rattle.pq_tree.specs.Trees.{Forest, nothing, grown, trees}
use Rattle.pq_model.specs.Topology.{Switch}
use Rattle.pq_topo.specs.declared.fault.NameFault.{NameFault}
use Rattle.pq_topo.specs.declared.fault.NameFault.TheVariants.{Name}
use Rattle.pq_topo.specs.declared.fault.NameKind.TheVariants.{BadValue}
use Rattle.pq_topo.specs.Naming.{IsAnswer, faulty}
use Rattle.pq_topo.specs.Statements.{Seen, switch_from, switch_of}
use Rattle.pq_topo.proofs.Terms.{trees_first}

-- a term's head, and the trees below it
abbrev head : Term → Token
head t = (out-Term t).head

abbrev below : Term → Forest
below t = trees (out-Term t).children.now

three : (a b l : Term) (rest : List Term)
    → trees (a ∷ b ∷ l ∷ rest) ≡ grown (head a) (below a) (grown (head b) (below b) (grown (head l) (below l) (trees rest)))
three a b l rest = trees_first a (b ∷ l ∷ rest) ∙ ap (grown (head a) (below a)) (trees_first b (l ∷ rest) ∙ ap (grown (head b) (below b)) (trees_first l rest))

module _ (bytes : List ℕ) (before : Seen) (keyword : Token) where
  abbrev of : Forest → Result Switch NameFault → Type 0
  of f r = IsAnswer (λ switch. switch) r (switch_of bytes before keyword f)

  refused : (fault : NameFault) → fault ≡ Name keyword.at BadValue → IsAnswer (λ (switch : Switch). switch) (Err fault) (faulty keyword BadValue)
  refused fault e = rw e refl

  -- fewer than three parts
  pub too_few_parts : (ts : List Term) → length ts < 3 → (fault : NameFault) → fault ≡ Name keyword.at BadValue → of (trees ts) (Err fault)
  too_few_parts [] few fault e = refused fault e
  too_few_parts (a ∷ []) few fault e = refused fault e
  too_few_parts (a ∷ b ∷ []) few fault e = refused fault e
  too_few_parts (a ∷ b ∷ l ∷ rest) few fault e = let no : ⊥ = omega (arith, few) in absurd no

  bare : (ts : List Term) → length ts < 1 → trees ts ≡ nothing
  bare [] few = refl
  bare (t ∷ ts) few = let no : ⊥ = omega (arith, few) in absurd no

  -- no port is listed
  pub no_ports : (ts : List Term) (d : Term) → 3 ≤ length ts → length (out-Term (get_or ts 2 d)).children.now < 1 → (fault : NameFault)
      → fault ≡ Name keyword.at BadValue → of (trees ts) (Err fault)
  no_ports [] d long few fault e = let no : ⊥ = omega (arith, long) in absurd no
  no_ports (a ∷ []) d long few fault e = let no : ⊥ = omega (arith, long) in absurd no
  no_ports (a ∷ b ∷ []) d long few fault e = let no : ⊥ = omega (arith, long) in absurd no
  no_ports (a ∷ b ∷ l ∷ rest) d long few fault e =
      let shape = three a b l rest ∙ ap (λ f. grown (head a) (below a) (grown (head b) (below b) (grown (head l) f (trees rest))))
      (bare (out-Term l).children.now few) in
      subst (λ f. of f (Err fault)) (sym shape) (refused fault e)

  listed : (name datapath list : Token) (x y : Forest) (ts : List Term) (rest : Forest) (r : Result Switch NameFault) → 1 ≤ length ts
      → IsAnswer (λ switch. switch) r (switch_from bytes before keyword name datapath (trees ts) rest)
      → of (grown name x (grown datapath y (grown list (trees ts) rest))) r
  listed name datapath list x y [] rest r some answer = let no : ⊥ = omega (arith, some) in absurd no
  listed name datapath list x y (t ∷ ts) rest r some answer = answer

  parted : (ts : List Term) (d e f : Term) → 3 ≤ length ts → 1 ≤ length (out-Term (get_or ts 2 f)).children.now
      → (r : Result Switch NameFault)
      → IsAnswer (λ switch. switch) r (switch_from bytes before keyword (head (get_or ts 0 d)) (head (get_or ts 1 e))
      (below (get_or ts 2 f)) (trees (drop 3 ts))) → of (trees ts) r
  parted [] d e f long some r answer = let no : ⊥ = omega (arith, long) in absurd no
  parted (a ∷ []) d e f long some r answer = let no : ⊥ = omega (arith, long) in absurd no
  parted (a ∷ b ∷ []) d e f long some r answer = let no : ⊥ = omega (arith, long) in absurd no
  parted (a ∷ b ∷ l ∷ rest) d e f long some r answer =
      subst (λ g. of g r) (sym (three a b l rest)) (listed (head a) (head b) (head l) (below a) (below b) (out-Term l).children.now (trees rest) r some answer)

  -- all parts are there
  pub all_parts : (ts : List Term) (d e f : Term) → 3 ≤ length ts → 1 ≤ length (out-Term (get_or ts 2 f)).children.now
      → (r : Result Switch NameFault)
      → IsAnswer (λ switch. switch) r (switch_from bytes before keyword (head (get_or ts 0 d)) (head (get_or ts 1 e))
      (below (get_or ts 2 f)) (trees (take (length ts - 3) (drop 3 ts)))) → of (trees ts) r
  all_parts ts d e f long some r answer =
      let rest : take (length ts - 3) (drop 3 ts) ≡ drop 3 ts = take_rest ts 3 in
      parted ts d e f long some r
      (subst (λ us. IsAnswer (λ switch. switch) r (switch_from bytes before keyword (head (get_or ts 0 d)) (head (get_or ts 1 e))
      (below (get_or ts 2 f)) (trees us))) rest answer)
