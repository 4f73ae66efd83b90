-- The ends of links are ports, and the end at the other side of one is linked too.
use Rattle.std.proofs.Common.{◌≡◌, ◌<◌, ◌^◌, ℕ, Bool, true, false, ◌||◌, ◌==◌, if◌then◌else◌, List, [], ◌∷◌, Some, refl, sym, ap, subst, arith}
use Rattle.std.specs.Prelude.{IsTrue, is_some}
use Rattle.std.specs.List.{AllByRecursion, list_any}
use Rattle.std.proofs.lemmas.Bool.{and_parts, true≢false}
use Rattle.std.proofs.lemmas.Bool.Decides.{nat_tests}
use Rattle.std.proofs.lemmas.List.Elements.{recursion_from_All}
use Rattle.std.proofs.lemmas.Option.{same_Some, none-some}
use Rattle.pq_model.specs.Install.{IsLawfulLink, IsLawfulSwitch}
use Rattle.pq_model.specs.MatchFields.{IsPortNumber}
use Rattle.pq_model.specs.Topology.{Link, Switch, Topology, is_end, is_port, peer_in, ports_in}

-- a port of the topology
abbrev IsPort : Topology → ℕ × ℕ → Type 0
IsPort T e = IsTrue (is_port T e.0 e.1)

-- a link whose ends these are
itself : (e : ℕ × ℕ) → is_end e e.0 e.1 ≡ true
itself e = grind (arith, nat_tests)

end_is : (e : ℕ × ℕ) (d p : ℕ) → is_end e d p ≡ true → (e.0 ≡ d) × (e.1 ≡ p)
end_is e d p is = let parts = and_parts (e.0 == d) (e.1 == p) is in (grind (arith, nat_tests), grind (arith, nat_tests))

-- the end of a link is found
found : (ls : List Link) (e : ℕ × ℕ) → is_some (peer_in ls e.0 e.1) ≡ true → (l : Link) → is_some (peer_in (l ∷ ls) e.0 e.1) ≡ true
found ls e more l = by (is_end l.first e.0 e.1) (is_end l.second e.0 e.1)
  where
    by : (b c : Bool) → is_some (if b then Some l.second else if c then Some l.first else peer_in ls e.0 e.1) ≡ true
    by true c = refl
    by false true = refl
    by false false = more

first_found : (ls : List Link) (l : Link) → is_some (peer_in (l ∷ ls) l.first.0 l.first.1) ≡ true
first_found ls l = ap
    (λ b. is_some (if b then Some l.second else if is_end l.second l.first.0 l.first.1 then Some l.first else peer_in ls l.first.0
    l.first.1)) (itself l.first)

second_found : (ls : List Link) (l : Link) → is_some (peer_in (l ∷ ls) l.second.0 l.second.1) ≡ true
second_found ls l = by (is_end l.first l.second.0 l.second.1) (is_end l.second l.second.0 l.second.1) (itself l.second)
  where
    by : (b c : Bool) → c ≡ true → is_some (if b then Some l.second else if c then Some l.first else peer_in ls l.second.0 l.second.1) ≡ true
    by true c e = refl
    by false true e = refl
    by false false e = absurd (true≢false (sym e))

-- the other end of a link is linked
pub peer_linked : (ls : List Link) (d p : ℕ) (e : ℕ × ℕ) → peer_in ls d p ≡ Some e → is_some (peer_in ls e.0 e.1) ≡ true
peer_linked [] d p e is = absurd (none-some e is)
peer_linked (l ∷ ls) d p e is = by (is_end l.first d p) (is_end l.second d p) is (peer_linked ls d p e)
  where
    by : (b c : Bool) → (if b then Some l.second else if c then Some l.first else peer_in ls d p) ≡ Some e
        → (peer_in ls d p ≡ Some e → is_some (peer_in ls e.0 e.1) ≡ true) → is_some (peer_in (l ∷ ls) e.0 e.1) ≡ true
    by true c is more = subst (λ (z : ℕ × ℕ). is_some (peer_in (l ∷ ls) z.0 z.1) ≡ true) (same_Some l.second e is) (second_found ls l)
    by false true is more = subst (λ (z : ℕ × ℕ). is_some (peer_in (l ∷ ls) z.0 z.1) ≡ true) (same_Some l.first e is) (first_found ls l)
    by false false is more = found ls e (more is) l

-- and it is a port
pub peer_port : (T : Topology) (ls : List Link) (d p : ℕ) (e : ℕ × ℕ) → AllByRecursion (IsLawfulLink T) ls → peer_in ls d p ≡ Some e
    → IsTrue (is_port T e.0 e.1)
peer_port T [] d p e all is = absurd (none-some e is)
peer_port T (l ∷ ls) d p e all is = by (is_end l.first d p) (is_end l.second d p) is (peer_port T ls d p e all.1)
  where
    by : (b c : Bool) → (if b then Some l.second else if c then Some l.first else peer_in ls d p) ≡ Some e → (peer_in ls d p ≡ Some e → IsPort T e) → IsPort T e
    by true c is more = subst (IsPort T) (same_Some l.second e is) all.0.1
    by false true is more = subst (IsPort T) (same_Some l.first e is) all.0.0
    by false false is more = more is

-- a port among lawful ones has the number of a port
port_number : (p : ℕ) (qs : List ℕ) → AllByRecursion IsPortNumber qs → list_any (λ q. q == p) qs ≡ true → IsPortNumber p
port_number p [] each e = absurd (true≢false (sym e))
port_number p (q ∷ qs) each e = by (q == p) refl e (port_number p qs each.1)
  where
    by : (b : Bool) → (q == p) ≡ b → b || list_any (λ q. q == p) qs ≡ true → (list_any (λ q. q == p) qs ≡ true → IsPortNumber p) → IsPortNumber p
    by true same e more = let is : q ≡ p = grind (arith, nat_tests) in subst IsPortNumber is each.0
    by false same e more = more e

-- the numbers of a port of a lawful topology
abbrev pub ArePortNumbers : ℕ → ℕ → Type 0
ArePortNumbers d p = (d < 2 ^ 64) × IsPortNumber p

pub port_numbers : (ss : List Switch) (d p : ℕ) → AllByRecursion IsLawfulSwitch ss → list_any (λ q. q == p) (ports_in ss d) ≡ true → ArePortNumbers d p
port_numbers [] d p all e = absurd (true≢false (sym e))
port_numbers (s ∷ ss) d p all e = by (s.datapath == d) refl e (port_numbers ss d p all.1)
  where
    by : (b : Bool) → (s.datapath == d) ≡ b → list_any (λ q. q == p) (if b then s.ports else ports_in ss d) ≡ true
        → (list_any (λ q. q == p) (ports_in ss d) ≡ true → ArePortNumbers d p) → ArePortNumbers d p
    by true same e more =
        let is : s.datapath ≡ d = grind (arith, nat_tests) in
        (subst (λ n. n < 2 ^ 64) is all.0.0, port_number p s.ports (recursion_from_All IsPortNumber s.ports all.0.3) e)
    by false same e more = more e

-- the end of a link is a port
pub linked_port : (T : Topology) (ls : List Link) (d p : ℕ) → AllByRecursion (IsLawfulLink T) ls → is_some (peer_in ls d p) ≡ true → IsTrue (is_port T d p)
linked_port T [] d p all linked = absurd (true≢false (sym linked))
linked_port T (l ∷ ls) d p all linked = by (is_end l.first d p) (is_end l.second d p) refl refl linked (linked_port T ls d p all.1)
  where
    at : (e : ℕ × ℕ) → is_end e d p ≡ true → IsPort T e → IsTrue (is_port T d p)
    at e is port = let same = end_is e d p is in subst (λ n. IsTrue (is_port T n p)) same.0 (subst (λ n. IsTrue (is_port T e.0 n)) same.1 port)

    by : (b c : Bool) → is_end l.first d p ≡ b → is_end l.second d p ≡ c
        → is_some (if b then Some l.second else if c then Some l.first else peer_in ls d p) ≡ true
        → (is_some (peer_in ls d p) ≡ true → IsTrue (is_port T d p)) → IsTrue (is_port T d p)
    by true c e f linked more = at l.first e all.0.0
    by false true e f linked more = at l.second f all.0.1
    by false false e f linked more = more linked
