-- Which link may follow others.
use Rattle.std.specs.Prelude.{◌≡◌, ℕ, ◌↔◌, Bool, true, false, IsTrue, ◌||◌, ◌==◌, List, [], ◌∷◌, ◌++◌, All}
use Rattle.std.proofs.Common.{arith, inl, inr, refl, sym, ap, ◌∙◌}
use Rattle.std.specs.List.{IsDistinct, list_any}
use Rattle.std.proofs.lemmas.Bool.Decides.{nat_tests}
use Rattle.std.proofs.lemmas.List.Elements.{All-tail}
use Rattle.std.proofs.lemmas.Bool.{or_cases}
use Rattle.pq_fields.specs.Packet.{is_before}
use Rattle.pq_model.specs.MatchFields.{IsPortNumber}
use Rattle.pq_model.specs.Topology.{Switch, Link, ports_in}
use Rattle.pq_model.specs.Install.{IsLawfulLink, end_numbers, ends_of, link_numbers}
use Rattle.pq_topo.proofs.LinkRules.{one_link}
use Rattle.pq_install.specs.Following.{AtLast}
use Rattle.pq_install.specs.Front.{IsU32}
use Rattle.pq_install.specs.Links.{AreReadLinks, HasEnds, IsEnd, same_end, unlinked}
use Rattle.pq_install.specs.Switches.{AreReadSwitches, IsReadSwitch}
use Rattle.pq_install.proofs.Chains.{chain_more, ascending_by_chain}
use Rattle.pq_install.proofs.Distinct.{distinct_more}
use Rattle.pq_install.proofs.UnitLists.{all_more}

-- one link before another
abbrev pub Below : Link → Link → Type 0
Below l m = IsTrue (is_before (link_numbers l) (link_numbers m))

-- an end that is before another is not the same
ends_differ : (d e : ℕ × ℕ) → is_before (end_numbers d) (end_numbers e) ≡ true → same_end d e ≡ false
ends_differ d e below = grind (arith, nat_tests, below)

list_any_more : {X : Type 0} (p : X → Bool) (xs : List X) (x : X) → p x ≡ false → list_any p (xs ++ x ∷ []) ≡ list_any p xs
list_any_more p [] x fails = rw fails refl
list_any_more p (y ∷ ys) x fails = ap (λ (b : Bool). p y || b) (list_any_more p ys x fails)

-- the ends of one more link differ from all others
ends_more : (before : List Link) (l : Link) → same_end l.first l.second ≡ false
    → IsDistinct same_end (ends_of (before ++ l ∷ [])) ↔ IsDistinct same_end (ends_of before)
    × (list_any (λ e. same_end e l.first) (ends_of before) ≡ false) × (list_any (λ e. same_end e l.second) (ends_of before) ≡ false)
ends_more before l differ =
    let first = distinct_more same_end (ends_of before) l.first in
    let second = distinct_more same_end (ends_of before ++ l.first ∷ []) l.second in
    let skip : list_any (λ e. same_end e l.second) (ends_of before ++ l.first ∷ []) ≡ list_any (λ e. same_end e l.second) (ends_of before) =
    list_any_more (λ e. same_end e l.second) (ends_of before) l.first differ in
    rw (one_link before l) (λ d. let s = second.0 d in let f = first.0 s.0 in (f.0, f.1, sym skip ∙ s.1), λ d. second.1 (first.1 (d.0, d.1), skip ∙ d.2))

-- a link between ports above the last, whose ends are in no other link
pub link_follows : (ss : List Switch) (before : List Link) (l : Link) → AreReadLinks ss before
    → IsLawfulLink (unlinked ss) l × AtLast (λ m. Below m l) before × (list_any (λ e. same_end e l.first) (ends_of before) ≡ false)
    × (list_any (λ e. same_end e l.second) (ends_of before) ≡ false) ↔ AreReadLinks ss (before ++ l ∷ [])
link_follows ss before l are =
    let chain = chain_more Below before l in
    let up = ascending_by_chain link_numbers in
    let each = all_more (IsLawfulLink (unlinked ss)) before l in (
      λ may. record {
        each = each.1 (are.each, may.0);
        linked_once = (ends_more before l (ends_differ l.first l.second may.0.2)).1 (are.linked_once, may.2, may.3);
        ascending = (up (before ++ l ∷ [])).1 (chain.1 ((up before).0 are.ascending, may.1));
      },
      λ all.
          let lawful = (each.0 all.each).1 in
          let once = (ends_more before l (ends_differ l.first l.second lawful.2)).0 all.linked_once in
          (lawful, (chain.0 ((up (before ++ l ∷ [])).0 all.ascending)).1, once.1, once.2),
    )

port_among : (ps : List ℕ) (p : ℕ) → All IsPortNumber ps → list_any (λ q. q == p) ps ≡ true → IsU32 p
port_among [] p fit there = absurd cc
port_among (q ∷ qs) p fit there =
    elim (or_cases (q == p) (list_any (λ r. r == p) qs) there) [
      | inl here ↦ let same : q ≡ p = grind (arith, nat_tests, here) in omega (arith, same, (fit 0 q (omega arith)).1)
      | inr later ↦ port_among qs p (All-tail IsPortNumber q qs fit) later
    ]

-- a port of a switch fits its place, and so does the switch's number
pub port_fits : (ss : List Switch) (d p : ℕ) → All IsReadSwitch ss → list_any (λ q. q == p) (ports_in ss d) ≡ true → IsEnd (d, p)
port_fits [] d p each there = absurd cc
port_fits (s ∷ ss) d p each there =
    by (port_fits ss d p (All-tail IsReadSwitch s ss each)) (s.datapath == d) refl
  where
    fit : IsReadSwitch s
    fit = each 0 s (omega arith)

    by : (list_any (λ q. q == p) (ports_in ss d) ≡ true → IsEnd (d, p)) → (b : Bool) → (s.datapath == d) ≡ b → IsEnd (d, p)
    by later true e =
        let same : s.datapath ≡ d = grind (arith, nat_tests, e) in
        (omega (arith, same, fit.0.0), port_among s.ports p fit.0.3 (rw e at there))
    by later false e = later (rw e at there)

-- links may begin
pub no_links : (ss : List Switch) → AreReadLinks ss []
unfolding IsDistinct
no_links ss = record { each = λ k d below. absurd (omega (arith, below)); linked_once = tt; ascending = tt }

pub last_has_ends : (ss : List Switch) (before : List Link) → AreReadSwitches ss → (l : Link) → AreReadLinks ss (before ++ l ∷ []) → HasEnds l
last_has_ends ss before switches l are =
    let lawful = ((all_more (IsLawfulLink (unlinked ss)) before l).0 are.each).1 in
    (port_fits ss l.first.0 l.first.1 switches.each lawful.0, port_fits ss l.second.0 l.second.1 switches.each lawful.1)
