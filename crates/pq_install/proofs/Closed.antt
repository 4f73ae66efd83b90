-- What keeps the rules of a list keeps them where it is cut short.
use Rattle.std.specs.Prelude.{◌≡◌, ℕ, ◌<◌, bytes_eq, List, [], ◌∷◌, ◌++◌, All, length}
use Rattle.std.proofs.Common.{arith, sym, append_assoc, subst}
use Rattle.std.specs.List.{IsDistinct}
use Rattle.std.proofs.lemmas.List.Sums.{sum_by-append}
use Rattle.pq_model.specs.Topology.{Switch}
use Rattle.pq_model.specs.TablesMachine.{Row}
use Rattle.pq_model.specs.Install.{IsLawfulLink, IsLawfulRow, ends_of, link_numbers}
use Rattle.pq_topo.proofs.LinkRules.{one_link}
use Rattle.pq_install.specs.Links.{AreReadLinks, same_end, unlinked}
use Rattle.pq_install.specs.Names.{AreReadNames, IsName}
use Rattle.pq_install.specs.Rows.{AreReadRows}
use Rattle.pq_install.specs.Switches.{AreReadSwitches, IsReadSwitch}
use Rattle.pq_install.proofs.Chains.{chain_more, ascending_chain, ascending_by_chain}
use Rattle.pq_install.proofs.Distinct.{distinct_more}
use Rattle.pq_install.proofs.LinkLists.{Below}
use Rattle.pq_install.proofs.UnitLists.{all_more}

-- rules that a list keeps where it keeps them with one more
abbrev pub Closed : {X : Type 0} → (List X → Type 0) → Type 0
Closed {X} Rules = (xs : List X) (x : X) → Rules (xs ++ x ∷ []) → Rules xs

-- so a list keeps them up to any of its values
pub up_to : {X : Type 0} (Rules : List X → Type 0) → Closed Rules → (xs : List X) (x : X) (ys : List X) → Rules (xs ++ x ∷ ys) → Rules (xs ++ x ∷ [])
up_to Rules closed xs x [] rules = rules
up_to Rules closed xs x (y ∷ ys) rules =
    let regrouped : (xs ++ x ∷ []) ++ y ∷ ys ≡ xs ++ x ∷ y ∷ ys = append_assoc xs (x ∷ []) (y ∷ ys) in
    closed (xs ++ x ∷ []) y (up_to Rules closed (xs ++ x ∷ []) y ys (subst Rules (sym regrouped) rules))

pub all_closed : {X : Type 0} (P : X → Type 0) → Closed (All P)
all_closed P xs x all = ((all_more P xs x).0 all).0

pub switches_closed : Closed AreReadSwitches
switches_closed ss s are =
    let above = λ (t u : Switch). t.datapath < u.datapath in
    let up = ascending_chain (λ (t : Switch). t.datapath) in
    record {
      each = ((all_more IsReadSwitch ss s).0 are.each).0;
      ascending = (up ss).1 ((chain_more above ss s).0 ((up (ss ++ s ∷ [])).0 are.ascending)).0;
      few_ports = omega (arith, sum_by-append (λ (t : Switch). length t.ports) ss (s ∷ []), are.few_ports);
    }

pub links_closed : (ss : List Switch) → Closed (AreReadLinks ss)
links_closed ss ls l are =
    let up = ascending_by_chain link_numbers in
    let ends = subst (λ (es : List (ℕ × ℕ)). IsDistinct same_end es) (one_link ls l) are.linked_once in
    record {
      each = ((all_more (IsLawfulLink (unlinked ss)) ls l).0 are.each).0;
      linked_once = ((distinct_more same_end (ends_of ls) l.first).0 ((distinct_more same_end (ends_of ls ++ l.first ∷ []) l.second).0 ends).0).0;
      ascending = (up ls).1 ((chain_more Below ls l).0 ((up (ls ++ l ∷ [])).0 are.ascending)).0;
    }

pub names_closed : Closed AreReadNames
names_closed names name are = record {
  each = ((all_more IsName names name).0 are.each).0;
  differ = ((distinct_more bytes_eq names name).0 are.differ).0;
}

pub rows_closed : (queries : ℕ) → Closed (AreReadRows queries)
rows_closed queries rows row are =
    let above = λ (r s : Row). r.tag < s.tag in
    let up = ascending_chain (λ (r : Row). r.tag) in
    record {
      each = ((all_more (IsLawfulRow queries) rows row).0 are.each).0;
      ascending = (up rows).1 ((chain_more above rows row).0 ((up (rows ++ row ∷ [])).0 are.ascending)).0;
    }
