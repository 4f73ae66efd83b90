-- The rules that the links of a document keep.
use Rattle.std.specs.Prelude.{◌≡◌, ℕ, Bool, true, false, not, ◌&&◌, ◌||◌, if◌then◌else◌, List, [], ◌∷◌, ◌++◌, map, ◌==◌, IsTrue, Ok}
use Rattle.std.proofs.Common.{arith, refl, sym, subst, ◌∙◌, IsPermutation, append_assoc}
use Rattle.std.specs.List.{AllByRecursion, IsDistinct, list_any}
use Rattle.std.specs.Cmp.{IsEquivalence, nat_eq_equiv}
use Rattle.std.proofs.lemmas.Bool.{and_parts}
use Rattle.std.proofs.lemmas.List.Concat.{flat_map-append}
use Rattle.std.proofs.lemmas.List.Sorted.{IsPermutation-refl, IsPermutation-cons, IsPermutation-trans, IsPermutation-swap}
use Rattle.std.proofs.lemmas.List.Sorted.{IsPermutation-append, IsPermutation-append_comm}
use Rattle.std.proofs.lemmas.List.Elements.{All-from_recursion}
use Rattle.std.proofs.lemmas.Map.Keys.{IsDistinct-push, IsDistinct-IsPermutation}
use Rattle.pq_lists.proofs.Holding.{all_push}
use Rattle.pq_fields.specs.Packet.{is_before}
use Rattle.pq_term.specs.declared.token.Token.{Token}
use Rattle.pq_tree.specs.Trees.{Forest, nothing, grown}
use Rattle.pq_model.specs.Sorting.{put_by, sort_by}
use Rattle.pq_model.specs.Topology.{Switch, Link, Topology, is_port, is_end}
use Rattle.pq_model.specs.Install.{IsLawfulLink, end_numbers, link_numbers, ends_of}
use Rattle.pq_model.proofs.Sorted.{sort-all}
use Rattle.pq_grammar.specs.declared.class.Class.TheVariants.{LinkWord}
use Rattle.pq_topo.specs.declared.fault.NameKind.TheVariants.{UnknownPort, Doubled}
use Rattle.pq_topo.specs.Named.{IsNamedTopology}
use Rattle.pq_topo.specs.Naming.{next}
use Rattle.pq_topo.specs.Statements.{number_in, switch_at, end_of, link_of, begins_with, links_after, ordered, in_order}
use Rattle.pq_topo.proofs.Readings.{next_ok, unless_ok}
use Rattle.pq_topo.proofs.Ordered.{sort_ascends, same_key, one_is_before}

-- the same end
abbrev pub same_end : ℕ × ℕ → ℕ × ℕ → Bool
same_end d e = (d.0 == e.0) && (d.1 == e.1)

both_refl : (a : Bool) (b : Bool) → a ≡ true → b ≡ true → a && b ≡ true
both_refl a b p q = rw (p, q) refl

end_equiv : IsEquivalence same_end
end_equiv = record {
  refl = λ d. both_refl (d.0 == d.0) (d.1 == d.1) (nat_eq_equiv.refl d.0) (nat_eq_equiv.refl d.1);
  symm = λ d e. (λ i. nat_eq_equiv.symm d.0 e.0 i && nat_eq_equiv.symm d.1 e.1 i);
  congr = λ d e f same. (let parts = and_parts (d.0 == e.0) (d.1 == e.1) same in
      (λ i. nat_eq_equiv.congr d.0 e.0 f.0 parts.0 i && nat_eq_equiv.congr d.1 e.1 f.1 parts.1 i));
}

-- Links as they are read.

-- the ends of one link more
pub one_link : (ls : List Link) (l : Link) → ends_of (ls ++ l ∷ []) ≡ (ends_of ls ++ l.first ∷ []) ++ l.second ∷ []
one_link ls l = flat_map-append (λ (m : Link). m.first ∷ m.second ∷ []) ls (l ∷ []) ∙ sym (append_assoc (ends_of ls) (l.first ∷ []) (l.second ∷ []))

module _ (switches : List Switch) where
  abbrev network : Topology
  network = record { switches = switches; links = [] }

  abbrev IsPortAt : ℕ × ℕ → Type 0
  IsPortAt e = IsTrue (is_port network e.0 e.1)

  -- a link between two different ports
  abbrev pub IsReadLink : Link → Type 0
  IsReadLink l = IsPortAt l.first × IsPortAt l.second × (same_end l.first l.second ≡ false)

  pub record AreReadLinks (ls : List Link) : Type 0 where
    pub each : AllByRecursion IsReadLink ls
    pub distinct : IsDistinct same_end (ends_of ls)

  end_kept : (bytes : List ℕ) (ends : List (ℕ × ℕ)) (name port : Token) (e : ℕ × ℕ) → end_of bytes switches ends name port ≡ Ok e
      → IsPortAt e × (list_any (same_end e) ends ≡ false)
  end_kept bytes ends name port e given =
      let told = next_ok (switch_at bytes switches name) _ e given in
      let n = number_in bytes port in
      let rules = unless_ok port ((not (is_port network told.0 n), UnknownPort) ∷ (
        list_any (λ d. is_end (told.0, n) d.0 d.1) ends,
        Doubled,
      ) ∷ []) (told.0, n) e told.2 in
      subst (λ d. IsPortAt d × (list_any (same_end d) ends ≡ false)) rules.1 (is_true (is_port network told.0 n) rules.0.0, rules.0.1.0)
    where
      is_true : (b : Bool) → not b ≡ false → IsTrue b
      is_true true e = refl
      is_true false e = absurd cc

  any_last : (p : ℕ × ℕ → Bool) (es : List (ℕ × ℕ)) (e : ℕ × ℕ) → list_any p (es ++ e ∷ []) ≡ false → p e ≡ false
  any_last p [] e h = by (p e) h
    where
      by : (b : Bool) → b || false ≡ false → b ≡ false
      by true h = h
      by false h = h
  any_last p (d ∷ es) e h = any_last p es e (by (p d) (list_any p (es ++ e ∷ [])) h)
    where
      by : (b c : Bool) → b || c ≡ false → c ≡ false
      by true c h = absurd cc
      by false c h = h

  link_kept : (bytes : List ℕ) (earlier : List Link) (keyword : Token) (f : Forest) (l : Link)
      → link_of bytes switches (ends_of earlier) keyword f ≡ Ok l → AreReadLinks earlier → AreReadLinks (earlier ++ l ∷ [])
  link_kept bytes earlier keyword nothing l e are = absurd cc
  link_kept bytes earlier keyword (grown name x nothing) l e are = absurd cc
  link_kept bytes earlier keyword (grown name x (grown port y nothing)) l e are = absurd cc
  link_kept bytes earlier keyword (grown name x (grown port y (grown other z nothing))) l e are = absurd cc
  link_kept bytes earlier keyword (grown name x (grown port y (grown other z (grown peer w rest)))) l e are =
      let ends = ends_of earlier in
      let one = next_ok (end_of bytes switches ends name port) _ l e in
      let d = one.0 in
      let two = next_ok (end_of bytes switches (ends ++ d ∷ []) other peer) _ l one.2 in
      let c = two.0 in
      let first = end_kept bytes ends name port d one.1 in
      let second = end_kept bytes (ends ++ d ∷ []) other peer c two.1 in
      let is : record { first = d; second = c } ≡ l = cc in
      let apart : same_end d c ≡ false = end_equiv.symm d c ∙ any_last (same_end c) ends d second.1 in
      let more = IsDistinct-push end_equiv (ends ++ d ∷ []) c (IsDistinct-push end_equiv ends d are.distinct first.1) second.1 in
      subst (λ k. AreReadLinks (earlier ++ k ∷ [])) is (record {
        each = all_push IsReadLink earlier (record { first = d; second = c }) are.each (first.0, second.0, apart);
        distinct = subst (IsDistinct same_end) (sym (one_link earlier (record { first = d; second = c }))) more;
      })

  -- all links that are read keep the rules
  pub links_kept : (bytes : List ℕ) (earlier : List Link) (f : Forest) (ls : List Link) → links_after bytes switches earlier f ≡ Ok ls
      → AreReadLinks earlier → AreReadLinks ls
  links_kept bytes earlier nothing ls e are = let same : earlier ≡ ls = cc in subst AreReadLinks same are
  links_kept bytes earlier (grown head below rest) ls e are =
      by (begins_with bytes LinkWord head) e (λ l. links_kept bytes (earlier ++ l ∷ []) rest ls)
      (λ more. links_kept bytes earlier rest ls more are)
    where
      by : (b : Bool) → (if b then next (link_of bytes switches (ends_of earlier) head below)
          (λ l. links_after bytes switches (earlier ++ l ∷ []) rest) else links_after bytes switches earlier rest) ≡ Ok ls
          → ((l : Link) → links_after bytes switches (earlier ++ l ∷ []) rest ≡ Ok ls → AreReadLinks (earlier ++ l ∷ []) → AreReadLinks ls)
          → (links_after bytes switches earlier rest ≡ Ok ls → AreReadLinks ls) → AreReadLinks ls
      by true e one more =
          let told = next_ok (link_of bytes switches (ends_of earlier) head below) (λ l. links_after bytes switches (earlier ++ l ∷ []) rest) ls e in
          one told.0 told.2 (link_kept bytes earlier head below told.0 told.1 are)
      by false e one more = more e

  no_links : AreReadLinks []
  unfolding IsDistinct
  no_links = record { each = tt; distinct = tt }

-- Links in order.

ends_swapped : (d e : ℕ × ℕ) (es : List (ℕ × ℕ)) → IsPermutation (d ∷ e ∷ es) (e ∷ d ∷ es)
ends_swapped d e es = IsPermutation-swap (d ∷ e ∷ es) (e ∷ d ∷ es) 0 1 (omega arith) (omega arith) refl

-- the smaller end first
ends_ordered : (ls : List Link) → IsPermutation (ends_of ls) (ends_of (map ordered ls))
ends_ordered [] = IsPermutation-refl []
ends_ordered (l ∷ ls) = by (is_before (end_numbers l.second) (end_numbers l.first)) (ends_ordered ls)
  where
    by : (b : Bool) → IsPermutation (ends_of ls) (ends_of (map ordered ls))
        → IsPermutation (l.first ∷ l.second ∷ ends_of ls)
        (ends_of ((if b then record { first = l.second; second = l.first } else l) ∷ map ordered ls))
    by true more = IsPermutation-trans _ (l.second ∷ l.first ∷ ends_of ls) _ (ends_swapped l.first l.second (ends_of ls))
        (IsPermutation-cons l.second _ _ (IsPermutation-cons l.first _ _ more))
    by false more = IsPermutation-cons l.first _ _ (IsPermutation-cons l.second _ _ more)

-- what two permuted lists hold, one value after another
ends_put : (x : Link) (ys : List Link) → IsPermutation (x.first ∷ x.second ∷ ends_of ys) (ends_of (put_by link_numbers x ys))
ends_put x [] = IsPermutation-refl _
ends_put x (y ∷ ys) = by (is_before (link_numbers y) (link_numbers x)) (ends_put x ys)
  where
    ahead : IsPermutation (x.first ∷ x.second ∷ y.first ∷ y.second ∷ ends_of ys) (y.first ∷ y.second ∷ x.first ∷ x.second ∷ ends_of ys)
    ahead = IsPermutation-append (x.first ∷ x.second ∷ y.first ∷ y.second ∷ []) (y.first ∷ y.second ∷ x.first ∷ x.second ∷ []) (ends_of ys)
        (ends_of ys) (IsPermutation-append_comm (x.first ∷ x.second ∷ []) (y.first ∷ y.second ∷ [])) (IsPermutation-refl (ends_of ys))

    by : (b : Bool) → IsPermutation (x.first ∷ x.second ∷ ends_of ys) (ends_of (put_by link_numbers x ys))
        → IsPermutation (x.first ∷ x.second ∷ y.first ∷ y.second ∷ ends_of ys)
        (ends_of (if b then y ∷ put_by link_numbers x ys else x ∷ y ∷ ys))
    by true more = IsPermutation-trans _ (y.first ∷ y.second ∷ x.first ∷ x.second ∷ ends_of ys) _ ahead
        (IsPermutation-cons y.first _ _ (IsPermutation-cons y.second _ _ more))
    by false more = IsPermutation-refl _

ends_sorted : (ls : List Link) → IsPermutation (ends_of ls) (ends_of (sort_by link_numbers ls))
ends_sorted [] = IsPermutation-refl []
ends_sorted (l ∷ ls) = IsPermutation-trans _ (l.first ∷ l.second ∷ ends_of (sort_by link_numbers ls)) _
    (IsPermutation-cons l.first _ _ (IsPermutation-cons l.second _ _ (ends_sorted ls))) (ends_put l (sort_by link_numbers ls))

still_differ : (p q r : Bool) → p && q ≡ false → p && (q && r) ≡ false
still_differ true true r e = absurd cc
still_differ true false r e = refl
still_differ false q r e = refl

-- links whose ends differ have different numbers
numbers_differ : (ls : List Link) → IsDistinct same_end (ends_of ls) → IsDistinct (same_key link_numbers) ls
unfolding IsDistinct
numbers_differ [] d = tt
numbers_differ (l ∷ ls) d = (apart ls d.0.1, numbers_differ ls d.1.1)
  where
    apart : (ks : List Link) → AllByRecursion (λ e. same_end l.first e ≡ false) (ends_of ks) → AllByRecursion (λ k. same_key link_numbers l k ≡ false) ks
    apart [] all = tt
    apart (k ∷ ks) all = (still_differ (l.first.0 == k.first.0) (l.first.1 == k.first.1) _ all.0, apart ks all.1.1)

module _ (ss : List Switch) (ls : List Link) where
  -- a link between two ports, with the smaller end first
  lawful_ordered : (l : Link) → IsReadLink ss l → IsLawfulLink (record { switches = ss; links = in_order ls }) (ordered l)
  lawful_ordered l read = by (is_before (end_numbers l.second) (end_numbers l.first)) refl
    where
      by : (b : Bool) → is_before (end_numbers l.second) (end_numbers l.first) ≡ b
          → IsLawfulLink (record { switches = ss; links = in_order ls }) (if b then record { first = l.second; second = l.first } else l)
      by true e = (read.1, read.0, e)
      by false e = (
        read.0,
        read.1,
        one_is_before (end_numbers l.second) (end_numbers l.first) e
            (still_differ (l.first.0 == l.second.0) (l.first.1 == l.second.1) true read.2),
      )

  all_ordered : (ks : List Link) → AllByRecursion (IsReadLink ss) ks
      → AllByRecursion (IsLawfulLink (record { switches = ss; links = in_order ls })) (map ordered ks)
  all_ordered [] all = tt
  all_ordered (k ∷ ks) all = (lawful_ordered k all.0, all_ordered ks all.1)

  -- the links of a document, in order, are those of a network
  pub linked : IsNamedTopology (record { switches = ss; links = [] }) → AreReadLinks ss ls → IsNamedTopology (record { switches = ss; links = in_order ls })
  linked named are =
      let flat = map ordered ls in
      let apart = IsDistinct-IsPermutation same_end end_equiv.symm (ends_of ls) (ends_of flat) (ends_ordered ls) are.distinct in
      record {
        lawful = record {
          few_switches = named.lawful.few_switches;
          few_ports = named.lawful.few_ports;
          switches = named.lawful.switches;
          ascending = named.lawful.ascending;
          links = All-from_recursion (IsLawfulLink (record { switches = ss; links = in_order ls })) (in_order ls)
              (sort-all link_numbers (IsLawfulLink (record { switches = ss; links = in_order ls })) flat (all_ordered ls are.each));
          linked_once = IsDistinct-IsPermutation same_end end_equiv.symm (ends_of flat) (ends_of (in_order ls)) (ends_sorted flat) apart;
          links_ascend = sort_ascends link_numbers flat (numbers_differ flat apart);
        };
        names_differ = named.names_differ;
        limits = named.limits;
      }

-- the links that statements give, in order, are those of a network of these switches
pub network_with : (bytes : List ℕ) (ss : List Switch) (f : Forest) (ls : List Link) → links_after bytes ss [] f ≡ Ok ls
    → IsNamedTopology (record { switches = ss; links = [] }) → IsNamedTopology (record { switches = ss; links = in_order ls })
network_with bytes ss f ls e named = linked ss ls named (links_kept ss bytes [] f ls e (no_links ss))
