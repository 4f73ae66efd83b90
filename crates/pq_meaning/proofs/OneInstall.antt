-- A document has one install.
use Rattle.std.proofs.Common.{◌≡◌, ◌∙◌, ◌<◌, ◌≤◌, ◌^◌, ℕ, zero, suc, not, None, Some, if◌then◌else◌, List, [], ◌∷◌, ◌++◌, map, refl, sym, ap, ap₂, subst, arith}
use Rattle.std.specs.List.{AllByRecursion, AllZip, filter, flat_map}
use Rattle.std.proofs.lemmas.List.Elements.{recursion_from_All}
use Rattle.pq_join.proofs.Arrivals.{at_switch_fits}
use Rattle.pq_lists.proofs.Holding.{all_append, all_filter, all_weaker, all_map, filter_same}
use Rattle.pq_fields.specs.Packet.{Fit, Numbers}
use Rattle.pq_fields.specs.Writes.{AllFit, Written, no_writes, on}
use Rattle.pq_model.specs.declared.message.Message.{Message}
use Rattle.pq_model.specs.Buckets.{Instance}
use Rattle.pq_model.specs.Install.{Install, IsLawfulSwitch, IsLawfulTopology}
use Rattle.pq_model.specs.Topology.{Switch, Topology, is_edge, is_linked}
use Rattle.pq_policy.specs.Policy.{PolicyTree}
use Rattle.pq_query.specs.Instances.{instances_of}
use Rattle.pq_query.specs.Languages.{IsHeld}
use Rattle.pq_query.specs.Query.{QueryTree}
use Rattle.pq_store.specs.Tree.{Tree}
use Rattle.pq_store.proofs.Canonical.{one_diagram}
use Rattle.pq_rewrite.specs.declared.outgoing.OutKind.TheVariants.{CaptureOut}
use Rattle.pq_rewrite.specs.declared.trees.Key.{Key}
use Rattle.pq_rewrite.specs.declared.trees.Key.TheVariants.{Plain, Tag}
use Rattle.pq_rewrite.proofs.InSequence.{on_fits}
use Rattle.pq_rewrite.proofs.Sets.{one_given}
use Rattle.pq_layout.specs.Actions.{key_word, tag_word}
use Rattle.pq_layout.specs.Emission.{AreMessages, AreTrees, IsEmission, instances_at, report_of}
use Rattle.pq_layout.specs.Leaves.{AreDepartures, Departures, arrival, arrive, at_switch, capture_of, copies_by, copies_of, leaving, sent_of}
use Rattle.pq_layout.specs.Messages.{ArrivingTrees, LeavingTrees, messages_of}
use Rattle.pq_layout.specs.Tagging.{Tagging, captures, even_tags, is_empty, odd_tags, up_to}
use Rattle.pq_layout.specs.Trees.{IsArriving, IsLeaving, IsTreeOf, keys_of}
use Rattle.pq_meaning.specs.Compiled.{IsCompiled, IsLaid}
use Rattle.pq_meaning.specs.Meaning.{departs}
use Rattle.pq_meaning.proofs.OneTagging.{AreAlike, taggings_alike}

-- Lists of numbers that are tags.

map_same : {A B : Type 0} (f f' : A → B) (xs : List A) → AllByRecursion (λ x. f x ≡ f' x) xs → map f xs ≡ map f' xs
map_same f f' [] all = refl
map_same f f' (x ∷ xs) all = λ i. all.0 i ∷ map_same f f' xs all.1 i

flat_map_same : {A B : Type 0} (f f' : A → List B) (xs : List A) → AllByRecursion (λ x. f x ≡ f' x) xs → flat_map f xs ≡ flat_map f' xs
flat_map_same f f' [] all = refl
flat_map_same f f' (x ∷ xs) all = λ i. all.0 i ++ flat_map_same f f' xs all.1 i

-- one of the first tags
abbrev IsOneOf : ℕ → ℕ → Type 0
IsOneOf count t = (1 ≤ t) × (t ≤ count)

up_to_within : (n count : ℕ) → n ≤ count → AllByRecursion (IsOneOf count) (up_to n)
up_to_within zero count most = tt
up_to_within (suc n) count most = all_append (IsOneOf count) (up_to n) (suc n ∷ []) (up_to_within n count (omega (arith, most))) ((omega arith, most), tt)

-- Trees of functions that agree are the same.

module _ {K L : Type 0} (word : K → ℕ) (F G : K → Numbers → L) (Known : K → Type 0) (agree : (k : K) → Known k → (x : Numbers) → Fit x → F k x ≡ G k x) where
  abbrev AreTreesOf : (K → Numbers → L) → List K → List (ℕ × Tree L) → Type 0
  AreTreesOf H ks ps = AllZip (λ k p. (p.0 ≡ word k) × IsTreeOf (H k) p.1) ks ps

  -- so a tree of the one is one of the other
  other_trees : (ks : List K) → AllByRecursion Known ks → (ps : List (ℕ × Tree L)) → AreTreesOf F ks ps → AreTreesOf G ks ps
  other_trees [] known [] a = tt
  other_trees [] known (p ∷ ps) a = absurd a
  other_trees (k ∷ ks) known [] a = absurd a
  other_trees (k ∷ ks) known (p ∷ ps) a =
      let tree = a.0.1 in
      ((a.0.0, record { gives = λ x fit. tree.gives x fit ∙ agree k known.0 x fit; diagram = tree.diagram }), other_trees ks known.1 ps a.1)

  one_tree : (k : K) → Known k → (p q : ℕ × Tree L) → (p.0 ≡ word k) × IsTreeOf (F k) p.1 → (q.0 ≡ word k) × IsTreeOf (G k) q.1 → p ≡ q
  one_tree k known p q a b =
      let left = a.1 in
      let right = b.1 in
      let number : p.0 ≡ q.0 = a.0 ∙ sym b.0 in
      let tree : p.1 ≡ q.1 = one_diagram p.1 q.1 left.diagram right.diagram (λ x fit. left.gives x fit ∙ (agree k known x fit ∙ sym (right.gives x fit))) in
      λ i. (number i, tree i)

  one_trees : (ks : List K) → AllByRecursion Known ks → (ps qs : List (ℕ × Tree L)) → AreTreesOf F ks ps → AreTreesOf G ks qs → ps ≡ qs
  one_trees [] known [] [] a b = refl
  one_trees [] known [] (q ∷ qs) a b = absurd b
  one_trees [] known (p ∷ ps) qs a b = absurd a
  one_trees (k ∷ ks) known [] qs a b = absurd a
  one_trees (k ∷ ks) known (p ∷ ps) [] a b = absurd b
  one_trees (k ∷ ks) known (p ∷ ps) (q ∷ qs) a b = ap₂ (λ r rs. r ∷ rs) (one_tree k known.0 p q a.0 b.0) (one_trees ks known.1 ps qs a.1 b.1)

-- so is one at port 0
dropped_fits : (x : Numbers) → Fit x → Fit (record x { port = 0 })
dropped_fits x fit = record {
  switch = fit.switch;
  port = omega arith;
  eth_type = fit.eth_type;
  ip_proto = fit.ip_proto;
  eth_src = fit.eth_src;
  eth_dst = fit.eth_dst;
  ipv4_src = fit.ipv4_src;
  ipv4_dst = fit.ipv4_dst;
  tcp_src = fit.tcp_src;
  tcp_dst = fit.tcp_dst;
  udp_src = fit.udp_src;
  udp_dst = fit.udp_dst;
  ipv6_src = fit.ipv6_src;
  ipv6_dst = fit.ipv6_dst;
}

module _ (T : Topology) (g h : Tagging) (alike : AreAlike g h) where
  captures_same : (t : ℕ) → IsOneOf g.count t → captures g t ≡ captures h t
  captures_same t known = ap (λ is. not (is_empty is)) (alike.accepted t known.0 known.1)

  all_tags : AllByRecursion (IsOneOf g.count) (up_to g.count)
  all_tags = up_to_within g.count g.count (omega arith)

  -- Keys and tags.

  evens_same : even_tags g ≡ even_tags h
  evens_same = filter_same g.is_even h.is_even (up_to g.count)
      (all_weaker (IsOneOf g.count) (λ t. g.is_even t ≡ h.is_even t) (λ t known. alike.even t known.0 known.1) (up_to g.count) all_tags)
      ∙ ap (λ n. filter h.is_even (up_to n)) alike.count

  odds_same : odd_tags g ≡ odd_tags h
  odds_same =
      filter_same (λ t. not (g.is_even t)) (λ t. not (h.is_even t)) (up_to g.count)
      (all_weaker (IsOneOf g.count) (λ t. not (g.is_even t) ≡ not (h.is_even t)) (λ t known. ap not (alike.even t known.0 known.1)) (up_to g.count) all_tags)
      ∙ ap (λ n. filter (λ t. not (h.is_even t)) (up_to n)) alike.count

  keys_same : keys_of g ≡ keys_of h
  keys_same = ap (λ ts. Plain ∷ map Tag ts) evens_same

  abbrev IsKey : Key → Type 0
  IsKey Plain = Unit {0}
  IsKey (Tag t) = IsOneOf g.count t

  keys_known : AllByRecursion IsKey (keys_of g)
  keys_known = (tt, all_map Tag IsKey (even_tags g) (all_filter (IsOneOf g.count) g.is_even (up_to g.count) all_tags))

  odds_known : AllByRecursion (IsOneOf g.count) (odd_tags g)
  odds_known = all_filter (IsOneOf g.count) (λ t. not (g.is_even t)) (up_to g.count) all_tags

  -- Arrivals.

  arrive_same : (t : ℕ) (x : Numbers) → IsOneOf g.count t → Fit x → arrive g (g.after t x) ≡ arrive h (h.after t x)
  arrive_same t x known fit =
      let next = alike.within t x known.0 known.1 fit in
      let capture = captures_same (g.after t x) next in
      let first : arrive g (g.after t x) ≡ arrive h (g.after t x) = λ i. record { tag = g.after t x; capture = capture i } in
      first ∙ ap (arrive h) (alike.after t x known.0 known.1 fit)

  arrival_same : (k : Key) → IsKey k → (x : Numbers) → Fit x → arrival T g k x ≡ arrival T h k x
  arrival_same Plain known x fit = ap (λ a. if is_edge T x.switch x.port then Some a else None) (arrive_same 1 x (omega arith, alike.some) fit)
  arrival_same (Tag t) known x fit = ap (λ a. if is_linked T x.switch x.port then Some a else None) (arrive_same t x known fit)

  -- Departures.

  capture_same : (w : Written) (t : ℕ) (x : Numbers) → IsOneOf g.count t → Fit x → capture_of g w (g.after t x) ≡ capture_of h w (h.after t x)
  capture_same w t x known fit =
      let next = alike.within t x known.0 known.1 fit in
      let b = g.after t x in
      ap (λ c. if c then record { writes = w; tag = Some b; kind = CaptureOut } ∷ [] else []) (captures_same b next)
      ∙ ap (capture_of h w) (alike.after t x known.0 known.1 fit)

  copies_same : (t : ℕ) (x : Numbers) → IsOneOf g.count t → Fit x → (ws : List Written) → AllByRecursion AllFit ws → copies_of T g t x ws ≡ copies_of T h t x ws
  copies_same t x known fit [] fits = capture_same no_writes t (record x { port = 0 }) known (dropped_fits x fit)
  copies_same t x known fit (w ∷ ws) fits =
      flat_map_same (copies_by T g t x) (copies_by T h t x) (w ∷ ws)
      (all_weaker AllFit (λ v. copies_by T g t x v ≡ copies_by T h t x v) each (w ∷ ws) fits)
    where
      each : (v : Written) → AllFit v → copies_by T g t x v ≡ copies_by T h t x v
      each v v_fits =
          let y = on v x in
          let y_fit = on_fits v x v_fits fit in
          ap₂ (λ c cs. c ∷ cs) (ap (sent_of T y v) (alike.after t y known.0 known.1 y_fit)) (capture_same v t y known y_fit)

  module _ (P : Numbers → Numbers → Type 0) (writes more : Departures) (left : AreDepartures P writes) (right : AreDepartures P more) where
    leaving_same : (t : ℕ) → IsOneOf g.count t → (x : Numbers) → Fit x → leaving T g writes t x ≡ leaving T h more t x
    leaving_same t known x fit =
        let given = left x fit in
        let same : writes x ≡ more x = one_given x (P x) (P x) (writes x) (more x) (λ y. (λ p. p, λ p. p)) given (right x fit) in
        copies_same t x known fit (writes x) (recursion_from_All AllFit (writes x) given.fit) ∙ ap (copies_of T h t x) same

    module _ (d : ℕ) (small : d < 2 ^ 64) where
      arrival_at : (k : Key) → IsKey k → (x : Numbers) → Fit x → arrival T g k (at_switch d x) ≡ arrival T h k (at_switch d x)
      arrival_at k known x fit = arrival_same k known (at_switch d x) (at_switch_fits d x small fit)

      leaving_at : (t : ℕ) → IsOneOf g.count t → (x : Numbers) → Fit x → leaving T g writes t (at_switch d x) ≡ leaving T h more t (at_switch d x)
      leaving_at t known x fit = leaving_same t known (at_switch d x) (at_switch_fits d x small fit)

      -- the trees of a switch
      pub trees_same : (a : ArrivingTrees) (b : LeavingTrees) → AreTrees T g writes d a b → AreTrees T h more d a b
      trees_same a b trees = record {
        arriving = subst (λ ks. AllZip (λ k p. (p.0 ≡ key_word k) × IsArriving T h d k p.1) ks a) keys_same
            (other_trees key_word (λ k x. arrival T g k (at_switch d x)) (λ k x. arrival T h k (at_switch d x)) IsKey arrival_at
            (keys_of g) keys_known a trees.arriving);
        leaving = subst (λ ts. AllZip (λ t p. (p.0 ≡ tag_word t) × IsLeaving T h more d t p.1) ts b) odds_same
            (other_trees tag_word (λ t x. leaving T g writes t (at_switch d x)) (λ t x. leaving T h more t (at_switch d x))
            (IsOneOf g.count) leaving_at (odd_tags g) odds_known b trees.leaving);
      }

      -- the messages of a switch
      messages_same : (ms ns : List Message) → AreMessages T g writes d ms → AreMessages T h more d ns → ms ≡ ns
      messages_same ms ns a b =
          let left_trees = a.trees in
          let right_trees = b.trees in
          let first : a.first ≡ b.first =
          one_trees key_word (λ k x. arrival T g k (at_switch d x)) (λ k x. arrival T h k (at_switch d x)) IsKey arrival_at
          (keys_of g) keys_known a.first b.first
          left_trees.arriving (subst (λ ks. AllZip (λ k p. (p.0 ≡ key_word k) × IsArriving T h d k p.1) ks b.first) (sym keys_same) right_trees.arriving) in
          let second : a.second ≡ b.second = one_trees tag_word (λ t x. leaving T g writes t (at_switch d x))
          (λ t x. leaving T h more t (at_switch d x)) (IsOneOf g.count) leaving_at (odd_tags g)
          odds_known a.second b.second left_trees.leaving
          (subst (λ ts. AllZip (λ t p. (p.0 ≡ tag_word t) × IsLeaving T h more d t p.1) ts b.second)
          (sym odds_same) right_trees.leaving) in
          a.messages ∙ (ap₂ messages_of first second ∙ sym b.messages)

    all_messages_same : (ss : List Switch) → AllByRecursion IsLawfulSwitch ss → (mss nss : List (List Message))
        → AllZip (λ s ms. AreMessages T g writes s.datapath ms) ss mss → AllZip (λ s ns. AreMessages T h more s.datapath ns) ss nss → mss ≡ nss
    all_messages_same [] lawful [] [] a b = refl
    all_messages_same [] lawful [] (ns ∷ nss) a b = absurd b
    all_messages_same [] lawful (ms ∷ mss) nss a b = absurd a
    all_messages_same (s ∷ ss) lawful [] nss a b = absurd a
    all_messages_same (s ∷ ss) lawful (ms ∷ mss) [] a b = absurd b
    all_messages_same (s ∷ ss) lawful (ms ∷ mss) (ns ∷ nss) a b =
        ap₂ (λ l ls. l ∷ ls) (messages_same s.datapath lawful.0.0 ms ns a.0 b.0) (all_messages_same ss lawful.1 mss nss a.1 b.1)

  -- The report.

  report_same : (instances : List Instance) → report_of g instances ≡ report_of h instances
  report_same instances =
      map_same (λ t. record { tag = t; pairs = instances_at instances (g.accepted t) })
      (λ t. record { tag = t; pairs = instances_at instances (h.accepted t) }) (filter (captures g) (up_to g.count))
      (all_weaker (IsOneOf g.count) (λ t. record { tag = t; pairs = instances_at instances (g.accepted t) }
      ≡ record { tag = t; pairs = instances_at instances (h.accepted t) })
      (λ t known. ap (λ is. record { tag = t; pairs = instances_at instances is }) (alike.accepted t known.0 known.1)) (filter (captures g) (up_to g.count))
      (all_filter (IsOneOf g.count) (captures g) (up_to g.count) all_tags))
      ∙ ap (map (λ t. record { tag = t; pairs = instances_at instances (h.accepted t) }))
      (filter_same (captures g) (captures h) (up_to g.count) (all_weaker (IsOneOf g.count) (λ t. captures g t ≡ captures h t) captures_same
      (up_to g.count) all_tags)
      ∙ ap (λ n. filter (captures h) (up_to n)) alike.count)

-- installs of the same departures, tags and instances are the same
pub one_emission : (T : Topology) (names : List (List ℕ)) (P : Numbers → Numbers → Type 0) (instances : List Instance) (g h : Tagging)
    (writes more : Departures) (i j : Install)
    → IsLawfulTopology T → AreAlike g h → AreDepartures P writes → AreDepartures P more → IsEmission T names writes g instances i
    → IsEmission T names more h instances j → i ≡ j
one_emission T names P instances g h writes more i j lawful alike left right a b =
    let topology = a.topology ∙ sym b.topology in
    let queries = a.queries ∙ sym b.queries in
    let report = a.report ∙ (report_same T g h alike instances ∙ sym b.report) in
    let messages = all_messages_same T g h alike P writes more left right T.switches
    (recursion_from_All IsLawfulSwitch T.switches lawful.switches) i.messages j.messages a.messages b.messages in
    λ k. record { topology = topology k; queries = queries k; report = report k; messages = messages k }

-- so a document has one set of trees
pub one_set_of_trees : (T : Topology) (ps : List PolicyTree) (qs : List QueryTree) (g h : Tagging) (writes more : Departures)
    → IsLaid T ps qs g writes → IsLaid T ps qs h more
    → (d : ℕ) → d < 2 ^ 64 → (a : ArrivingTrees) (b : LeavingTrees) → AreTrees T g writes d a b → AreTrees T h more d a b
one_set_of_trees T ps qs g h writes more left right =
    trees_same T g h (taggings_alike (IsHeld qs (instances_of T qs)) g h left.tagging right.tagging) (departs T ps) writes more left.departures right.departures

-- and one install
pub one_install : (T : Topology) (names : List (List ℕ)) (ps : List PolicyTree) (qs : List QueryTree) (i j : Install)
    → IsLawfulTopology T → IsCompiled T names ps qs i → IsCompiled T names ps qs j → i ≡ j
one_install T names ps qs i j lawful a b =
    let left = a.laid in
    let right = b.laid in
    one_emission T names (departs T ps) (instances_of T qs) a.tags b.tags a.writes b.writes i j lawful
    (taggings_alike (IsHeld qs (instances_of T qs)) a.tags b.tags left.tagging right.tagging) left.departures right.departures a.emission b.emission
