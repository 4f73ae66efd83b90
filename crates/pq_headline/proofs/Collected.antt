-- What the copies of one hop put into the buckets is what its observations add.
use Rattle.std.proofs.Common.{◌≡◌, ◌∙◌, ◌≤◌, ℕ, Bool, true, false, cond, if◌then◌else◌, List, [], ◌∷◌, ◌++◌, map, filter, append-nil, refl}
use Rattle.std.proofs.Common.{sym, ap, subst, arith}
use Rattle.std.specs.Prelude.{◌↔◌}
use Rattle.std.specs.List.{AllByRecursion, flat_map}
use Rattle.std.specs.declared.option.Option.TheVariants.{Some}
use Rattle.std.proofs.lemmas.List.Concat.{flat_map-append}
use Rattle.pq_fields.specs.Packet.{Numbers, Fit, is_before, numbers}
use Rattle.pq_model.specs.Buckets.{BucketEntry, Instance, entry_numbers, instance_numbers}
use Rattle.pq_model.specs.Classes.{Languages, IsPath, has_even_length}
use Rattle.pq_model.specs.Install.{AscendsBy}
use Rattle.pq_model.specs.Meaning.{Meaning, Sighting, accepted_packets, entries_of, leavings, sightings}
use Rattle.pq_model.specs.Orders.{IsReordering}
use Rattle.pq_model.specs.Sorting.{sort_by}
use Rattle.pq_model.specs.TablesMachine.{Report, collected_at, pairs_of}
use Rattle.pq_model.specs.Tagged.{TaggedPacket, tagged_numbers}
use Rattle.pq_model.specs.Word.{Out, Word}
use Rattle.pq_model.proofs.Reorderings.{all-reordering, reordering-refl, reordering-sym, reordering-trans}
use Rattle.pq_model.proofs.Sorted.{Rises, order, sort-rises}
use Rattle.pq_model.proofs.NumberLists.{same_piece}
use Rattle.pq_model.proofs.Ascending.{rest_ascends}
use Rattle.pq_layout.specs.Emission.{instances_at, report_of}
use Rattle.pq_layout.specs.Tagging.{Tagging, IsTagging, captures, tag_of}
use Rattle.pq_headline.specs.LaidOut.{IsAccepted}
use Rattle.pq_headline.proofs.Copied.{caught, caught_of}
use Rattle.pq_headline.proofs.Keys.{entries_tell, first_ahead, instances_decide}
use Rattle.pq_headline.proofs.Paths.{left_path}
use Rattle.pq_headline.proofs.Reordered.{reordering-both, reordering-cons, reordering-turned, reordering-flat_map, reordering-map, sort-reorders}
use Rattle.pq_headline.proofs.Rows.{instances_of_numbers, none_of_tag, row_of_tag}
use Rattle.pq_headline.proofs.SortedTo.{below, sorts_to}

-- what a copy to the collector adds
abbrev pub collected_of : Report → TaggedPacket → List BucketEntry
collected_of report y = collected_at report y.packet y.vlan

-- an instance's entry of a packet
abbrev entry : Numbers → Instance → BucketEntry
entry x i = record { pair = i; packet = x }

-- what an observation adds to the bucket of an instance
abbrev noted_in : Meaning → Sighting → Instance → List BucketEntry
noted_in m s i = if m.accepts i s.word then entry s.packet i ∷ [] else []

-- an observation of a path
abbrev IsOfPath : Sighting → Type 0
IsOfPath s = IsPath s.word

module _ {A B : Type 0} (f h : A → List B) (same : (x : A) → IsReordering (f x) (h x)) where
  reordering-each : (xs : List A) → IsReordering (flat_map f xs) (flat_map h xs)
  reordering-each [] = refl
  reordering-each (x ∷ xs) = reordering-both (f x) (h x) (flat_map f xs) (flat_map h xs) (same x) (reordering-each xs)

-- What is noted of an observation.

module _ (m : Meaning) where
  noted_instances : (s : Sighting) (is : List Instance) → map (entry s.packet) (filter (λ i. m.accepts i s.word) is) ≡ flat_map (noted_in m s) is
  noted_instances s [] = refl
  noted_instances s (i ∷ is) = by (m.accepts i s.word) (noted_instances s is)
    where
      by : (b : Bool) → map (entry s.packet) (filter (λ i. m.accepts i s.word) is) ≡ flat_map (noted_in m s) is
          → map (entry s.packet) (cond b (i ∷ filter (λ i. m.accepts i s.word) is) (filter (λ i. m.accepts i s.word) is))
          ≡ (if b then entry s.packet i ∷ [] else []) ++ flat_map (noted_in m s) is
      by true more = ap (λ l. entry s.packet i ∷ l) more
      by false more = more

  noted_packets : (i : Instance) (ss : List Sighting) → flat_map (λ s. noted_in m s i) ss ≡ map (λ x. entry x i) (accepted_packets (m.accepts i) ss)
  noted_packets i [] = refl
  noted_packets i (s ∷ ss) = by (m.accepts i s.word) (noted_packets i ss)
    where
      by : (b : Bool) → flat_map (λ s. noted_in m s i) ss ≡ map (λ x. entry x i) (accepted_packets (m.accepts i) ss)
          → (if b then entry s.packet i ∷ [] else []) ++ flat_map (λ s. noted_in m s i) ss
          ≡ map (λ x. entry x i) (if b then s.packet ∷ accepted_packets (m.accepts i) ss else accepted_packets (m.accepts i) ss)
      by true more = ap (λ l. entry s.packet i ∷ l) more
      by false more = more

  -- an instance's entries are what the observations add to its bucket
  noted_entries : (ss : List Sighting) (i : Instance) → IsReordering (flat_map (λ s. noted_in m s i) ss) (entries_of m ss i)
  noted_entries ss i =
      subst (λ l. IsReordering l (entries_of m ss i)) (sym (noted_packets i ss))
      (reordering-map (λ x. entry x i) (accepted_packets (m.accepts i) ss) (sort_by numbers (accepted_packets (m.accepts i) ss))
      (sort-reorders numbers (accepted_packets (m.accepts i) ss)))

  -- all observations, by instance
  noted_captured : (ss : List Sighting) → IsReordering (flat_map (λ s. flat_map (noted_in m s) m.instances) ss) (flat_map (entries_of m ss) m.instances)
  noted_captured ss =
      reordering-trans (flat_map (λ s. flat_map (noted_in m s) m.instances) ss)
      (flat_map (λ i. flat_map (λ s. noted_in m s i) ss) m.instances) (flat_map (entries_of m ss) m.instances)
      (reordering-turned (noted_in m) ss m.instances)
      (reordering-each (λ i. flat_map (λ s. noted_in m s i) ss) (entries_of m ss) (noted_entries ss) m.instances)

-- What the collector makes of the copy for an observation.

module _ (m : Meaning) (Ls : Languages) (g : Tagging) (tagging : IsTagging Ls g) (languages : (i : ℕ) (w : Word) → IsPath w → Ls i w ↔ IsAccepted m i w) where
  abbrev rows : Report
  rows = report_of g m.instances

  collected_row : (x : Numbers) (t : ℕ) → 1 ≤ t → t ≤ g.count
      → flat_map (collected_of rows) (caught g t x) ≡ map (entry x) (instances_at m.instances (g.accepted t))
  collected_row x t low high = by (captures g t) refl
    where
      by : (b : Bool) → captures g t ≡ b → flat_map (collected_of rows) (if b then record { packet = x; vlan = Some t } ∷ [] else [])
          ≡ map (entry x) (instances_at m.instances (g.accepted t))
      by true e = append-nil (map (entry x) (pairs_of rows t)) ∙ ap (map (entry x)) (row_of_tag g m.instances t low high e)
      by false e = ap (map (entry x)) (none_of_tag m.instances (g.accepted t) e)

  collected_noted : (s : Sighting) → IsOfPath s → IsReordering (flat_map (collected_of rows) (caught_of g s)) (flat_map (noted_in m s) m.instances)
  collected_noted s path =
      let told = tagging.tagged s.word path in
      let t = tag_of g s.word in
      let holds : Instance → Bool = λ i. m.accepts i s.word in
      let row = instances_of_numbers holds m.instances (g.accepted t) told.ascending
      (λ n. (λ there. (languages n s.word path).0 ((told.held n).0 there), λ passes. (told.held n).1 ((languages n s.word path).1 passes))) in
      let mixed = reordering-map (entry s.packet) (instances_at m.instances (g.accepted t)) (filter holds m.instances) row in
      subst (λ l. IsReordering l (flat_map (noted_in m s) m.instances)) (sym (collected_row s.packet t told.within.0 told.within.1))
      (subst (IsReordering (map (entry s.packet) (instances_at m.instances (g.accepted t)))) (noted_instances m s m.instances) mixed)

  all_collected : (ss : List Sighting) → AllByRecursion IsOfPath ss
      → IsReordering (flat_map (collected_of rows) (flat_map (caught_of g) ss)) (flat_map (λ s. flat_map (noted_in m s) m.instances) ss)
  all_collected [] paths = refl
  all_collected (s ∷ ss) paths =
      let whole = flat_map (noted_in m s) m.instances ++ flat_map (λ s. flat_map (noted_in m s) m.instances) ss in
      subst (λ l. IsReordering l whole) (sym (flat_map-append (collected_of rows) (caught_of g s) (flat_map (caught_of g) ss)))
      (reordering-both (flat_map (collected_of rows) (caught_of g s)) (flat_map (noted_in m s) m.instances)
      (flat_map (collected_of rows) (flat_map (caught_of g) ss)) (flat_map (λ s. flat_map (noted_in m s) m.instances) ss)
      (collected_noted s paths.0) (all_collected ss paths.1))

-- Entries by instance and then by packet rise.

module _ {A : Type 0} (key : A → List ℕ) where
  -- none of these is below the value
  abbrev NoneBelow : A → List A → Type 0
  NoneBelow x ys = AllByRecursion (λ y. below key y x ≡ false) ys

  none_joined : (x : A) (ys zs : List A) → NoneBelow x ys → NoneBelow x zs → NoneBelow x (ys ++ zs)
  none_joined x [] zs left right = right
  none_joined x (y ∷ ys) zs left right = (left.0, none_joined x ys zs left.1 right)

  rises_joined : (xs ys : List A) → Rises (below key) (order key) xs → Rises (below key) (order key) ys
      → AllByRecursion (λ x. NoneBelow x ys) xs → Rises (below key) (order key) (xs ++ ys)
  rises_joined [] ys left right apart = right
  rises_joined (x ∷ xs) ys left right apart = (none_joined x xs ys left.0 apart.0, rises_joined xs ys left.1 right apart.1)

module _ (i : Instance) where
  same_instance : (x y : Numbers) → below entry_numbers (entry y i) (entry x i) ≡ is_before (numbers y) (numbers x)
  same_instance x y = same_piece (instance_numbers i) (numbers y) (numbers x)

  none_of_instance : (x : Numbers) (ys : List Numbers) → NoneBelow numbers x ys → NoneBelow entry_numbers (entry x i) (map (λ y. entry y i) ys)
  none_of_instance x [] none = tt
  none_of_instance x (y ∷ ys) none = (same_instance x y ∙ none.0, none_of_instance x ys none.1)

  instance_rises : (xs : List Numbers) → Rises (below numbers) (order numbers) xs → Rises (below entry_numbers) (order entry_numbers) (map (λ x. entry x i) xs)
  instance_rises [] up = tt
  instance_rises (x ∷ xs) up = (none_of_instance x xs up.0, instance_rises xs up.1)

  later_instance : (x : Numbers) (j : Instance) → is_before (instance_numbers i) (instance_numbers j) ≡ true → (ys : List Numbers)
      → NoneBelow entry_numbers (entry x i) (map (λ y. entry y j) ys)
  later_instance x j ahead [] = tt
  later_instance x j ahead (y ∷ ys) =
      ((order entry_numbers).one_way (entry x i) (entry y j) (instances_decide i j (numbers x) (numbers y) ahead), later_instance x j ahead ys)

  later_instances : (m : Meaning) (ss : List Sighting) (x : Numbers) (js : List Instance)
      → AllByRecursion (λ j. is_before (instance_numbers i) (instance_numbers j) ≡ true) js
      → NoneBelow entry_numbers (entry x i) (flat_map (entries_of m ss) js)
  later_instances m ss x [] ahead = tt
  later_instances m ss x (j ∷ js) ahead =
      none_joined entry_numbers (entry x i) (entries_of m ss j) (flat_map (entries_of m ss) js)
      (later_instance x j ahead.0 (sort_by numbers (accepted_packets (m.accepts j) ss))) (later_instances m ss x js ahead.1)

  all_later : (m : Meaning) (ss : List Sighting) (xs : List Numbers) (js : List Instance)
      → AllByRecursion (λ j. is_before (instance_numbers i) (instance_numbers j) ≡ true) js
      → AllByRecursion (λ e. NoneBelow entry_numbers e (flat_map (entries_of m ss) js)) (map (λ x. entry x i) xs)
  all_later m ss [] js ahead = tt
  all_later m ss (x ∷ xs) js ahead = (later_instances m ss x js ahead, all_later m ss xs js ahead)

entries_rise : (m : Meaning) (ss : List Sighting) (is : List Instance) → AscendsBy instance_numbers is
    → Rises (below entry_numbers) (order entry_numbers) (flat_map (entries_of m ss) is)
entries_rise m ss [] up = tt
entries_rise m ss (i ∷ is) up =
    let xs = accepted_packets (m.accepts i) ss in
    rises_joined entry_numbers (entries_of m ss i) (flat_map (entries_of m ss) is)
    (instance_rises i (sort_by numbers xs) (sort-rises numbers xs)) (entries_rise m ss is (rest_ascends instance_numbers i is up))
    (all_later i m ss (sort_by numbers xs) is (first_ahead instance_numbers i is up))

-- Observations.

leavings_map : (v : Word) (x : Numbers) (front : List Numbers) (y : Numbers) (back : List Numbers)
    → leavings v x (front ++ y ∷ back) ≡ map (λ z. record { word = v ++ Out z ∷ []; packet = record z { port = x.port } }) (front ++ y ∷ back)
leavings_map v x [] y back = refl
leavings_map v x (f ∷ front) y back = refl

leavings_reordered : (v : Word) (x : Numbers) (zs ys : List Numbers) → IsReordering zs ys → IsReordering (leavings v x zs) (leavings v x ys)
leavings_reordered v x [] ys h = subst (λ l. IsReordering (leavings v x []) (leavings v x l)) (sym h) (reordering-refl (leavings v x []))
leavings_reordered v x (z ∷ zs) ys h =
    let f : Numbers → Sighting = λ y. record { word = v ++ Out y ∷ []; packet = record y { port = x.port } } in
    let mapped : leavings v x ys ≡ map f ys = ap (leavings v x) h.2 ∙ leavings_map v x h.0 z h.1 ∙ ap (map f) (sym h.2) in
    subst (IsReordering (map f (z ∷ zs))) (sym mapped) (reordering-map f (z ∷ zs) ys h)

-- observations of the same packets
sightings_reordered : (v : Word) (x : Numbers) (zs ys : List Numbers) → IsReordering zs ys → IsReordering (sightings v x zs) (sightings v x ys)
sightings_reordered v x zs ys h = reordering-cons (record { word = v; packet = x }) (leavings v x zs) (leavings v x ys) (leavings_reordered v x zs ys h)

module _ (v : Word) (x : Numbers) (path : IsPath v) (odd : has_even_length v ≡ false) (fit : Fit x) where
  each_left : (ys : List Numbers) → AllByRecursion Fit ys
      → AllByRecursion IsOfPath (map (λ z. record { word = v ++ Out z ∷ []; packet = record z { port = x.port } }) ys)
  each_left [] fits = tt
  each_left (y ∷ ys) fits = (left_path v y path odd fits.0, each_left ys fits.1)

  at_no_port : Fit (record x { port = 0 })
  at_no_port = record {
    switch = fit.switch;
    port = omega arith;
    eth_type = fit.eth_type;
    ip_proto = fit.ip_proto;
    eth_src = fit.eth_src;
    eth_dst = fit.eth_dst;
    ipv4_src = fit.ipv4_src;
    ipv4_dst = fit.ipv4_dst;
    tcp_src = fit.tcp_src;
    tcp_dst = fit.tcp_dst;
    udp_src = fit.udp_src;
    udp_dst = fit.udp_dst;
    ipv6_src = fit.ipv6_src;
    ipv6_dst = fit.ipv6_dst;
  }

  -- the observations of a hop are of paths
  sightings_paths : (ys : List Numbers) → AllByRecursion Fit ys → AllByRecursion IsOfPath (sightings v x ys)
  sightings_paths [] fits = (path, (left_path v (record x { port = 0 }) path odd at_no_port, tt))
  sightings_paths (y ∷ ys) fits = (path, each_left (y ∷ ys) fits)

-- The copies in order put into the buckets what the observations add.
module _ (m : Meaning) (Ls : Languages) (g : Tagging) (tagging : IsTagging Ls g)
    (languages : (i : ℕ) (w : Word) → IsPath w → Ls i w ↔ IsAccepted m i w) (ascend : AscendsBy instance_numbers m.instances) where
  pub collected_captured : (v : Word) (x : Numbers) → IsPath v → has_even_length v ≡ false → Fit x → (zs ys : List Numbers)
      → AllByRecursion Fit ys → IsReordering zs ys
      → sort_by entry_numbers (flat_map (collected_of (report_of g m.instances)) (sort_by tagged_numbers (flat_map (caught_of g) (sightings v x zs))))
      ≡ flat_map (entries_of m (sightings v x ys)) m.instances
  collected_captured v x path odd fit zs ys fits mixed =
      let report = report_of g m.instances in
      let ss = sightings v x zs in
      let seen = sightings v x ys in
      let same : IsReordering ss seen = sightings_reordered v x zs ys mixed in
      let copies = flat_map (caught_of g) ss in
      let by_sighting : List Sighting → List BucketEntry = λ l. flat_map (λ s. flat_map (noted_in m s) m.instances) l in
      let captured = flat_map (entries_of m seen) m.instances in
      let paths : AllByRecursion IsOfPath ss = all-reordering IsOfPath seen ss (reordering-sym ss seen same) (sightings_paths v x path odd fit ys fits) in
      let sorted = flat_map (collected_of report) (sort_by tagged_numbers copies) in
      let unsorted : IsReordering sorted (flat_map (collected_of report) copies) =
      reordering-flat_map (collected_of report) (sort_by tagged_numbers copies) copies
      (reordering-sym copies (sort_by tagged_numbers copies) (sort-reorders tagged_numbers copies)) in
      let noted : IsReordering (flat_map (collected_of report) copies) (by_sighting ss) = all_collected m Ls g tagging languages ss paths in
      let turned : IsReordering (by_sighting ss) (by_sighting seen) = reordering-flat_map (λ s. flat_map (noted_in m s) m.instances) ss seen same in
      let whole : IsReordering sorted captured =
      reordering-trans sorted (flat_map (collected_of report) copies) captured unsorted
      (reordering-trans (flat_map (collected_of report) copies) (by_sighting ss) captured noted
      (reordering-trans (by_sighting ss) (by_sighting seen) captured turned (noted_captured m seen))) in
      sorts_to entry_numbers entries_tell sorted captured whole (entries_rise m seen m.instances ascend)
