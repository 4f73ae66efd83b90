-- Trees of a switch test a field only below its prerequisites.
use Rattle.std.proofs.Common.{ℕ, suc, ◌<◌, ◌^◌, ◌-◌, ◌≡◌, ◌∙◌, Bool, true, false, cond, List, ◌∷◌, [], ◌++◌, None, Some, get_or}
use Rattle.std.proofs.Common.{if◌then◌else◌, refl, sym, ap, arith}
use Rattle.std.specs.Prelude.{slice_get}
use Rattle.std.specs.List.{All, filter, flat_map}
use Rattle.std.specs.Option.{option_map, unwrap_or}
use Rattle.std.proofs.lemmas.List.Elements.{All-cons, All-head, All-tail}
use Rattle.pq_fields.specs.declared.field.Field.{Field}
use Rattle.pq_fields.specs.Packet.{Fit, Numbers, has_field, width_of, with_number}
use Rattle.pq_fields.specs.Writes.{AllFit, Written, no_writes, on}
use Rattle.pq_model.specs.Topology.{Topology, is_edge, is_linked, is_port}
use Rattle.pq_auto.specs.Machine.{Machine}
use Rattle.pq_letters.specs.Letters.{LettersValue}
use Rattle.pq_letters.specs.Words.{letter_number}
use Rattle.pq_layout.specs.Leaves.{arrival, arrive, at_switch, capture_of, copies_by, copies_of, departing, departs_by}
use Rattle.pq_rewrite.specs.declared.outgoing.OutKind.TheVariants.{Send}
use Rattle.pq_rewrite.specs.declared.trees.Key.{Key}
use Rattle.pq_rewrite.specs.declared.trees.Key.TheVariants.{Plain, Tag}
use Rattle.pq_rewrite.proofs.InSequence.{on_fits}
use Rattle.pq_rewrite.proofs.Numbers.{has_on}
use Rattle.pq_store.specs.Laws.{Ignores}
use Rattle.pq_store.specs.Tree.{Tree, value}
use Rattle.pq_store.proofs.Ignored.{prerequisites_first}
use Rattle.pq_join.specs.Sound.{ArrivingStandBelow, IgnoresLacking, LeavingStandBelow}
use Rattle.pq_join.specs.Tags.{tagging_of}
use Rattle.pq_join.proofs.Arrivals.{at_switch_fits}
use Rattle.pq_join.proofs.Lacking.{apart, has_at_switch, has_at_zero, on_lacking}

-- equal lists are made of equal lists
pub flat_same : {X A : Type 0} (f g : X → List A) (xs : List X) → All (λ x. f x ≡ g x) xs → flat_map f xs ≡ flat_map g xs
flat_same f g [] all = refl
flat_same f g (x ∷ xs) all =
    let first = All-head (λ z. f z ≡ g z) x xs all in let later = flat_same f g xs (All-tail (λ z. f z ≡ g z) x xs all) in λ i. first i ++ later i

-- what holds of all holds of those that are kept
all_filtered : {X : Type 0} (P : X → Type 0) (p : X → Bool) (xs : List X) → All P xs → All P (filter p xs)
all_filtered P p [] all = all
all_filtered P p (x ∷ xs) all = by (all_filtered P p xs (All-tail P x xs all)) (p x)
  where
    by : All P (filter p xs) → (b : Bool) → All P (cond b (x ∷ filter p xs) (filter p xs))
    by later true = All-cons P x (filter p xs) (All-head P x xs all) later
    by later false = later

module _ (T : Topology) (a : LettersValue) (m : Machine) (lt : Tree ℕ) (lt_is : slice_get a.trees a.root ≡ Some lt) (ignores : IgnoresLacking lt)
    (f : Field) (n : ℕ) (below : n < 2 ^ width_of f) where
  -- the letter is told by the tree
  letter_is : (y : Numbers) → letter_number a y ≡ value lt y
  letter_is y = ap (λ o. unwrap_or (option_map (λ t. value t y) o) 0) lt_is

  -- so it doesn't depend on a number that the packet lacks
  letter_same : (y : Numbers) → Fit y → has_field f y ≡ false → letter_number a (with_number f n y) ≡ letter_number a y
  letter_same y fit lacks = letter_is (with_number f n y) ∙ (ignores f y n fit below lacks ∙ sym (letter_is y))

  -- nor does what is made of an arrival
  arrival_same : (k : Key) (y : Numbers) → Fit y → has_field f y ≡ false → arrival T (tagging_of a m) k (with_number f n y) ≡ arrival T (tagging_of a m) k y
  arrival_same Plain y fit lacks =
      let own = apart f y lacks in
      let letter = letter_same y fit lacks in
      λ i. if is_edge T (own.switch n y i) (own.port n y i) then Some (arrive (tagging_of a m) (suc (get_or (get_or m.rows (1 - 1) []) (letter i) 0))) else None
  arrival_same (Tag t) y fit lacks =
      let own = apart f y lacks in
      let letter = letter_same y fit lacks in
      λ i. if is_linked T (own.switch n y i) (own.port n y i) then Some
      (arrive (tagging_of a m) (suc (get_or (get_or m.rows (t - 1) []) (letter i) 0))) else None

  -- nor do the copies of a departure
  copies_same : (b : ℕ) (y : Numbers) (w : Written) → Fit y → has_field f y ≡ false → AllFit w
      → copies_by T (tagging_of a m) b (with_number f n y) w ≡ copies_by T (tagging_of a m) b y w
  copies_same b y w fit lacks fits =
      let own = apart f y lacks in
      let past = on_lacking f n w y lacks in
      let switch : (on w (with_number f n y)).switch ≡ (on w y).switch = own.switch n y in
      let port : (on w (with_number f n y)).port ≡ (on w y).port = ap (λ z. z.port) past ∙ own.port n (on w y) in
      let letter : letter_number a (on w (with_number f n y)) ≡ letter_number a (on w y) =
      ap (letter_number a) past ∙ letter_same (on w y) (on_fits w y fits fit) (has_on f w y ∙ lacks) in
      let tag : (tagging_of a m).after b (on w (with_number f n y)) ≡ (tagging_of a m).after b (on w y) =
      ap (λ l. suc (get_or (get_or m.rows (b - 1) []) l 0)) letter in
      λ i. record { writes = w; tag = if is_linked T (switch i) (port i) then Some (tag i) else None; kind = Send } ∷ capture_of (tagging_of a m) w (tag i)

  -- nor which writes depart
  departs_same : (y : Numbers) → has_field f y ≡ false → departs_by T (with_number f n y) ≡ departs_by T y
  departs_same y lacks =
      let own = apart f y lacks in
      λ i w. is_port T (own.switch n y i) ((ap (λ z. z.port) (on_lacking f n w y lacks) ∙ own.port n (on w y)) i)

  -- nor the copies of all
  all_same : (b : ℕ) (y : Numbers) (ws : List Written) → Fit y → has_field f y ≡ false → All AllFit ws
      → copies_of T (tagging_of a m) b (with_number f n y) ws ≡ copies_of T (tagging_of a m) b y ws
  all_same b y [] fit lacks fits =
      let own = apart f y lacks in
      let zero_fit : Fit (record y { port = 0 }) = at_zero fit in
      let letter : letter_number a (record (with_number f n y) { port = 0 }) ≡ letter_number a (record y { port = 0 }) =
      ap (letter_number a) (own.at_zero n y) ∙ letter_same (record y { port = 0 }) zero_fit (has_at_zero f y ∙ lacks) in
      ap (λ l. capture_of (tagging_of a m) no_writes (suc (get_or (get_or m.rows (b - 1) []) l 0))) letter
    where
      at_zero : Fit y → Fit (record y { port = 0 })
      at_zero g = record {
        switch = g.switch;
        port = omega arith;
        eth_type = g.eth_type;
        ip_proto = g.ip_proto;
        eth_src = g.eth_src;
        eth_dst = g.eth_dst;
        ipv4_src = g.ipv4_src;
        ipv4_dst = g.ipv4_dst;
        tcp_src = g.tcp_src;
        tcp_dst = g.tcp_dst;
        udp_src = g.udp_src;
        udp_dst = g.udp_dst;
        ipv6_src = g.ipv6_src;
        ipv6_dst = g.ipv6_dst;
      }
  all_same b y (w ∷ ws) fit lacks fits =
      flat_same (copies_by T (tagging_of a m) b (with_number f n y)) (copies_by T (tagging_of a m) b y) (w ∷ ws)
      (λ k e within. copies_same b y (get_or (w ∷ ws) k e) fit lacks (fits k e within))

-- each test in a tree of the first table is below its prerequisites
pub arriving_stand_below : ArrivingStandBelow
arriving_stand_below T a m d fits lt lt_is ignores k t tree f = prerequisites_first f t tree.diagram same
  where
    same : Ignores f (λ x. has_field f x ≡ false) t
    same x n fit below lacks =
        let own = apart f x lacks in
        tree.gives (with_number f n x) (own.fit n x below fit)
        ∙ (ap (arrival T (tagging_of a m) k) (own.at_switch d n x)
        ∙ (arrival_same T a m lt lt_is ignores f n below k (at_switch d x) (at_switch_fits d x fits fit) (has_at_switch f d x ∙ lacks)
        ∙ sym (tree.gives x fit)))

-- and so does each in one of the second
pub leaving_stand_below : LeavingStandBelow
leaving_stand_below T a m d fits lt lt_is ignores p idle_free others b t tree f = prerequisites_first f t tree.diagram same
  where
    same : Ignores f (λ x. has_field f x ≡ false) t
    same x n fit below lacks =
        let own = apart f x lacks in
        let y = at_switch d x in
        let y_fit = at_switch_fits d x fits fit in
        let y_lacks = has_at_switch f d x ∙ lacks in
        let given = idle_free y y_fit in
        let kept : filter (departs_by T (with_number f n y)) (value p (with_number f n y)) ≡ filter (departs_by T y) (value p y) =
        (λ i. filter (departs_same T a m lt lt_is ignores f n below y y_lacks i) (others f y n y_fit below y_lacks i)) in
        tree.gives (with_number f n x) (own.fit n x below fit)
        ∙ (ap (λ z. copies_of T (tagging_of a m) b z (departing T (value p) z)) (own.at_switch d n x)
        ∙ (ap (copies_of T (tagging_of a m) b (with_number f n y)) kept
        ∙ (all_same T a m lt lt_is ignores f n below b y (filter (departs_by T y) (value p y)) y_fit y_lacks
        (all_filtered AllFit (departs_by T y) (value p y) given.fit)
        ∙ sym (tree.gives x fit))))
