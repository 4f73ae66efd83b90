-- Port 0 is not tested: it is not a port, and neither is the first number beyond those of ports.
use Rattle.std.proofs.Common.{ℕ, ◌⊎◌, get_or, ◌<◌, ◌≤◌, ◌^◌, ◌≡◌, ◌∙◌, Bool, true, false, List, ◌∷◌, [], Option, None, Some, ◌==◌, ◌&&◌}
use Rattle.std.proofs.Common.{if◌then◌else◌, inl, inr, refl, sym, ap, subst, arith}
use Rattle.std.specs.Prelude.{is_none}
use Rattle.std.specs.List.{All, filter}
use Rattle.std.specs.Option.{unwrap_or}
use Rattle.std.proofs.lemmas.Bool.{ne_eqb}
use Rattle.std.proofs.lemmas.Bool.Decides.{eqb_tells}
use Rattle.std.proofs.lemmas.List.Elements.{All-weaker}
use Rattle.std.proofs.lemmas.List.Folds.{list_any_none}
use Rattle.pq_fields.specs.declared.field.Field.{Field}
use Rattle.pq_fields.specs.declared.field.Field.TheVariants.{Switch, Port}
use Rattle.pq_fields.specs.Packet.{Fit, Numbers, rank, with_number}
use Rattle.pq_fields.specs.Writes.{Written, on}
use Rattle.pq_model.specs.Install.{IsLawfulTopology}
use Rattle.pq_model.specs.MatchFields.{IsPortNumber}
use Rattle.pq_model.specs.Topology.{Topology, is_linked, is_port, peer, ports_of}
use Rattle.pq_auto.specs.Machine.{Machine}
use Rattle.pq_letters.specs.Letters.{LettersValue}
use Rattle.pq_layout.specs.Leaves.{arrival, arrive, at_switch, capture_of, copies_by, copies_of, departing, departs_by, sent_of}
use Rattle.pq_layout.specs.Sound.{TestsPorts}
use Rattle.pq_rewrite.specs.declared.trees.Key.{Key}
use Rattle.pq_rewrite.specs.declared.trees.Key.TheVariants.{Plain, Tag}
use Rattle.pq_store.specs.declared.test.Test.{Test}
use Rattle.pq_store.specs.declared.test.Test.TheVariants.{Equal, Bit}
use Rattle.pq_store.specs.Diagram.{AllLawful, Ascends, IsBefore, IsDiagram, Skips}
use Rattle.pq_store.specs.Laws.{IsUntested}
use Rattle.pq_store.specs.Test.{IsLawful, field_of, is_address, passes}
use Rattle.pq_store.specs.Tree.{Tree, IsTested, rest, value}
use Rattle.pq_store.specs.Tree.Tree.{Tip, Fork}
use Rattle.pq_store.proofs.Canonical.{one_diagram}
use Rattle.pq_store.proofs.Order.{before_tested, kinds_differ, rank_injective}
use Rattle.pq_store.proofs.Sides.{no_diagram, past_diagram, yes_diagram}
use Rattle.pq_apply.specs.Restricting.{IsLater}
use Rattle.pq_apply.proofs.SetNumbers.{later_same, passes_kept, passes_set}
use Rattle.pq_join.specs.Fronts.{Starts}
use Rattle.pq_join.specs.Sound.{ArrivingTestPorts, LeavingTestPorts, TestsPortsOrZero}
use Rattle.pq_join.specs.Tags.{tagging_of}
use Rattle.pq_join.proofs.Guards.{flat_same}
use Rattle.pq_join.proofs.Linking.{linked_port, no_port_zero}
use Rattle.pq_join.proofs.Sights.{ports_first}
use Rattle.pq_join.proofs.Soundness.{all_kept, no_switch, numbers_in}

-- the first number beyond those of ports
abbrev beyond : ℕ
beyond = 0xffffff01

-- a bit is of a later field than the port
bit_later : (g : Field) → is_address g ≡ true → 1 ≤ rank g → 1 < rank g
bit_later g address least = let other : rank g ≡ 1 → ⊥ = λ e. kinds_differ Port g refl address (sym e) in omega (arith, least, other)

module _ {L : Type 0} where
  -- below the yes side of a port all tests are of later fields
  yes_later : (y : Tree L) → IsBefore (Equal Port 0) y → Skips Port y → AllLawful y → IsLater Port y
  yes_later (Tip l) before skips lawful = tt
  yes_later (Fork (Equal g v) y n) (inl less) skips lawful = less
  yes_later (Fork (Equal g v) y n) (inr same) skips lawful = absurd (skips.0 same.0)
  yes_later (Fork (Bit g i) y n) (inl less) skips lawful = less
  yes_later (Fork (Bit g i) y n) (inr same) skips lawful = absurd (kinds_differ Port g refl lawful.0.0 same.0)

  -- what is after the ports is what packets at an untested port reach
  rest_value : (n : Tree L) → Ascends n → AllLawful n → Starts Port n → (IsTested (Equal Port beyond) n → ⊥) → (x : Numbers)
      → value n (with_number Port beyond x) ≡ value (rest Port n) x
  rest_value (Tip l) up lawful starts untested x = refl
  rest_value (Fork (Bit g i) y n) up lawful starts untested x =
      later_same Port beyond x (Fork (Bit g i) y n) (bit_later g lawful.0.0 (starts (Bit g i) (inl refl))) up
  rest_value (Fork (Equal g v) y n) up lawful starts untested x = elim (eqb_tells (rank Port) (rank g)) [
    | inl same ↦
        let differ : beyond ≡ v → ⊥ = λ e. untested (inl (λ i. Equal (rank_injective Port g same.1 i) (e i))) in
        let fails : passes (Equal g v) (with_number Port beyond x) ≡ false = passes_set (Equal g v) Port beyond x (sym same.1) ∙ ne_eqb beyond v differ in
        let later = rest_value n up.3 lawful.2 (λ s tested. starts s (inr (inr tested))) (λ tested. untested (inr (inr tested))) x in
        rw (same.0, fails) later
    | inr other ↦
        let least = starts (Equal g v) (inl refl) in
        let differ : rank g ≡ 1 → ⊥ = λ e. other.1 (sym e) in
        rw other.0 (later_same Port beyond x (Fork (Equal g v) y n) (omega (arith, least, differ)) up)
  ]

  -- no diagram begins with port 0 where packets there reach what they reach beyond all ports
  zero_root : (y n : Tree L) → IsDiagram (Fork (Equal Port 0) y n) → IsUntested Switch (Fork (Equal Port 0) y n)
      → (IsTested (Equal Port beyond) (Fork (Equal Port 0) y n) → ⊥)
      → ((x : Numbers) → Fit x → value (Fork (Equal Port 0) y n) (record x { port = 0 }) ≡ value (Fork (Equal Port 0) y n) (record x { port = beyond })) → ⊥
  zero_root y n d untested other same =
      let starts = ports_first (Fork (Equal Port 0) y n) untested in
      let yes_d = yes_diagram (Equal Port 0) y n d in
      let no_d = no_diagram (Equal Port 0) y n d in
      d.reduced.0 (one_diagram y (rest Port n) yes_d (past_diagram (Equal Port 0) n no_d)
      (λ x fit.
      sym (later_same Port 0 x y (yes_later y d.ascends.0 d.asks_once.0 d.lawful.1) d.ascends.2)
      ∙ (same x fit ∙ rest_value n d.ascends.3 d.lawful.2 (λ s tested. starts s (inr (inr tested))) (λ tested. other (inr (inr tested))) x)))

  -- so it is not tested
  zero_untested : (t : Tree L) → IsDiagram t → IsUntested Switch t → (IsTested (Equal Port beyond) t → ⊥)
      → ((x : Numbers) → Fit x → value t (record x { port = 0 }) ≡ value t (record x { port = beyond })) → IsTested (Equal Port 0) t → ⊥
  zero_untested (Tip l) d untested other same tested = tested
  zero_untested (Fork s y n) d untested other same tested = by (first tested)
    where
      front : (side : Tree L) → IsBefore s side → Ascends side → IsTested (Equal Port 0) side → s ≡ Equal Port 0
      front side before up inside = elim (before_tested s (Equal Port 0) side before up inside) [
        | inl less ↦
            let e : rank (field_of s) ≡ 0 = omega arith in
            absurd (untested s (inl refl) (rank_injective (field_of s) Switch e))
        | inr less ↦ absurd (omega arith)
      ]

      first : IsTested (Equal Port 0) (Fork s y n) → s ≡ Equal Port 0
      first (inl is) = sym is
      first (inr (inl inside)) = front y d.ascends.0 d.ascends.2 inside
      first (inr (inr inside)) = front n d.ascends.1 d.ascends.3 inside

      by : s ≡ Equal Port 0 → ⊥
      by is =
          zero_root y n (subst (λ q. IsDiagram (Fork q y n)) is d) (subst (λ q. IsUntested Switch (Fork q y n)) is untested)
          (subst (λ q. IsTested (Equal Port beyond) (Fork q y n) → ⊥) is other)
          (subst (λ q. (x : Numbers) → Fit x → value (Fork q y n) (record x { port = 0 }) ≡ value (Fork q y n) (record x { port = beyond })) is same)

  -- a tree that tests neither of two ports gives packets the same at both
  port_moot : (t : Tree L) → AllLawful t → (v w : ℕ) → (IsTested (Equal Port v) t → ⊥) → (IsTested (Equal Port w) t → ⊥) → (x : Numbers)
      → value t (with_number Port v x) ≡ value t (with_number Port w x)
  port_moot (Tip l) lawful v w no_v no_w x = refl
  port_moot (Fork s y n) lawful v w no_v no_w x =
      let yes = port_moot y lawful.1 v w (λ q. no_v (inr (inl q))) (λ q. no_w (inr (inl q))) x in
      let no = port_moot n lawful.2 v w (λ q. no_v (inr (inr q))) (λ q. no_w (inr (inr q))) x in
      let test = tests_same s lawful.0 (λ e. no_v (inl e)) (λ e. no_w (inl e)) in
      λ i. if test i then yes i else no i
    where
      tests_same : (q : Test) → IsLawful q → (Equal Port v ≡ q → ⊥) → (Equal Port w ≡ q → ⊥) → passes q (with_number Port v x) ≡ passes q (with_number Port w x)
      tests_same (Equal g u) fine other_v other_w = elim (eqb_tells (rank Port) (rank g)) [
        | inl same ↦
            let f : Port ≡ g = rank_injective Port g same.1 in
            passes_set (Equal g u) Port v x (sym same.1) ∙ (ne_eqb v u (λ e. other_v (λ i. Equal (f i) (e i)))
            ∙ sym (passes_set (Equal g u) Port w x (sym same.1) ∙ ne_eqb w u (λ e. other_w (λ i. Equal (f i) (e i)))))
        | inr other ↦ passes_kept (Equal g u) Port v x (λ e. other.1 (sym e)) ∙ sym (passes_kept (Equal g u) Port w x (λ e. other.1 (sym e)))
      ]
      tests_same (Bit g i) fine other_v other_w =
          passes_kept (Bit g i) Port v x (λ e. kinds_differ Port g refl fine.0 (sym e))
          ∙ sym (passes_kept (Bit g i) Port w x (λ e. kinds_differ Port g refl fine.0 (sym e)))

  -- tested ports are those of ports where port 0 is not tested
  ports_only : (t : Tree L) → IsDiagram t → IsUntested Switch t → TestsPortsOrZero t
      → ((x : Numbers) → Fit x → value t (record x { port = 0 }) ≡ value t (record x { port = beyond })) → TestsPorts t
  ports_only t d untested tests same v tested = elim (tests v tested) [
    | inl number ↦ number
    | inr zero ↦ absurd (zero_untested t d untested (λ q. far (tests beyond q)) same (subst (λ n. IsTested (Equal Port n) t) zero tested))
  ]
    where
      far : IsPortNumber beyond ⊎ (beyond ≡ 0) → ⊥
      far (inl number) = omega (arith, number.1)
      far (inr zero) = omega (arith, zero)

-- a packet at another port is a packet
at_port_fits : (x : Numbers) (q : ℕ) → q < 2 ^ 32 → Fit x → Fit (record x { port = q })
at_port_fits x q below fit = record {
  switch = fit.switch;
  port = below;
  eth_type = fit.eth_type;
  ip_proto = fit.ip_proto;
  eth_src = fit.eth_src;
  eth_dst = fit.eth_dst;
  ipv4_src = fit.ipv4_src;
  ipv4_dst = fit.ipv4_dst;
  tcp_src = fit.tcp_src;
  tcp_dst = fit.tcp_dst;
  udp_src = fit.udp_src;
  udp_dst = fit.udp_dst;
  ipv6_src = fit.ipv6_src;
  ipv6_dst = fit.ipv6_dst;
}

-- neither is a port

none_beyond : (T : Topology) (d : ℕ) → IsLawfulTopology T → is_port T d beyond ≡ false
none_beyond T d lawful =
    list_any_none (λ q. q == beyond) (ports_of T d)
    (All-weaker IsPortNumber (λ q. (q == beyond) ≡ false) (λ q number. ne_eqb q beyond (λ e. omega (arith, number.1, e))) (ports_of T d)
    (numbers_in T.switches d lawful.switches))

none_zero : (T : Topology) (d : ℕ) → IsLawfulTopology T → is_port T d 0 ≡ false
none_zero T d lawful = no_port_zero T d (numbers_in T.switches d lawful.switches)

module _ (T : Topology) (a : LettersValue) (m : Machine) (d : ℕ) (lawful : IsLawfulTopology T) where
  -- where there is no port, no packet arrives
  no_arrival : (k : Key) (y : Numbers) → is_port T y.switch y.port ≡ false → arrival T (tagging_of a m) k y ≡ None
  no_arrival Plain y none = ap (λ b. if b && is_none (peer T y.switch y.port) then Some (arrive (tagging_of a m) ((tagging_of a m).after 1 y)) else None) none
  no_arrival (Tag t) y none = by (is_linked T y.switch y.port) refl
    where
      by : (b : Bool) → is_linked T y.switch y.port ≡ b
          → (if is_linked T y.switch y.port then Some (arrive (tagging_of a m) ((tagging_of a m).after t y)) else None) ≡ None
      by true linked = let port = linked_port T y.switch y.port lawful linked in absurd cc
      by false linked = ap (λ b. if b then Some (arrive (tagging_of a m) ((tagging_of a m).after t y)) else None) linked

  -- the packet at a port of the switch
  abbrev at_port : ℕ → Numbers → Numbers
  at_port q x = at_switch d (record x { port = q })

  -- writes that take a packet to a port of the switch write the port
  departs_same : (x : Numbers) (w : Written) → departs_by T (at_port 0 x) w ≡ departs_by T (at_port beyond x) w
  departs_same x w = by w.port
    where
      by : (o : Option ℕ) → is_port T d (unwrap_or o 0) ≡ is_port T d (unwrap_or o beyond)
      by None = none_zero T d lawful ∙ sym (none_beyond T d lawful)
      by (Some q) = refl

  -- so their copies are the same
  copies_same : (b : ℕ) (x : Numbers) (w : Written) → departs_by T (at_port beyond x) w ≡ true
      → copies_by T (tagging_of a m) b (at_port 0 x) w ≡ copies_by T (tagging_of a m) b (at_port beyond x) w
  copies_same b x w leaves =
      let port = by w.port refl in
      let packet : on w (at_port 0 x) ≡ on w (at_port beyond x) = λ i. record (on w (at_port 0 x)) { port = port i } in
      ap (λ z. sent_of T z w ((tagging_of a m).after b z) ∷ capture_of (tagging_of a m) w ((tagging_of a m).after b z)) packet
    where
      by : (o : Option ℕ) → w.port ≡ o → unwrap_or w.port 0 ≡ unwrap_or w.port beyond
      by None is =
          let port : is_port T d beyond ≡ true = subst (λ p. is_port T d (unwrap_or p beyond) ≡ true) is leaves in
          let none = none_beyond T d lawful in
          absurd cc
      by (Some q) is = ap (λ p. unwrap_or p 0) is ∙ sym (ap (λ p. unwrap_or p beyond) is)

  all_same : (b : ℕ) (x : Numbers) (ws : List Written) → All (λ w. Unit {0} × (departs_by T (at_port beyond x) w ≡ true)) ws
      → copies_of T (tagging_of a m) b (at_port 0 x) ws ≡ copies_of T (tagging_of a m) b (at_port beyond x) ws
  all_same b x [] leaves = refl
  all_same b x (w ∷ ws) leaves =
      flat_same (copies_by T (tagging_of a m) b (at_port 0 x)) (copies_by T (tagging_of a m) b (at_port beyond x)) (w ∷ ws)
      (λ k e within. copies_same b x (get_or (w ∷ ws) k e) (leaves k e within).1)

-- the trees of the first table test ports alone
pub arriving_test_ports : ArrivingTestPorts
arriving_test_ports T a m d lawful fits k t tree tests =
    ports_only t tree.diagram (no_switch (arrival T (tagging_of a m) k) d t tree) tests
    (λ x fit.
    tree.gives (record x { port = 0 }) (at_port_fits x 0 (omega arith) fit)
    ∙ (no_arrival T a m d lawful k (at_switch d (record x { port = 0 })) (none_zero T d lawful)
    ∙ sym (tree.gives (record x { port = beyond }) (at_port_fits x beyond (omega arith) fit)
    ∙ no_arrival T a m d lawful k (at_switch d (record x { port = beyond })) (none_beyond T d lawful))))

-- and so do those of the second
pub leaving_test_ports : LeavingTestPorts
leaving_test_ports T a m d lawful fits p p_diagram p_tests b t tree tests =
    ports_only t tree.diagram (no_switch (λ y. copies_of T (tagging_of a m) b y (departing T (value p) y)) d t tree) tests
    (λ x fit.
    let moot = port_moot p p_diagram.lawful 0 beyond (λ q. let n = p_tests 0 q in omega (arith, n.0)) (λ q. let n = p_tests beyond q in
    omega (arith, n.1)) (at_switch d x) in
    let kept : filter (departs_by T (at_switch d (record x { port = 0 }))) (value p (at_switch d (record x { port = 0 })))
    ≡ filter (departs_by T (at_switch d (record x { port = beyond }))) (value p (at_switch d (record x { port = beyond }))) =
    (λ i. filter (λ w. departs_same T a m d lawful x w i) (moot i)) in
    tree.gives (record x { port = 0 }) (at_port_fits x 0 (omega arith) fit)
    ∙ (ap (copies_of T (tagging_of a m) b (at_switch d (record x { port = 0 }))) kept
    ∙ (all_same T a m d lawful b x (filter (departs_by T (at_switch d (record x { port = beyond }))) (value p (at_switch d (record x { port = beyond }))))
    (all_kept (λ w. Unit {0}) (departs_by T (at_switch d (record x { port = beyond }))) (value p (at_switch d (record x { port = beyond }))) (λ j e within. tt))
    ∙ sym (tree.gives (record x { port = beyond }) (at_port_fits x beyond (omega arith) fit)))))
