-- The trees over the ports of a switch.
use Rattle.std.proofs.Common.{ℕ, ◌<◌, ◌≤◌, ◌≡◌, ◌∙◌, true, List, [], ◌∷◌, ◌++◌, length, Some, ◌==◌, if◌then◌else◌, inl, inr, refl, sym, ap}
use Rattle.std.proofs.Common.{subst, arith, append_assoc, append-nil, get_or}
use Rattle.std.specs.Prelude.{◌≢◌, slice_get}
use Rattle.std.specs.List.{All, Any, Contains, push}
use Rattle.std.proofs.lemmas.Bool.{eq-eqb, ne_eqb}
use Rattle.std.proofs.lemmas.Bool.Decides.{eqb_tells}
use Rattle.std.proofs.lemmas.List.{length-append}
use Rattle.std.proofs.lemmas.List.Elements.{All-weaker}
use Rattle.std.proofs.lemmas.Option.{slice_get_within}
use Rattle.pq_lists.proofs.Holding.{all_inside}
use Rattle.pq_fields.specs.declared.field.Field.{Field}
use Rattle.pq_fields.specs.declared.field.Field.TheVariants.{Port}
use Rattle.pq_fields.specs.Packet.{Numbers, has_field, is_ipv4, is_tcp, is_udp, number_in}
use Rattle.pq_fields.specs.Writes.{Written, AllFit, on, written_in}
use Rattle.pq_model.specs.Lawful.{Ascends as Rises}
use Rattle.pq_model.specs.MatchFields.{IsPortNumber}
use Rattle.pq_store.specs.declared.test.Test.{Test}
use Rattle.pq_store.specs.declared.test.Test.TheVariants.{Equal}
use Rattle.pq_store.specs.Diagram.{AllLawful, Ascends, IsBefore}
use Rattle.pq_store.specs.Tree.{Tree, IsTested, value}
use Rattle.pq_store.specs.Tree.Tree.{Tip, Fork}
use Rattle.pq_store.specs.Store.{HasAt, IsJoin, IsJoinable, JoinsAt, Keeps}
use Rattle.pq_store.specs.Room.{IsAmong, IsCounted, IsTestWithin, Within}
use Rattle.pq_apply.specs.Predicates.{NeedsAmong}
use Rattle.pq_apply.proofs.Few.{few_fit}
use Rattle.pq_apply.proofs.Kept.{sides_join}
use Rattle.pq_apply.proofs.Choices.{one_of_same}
use Rattle.pq_rewrite.specs.Rewriting.{ChangesAll, IsGiven, IsToWrite, IsWrittenBy}
use Rattle.pq_rewrite.proofs.Single.{alone}
use Rattle.pq_rewrite.proofs.Sets.{any_first, any_later}
use Rattle.pq_forward.specs.Flood.{AreFewPorts, IsSpread, at_others, at_port}
use Rattle.pq_store.proofs.JoinedTrees.{join_ascends, join_first, join_lawful, join_tests, join_value}
use Rattle.pq_apply.proofs.Required.{port_needs}
use Rattle.pq_forward.proofs.FewNumbers.{numbers_few, numbers_of}
use Rattle.pq_forward.proofs.Ports.{all_others, any_of_others, has, last_ascend, others_ascend, others_of, others_of_any, without_second}

-- the port of the packet where it is one of those met so far
abbrev pub own_port : List ℕ → ℕ → ℕ
own_port met n = if has met n then n else 0

-- the tree tells the ports met so far from all others
pub record IsSpreadOver (met ps : List ℕ) (t : Tree (List Written)) : Type 0 where
  pub value : (x : Numbers) → value t x ≡ at_others (own_port met x.port) ps
  pub lawful : AllLawful t
  pub ascends : Ascends t
  pub first : (q : ℕ) → Rises (q ∷ met) → IsBefore (Equal Port q) t
  pub tests : (s : Test) → IsTested s t → Any (λ p. s ≡ Equal Port p) met

-- a leaf tells none
spread_none : (ps : List ℕ) → IsSpreadOver [] ps (Tip (at_others 0 ps))
spread_none ps = record { value = λ x. refl; lawful = tt; ascends = tt; first = λ q up. tt; tests = λ s tested. absurd tested }

-- a tree that tests only these ports tests no others
ports_within : (ns : Field → List ℕ) (ps : List ℕ) (t : Tree (List Written)) → ((s : Test) → IsTested s t → Any (λ p. s ≡ Equal Port p) ps)
    → ((p : ℕ) → IsAmong p ps → IsAmong p (ns Port)) → Within ns t
ports_within ns ps t tests into f v tested =
    let (k, p, within, at, is) = tests (Equal f v) tested in
    subst (IsTestWithin ns) (sym is) (into p (k, p, within, at, refl))

module _ (p : ℕ) (met ps : List ℕ) (n : Tree (List Written)) (up : Rises (p ∷ met)) (spread : IsSpreadOver met ps n) where
  -- the test of one more port, with its leaf, ascends before them
  fork_ascends : Ascends (Fork (Equal Port p) (Tip (at_others p ps)) n)
  fork_ascends = (tt, spread.first p up, tt, spread.ascends)

  -- the tests are lawful
  fork_lawful : IsPortNumber p → AllLawful (Fork (Equal Port p) (Tip (at_others p ps)) n)
  fork_lawful number = ((refl, omega (arith, number.1)), tt, spread.lawful)

  -- it tests the ports met and this one
  fork_tests : (s : Test) → IsTested s (Fork (Equal Port p) (Tip (at_others p ps)) n) → Any (λ q. s ≡ Equal Port q) (p ∷ met)
  fork_tests s (inl is) = any_first (λ q. s ≡ Equal Port q) p met is
  fork_tests s (inr (inl none)) = absurd none
  fork_tests s (inr (inr tested)) = any_later (λ q. s ≡ Equal Port q) p met (spread.tests s tested)

  -- it may be before them
  spread_joins : IsPortNumber p → length (p ∷ met) ≤ 4096 → IsJoinable (Equal Port p) (Tip (at_others p ps)) n
  spread_joins number few =
      let ns = numbers_of [] (p ∷ met) in
      record {
        lawful = (refl, omega (arith, number.1));
        before_yes = tt;
        before_no = spread.first p up;
        once = tt;
        fits = few_fit ns (Fork (Equal Port p) (Tip (at_others p ps)) n) (numbers_few [] (p ∷ met) (omega arith) few)
            (ports_within ns (p ∷ met) (Fork (Equal Port p) (Tip (at_others p ps)) n) fork_tests (λ q among. among)) (fork_lawful number) fork_ascends;
      }

  -- joined it tells them from all others
  spread_more : (r : Tree (List Written)) → IsPortNumber p → IsJoin (Equal Port p) (Tip (at_others p ps)) n r → IsSpreadOver (p ∷ met) ps r
  spread_more r number join = record {
    lawful = join_lawful (Equal Port p) (Tip (at_others p ps)) n r join (fork_lawful number);
    value = λ x. join_value (Equal Port p) (Tip (at_others p ps)) n r x join (spread.first p up) spread.ascends ∙ told x;
    ascends = join_ascends (Equal Port p) (Tip (at_others p ps)) n r join fork_ascends;
    first = λ q more. join_first (Equal Port q) (Equal Port p) (Tip (at_others p ps)) n r join (inr (refl, more.0))
        (spread.first q (without_second q p met more));
    tests = λ s tested. fork_tests s (join_tests (Equal Port p) (Tip (at_others p ps)) n r join s tested);
  }
    where
      told : (x : Numbers) → (if x.port == p then at_others p ps else value n x) ≡ at_others (own_port (p ∷ met) x.port) ps
      told x = elim (eqb_tells x.port p) [
        | inl same ↦ rw (same.0, eq-eqb p x.port (sym same.1)) (ap (λ q. at_others q ps) (sym same.1))
        | inr other ↦ rw (other.0, ne_eqb p x.port (λ e. other.1 (sym e))) (spread.value x)
      ]

-- The trees at their places, as the ports are met from the last one on.

-- the tree at a place tells the ports after these from all others
pub record IsSpreadBehind (front ps : List ℕ) (ts : List (Tree (List Written))) (k : ℕ) : Type 0 where
  pub met : List ℕ
  pub all : ps ≡ front ++ met
  pub has : HasAt (IsSpreadOver met ps) ts k

-- none are met at first
pub behind_all : (front ps : List ℕ) (ts : List (Tree (List Written))) (k : ℕ) → front ≡ ps → slice_get ts k ≡ Some (Tip (at_others 0 ps))
    → IsSpreadBehind front ps ts k
behind_all front ps ts k whole is = record { met = []; all = sym (append-nil front ∙ whole); has = (Tip (at_others 0 ps), is, spread_none ps) }

-- the tree one_of_same while the store grows
pub behind_still : (front ps : List ℕ) (old new : List (Tree (List Written))) (k : ℕ) → Keeps old new → IsSpreadBehind front ps old k
    → IsSpreadBehind front ps new k
behind_still front ps old new k keeps behind = record {
  met = behind.met;
  all = behind.all;
  has = (behind.has.0, keeps k behind.has.0 behind.has.1, behind.has.2);
}

-- it is in the store
pub behind_within : (front ps : List ℕ) (ts : List (Tree (List Written))) (k : ℕ) → IsSpreadBehind front ps ts k → k < length ts
behind_within front ps ts k behind = slice_get_within ts k behind.has.0 behind.has.1

module _ (front : List ℕ) (p : ℕ) (ps : List ℕ) (ts : List (Tree (List Written))) (i k : ℕ)
    (behind : IsSpreadBehind (push front p) ps ts k) (leaf : slice_get ts i ≡ Some (Tip (at_others p ps))) (up : Rises ps) where
  -- the port is before those met
  parts : ps ≡ front ++ p ∷ behind.met
  parts = behind.all ∙ append_assoc front (p ∷ []) behind.met

  -- so it ascends with them
  more_rise : Rises (p ∷ behind.met)
  more_rise = last_ascend front (p ∷ behind.met) (subst Rises parts up)

  -- its test may be before the tree
  pub behind_joins : All IsPortNumber ps → AreFewPorts ps
      → (y n : Tree (List Written)) → slice_get ts i ≡ Some y → slice_get ts k ≡ Some n → IsJoinable (Equal Port p) y n
  behind_joins numbers few =
      sides_join ts (Equal Port p) i k (Tip (at_others p ps)) behind.has.0 leaf behind.has.1
      (spread_joins p behind.met ps behind.has.0 more_rise behind.has.2 (all_inside IsPortNumber front p behind.met ps parts numbers) (few_there few))
    where
      few_there : AreFewPorts ps → length (p ∷ behind.met) ≤ 4096
      few_there few = omega (arith, few, ap length parts, length-append front (p ∷ behind.met))

  -- and joined it tells this port too
  pub behind_more : All IsPortNumber ps → (new : List (Tree (List Written))) (id : ℕ) → JoinsAt ts (Equal Port p) i k new id → IsSpreadBehind front ps new id
  behind_more numbers new id joins =
      let made = joins (Tip (at_others p ps)) behind.has.0 leaf behind.has.1 in
      record {
        met = p ∷ behind.met;
        all = parts;
        has = (
          made.0,
          made.1,
          spread_more p behind.met ps behind.has.0 more_rise behind.has.2 made.0 (all_inside IsPortNumber front p behind.met ps parts numbers) made.2,
        );
      }

-- What the tree gives once all ports are met.

-- the packet at the port
on_port : (p : ℕ) (x : Numbers) → on (at_port p) x ≡ record x { port = p }
on_port p x = λ i. record x {
  port = p;
  ipv4_src = sym (one_of_same (is_ipv4 x) x.ipv4_src) i;
  ipv4_dst = sym (one_of_same (is_ipv4 x) x.ipv4_dst) i;
  tcp_src = sym (one_of_same (is_tcp x) x.tcp_src) i;
  tcp_dst = sym (one_of_same (is_tcp x) x.tcp_dst) i;
  udp_src = sym (one_of_same (is_udp x) x.udp_src) i;
  udp_dst = sym (one_of_same (is_udp x) x.udp_dst) i;
}

-- a port's write fits
port_fits : (p : ℕ) → IsPortNumber p → AllFit (at_port p)
port_fits p number = record {
  port = omega (arith, number.1);
  eth_src = tt;
  eth_dst = tt;
  ipv4_src = tt;
  ipv4_dst = tt;
  tcp_src = tt;
  tcp_dst = tt;
  udp_src = tt;
  udp_dst = tt;
}

-- it changes a packet at another port
port_changes : (p : ℕ) (x : Numbers) → p ≢ x.port → ChangesAll x (at_port p)
port_changes p x other f n is =
    let only = alone Port f p n is in
    (subst (λ g. has_field g x ≡ true) (sym only.0) refl, λ same. other (sym only.1 ∙ (sym same ∙ ap (λ g. number_in g x) only.0)))

-- the packets at the ports but its own
abbrev pub AtOthers : List ℕ → Numbers → Numbers → Type 0
AtOthers ps x y = (p : ℕ) × Contains ps p × (p ≢ x.port) × (y ≡ record x { port = p })

-- the writes of the ports but the packet's own are the list for these packets
others_given : (ps : List ℕ) (x : Numbers) → Rises ps → All IsPortNumber ps → IsGiven x (AtOthers ps x) (at_others x.port ps)
others_given ps x up numbers = record {
  ascend = others_ascend x.port ps up;
  fit = all_others AllFit x.port ps (All-weaker IsPortNumber (λ p. p ≢ x.port → AllFit (at_port p)) (λ p number other. port_fits p number) ps numbers);
  idle_free = all_others (ChangesAll x) x.port ps
      (All-weaker IsPortNumber (λ p. p ≢ x.port → ChangesAll x (at_port p)) (λ p number other. port_changes p x other) ps numbers);
  gives = λ y. (into y, back y);
}
  where
    into : (y : Numbers) → IsWrittenBy x (at_others x.port ps) y → AtOthers ps x y
    into y written =
        let (k, p, within, at, both) = any_of_others (λ w. y ≡ on w x) x.port ps written in
        (p, (k, within, at), both.0, both.1 ∙ on_port p x)

    back : (y : Numbers) → AtOthers ps x y → IsWrittenBy x (at_others x.port ps) y
    back y (p, (k, within, at), other, is) = others_of_any (λ w. y ≡ on w x) x.port ps (k, p, within, at, (other, is ∙ sym (on_port p x)))

-- a number among these is contained
contained : (ps : List ℕ) (p : ℕ) → IsAmong p ps → Contains ps p
contained ps p (k, q, within, at, is) = (k, within, subst (λ r. get_or ps k r ≡ r) (sym is) at)

module _ (ps : List ℕ) (t : Tree (List Written)) (spread : IsSpreadOver ps ps t) (up : Rises ps) (numbers : All IsPortNumber ps) where
  -- on each packet it has the writes of the ports but its own
  spread_value : (x : Numbers) → value t x ≡ at_others x.port ps
  spread_value x = spread.value x ∙ others_of x.port ps numbers

  -- it writes the ports alone
  spread_writes : (ns : Field → List ℕ) → ((p : ℕ) → Contains ps p → IsAmong p (ns Port)) → (f : Field) (n : ℕ) → IsToWrite f n t
      → IsCounted ns f n × NeedsAmong ns f
  spread_writes ns into f n (x, fit, any) =
      let (k, p, within, at, both) = any_of_others (λ w. written_in f w ≡ Some n) x.port ps (subst (Any (λ w. written_in f w ≡ Some n)) (spread_value x) any) in
      let only = alone Port f p n both.1 in (
        subst (λ g. IsCounted ns g n) (sym only.0) (λ whole. subst (λ m. IsAmong m (ns Port)) (sym only.1) (into p (k, within, at))),
        subst (NeedsAmong ns) (sym only.0) (port_needs ns),
      )

  -- so it is the tree over these ports
  spread_whole : IsSpread ps t
  spread_whole = record {
    lawful = spread.lawful;
    ascends = spread.ascends;
    tests = spread.tests;
    giving = λ x fit. subst (IsGiven x (AtOthers ps x)) (sym (spread_value x)) (others_given ps x up numbers);
    covers = λ ns into. record {
      tests = ports_within ns ps t spread.tests (λ p among. into p (contained ps p among));
      writes = spread_writes ns into;
    };
  }

-- with no port left the tree at the place is that over all
pub behind_none : (front ps : List ℕ) (ts : List (Tree (List Written))) (k : ℕ) → length front ≡ 0 → Rises ps → All IsPortNumber ps
    → IsSpreadBehind front ps ts k → HasAt (IsSpread ps) ts k
behind_none [] ps ts k none up numbers behind =
    (behind.has.0, behind.has.1, spread_whole ps behind.has.0 (subst (λ qs. IsSpreadOver qs ps behind.has.0) (sym behind.all) behind.has.2) up numbers)
behind_none (p ∷ front) ps ts k none up numbers behind = absurd (omega (arith, none))
