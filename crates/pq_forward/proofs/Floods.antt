-- The trees over the switches of a topology.
use Rattle.std.proofs.Common.{ℕ, ◌<◌, ◌≡◌, ◌∙◌, Bool, true, false, List, [], ◌∷◌, ◌++◌, length, Some, ◌==◌, if◌then◌else◌, inl, inr, refl}
use Rattle.std.proofs.Common.{sym, ap, subst, arith, append_assoc, append-nil}
use Rattle.std.specs.Prelude.{◌⊎◌, slice_get}
use Rattle.std.specs.List.{Any, Contains, push}
use Rattle.std.proofs.lemmas.List.{length-map}
use Rattle.std.proofs.lemmas.Option.{slice_get_within}
use Rattle.pq_policy.proofs.Members.{none_in}
use Rattle.pq_fields.specs.declared.field.Field.{Field}
use Rattle.pq_fields.specs.declared.field.Field.TheVariants.{Switch, Port}
use Rattle.pq_fields.specs.Packet.{Numbers, Fit, rank}
use Rattle.pq_fields.specs.Writes.{Written, written_in}
use Rattle.pq_model.specs.Lawful.{Ascends as Rises}
use Rattle.pq_model.specs.Topology.{Switch as SwitchValue, Topology, ports_in}
use Rattle.pq_model.proofs.CommutingFlows.{equal-comm}
use Rattle.pq_topo.specs.Named.{IsNamedTopology}
use Rattle.pq_store.specs.declared.test.Test.{Test}
use Rattle.pq_store.specs.declared.test.Test.TheVariants.{Equal, Bit}
use Rattle.pq_store.specs.Diagram.{AllLawful, Ascends, IsBefore, Skips}
use Rattle.pq_store.specs.Test.{field_of}
use Rattle.pq_store.specs.Tree.{Tree, IsTested, value}
use Rattle.pq_store.specs.Tree.Tree.{Tip, Fork}
use Rattle.pq_store.specs.Store.{HasAt, IsJoin, IsJoinable, JoinsAt, Keeps}
use Rattle.pq_store.specs.Room.{IsAmong, Within}
use Rattle.pq_store.proofs.RoomLemmas.{fork_within}
use Rattle.pq_apply.proofs.Few.{few_fit}
use Rattle.pq_apply.proofs.Kept.{sides_join}
use Rattle.pq_rewrite.specs.Rewriting.{Covers, IsGiven, IsToWrite}
use Rattle.pq_rewrite.proofs.Given.{any_of}
use Rattle.pq_rewrite.proofs.Sets.{any_none, given_none}
use Rattle.pq_forward.specs.Flood.{IsFlood, IsSpread}
use Rattle.pq_store.proofs.JoinedTrees.{join_ascends, join_first, join_lawful, join_tests, join_value}
use Rattle.pq_forward.proofs.FewNumbers.{numbers_few, numbers_of}
use Rattle.pq_forward.proofs.Ports.{without_second}
use Rattle.pq_forward.proofs.Spreads.{AtOthers}
use Rattle.pq_forward.proofs.Switches.{AreLawful, contains_first, contains_later, datapath_among, datapaths, lawful_there, port_among, ports, ports_count}

-- Trees over ports test no switch.

-- the test is of a port
abbrev IsOfPort : Test → Type 0
IsOfPort s = rank (field_of s) ≡ 1

-- so are the tests of a tree over ports
of_ports : (ps : List ℕ) (t : Tree (List Written)) → IsSpread ps t → (s : Test) → IsTested s t → IsOfPort s
of_ports ps t spread s tested = let (k, p, within, at, is) = spread.tests s tested in ap (λ q. rank (field_of q)) is

-- the test of a switch is before them
before_ports : (d : ℕ) (t : Tree (List Written)) → ((s : Test) → IsTested s t → IsOfPort s) → IsBefore (Equal Switch d) t
before_ports d (Tip l) only = tt
before_ports d (Fork s y n) only = let port = only s (inl refl) in inl (omega (arith, port))

-- and no other test of a switch does
skips_switches : (t : Tree (List Written)) → ((s : Test) → IsTested s t → IsOfPort s) → Skips Switch t
skips_switches (Tip l) only = tt
skips_switches (Fork (Equal g v) y n) only = (
  λ same. let port = only (Equal g v) (inl refl) in omega (arith, same, port),
  skips_switches y (λ s tested. only s (inr (inl tested))),
  skips_switches n (λ s tested. only s (inr (inr tested))),
)
skips_switches (Fork (Bit g i) y n) only = (skips_switches y (λ s tested. only s (inr (inl tested))), skips_switches n (λ s tested. only s (inr (inr tested))))

-- Switch by switch, from the last one on.

-- the tree floods at the switches met so far
pub record IsFloodOver (met : List SwitchValue) (t : Tree (List Written)) : Type 0 where
  pub flood : IsFlood met t
  pub lawful : AllLawful t
  pub ascends : Ascends t
  pub first : (d : ℕ) → Rises (d ∷ datapaths met) → IsBefore (Equal Switch d) t

-- at none it gives nothing
flood_none : IsFloodOver [] (Tip [])
flood_none = record {
  flood = record {
    giving = λ x fit. given_none x (AtOthers [] x) (λ y given. none_in given.0 given.1);
    covers = λ ns into. record {
      tests = λ f v tested. absurd tested;
      writes = λ f n written. absurd (any_none (λ w. written_in f w ≡ Some n) written.2);
    };
  };
  lawful = tt;
  ascends = tt;
  first = λ d up. tt;
}

-- the numbers that trees over these switches test are among these
abbrev AreWithin : (Field → List ℕ) → List SwitchValue → Type 0
AreWithin ns ss = (s : SwitchValue) → Contains ss s → IsAmong s.datapath (ns Switch) × ((p : ℕ) → Contains s.ports p → IsAmong p (ns Port))

module _ (s : SwitchValue) (met : List SwitchValue) (y n : Tree (List Written)) (lawful : AreLawful s met) (spread : IsSpread s.ports y)
    (over : IsFloodOver met n) where
  -- the test of the switch
  abbrev here : Test
  here = Equal Switch s.datapath

  -- it is before the trees over its ports and over the other switches
  fork_ascends : Ascends (Fork here y n)
  fork_ascends = (before_ports s.datapath y (of_ports s.ports y spread), over.first s.datapath lawful.rise, spread.ascends, over.ascends)

  -- the tests are lawful
  fork_lawful : AllLawful (Fork here y n)
  fork_lawful = ((refl, lawful.switch.0), spread.lawful, over.lawful)

  -- the number tested and those tested below are of the switches
  fork_in : (ns : Field → List ℕ) → AreWithin ns (s ∷ met) → Within ns (Fork here y n)
  fork_in ns into =
      let own = into s (contains_first s met) in
      fork_within ns here y n own.0 (spread.covers ns own.1).tests (over.flood.covers ns (λ r there. into r (contains_later r s met there))).tests

  -- so it may be there
  flood_joins : IsJoinable here y n
  flood_joins =
      let ns = numbers_of (datapaths (s ∷ met)) (ports (s ∷ met)) in
      record {
        lawful = (refl, lawful.switch.0);
        before_yes = before_ports s.datapath y (of_ports s.ports y spread);
        before_no = over.first s.datapath lawful.rise;
        once = skips_switches y (of_ports s.ports y spread);
        fits = few_fit ns (Fork here y n)
            (numbers_few (datapaths (s ∷ met)) (ports (s ∷ met)) (omega (arith, lawful.few, length-map (s ∷ met) (λ r. r.datapath)))
            (omega (arith, lawful.few_ports, ports_count (s ∷ met))))
            (fork_in ns (λ r there. (
              any_of (λ d. r.datapath ≡ d) (datapaths (s ∷ met)) r.datapath (datapath_among (s ∷ met) r there) refl,
              λ p port. any_of (λ q. p ≡ q) (ports (s ∷ met)) p (port_among (s ∷ met) r p there port) refl,
            )))
            fork_lawful fork_ascends;
      }

  module _ (r : Tree (List Written)) (join : IsJoin here y n r) where
    -- the joined tree has the value of the side of the packet's switch
    side_value : (x : Numbers) → value r x ≡ (if s.datapath == x.switch then value y x else value n x)
    side_value x = join_value here y n r x join (over.first s.datapath lawful.rise) over.ascends
        ∙ ap (λ b. if b then value y x else value n x) (equal-comm x.switch s.datapath)

    -- so it gives the packet at each port of its switch but its own
    more_giving : (x : Numbers) → Fit x → IsGiven x (AtOthers (ports_in (s ∷ met) x.switch) x) (value r x)
    more_giving x fit = subst (IsGiven x (AtOthers (ports_in (s ∷ met) x.switch) x)) (sym (side_value x)) (by (s.datapath == x.switch))
      where
        by : (b : Bool) → IsGiven x (AtOthers (if b then s.ports else ports_in met x.switch) x) (if b then value y x else value n x)
        by true = spread.giving x fit
        by false = over.flood.giving x fit

    -- it writes what one of the sides does
    more_writes : (f : Field) (m : ℕ) → IsToWrite f m r → IsToWrite f m y ⊎ IsToWrite f m n
    more_writes f m (x, fit, any) = by (s.datapath == x.switch) (subst (Any (λ w. written_in f w ≡ Some m)) (side_value x) any)
      where
        by : (b : Bool) → Any (λ w. written_in f w ≡ Some m) (if b then value y x else value n x) → IsToWrite f m y ⊎ IsToWrite f m n
        by true found = inl (x, fit, found)
        by false found = inr (x, fit, found)

    -- so it tests and writes the ports of the switches alone
    more_covers : (ns : Field → List ℕ) → AreWithin ns (s ∷ met) → Covers ns r
    more_covers ns into = record {
      tests = λ f v tested. fork_in ns into f v (join_tests here y n r join (Equal f v) tested);
      writes = λ f m written. elim (more_writes f m written) [
        | inl first ↦ (spread.covers ns (into s (contains_first s met)).1).writes f m first
        | inr second ↦ (over.flood.covers ns (λ q there. into q (contains_later q s met there))).writes f m second
      ];
    }

    -- joined it floods at one switch more
    flood_more : IsFloodOver (s ∷ met) r
    flood_more = record {
      flood = record { giving = more_giving; covers = more_covers };
      lawful = join_lawful here y n r join fork_lawful;
      ascends = join_ascends here y n r join fork_ascends;
      first = λ d more. join_first (Equal Switch d) here y n r join (inr (refl, more.0)) (over.first d (without_second d s.datapath (datapaths met) more));
    }

-- The trees at their places.

-- the tree at a place floods at the switches after these
pub record IsFloodBehind (front ss : List SwitchValue) (ts : List (Tree (List Written))) (k : ℕ) : Type 0 where
  pub met : List SwitchValue
  pub all : ss ≡ front ++ met
  pub has : HasAt (IsFloodOver met) ts k

-- none are met at first
pub behind_all : (front ss : List SwitchValue) (ts : List (Tree (List Written))) (k : ℕ) → front ≡ ss → slice_get ts k ≡ Some (Tip [])
    → IsFloodBehind front ss ts k
behind_all front ss ts k whole is = record { met = []; all = sym (append-nil front ∙ whole); has = (Tip [], is, flood_none) }

-- the tree stays while the store grows
pub behind_still : (front ss : List SwitchValue) (old new : List (Tree (List Written))) (k : ℕ) → Keeps old new
    → IsFloodBehind front ss old k → IsFloodBehind front ss new k
behind_still front ss old new k keeps behind = record {
  met = behind.met;
  all = behind.all;
  has = (behind.has.0, keeps k behind.has.0 behind.has.1, behind.has.2);
}

-- it is in the store
pub behind_within : (front ss : List SwitchValue) (ts : List (Tree (List Written))) (k : ℕ) → IsFloodBehind front ss ts k → k < length ts
behind_within front ss ts k behind = slice_get_within ts k behind.has.0 behind.has.1

module _ (front : List SwitchValue) (s : SwitchValue) (T : Topology) (ts : List (Tree (List Written))) (k : ℕ)
    (behind : IsFloodBehind (push front s) T.switches ts k) (named : IsNamedTopology T) where
  -- the switch is before those met
  parts : T.switches ≡ front ++ s ∷ behind.met
  parts = behind.all ∙ append_assoc front (s ∷ []) behind.met

  -- so it keeps with them what those of a topology do
  behind_lawful : AreLawful s behind.met
  behind_lawful = lawful_there T front s behind.met named parts

  module _ (i : ℕ) (there : HasAt (IsSpread s.ports) ts i) where
    -- its test may be before the tree
    pub behind_joins : (y n : Tree (List Written)) → slice_get ts i ≡ Some y → slice_get ts k ≡ Some n → IsJoinable (Equal Switch s.datapath) y n
    behind_joins =
        sides_join ts (Equal Switch s.datapath) i k there.0 behind.has.0 there.1 behind.has.1
        (flood_joins s behind.met there.0 behind.has.0 behind_lawful there.2 behind.has.2)

    -- and joined it floods at this switch too
    pub behind_more : (new : List (Tree (List Written))) (id : ℕ) → JoinsAt ts (Equal Switch s.datapath) i k new id → IsFloodBehind front T.switches new id
    behind_more new id joins =
        let made = joins there.0 behind.has.0 there.1 behind.has.1 in
        record {
          met = s ∷ behind.met;
          all = parts;
          has = (made.0, made.1, flood_more s behind.met there.0 behind.has.0 behind_lawful there.2 behind.has.2 made.0 made.2);
        }

-- with no switch left the tree at the place is that over all
pub behind_none : (front ss : List SwitchValue) (ts : List (Tree (List Written))) (k : ℕ) → length front ≡ 0 → IsFloodBehind front ss ts k
    → HasAt (IsFlood ss) ts k
behind_none [] ss ts k none behind = (behind.has.0, behind.has.1, subst (λ qs. IsFlood qs behind.has.0) (sym behind.all) behind.has.2.flood)
behind_none (s ∷ front) ss ts k none behind = absurd (omega (arith, none))
