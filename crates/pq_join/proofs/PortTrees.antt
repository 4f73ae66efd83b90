-- The trees over the ports of a switch.
use Rattle.std.proofs.Common.{ℕ, ◌<◌, ◌≡◌, ◌∙◌, List, [], ◌∷◌, ◌++◌, length, Some, ◌==◌, if◌then◌else◌, inl, inr, refl, sym, ap, subst}
use Rattle.std.proofs.Common.{arith, append_assoc, append-nil}
use Rattle.std.specs.Prelude.{slice_get}
use Rattle.std.specs.List.{All, Any, list_any, push}
use Rattle.std.proofs.lemmas.Bool.{eq-eqb, ne_eqb}
use Rattle.std.proofs.lemmas.Bool.Decides.{eqb_tells}
use Rattle.std.proofs.lemmas.List.Elements.{All-get_or}
use Rattle.std.proofs.lemmas.Option.{slice_get_within}
use Rattle.pq_lists.proofs.Holding.{all_back, all_inside}
use Rattle.pq_fields.specs.declared.field.Field.{Field}
use Rattle.pq_fields.specs.declared.field.Field.TheVariants.{Port}
use Rattle.pq_fields.specs.Packet.{Numbers}
use Rattle.pq_model.specs.Lawful.{Ascends as Rises}
use Rattle.pq_model.specs.MatchFields.{IsPortNumber}
use Rattle.pq_model.specs.Topology.{Topology, ports_of}
use Rattle.pq_store.specs.declared.test.Test.{Test}
use Rattle.pq_store.specs.declared.test.Test.TheVariants.{Equal}
use Rattle.pq_store.specs.Diagram.{AllLawful, Ascends, IsBefore}
use Rattle.pq_store.specs.Tree.{Tree, IsTested, value}
use Rattle.pq_store.specs.Tree.Tree.{Tip, Fork}
use Rattle.pq_store.specs.Store.{HasAt, IsJoin, IsJoinable, JoinsAt, Keeps}
use Rattle.pq_store.specs.Room.{HasRoom, IsAmong, IsTestWithin, Within}
use Rattle.pq_topo.proofs.Ascending.{rest_ascends}
use Rattle.pq_apply.proofs.Few.{few_fit}
use Rattle.pq_apply.proofs.Kept.{sides_join}
use Rattle.pq_rewrite.proofs.Sets.{any_first, any_later}
use Rattle.pq_join.specs.declared.ports.PortKind.{PortKind}
use Rattle.pq_join.specs.declared.ports.PortKind.TheVariants.{Missing}
use Rattle.pq_join.specs.Ports.{IsPortTree, own_kind}
use Rattle.pq_store.proofs.JoinedTrees.{join_ascends, join_first, join_lawful, join_tests, join_value}

-- a list ascends without its second number
without_second : (p q : ℕ) (qs : List ℕ) → Rises (p ∷ q ∷ qs) → Rises (p ∷ qs)
without_second p q [] up = tt
without_second p q (r ∷ rs) up = (omega (arith, up.0, up.1.0), up.1.1)

-- and so do the numbers after some
last_rise : (ps qs : List ℕ) → Rises (ps ++ qs) → Rises qs
last_rise [] qs up = up
last_rise (p ∷ ps) qs up = last_rise ps qs (rest_ascends p (ps ++ qs) up)

-- what each of these ports is, and missing where the number is none of them
abbrev pub kind_among : (ℕ → PortKind) → List ℕ → ℕ → PortKind
kind_among kind met n = if list_any (λ q. q == n) met then kind n else Missing

-- the tree tells what the ports met so far are
pub record IsOverPorts (kind : ℕ → PortKind) (met : List ℕ) (t : Tree PortKind) : Type 0 where
  pub value : (x : Numbers) → value t x ≡ kind_among kind met x.port
  pub lawful : AllLawful t
  pub ascends : Ascends t
  pub first : (q : ℕ) → Rises (q ∷ met) → IsBefore (Equal Port q) t
  pub tests : (s : Test) → IsTested s t → Any (λ p. s ≡ Equal Port p) met

-- a leaf tells none
over_none : (kind : ℕ → PortKind) → IsOverPorts kind [] (Tip Missing)
over_none kind = record { value = λ x. refl; lawful = tt; ascends = tt; first = λ q up. tt; tests = λ s tested. absurd tested }

-- a tree that tests only these ports tests no others
pub ports_within : {L : Type 0} (ns : Field → List ℕ) (ps : List ℕ) (t : Tree L) → ((s : Test) → IsTested s t → Any (λ p. s ≡ Equal Port p) ps)
    → All (λ p. IsAmong p (ns Port)) ps → Within ns t
ports_within ns ps t tests into f v tested =
    let (k, p, within, at, is) = tests (Equal f v) tested in
    let among : IsAmong p (ns Port) = subst (λ q. IsAmong q (ns Port)) at (All-get_or (λ q. IsAmong q (ns Port)) ps k p within into) in
    subst (IsTestWithin ns) (sym is) among

module _ (kind : ℕ → PortKind) (p : ℕ) (met : List ℕ) (n : Tree PortKind) (up : Rises (p ∷ met)) (over : IsOverPorts kind met n) where
  -- the test of one more port, with its leaf, ascends before them
  fork_ascends : Ascends (Fork (Equal Port p) (Tip (kind p)) n)
  fork_ascends = (tt, over.first p up, tt, over.ascends)

  -- the tests are lawful
  fork_lawful : IsPortNumber p → AllLawful (Fork (Equal Port p) (Tip (kind p)) n)
  fork_lawful number = ((refl, omega (arith, number.1)), tt, over.lawful)

  -- it tests the ports met and this one
  fork_tests : (s : Test) → IsTested s (Fork (Equal Port p) (Tip (kind p)) n) → Any (λ q. s ≡ Equal Port q) (p ∷ met)
  fork_tests s (inl is) = any_first (λ q. s ≡ Equal Port q) p met is
  fork_tests s (inr (inl none)) = absurd none
  fork_tests s (inr (inr tested)) = any_later (λ q. s ≡ Equal Port q) p met (over.tests s tested)

  -- it may be before them
  over_joins : IsPortNumber p → HasRoom (λ ns. All (λ q. IsAmong q (ns Port)) (p ∷ met)) → IsJoinable (Equal Port p) (Tip (kind p)) n
  over_joins number room = record {
    lawful = (refl, omega (arith, number.1));
    before_yes = tt;
    before_no = over.first p up;
    once = tt;
    fits = few_fit room.numbers (Fork (Equal Port p) (Tip (kind p)) n) room.few
        (ports_within room.numbers (p ∷ met) (Fork (Equal Port p) (Tip (kind p)) n) fork_tests room.within)
        (fork_lawful number) fork_ascends;
  }

  -- joined it tells them and this one
  over_more : (r : Tree PortKind) → IsPortNumber p → IsJoin (Equal Port p) (Tip (kind p)) n r → IsOverPorts kind (p ∷ met) r
  over_more r number join = record {
    lawful = join_lawful (Equal Port p) (Tip (kind p)) n r join (fork_lawful number);
    value = λ x. join_value (Equal Port p) (Tip (kind p)) n r x join (over.first p up) over.ascends ∙ told x;
    ascends = join_ascends (Equal Port p) (Tip (kind p)) n r join fork_ascends;
    first = λ q more. join_first (Equal Port q) (Equal Port p) (Tip (kind p)) n r join (inr (refl, more.0)) (over.first q (without_second q p met more));
    tests = λ s tested. fork_tests s (join_tests (Equal Port p) (Tip (kind p)) n r join s tested);
  }
    where
      told : (x : Numbers) → (if x.port == p then kind p else value n x) ≡ kind_among kind (p ∷ met) x.port
      told x = elim (eqb_tells x.port p) [
        | inl same ↦ rw (same.0, eq-eqb p x.port (sym same.1)) (ap kind (sym same.1))
        | inr other ↦ rw (other.0, ne_eqb p x.port (λ e. other.1 (sym e))) (over.value x)
      ]

-- The trees at their places, as the ports are met from the last one on.

-- the tree at a place tells what the ports after these are
pub record IsBehind (kind : ℕ → PortKind) (front ps : List ℕ) (ts : List (Tree PortKind)) (k : ℕ) : Type 0 where
  pub met : List ℕ
  pub all : ps ≡ front ++ met
  pub has : HasAt (IsOverPorts kind met) ts k

-- none are met at first
pub behind_all : (kind : ℕ → PortKind) (front ps : List ℕ) (ts : List (Tree PortKind)) (k : ℕ) → front ≡ ps
    → slice_get ts k ≡ Some (Tip Missing) → IsBehind kind front ps ts k
behind_all kind front ps ts k whole is = record { met = []; all = sym (append-nil front ∙ whole); has = (Tip Missing, is, over_none kind) }

-- the tree stays while the store grows
pub behind_still : (kind : ℕ → PortKind) (front ps : List ℕ) (old new : List (Tree PortKind)) (k : ℕ) → Keeps old new
    → IsBehind kind front ps old k → IsBehind kind front ps new k
behind_still kind front ps old new k keeps behind = record {
  met = behind.met;
  all = behind.all;
  has = (behind.has.0, keeps k behind.has.0 behind.has.1, behind.has.2);
}

-- it is in the store
pub behind_within : (kind : ℕ → PortKind) (front ps : List ℕ) (ts : List (Tree PortKind)) (k : ℕ) → IsBehind kind front ps ts k → k < length ts
behind_within kind front ps ts k behind = slice_get_within ts k behind.has.0 behind.has.1

module _ (kind : ℕ → PortKind) (front : List ℕ) (p : ℕ) (ps : List ℕ) (ts : List (Tree PortKind)) (i k : ℕ)
    (behind : IsBehind kind (push front p) ps ts k) (leaf : slice_get ts i ≡ Some (Tip (kind p))) (up : Rises ps) where
  -- the port is before those met
  parts : ps ≡ front ++ p ∷ behind.met
  parts = behind.all ∙ append_assoc front (p ∷ []) behind.met

  -- so it ascends with them
  more_rise : Rises (p ∷ behind.met)
  more_rise = last_rise front (p ∷ behind.met) (subst Rises parts up)

  -- its test may be before the tree
  pub behind_joins : All IsPortNumber ps → HasRoom (λ ns. All (λ q. IsAmong q (ns Port)) ps)
      → (y n : Tree PortKind) → slice_get ts i ≡ Some y → slice_get ts k ≡ Some n → IsJoinable (Equal Port p) y n
  behind_joins numbers room =
      sides_join ts (Equal Port p) i k (Tip (kind p)) behind.has.0 leaf behind.has.1
      (over_joins kind p behind.met behind.has.0 more_rise behind.has.2 (all_inside IsPortNumber front p behind.met ps parts numbers) (room_there room))
    where
      room_there : HasRoom (λ ns. All (λ q. IsAmong q (ns Port)) ps) → HasRoom (λ ns. All (λ q. IsAmong q (ns Port)) (p ∷ behind.met))
      room_there room = record {
        numbers = room.numbers;
        few = room.few;
        within = let among : ℕ → Type 0 = λ q. IsAmong q (room.numbers Port) in all_back among front (p ∷ behind.met) (subst (All among) parts room.within);
      }

  -- and joined it tells this port too
  pub behind_more : All IsPortNumber ps → (new : List (Tree PortKind)) (id : ℕ) → JoinsAt ts (Equal Port p) i k new id → IsBehind kind front ps new id
  behind_more numbers new id joins =
      let made = joins (Tip (kind p)) behind.has.0 leaf behind.has.1 in
      record {
        met = p ∷ behind.met;
        all = parts;
        has = (
          made.0,
          made.1,
          over_more kind p behind.met behind.has.0 more_rise behind.has.2 made.0 (all_inside IsPortNumber front p behind.met ps parts numbers) made.2,
        );
      }

-- with no port left the tree at the place is that over all
pub behind_none : (T : Topology) (d : ℕ) (front ps : List ℕ) (ts : List (Tree PortKind)) (k : ℕ) → length front ≡ 0 → ps ≡ ports_of T d
    → IsBehind (own_kind T d) front ps ts k → HasAt (IsPortTree T d) ts k
behind_none T d [] ps ts k none own behind =
    let over = subst (λ qs. IsOverPorts (own_kind T d) qs behind.has.0) (sym behind.all ∙ own) behind.has.2 in
    (behind.has.0, behind.has.1, record { gives = over.value; tests = over.tests })
behind_none T d (p ∷ front) ps ts k none own behind = absurd (omega (arith, none))
