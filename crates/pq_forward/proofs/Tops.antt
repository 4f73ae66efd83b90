-- Diagrams of single policies, by what is at their tops.
use Rattle.std.proofs.Common.{ℕ, ◌==◌, ◌≡◌, ◌∙◌, Bool, true, false, List, [], ◌∷◌, Some, if◌then◌else◌, refl, sym, ap, subst}
use Rattle.std.specs.Prelude.{All, IfOk, slice_get}
use Rattle.std.specs.declared.result.Result.{Result}
use Rattle.std.specs.List.{Any}
use Rattle.std.proofs.lemmas.Bool.{or_right, true≢false}
use Rattle.std.proofs.lemmas.List.Elements.{All-contains}
use Rattle.std.proofs.lemmas.Result.{IfOk-weaker}
use Rattle.pq_fields.specs.declared.field.Field.{Field}
use Rattle.pq_fields.specs.declared.field.Field.TheVariants.{Switch, Port, EthType, IpProto, EthSrc, EthDst, Ipv4Src, Ipv4Dst, TcpSrc}
use Rattle.pq_fields.specs.declared.field.Field.TheVariants.{TcpDst, UdpSrc, UdpDst, Ipv6Src, Ipv6Dst}
use Rattle.pq_fields.specs.Packet.{Numbers, has_field, number_in, rank, with_number}
use Rattle.pq_fields.specs.Pred.{PredTree, holds}
use Rattle.pq_fields.specs.Writes.{Written, is_writable, no_writes, on, with_write, written_in}
use Rattle.pq_model.specs.Topology.{Topology}
use Rattle.pq_policy.specs.Policy.{AnyOne, Chained, Choose, Either, First, Forward, InTurn, Only, Pass, PolicyTree, Second, Spread, Write}
use Rattle.pq_policy.specs.Policy.{Yields, leaf, none, policies, written, yields, is_writable as may_write}
use Rattle.pq_store.specs.Tree.{Tree, value}
use Rattle.pq_store.specs.Tree.Tree.{Tip}
use Rattle.pq_store.specs.Store.{HasAt}
use Rattle.pq_store.specs.Room.{IsAmong, IsCounted}
use Rattle.pq_store.proofs.RoomLemmas.{room_for}
use Rattle.pq_store.proofs.PrefixNumbers.{with_own}
use Rattle.pq_apply.specs.Predicates.{NeedsAmong}
use Rattle.pq_rewrite.specs.Calls.{IsWriting}
use Rattle.pq_rewrite.specs.Rewriting.{Covers, IsGiven, IsToWrite}
use Rattle.pq_rewrite.proofs.Diffs.{on_none}
use Rattle.pq_rewrite.proofs.Sets.{any_none, given_none}
use Rattle.pq_rewrite.proofs.Standing.{has_there}
use Rattle.pq_rewrite.specs.Choices.{ChoosesByAt, FitByAt, IsChoiceBy}
use Rattle.pq_rewrite.proofs.Turns.{giving_as}
use Rattle.pq_rewrite.proofs.Unchanged.{kept_unwritten, kept_where, unchanged}
use Rattle.pq_forward.specs.Flood.{IsFlood}
use Rattle.pq_forward.specs.Forward.{ArePoliciesWithin, FitAsForward, IsFiltered, IsForward, IsForwards, joint, pred_needs}
use Rattle.pq_forward.proofs.Halves.{one_either, one_in_turn}

module _ (P Q : Tree (List Written) → Type 0) (follows : (t : Tree (List Written)) → P t → Q t) (ts : List (Tree (List Written))) where
  -- a tree that is at a place has what follows from what it has
  has_too : (k : ℕ) → HasAt P ts k → HasAt Q ts k
  has_too k has = (has.0, has.1, follows has.0 has.2)

  -- so does one at the place that a call gives
  pub gives_too : {E : Type 0} (r : Result ℕ E) → IfOk r (HasAt P ts) → IfOk r (HasAt Q ts)
  gives_too r given = IfOk-weaker r (HasAt P ts) (HasAt Q ts) has_too given

-- No policies.

-- a leaf of no writes, or of none, tests and writes nothing
leaf_covers : (ns : Field → List ℕ) (b : Bool) → Covers ns (Tip (kept_where b))
leaf_covers ns b = record { tests = λ f v none. absurd none; writes = writes }
  where
    writes : (f : Field) (n : ℕ) → IsToWrite f n (Tip (kept_where b)) → IsCounted ns f n × NeedsAmong ns f
    writes f n (x, fit, written) = absurd (kept_unwritten f n b written)

-- so it is the tree of no policies
none_forwards : (T : Topology) (in_turn : Bool) → IsForwards T (joint in_turn) none (Tip (if in_turn then no_writes ∷ [] else []))
none_forwards T true = record { giving = λ x fit. unchanged x; covers = λ ns topology within. leaf_covers ns true }
none_forwards T false = record { giving = λ x fit. given_none x (λ y. ⊥) (λ y none. none); covers = λ ns topology within. leaf_covers ns false }

-- and that leaf is at its place
pub none_at : (T : Topology) (in_turn : Bool) (ts : List (Tree (List Written))) (k : ℕ) → slice_get ts k ≡ Some (Tip (if in_turn then no_writes ∷ [] else []))
    → HasAt (IsForwards T (joint in_turn) none) ts k
none_at T in_turn ts k there = (Tip (if in_turn then no_writes ∷ [] else []), there, none_forwards T in_turn)

-- One policy.

module _ (T : Topology) where
  -- it alone, whichever way policies act
  pub one_forwards : (in_turn : Bool) (p : PolicyTree) (t : Tree (List Written)) → IsForward T p t → IsForwards T (joint in_turn) (policies (p ∷ [])) t
  one_forwards true p t is = record {
    giving = giving_as (yields T p) (Yields T (policies (p ∷ [])) Chained) t (λ x y fit. one_in_turn T p x y) is.giving;
    covers = is.covers;
  }
  one_forwards false p t is = record {
    giving = giving_as (yields T p) (Yields T (policies (p ∷ [])) AnyOne) t (λ x y fit. one_either T p x y) is.giving;
    covers = is.covers;
  }

  -- the packet
  pub pass_forward : IsForward T (leaf Pass) (Tip (no_writes ∷ []))
  pass_forward = record { giving = λ x fit. unchanged x; covers = λ ns topology within. leaf_covers ns true }

  -- the packet at other ports
  pub spread_forward : (t : Tree (List Written)) → IsFlood T.switches t → IsForward T (leaf Spread) t
  spread_forward t floods = record {
    giving = floods.giving;
    covers = λ ns topology within. floods.covers ns (λ s there.
        let numbers = All-contains (λ r. IsAmong r.datapath (ns Switch) × All (λ q. IsAmong q (ns Port)) r.ports) T.switches s topology there in
        (numbers.0, λ p port. All-contains (λ q. IsAmong q (ns Port)) s.ports p numbers.1 port));
  }

  -- the packet where a predicate holds
  pub only_forward : (p : PredTree) (t : Tree (List Written)) → IsFiltered p t → IsForward T (leaf (Only p)) t
  only_forward p t filtered = record { giving = filtered.giving; covers = λ ns topology within. filtered.covers ns within.0 }

-- Writes.

-- a number put where the packet has the field is written
where_had : (f : Field) (n : ℕ) (x : Numbers) → with_number f (if has_field f x then n else number_in f x) x ≡ written f n x
where_had f n x = by (has_field f x)
  where
    by : (has : Bool) → with_number f (if has then n else number_in f x) x ≡ (if has then with_number f n x else x)
    by true = refl
    by false = with_own f x

-- one write puts its number where the packet has the field
one_number : (f : Field) (n : ℕ) (x : Numbers) → is_writable f ≡ true
    → on (with_write f n no_writes) x ≡ with_number f (if has_field f x then n else number_in f x) (on no_writes x)
one_number Switch n x writable = absurd (true≢false (sym writable))
one_number Port n x writable = refl
one_number EthType n x writable = absurd (true≢false (sym writable))
one_number IpProto n x writable = absurd (true≢false (sym writable))
one_number EthSrc n x writable = refl
one_number EthDst n x writable = refl
one_number Ipv4Src n x writable = refl
one_number Ipv4Dst n x writable = refl
one_number TcpSrc n x writable = refl
one_number TcpDst n x writable = refl
one_number UdpSrc n x writable = refl
one_number UdpDst n x writable = refl
one_number Ipv6Src n x writable = absurd (true≢false (sym writable))
one_number Ipv6Dst n x writable = absurd (true≢false (sym writable))

-- so it is the write of a policy
one_write : (f : Field) (n : ℕ) (x : Numbers) → is_writable f ≡ true → on (with_write f n no_writes) x ≡ written f n x
one_write f n x writable = one_number f n x writable ∙ (ap (with_number f (if has_field f x then n else number_in f x)) (on_none x) ∙ where_had f n x)

module _ (f : Field) (n : ℕ) (t : Tree (List Written)) (writing : IsWriting f n t) where
  -- a tree that writes a number tests and writes that alone, and what the field needs
  writing_covers : (ns : Field → List ℕ) → IsCounted ns f n → NeedsAmong ns f → Covers ns t
  writing_covers ns number needs = record { tests = writing.tests ns number needs; writes = writes }
    where
      writes : (g : Field) (m : ℕ) → IsToWrite g m t → IsCounted ns g m × NeedsAmong ns g
      writes g m to_write =
          let only = writing.writes g m to_write in
          subst (λ h. IsCounted ns h m × NeedsAmong ns h) (sym only.0) (subst (λ k. IsCounted ns f k × NeedsAmong ns f) (sym only.1) (number, needs))

  -- it gives what the policy that writes it gives
  writing_giving : is_writable f ≡ true → (x : Numbers) → IsGiven x (λ y. y ≡ on (with_write f n no_writes) x) (value t x)
      → IsGiven x (λ y. y ≡ written f n x) (value t x)
  writing_giving writable x = subst (λ z. IsGiven x (λ y. y ≡ z) (value t x)) (one_write f n x writable)

-- a field that a policy may write can be written
can_write : (f : Field) → may_write f ≡ true → is_writable f ≡ true
can_write f may = or_right (rank f == 1) (may_write f) may

-- a number for such a field
pub write_forward : (T : Topology) (f : Field) (n : ℕ) (t : Tree (List Written)) → may_write f ≡ true → IsWriting f n t → IsForward T (leaf (Write f n)) t
write_forward T f n t may writing = record {
  giving = λ x fit. writing_giving f n t writing (can_write f may) x (writing.giving x fit);
  covers = λ ns topology within. let top = within.0 in writing_covers f n t writing ns top.0 top.1;
}

-- a port
pub port_forward : (T : Topology) (n : ℕ) (t : Tree (List Written)) → IsWriting Port n t → IsForward T (leaf (Forward n)) t
port_forward T n t writing = record {
  giving = λ x fit. writing_giving Port n t writing refl x (writing.giving x fit);
  covers = λ ns topology within. writing_covers Port n t writing ns (λ whole. within.0)
      (record { types = λ v among. absurd (any_none (λ m. v ≡ m) among); protocols = λ v among. absurd (any_none (λ m. v ≡ m) among) });
}

-- Choices.

-- the choice between two policies
abbrev pub choice_of : PredTree → PolicyTree → PolicyTree → PolicyTree
choice_of p a b = record { top = Choose p; below = policies (a ∷ b ∷ []) }

module _ (T : Topology) (p : PredTree) (a b : PolicyTree) where
  -- the trees of both may come together with the predicate
  pub sides_fit : FitAsForward T (choice_of p a b) → (ts : List (Tree (List Written))) (i j : ℕ) → HasAt (IsForward T a) ts i
      → HasAt (IsForward T b) ts j → FitByAt (pred_needs p) ts i j
  sides_fit fit ts i j first second y n y_is n_is =
      room_for (λ ns (topology, all).
      let sides : ArePoliciesWithin ns (policies (a ∷ b ∷ [])) = all.1 in
      let left = (has_there (IsForward T a) ts i y first y_is).covers ns topology (sides.0, sides.1, tt) in
      let right = (has_there (IsForward T b) ts j n second n_is).covers ns topology sides.2 in
      (all.0, left.tests, right.tests)) fit

  module _ (y n r : Tree (List Written)) (left : IsForward T a y) (right : IsForward T b n) (chosen : IsChoiceBy (holds p) (pred_needs p) y n r) where
    -- what the chosen tree has on a packet is given by the policy chosen
    choice_given : (x : Numbers) → IsGiven x (yields T a x) (value y x) → IsGiven x (yields T b x) (value n x)
        → (c : Bool) → value r x ≡ (if c then value y x else value n x)
        → IsGiven x (Yields T (policies (a ∷ b ∷ [])) (if c then First else Second) x) (value r x)
    choice_given x first second true is = subst (IsGiven x (yields T a x)) (sym is) first
    choice_given x first second false is = subst (IsGiven x (yields T b x)) (sym is) second

    -- it writes what one of the two writes
    choice_writes : (ns : Field → List ℕ) → Covers ns y → Covers ns n → (f : Field) (m : ℕ) → IsToWrite f m r → IsCounted ns f m × NeedsAmong ns f
    choice_writes ns first second f m (x, fit, writes) = by (holds p x) (subst (Any (λ w. written_in f w ≡ Some m)) (chosen.gives x fit) writes)
      where
        by : (c : Bool) → Any (λ w. written_in f w ≡ Some m) (if c then value y x else value n x) → IsCounted ns f m × NeedsAmong ns f
        by true in_y = first.writes f m (x, fit, in_y)
        by false in_n = second.writes f m (x, fit, in_n)

    -- so it is that of the choice
    choice_forward : IsForward T (choice_of p a b) r
    choice_forward = record {
      giving = λ x fit. choice_given x (left.giving x fit) (right.giving x fit) (holds p x) (chosen.gives x fit);
      covers = λ ns topology within.
          let sides : ArePoliciesWithin ns (policies (a ∷ b ∷ [])) = within.1 in
          let first = left.covers ns topology (sides.0, sides.1, tt) in
          let second = right.covers ns topology sides.2 in
          record { tests = chosen.tests ns within.0 first.tests second.tests; writes = choice_writes ns first second };
    }

  -- so does the one at its place
  pub choice_at : (ts new : List (Tree (List Written))) (i j id : ℕ) → HasAt (IsForward T a) ts i → HasAt (IsForward T b) ts j
      → ChoosesByAt (holds p) (pred_needs p) ts i j new id → HasAt (IsForward T (choice_of p a b)) new id
  choice_at ts new i j id first second chooses =
      let made = chooses first.0 second.0 first.1 second.1 in
      (made.0, made.1, choice_forward first.0 second.0 made.0 first.2 second.2 made.2)

-- Operands.

-- the tree of the operands acting as any one of them
pub either_forward : (T : Topology) (ps : List PolicyTree) (t : Tree (List Written)) → IsForwards T AnyOne (policies ps) t
    → IsForward T (record { top = Either; below = policies ps }) t
either_forward T ps t is = record { giving = is.giving; covers = λ ns topology within. is.covers ns topology within.1 }

-- and in turn
pub turn_forward : (T : Topology) (ps : List PolicyTree) (t : Tree (List Written)) → IsForwards T Chained (policies ps) t
    → IsForward T (record { top = InTurn; below = policies ps }) t
turn_forward T ps t is = record { giving = is.giving; covers = λ ns topology within. is.covers ns topology within.1 }
