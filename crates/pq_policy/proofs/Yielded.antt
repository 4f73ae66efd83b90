-- The set that grows by what a policy gives has what it had and what the policy yields.
use Rattle.std.proofs.Common.{◌≡◌, ◌≢◌, ℕ, Bool, true, false, ◌==◌, ◌⊎◌, if◌then◌else◌, List, [], ◌∷◌, refl, sym, subst, inl, inr}
use Rattle.std.specs.BTreeSet.{insert_key}
use Rattle.std.specs.Cmp.Lexicographic.{slice_cmp}
use Rattle.std.specs.Ordering.{is_lt, match_ordering, nat_cmp}
use Rattle.std.specs.declared.cmp.Ordering.{Ordering}
use Rattle.std.specs.declared.cmp.Ordering.TheVariants.{Less, Equal, Greater}
use Rattle.std.specs.List.Sorted.{IsStrictlySortedBy}
use Rattle.std.proofs.lemmas.Bool.{both_ways}
use Rattle.std.proofs.lemmas.Bool.Decides.{eqb_tells}
use Rattle.pq_fields.specs.Order.{packet_cmp}
use Rattle.pq_fields.specs.Packet.{Numbers, is_before, numbers}
use Rattle.pq_fields.specs.Pred.{PredTree, holds}
use Rattle.pq_model.specs.Topology.{Topology, ports_of}
use Rattle.pq_policy.specs.Policy.{Joint, AnyOne, Chained, First, Second, Policies, none, put, PolicyTop, PolicyTree, Pass, Discard, Spread}
use Rattle.pq_policy.specs.Policy.{Only, Write, Forward, Choose, Either, InTurn, written, Gives, Yields, yields, IsListOf}
use Rattle.pq_policy.specs.Grown.{with_packet, at_port, with_other_port, on_each, grown_by, grown_together, grown}
use Rattle.pq_policy.proofs.Members.{IsIn, contained, is_in}
use Rattle.pq_policy.proofs.Exact.{tells, in_order}

-- packets that compare as equal are the same
abbrev IsExact : Type 0
IsExact = (x y : Numbers) → packet_cmp x y ≡ Equal → x ≡ y

-- the set after has what the set before has, and the packets of P
record Adds (P : Numbers → Type 0) (before after : List Numbers) : Type 0 where
  back : (y : Numbers) → IsIn y after → IsIn y before ⊎ P y
  kept : (y : Numbers) → IsIn y before → IsIn y after
  new : (y : Numbers) → P y → IsIn y after

-- what a set with one packet more has
insert_back : (x : Numbers) (ys : List Numbers) (y : Numbers) → IsIn y (insert_key packet_cmp ys x) → IsIn y ys ⊎ (y ≡ x)
insert_back x [] y (inl same) = inr same
insert_back x [] y (inr never) = absurd never
insert_back x (z ∷ zs) y here = by (packet_cmp x z) here (insert_back x zs y)
  where
    by : (o : Ordering) → IsIn y (match_ordering o (x ∷ z ∷ zs) (z ∷ zs) (z ∷ insert_key packet_cmp zs x))
        → (IsIn y (insert_key packet_cmp zs x) → IsIn y zs ⊎ (y ≡ x)) → ((y ≡ z) ⊎ IsIn y zs) ⊎ (y ≡ x)
    by Less (inl same) rest = inr same
    by Less (inr old) rest = inl old
    by Equal old rest = inl old
    by Greater (inl same) rest = inl (inl same)
    by Greater (inr later) rest = elim (rest later) [ inl old ↦ inl (inr old) | inr same ↦ inr same ]

insert_kept : (x : Numbers) (ys : List Numbers) (y : Numbers) → IsIn y ys → IsIn y (insert_key packet_cmp ys x)
insert_kept x [] y never = absurd never
insert_kept x (z ∷ zs) y here = by (packet_cmp x z) here (insert_kept x zs y)
  where
    by : (o : Ordering) → (y ≡ z) ⊎ IsIn y zs → (IsIn y zs → IsIn y (insert_key packet_cmp zs x))
        → IsIn y (match_ordering o (x ∷ z ∷ zs) (z ∷ zs) (z ∷ insert_key packet_cmp zs x))
    by Less here rest = inr here
    by Equal here rest = here
    by Greater (inl same) rest = inl same
    by Greater (inr later) rest = inr (rest later)

insert_new : IsExact → (x : Numbers) (ys : List Numbers) → IsIn x (insert_key packet_cmp ys x)
insert_new exact x [] = inl refl
insert_new exact x (z ∷ zs) = by (packet_cmp x z) refl (insert_new exact x zs)
  where
    by : (o : Ordering) → packet_cmp x z ≡ o → IsIn x (insert_key packet_cmp zs x)
        → IsIn x (match_ordering o (x ∷ z ∷ zs) (z ∷ zs) (z ∷ insert_key packet_cmp zs x))
    by Less is rest = inl refl
    by Equal is rest = inl (exact x z is)
    by Greater is rest = inr rest

adds_one : IsExact → (x : Numbers) (ys : List Numbers) → Adds (λ y. y ≡ x) ys (with_packet x ys)
adds_one exact x ys = record {
  back = insert_back x ys;
  kept = insert_kept x ys;
  new = λ y same. subst (λ z. IsIn z (insert_key packet_cmp ys x)) (sym same) (insert_new exact x ys);
}

adds_none : (ys : List Numbers) → Adds (λ y. ⊥) ys ys
adds_none ys = record { back = λ y here. inl here; kept = λ y here. here; new = λ y never. absurd never }

-- the same packets, said otherwise
adds_same : (P Q : Numbers → Type 0) (xs ys : List Numbers) → ((y : Numbers) → P y → Q y) → ((y : Numbers) → Q y → P y) → Adds P xs ys → Adds Q xs ys
adds_same P Q xs ys there here a = record {
  back = λ y is. elim (a.back y is) [ inl old ↦ inl old | inr p ↦ inr (there y p) ];
  kept = a.kept;
  new = λ y q. a.new y (here y q);
}

-- one after another
adds_both : (P Q : Numbers → Type 0) (xs ys zs : List Numbers) → Adds P xs ys → Adds Q ys zs → Adds (λ y. P y ⊎ Q y) xs zs
adds_both P Q xs ys zs a b = record {
  back = λ y is. elim (b.back y is) [ inl old ↦ elim (a.back y old) [ inl older ↦ inl older | inr p ↦ inr (inl p) ] | inr q ↦ inr (inr q) ];
  kept = λ y is. b.kept y (a.kept y is);
  new = λ y is. elim is [ inl p ↦ b.kept y (a.new y p) | inr q ↦ b.new y q ];
}

-- what any of the list adds
abbrev OfAny : {X : Type 0} → (X → Numbers → Type 0) → List X → Numbers → Type 0
OfAny {X} P xs y = (x : X) × IsIn x xs × P x y

adds_each : {X : Type 0} (grow : X → List Numbers → List Numbers) (P : X → Numbers → Type 0)
    → ((x : X) (ys : List Numbers) → Adds (P x) ys (grow x ys)) → (xs : List X) (ys : List Numbers)
    → Adds (OfAny P xs) ys (on_each grow xs ys)
adds_each grow P each [] ys = adds_same (λ y. ⊥) (OfAny P []) ys ys (λ y never. absurd never) (λ y is. is.1) (adds_none ys)
adds_each grow P each (x ∷ xs) ys =
    adds_same (λ y. P x y ⊎ OfAny P xs y) (OfAny P (x ∷ xs)) ys (on_each grow xs (grow x ys))
    (λ y is. elim is [ inl p ↦ (x, inl refl, p) | inr later ↦ (later.0, inr later.1, later.2) ])
    (λ y is. elim is.1 [ inl same ↦ inl (subst (λ z. P z y) same is.2) | inr later ↦ inr (is.0, later, is.2) ])
    (adds_both (P x) (OfAny P xs) ys (grow x ys) (on_each grow xs (grow x ys)) (each x ys) (adds_each grow P each xs (grow x ys)))

-- the packet at another port than its own
adds_other : IsExact → (x : Numbers) (p : ℕ) (ys : List Numbers) → Adds (λ y. (p ≢ x.port) × (y ≡ at_port p x)) ys (with_other_port p x ys)
adds_other exact x p ys = by (p == x.port) (eqb_tells p x.port)
  where
    by : (b : Bool) → ((b ≡ true) × (p ≡ x.port)) ⊎ ((b ≡ false) × (p ≢ x.port))
        → Adds (λ y. (p ≢ x.port) × (y ≡ at_port p x)) ys (if b then ys else with_packet (at_port p x) ys)
    by true (inl same) = adds_same (λ y. ⊥) (λ y. (p ≢ x.port) × (y ≡ at_port p x)) ys ys (λ y never. absurd never) (λ y is. is.0 same.1) (adds_none ys)
    by true (inr other) = absurd (both_ways true other.0 refl)
    by false (inl same) = absurd (both_ways false refl same.0)
    by false (inr other) = adds_same (λ y. y ≡ at_port p x) (λ y. (p ≢ x.port) × (y ≡ at_port p x)) ys (with_packet (at_port p x) ys)
        (λ y is. (other.1, is)) (λ y is. is.1) (adds_one exact (at_port p x) ys)

-- the packet where the predicate holds
adds_where : IsExact → (p : PredTree) (x : Numbers) (ys : List Numbers)
    → Adds (λ y. (holds p x ≡ true) × (y ≡ x)) ys (if holds p x then with_packet x ys else ys)
adds_where exact p x ys = by (holds p x) refl
  where
    by : (b : Bool) → holds p x ≡ b → Adds (λ y. (holds p x ≡ true) × (y ≡ x)) ys (if b then with_packet x ys else ys)
    by true is = adds_same (λ y. y ≡ x) (λ y. (holds p x ≡ true) × (y ≡ x)) ys (with_packet x ys) (λ y same. (is, same)) (λ y is. is.1) (adds_one exact x ys)
    by false is = adds_same (λ y. ⊥) (λ y. (holds p x ≡ true) × (y ≡ x)) ys ys (λ y never. absurd never)
        (λ y both. both_ways (holds p x) is both.0) (adds_none ys)

-- how the operands make a set grow
abbrev operands : Topology → Policies → Joint → Numbers → List Numbers → List Numbers
operands t below j x ys = grown_together t below j (x ∷ []) ys

-- the operands add what they yield
abbrev DoAdd : Topology → Policies → Type 0
DoAdd t below = (j : Joint) (x : Numbers) (ys : List Numbers) → Adds (Yields t below j x) ys (operands t below j x ys)

adds_top : IsExact → (t : Topology) (top : PolicyTop) (below : Policies) → DoAdd t below → (x : Numbers) (ys : List Numbers)
    → Adds (Gives t top (Yields t below) x) ys (grown_by t top (operands t below) x ys)
adds_top exact t Pass below each x ys = adds_one exact x ys
adds_top exact t Discard below each x ys = adds_none ys
adds_top exact t Spread below each x ys =
    adds_same (OfAny (λ p y. (p ≢ x.port) × (y ≡ at_port p x)) (ports_of t x.switch)) (Gives t Spread (Yields t below) x) ys
    (on_each (λ p. with_other_port p x) (ports_of t x.switch) ys)
    (λ y is. (is.0, contained (ports_of t x.switch) is.0 is.1, is.2.0, is.2.1))
    (λ y is. (is.0, is_in (ports_of t x.switch) is.0 is.1, (is.2, is.3)))
    (adds_each (λ p. with_other_port p x) (λ p y. (p ≢ x.port) × (y ≡ at_port p x)) (adds_other exact x) (ports_of t x.switch) ys)
adds_top exact t (Only p) below each x ys = adds_where exact p x ys
adds_top exact t (Write f n) below each x ys = adds_one exact (written f n x) ys
adds_top exact t (Forward n) below each x ys = adds_one exact (at_port n x) ys
adds_top exact t (Choose p) below each x ys = each (if holds p x then First else Second) x ys
adds_top exact t Either below each x ys = each AnyOne x ys
adds_top exact t InTurn below each x ys = each Chained x ys

-- what the first of the policies adds for each of the packets
adds_first : IsExact → (t : Topology) (top : PolicyTop) (below : Policies) → DoAdd t below → (xs ys : List Numbers)
    → Adds (OfAny (Gives t top (Yields t below)) xs) ys (on_each (grown_by t top (operands t below)) xs ys)
adds_first exact t top below each xs ys = adds_each (grown_by t top (operands t below)) (Gives t top (Yields t below)) (adds_top exact t top below each) xs ys

-- what is given on what is given
adds_next : (G Q : Numbers → Numbers → Type 0) (xs zs ys all : List Numbers) → Adds (OfAny G xs) [] zs → Adds (OfAny Q zs) ys all
    → Adds (OfAny (λ x y. (z : Numbers) × G x z × Q z y) xs) ys all
adds_next G Q xs zs ys all a b =
    adds_same (OfAny Q zs) (OfAny (λ x y. (z : Numbers) × G x z × Q z y) xs) ys all
    (λ y is. elim (a.back is.0 is.1) [ inl never ↦ absurd never | inr g ↦ (g.0, g.1, (is.0, g.2, is.2)) ])
    (λ y is. (is.2.0, a.new is.2.0 (is.0, is.1, is.2.1), is.2.2))
    b

-- of a list of one
adds_single : (t : Topology) (ps : Policies) (j : Joint) (x : Numbers) (ys zs : List Numbers) → Adds (OfAny (Yields t ps j) (x ∷ [])) ys zs
    → Adds (Yields t ps j x) ys zs
adds_single t ps j x ys zs a =
    adds_same (OfAny (Yields t ps j) (x ∷ [])) (Yields t ps j x) ys zs
    (λ y is. elim is.1 [ inl same ↦ subst (λ z. Yields t ps j z y) same is.2 | inr never ↦ absurd never ])
    (λ y is. (x, inl refl, is))
    a

-- no policy adds nothing
adds_nothing : (Q : Numbers → Numbers → Type 0) → ((x y : Numbers) → Q x y → ⊥) → (xs ys : List Numbers) → Adds (OfAny Q xs) ys ys
adds_nothing Q none_is xs ys = adds_same (λ y. ⊥) (OfAny Q xs) ys ys (λ y never. absurd never) (λ y is. none_is is.0 y is.2) (adds_none ys)

adds_together : IsExact → (t : Topology) (ps : Policies) (j : Joint) (xs ys : List Numbers) → Adds (OfAny (Yields t ps j) xs) ys (grown_together t ps j xs ys)
adds_together exact t none AnyOne xs ys = adds_nothing (Yields t none AnyOne) (λ x y is. is) xs ys
adds_together exact t none Chained xs ys = adds_each with_packet (λ x y. y ≡ x) (adds_one exact) xs ys
adds_together exact t none First xs ys = adds_nothing (Yields t none First) (λ x y is. is) xs ys
adds_together exact t none Second xs ys = adds_nothing (Yields t none Second) (λ x y is. is) xs ys
adds_together exact t (put top below rest) AnyOne xs ys =
    let each : DoAdd t below = λ j x zs. adds_single t below j x zs (operands t below j x zs) (adds_together exact t below j (x ∷ []) zs) in
    let first = on_each (grown_by t top (operands t below)) xs ys in
    adds_same (λ y. OfAny (Gives t top (Yields t below)) xs y ⊎ OfAny (Yields t rest AnyOne) xs y)
    (OfAny (Yields t (put top below rest) AnyOne) xs) ys (grown_together t rest AnyOne xs first)
    (λ y is. elim is [ inl g ↦ (g.0, g.1, inl g.2) | inr r ↦ (r.0, r.1, inr r.2) ])
    (λ y is. elim is.2 [ inl g ↦ inl (is.0, is.1, g) | inr r ↦ inr (is.0, is.1, r) ])
    (adds_both (OfAny (Gives t top (Yields t below)) xs) (OfAny (Yields t rest AnyOne) xs) ys first (grown_together t rest AnyOne xs first)
    (adds_first exact t top below each xs ys) (adds_together exact t rest AnyOne xs first))
adds_together exact t (put top below rest) Chained xs ys =
    let each : DoAdd t below = λ j x zs. adds_single t below j x zs (operands t below j x zs) (adds_together exact t below j (x ∷ []) zs) in
    let first = on_each (grown_by t top (operands t below)) xs [] in
    adds_next (Gives t top (Yields t below)) (Yields t rest Chained) xs first ys (grown_together t rest Chained first ys)
    (adds_first exact t top below each xs []) (adds_together exact t rest Chained first ys)
adds_together exact t (put top below rest) First xs ys =
    adds_first exact t top below (λ j x zs. adds_single t below j x zs (operands t below j x zs) (adds_together exact t below j (x ∷ []) zs)) xs ys
adds_together exact t (put top below rest) Second xs ys = adds_together exact t rest First xs ys

-- the set that grew from nothing is the list of what the policy yields
pub list_of_yields : ((x y : Numbers) → packet_cmp x y ≡ slice_cmp nat_cmp (numbers x) (numbers y))
    → ((x y : Numbers) → is_lt (packet_cmp x y) ≡ is_before (numbers x) (numbers y))
    → (t : Topology) (p : PolicyTree) (x : Numbers) (ys : List Numbers) → ys ≡ grown t p x [] → IsStrictlySortedBy packet_cmp ys
    → IsListOf (yields t p x) ys
list_of_yields compares precedes t p x ys is sorted =
    let exact = tells compares in
    let a = adds_top exact t p.top p.below
    (λ j z zs. adds_single t p.below j z zs (operands t p.below j z zs) (adds_together exact t p.below j (z ∷ []) zs)) x [] in
    record {
      ordered = in_order precedes ys sorted;
      exact = λ y. (
        (λ has. elim (a.back y (subst (IsIn y) is (is_in ys y has))) [ inl never ↦ absurd never | inr given ↦ given ]),
        (λ given. contained ys y (subst (IsIn y) (sym is) (a.new y given))),
      );
    }
