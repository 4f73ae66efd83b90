-- The diagram of what is seen at a switch.
use Rattle.std.proofs.Common.{ℕ, ◌<◌, ◌≡◌, ◌∙◌, List, Some, inl, inr, sym, ap, subst, arith}
use Rattle.std.specs.Prelude.{length, slice_get}
use Rattle.std.specs.Option.{option_map, unwrap_or}
use Rattle.pq_fields.specs.declared.field.Field.TheVariants.{Switch, Port}
use Rattle.pq_fields.specs.Packet.{Numbers, rank}
use Rattle.pq_model.specs.Topology.{Topology, ports_of}
use Rattle.pq_store.specs.declared.test.Test.{Test}
use Rattle.pq_store.specs.Test.{field_of}
use Rattle.pq_store.specs.Tree.{Tree, IsTested, value}
use Rattle.pq_store.specs.Room.{HasRoom, Within}
use Rattle.pq_store.specs.Store.{HasAt}
use Rattle.pq_lists.proofs.Places.{at_place}
use Rattle.pq_store.proofs.Order.{rank_injective}
use Rattle.pq_store.proofs.RoomLemmas.{room_for}
use Rattle.pq_apply.specs.Product.{FitTogetherAt, IsProduct}
use Rattle.pq_apply.specs.Restriction.{IsRestriction, RestrictsAt}
use Rattle.pq_letters.specs.Letters.{LettersValue}
use Rattle.pq_letters.specs.Words.{letter_number}
use Rattle.pq_layout.specs.Leaves.{at_switch}
use Rattle.pq_join.specs.declared.ports.PortKind.{PortKind}
use Rattle.pq_join.specs.declared.sight.Seen.{Seen}
use Rattle.pq_join.specs.Fronts.{Starts, StartsAt}
use Rattle.pq_join.specs.Ports.{IsPortTree}
use Rattle.pq_join.specs.Sight.{IsSeenWithin, IsSight}
use Rattle.pq_join.proofs.PortTrees.{ports_within}

-- the switch is the first field
pub switch_first : {L : Type 0} (ts : List (Tree L)) (k : ℕ) → StartsAt Switch ts k
switch_first ts k t is s tested = omega arith

-- a tree without tests of the switch starts with the port
pub ports_first : {L : Type 0} (t : Tree L) → ((s : Test) → IsTested s t → field_of s ≡ Switch → ⊥) → Starts Port t
ports_first t untested s tested =
    let other : rank (field_of s) ≡ 0 → ⊥ = λ e. untested s tested (rank_injective (field_of s) Switch e) in omega (arith, other)

module _ (T : Topology) (a : LettersValue) (d : ℕ) (k : ℕ) (ps : List (Tree PortKind)) (i : ℕ)
    (lt lr : Tree ℕ) (lt_is : slice_get a.trees a.root ≡ Some lt) (lr_is : slice_get a.trees k ≡ Some lr) (letters : IsRestriction Switch d lt lr)
    (ports : HasAt (IsPortTree T d) ps i) where
  -- the letters at the switch and its ports fit together
  pub sight_fits : HasRoom (IsSeenWithin T a d) → FitTogetherAt a.trees k ps i
  sight_fits room t u t_is u_is =
      let ports_is = ports.1 in
      let t_same : lr ≡ t = cc in
      let u_same : ports.0 ≡ u = cc in
      room_for (λ ns within. (
        subst (Within ns) t_same (λ f v tested. within.0 lt lt_is f v (letters.tests _ tested)),
        subst (Within ns) u_same (ports_within ns (ports_of T d) ports.0 ports.2.tests within.1),
      )) room

  -- a letter is told by the tree
  letter_told : (x : Numbers) → value lr x ≡ letter_number a (at_switch d x)
  letter_told x = letters.gives x ∙ sym (ap (λ t. unwrap_or (option_map (λ u. value u (at_switch d x)) t) 0) lt_is)

  -- their product is the sight
  pub sight_made : (R : ℕ → PortKind → Seen → Type 0) → ((l : ℕ) (p : PortKind) (s : Seen) → R l p s → s ≡ record { letter = l; port = p })
      → (new : List (Tree Seen)) (id : ℕ) → IsProduct R a.trees k ps i new id → HasAt (IsSight T a d) new id
  sight_made R tells new id product = (
    product.product,
    product.is,
    record {
      gives = λ x. tells (value lr x) (value ports.0 x) (value product.product x) (product.gives lr ports.0 lr_is ports.1 x)
          ∙ (λ j. record { letter = letter_told x j; port = ports.2.gives x j });
      tests = λ ns within f v tested. elim (product.tests lr ports.0 lr_is ports.1 _ tested) [
        | inl own ↦ within.0 lt lt_is f v (letters.tests _ own)
        | inr own ↦ ports_within ns (ports_of T d) ports.0 ports.2.tests within.1 f v own
      ];
      asks = λ s tested. elim (product.tests lr ports.0 lr_is ports.1 s tested) [
        | inl own ↦ inl (λ t t_is. let same : lt ≡ t = cc in subst (IsTested s) same (letters.tests s own))
        | inr own ↦ inr (ports.2.tests s own)
      ];
      switch = λ s tested is. elim (product.tests lr ports.0 lr_is ports.1 s tested) [
        | inl own ↦ letters.untested s own is
        | inr own ↦
            let (j, p, inside, at, same) = ports.2.tests s own in
            let e : rank (field_of s) ≡ 1 = ap (λ q. rank (field_of q)) same in
            let f : rank (field_of s) ≡ 0 = ap rank is in
            omega arith
      ];
    },
  )

-- the sight from the diagrams of letters at a switch and of its ports, where those lie in a store
pub record HasParts (T : Topology) (a : LettersValue) (d : ℕ) (ls : List (Tree ℕ)) (k : ℕ) (ps : List (Tree PortKind)) (i : ℕ) : Type 0 where
  pub letters : Tree ℕ
  pub restricted : Tree ℕ
  pub store : ls ≡ a.trees
  pub letters_is : slice_get a.trees a.root ≡ Some letters
  pub restricted_is : slice_get a.trees k ≡ Some restricted
  pub restricts : IsRestriction Switch d letters restricted
  pub ports : HasAt (IsPortTree T d) ps i

pub has_parts : (T : Topology) (a : LettersValue) (d : ℕ) (ls : List (Tree ℕ)) (root k : ℕ) (ps : List (Tree PortKind)) (i : ℕ)
    → ls ≡ a.trees → root ≡ a.root → root < length a.trees
    → RestrictsAt Switch d ls root ls k → HasAt (IsPortTree T d) ps i → HasParts T a d ls k ps i
has_parts T a d ls root k ps i store is within restricts ports =
    let whole = at_place a.trees root within in
    let root_is : slice_get ls root ≡ Some whole.0 = ap (λ ts. slice_get ts root) store ∙ whole.1 in
    let made = restricts whole.0 root_is in
    record {
      letters = whole.0;
      restricted = made.0;
      store = store;
      letters_is = subst (λ r. slice_get a.trees r ≡ Some whole.0) is whole.1;
      restricted_is = subst (λ ts. slice_get ts k ≡ Some made.0) store made.1;
      restricts = made.2;
      ports = ports;
    }

module _ (T : Topology) (a : LettersValue) (d : ℕ) (ls : List (Tree ℕ)) (k : ℕ) (ps : List (Tree PortKind)) (i : ℕ) (parts : HasParts T a d ls k ps i) where
  pub parts_fit : HasRoom (IsSeenWithin T a d) → FitTogetherAt ls k ps i
  parts_fit room =
      subst (λ ts. FitTogetherAt ts k ps i) (sym parts.store)
      (sight_fits T a d k ps i parts.letters parts.restricted parts.letters_is parts.restricted_is parts.restricts parts.ports room)

  pub parts_make : (R : ℕ → PortKind → Seen → Type 0) → ((l : ℕ) (p : PortKind) (s : Seen) → R l p s → s ≡ record { letter = l; port = p })
      → (new : List (Tree Seen)) (id : ℕ) → IsProduct R ls k ps i new id → HasAt (IsSight T a d) new id
  parts_make R tells new id product =
      sight_made T a d k ps i parts.letters parts.restricted parts.letters_is parts.restricted_is parts.restricts parts.ports R tells new id
      (subst (λ ts. IsProduct R ts k ps i new id) parts.store product)
