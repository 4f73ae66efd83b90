-- Ascending lists of writes are determined by what they give.
use Rattle.std.proofs.Common.{zero, suc, ◌≡◌, ◌∙◌, List, [], ◌∷◌, inl, inr, refl, sym, ap, ap₂, subst, arith}
use Rattle.std.specs.Prelude.{◌⊎◌, ◌↔◌}
use Rattle.std.specs.Cmp.{IsTotalOrder}
use Rattle.std.specs.List.{AllPairs, Any}
use Rattle.std.specs.Ordering.{ordering_reverse}
use Rattle.std.specs.declared.cmp.Ordering.{Ordering}
use Rattle.std.specs.declared.cmp.Ordering.TheVariants.{Less, Equal, Greater}
use Rattle.std.proofs.lemmas.List.Elements.{All-cons, All-nil}
use Rattle.pq_fields.specs.contracts.writes.WritesOrd.TheImpl as order
use Rattle.pq_fields.specs.Order.{writes_cmp}
use Rattle.pq_fields.specs.Packet.{Numbers}
use Rattle.pq_fields.specs.Writes.{Written, AllFit, on}
use Rattle.pq_rewrite.specs.Rewriting.{Ascend, ChangesAll, IsGiven, IsWrittenBy}
use Rattle.pq_rewrite.proofs.Diffs.{same_changes}

module _ {X : Type 0} where
  -- one of some is the first, or one of those after it
  pub any_cases : (P : X → Type 0) (x : X) (xs : List X) → Any P (x ∷ xs) → P x ⊎ Any P xs
  any_cases P x xs (zero, y, within, at, p) = inl (subst P (sym at) p)
  any_cases P x xs (suc k, y, within, at, p) = inr (k, y, omega arith, at, p)

  -- the first is one of some
  pub any_first : (P : X → Type 0) (x : X) (xs : List X) → P x → Any P (x ∷ xs)
  any_first P x xs p = (zero, x, omega arith, refl, p)

  -- and so is one of those after it
  pub any_later : (P : X → Type 0) (x : X) (xs : List X) → Any P xs → Any P (x ∷ xs)
  any_later P x xs (k, y, within, at, p) = (suc k, y, omega arith, at, p)

  -- none is one of none
  pub any_none : (P : X → Type 0) → Any P [] → ⊥
  any_none P (k, y, within, at, p) = omega arith

  -- it is in the list
  abbrev pub IsIn : X → List X → Type 0
  IsIn x xs = Any (λ y. x ≡ y) xs

  module _ (R : X → X → Type 0) (never : (x : X) → R x x → ⊥) (trans : (x y z : X) → R x y → R y z → R x z) where
    -- the first is before all after it
    first_before : (x : X) (xs : List X) (z : X) → AllPairs R (x ∷ xs) → IsIn z xs → R x z
    first_before x xs z pairs (k, y, within, at, is) = subst (R x) (at ∙ sym is) (pairs zero (suc k) y (omega arith) (omega arith))

    -- and those after it ascend
    rest_ascends : (x : X) (xs : List X) → AllPairs R (x ∷ xs) → AllPairs R xs
    rest_ascends x xs pairs i j d below within = pairs (suc i) (suc j) d (omega arith) (omega arith)

    -- what is after the first of one list, and in another with the same first, is after it there
    behind : (x : X) (xs : List X) (y : X) (ys : List X) → AllPairs R (x ∷ xs) → x ≡ y → ((z : X) → IsIn z (x ∷ xs) → IsIn z (y ∷ ys))
        → (z : X) → IsIn z xs → IsIn z ys
    behind x xs y ys pairs same into z there = elim (any_cases (λ w. z ≡ w) y ys (into z (any_later (λ w. z ≡ w) x xs there))) [
      | inl first ↦ absurd (never x (subst (R x) (first ∙ sym same) (first_before x xs z pairs there)))
      | inr later ↦ later
    ]

    -- ascending lists of the same are the same
    pub same_ascending : (xs ys : List X) → AllPairs R xs → AllPairs R ys → ((z : X) → IsIn z xs → IsIn z ys) → ((z : X) → IsIn z ys → IsIn z xs) → xs ≡ ys
    same_ascending [] [] left right into back = refl
    same_ascending [] (y ∷ ys) left right into back = absurd (any_none (λ w. y ≡ w) (back y (any_first (λ w. y ≡ w) y ys refl)))
    same_ascending (x ∷ xs) [] left right into back = absurd (any_none (λ w. x ≡ w) (into x (any_first (λ w. x ≡ w) x xs refl)))
    same_ascending (x ∷ xs) (y ∷ ys) left right into back =
        ap₂ (λ z zs. z ∷ zs) first
        (same_ascending xs ys (rest_ascends x xs left) (rest_ascends y ys right) (behind x xs y ys left first into) (behind y ys x xs right (sym first) back))
      where
        first : x ≡ y
        first = elim (any_cases (λ w. x ≡ w) y ys (into x (any_first (λ w. x ≡ w) x xs refl))) [
          | inl same ↦ same
          | inr later ↦ elim (any_cases (λ w. y ≡ w) x xs (back y (any_first (λ w. y ≡ w) y ys refl))) [
            | inl same ↦ sym same
            | inr other ↦ absurd (never x (trans x y x (first_before x xs y left other) (first_before y ys x right later)))
          ]
        ]

-- an answer that is its own reverse isn't Less
reversed : (o : Ordering) → o ≡ ordering_reverse o → o ≡ Less → ⊥
reversed Less same less = absurd cc
reversed Equal same less = absurd cc
reversed Greater same less = absurd cc

-- writes are in a total order
laws : IsTotalOrder writes_cmp
laws = order.Laws.total-law

-- no writes are before themselves
pub never_before : (w : Written) → writes_cmp w w ≡ Less → ⊥
never_before w less = reversed (writes_cmp w w) (laws.antisymm w w) less

-- ascending lists of the same writes are the same
pub same_sets : (v w : List Written) → Ascend v → Ascend w → ((u : Written) → IsIn u v → IsIn u w) → ((u : Written) → IsIn u w → IsIn u v) → v ≡ w
same_sets = same_ascending (λ v w. writes_cmp v w ≡ Less) never_before laws.trans

-- packets that one list gives another gives
abbrev GivesToo : Numbers → List Written → List Written → Type 0
GivesToo x v w = (y : Numbers) → IsWrittenBy x v y → IsWrittenBy x w y

-- so its writes are among those of the other, where all change all they write
among : (x : Numbers) (P Q : Numbers → Type 0) (v w : List Written) → IsGiven x P v → IsGiven x Q w → GivesToo x v w → (u : Written) → IsIn u v → IsIn u w
among x P Q v w left right into u (k, z, within, at, is) =
    let here = into (on u x) (k, z, within, at, ap (λ t. on t x) is) in
    let u_changes : ChangesAll x u = subst (ChangesAll x) (at ∙ sym is) (left.idle_free k z within) in
    let other_changes : ChangesAll x here.1 = subst (ChangesAll x) here.3 (right.idle_free here.0 here.1 here.2) in
    (here.0, here.1, here.2, here.3, same_changes x u here.1 u_changes other_changes here.4)

-- the list that gives some packets is one
pub one_given : (x : Numbers) (P Q : Numbers → Type 0) (v w : List Written) → ((y : Numbers) → P y ↔ Q y) → IsGiven x P v → IsGiven x Q w → v ≡ w
one_given x P Q v w same left right =
    same_sets v w left.ascend right.ascend
    (among x P Q v w left right (λ y written. (right.gives y).1 ((same y).0 ((left.gives y).0 written))))
    (among x Q P w v right left (λ y written. (left.gives y).1 ((same y).1 ((right.gives y).0 written))))

-- the list that gives some packets gives those that are the same
pub given_same : (x : Numbers) (P Q : Numbers → Type 0) (ws : List Written) → ((y : Numbers) → P y ↔ Q y) → IsGiven x P ws → IsGiven x Q ws
given_same x P Q ws same given = record {
  ascend = given.ascend;
  fit = given.fit;
  idle_free = given.idle_free;
  gives = λ y. (λ written. (same y).0 ((given.gives y).0 written), λ q. (given.gives y).1 ((same y).1 q));
}

-- nothing is given by no writes
pub given_none : (x : Numbers) (P : Numbers → Type 0) → ((y : Numbers) → P y → ⊥) → IsGiven x P []
given_none x P none = record {
  ascend = λ i j d below within. absurd (omega arith);
  fit = All-nil AllFit;
  idle_free = All-nil (ChangesAll x);
  gives = λ y. (λ written. absurd (any_none (λ w. y ≡ on w x) written), λ p. absurd (none y p));
}

-- writes that change all they write give one packet
pub given_one : (x : Numbers) (w : Written) → AllFit w → ChangesAll x w → IsGiven x (λ y. y ≡ on w x) (w ∷ [])
given_one x w fits changes = record {
  ascend = λ i j d below within. absurd (omega arith);
  fit = All-cons AllFit w [] fits (All-nil AllFit);
  idle_free = All-cons (ChangesAll x) w [] changes (All-nil (ChangesAll x));
  gives = λ y. (one y, any_first (λ v. y ≡ on v x) w []);
}
  where
    one : (y : Numbers) → IsWrittenBy x (w ∷ []) y → y ≡ on w x
    one y written = elim (any_cases (λ v. y ≡ on v x) w [] written) [ inl is ↦ is | inr none ↦ absurd (any_none (λ v. y ≡ on v x) none) ]
