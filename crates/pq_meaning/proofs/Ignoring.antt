-- What parts give on a packet doesn't depend on the number in a field that the packet lacks.
use Rattle.std.proofs.Common.{◌≡◌, ◌≢◌, ◌∙◌, ◌<◌, ◌==◌, ℕ, true, false, List, length, get_or, if◌then◌else◌, inl, inr, refl, sym, ap, subst}
use Rattle.std.specs.Prelude.{◌⊎◌}
use Rattle.std.specs.List.{Contains}
use Rattle.std.proofs.lemmas.Bool.{or_right}
use Rattle.std.proofs.lemmas.List.Elements.{All-weaker}
use Rattle.pq_fields.specs.declared.field.Field.{Field}
use Rattle.pq_fields.specs.declared.field.Field.TheVariants.{Port, Switch}
use Rattle.pq_fields.specs.Packet.{Numbers, has_field, rank, with_number}
use Rattle.pq_fields.specs.Pred.{FitsField, holds}
use Rattle.pq_fields.specs.Writes.{Written, is_writable, no_writes, on, with_write}
use Rattle.pq_model.specs.Topology.{Topology, ports_of}
use Rattle.pq_policy.specs.Policy.{PolicyTop, Pass, Discard, Spread, Only, Write, Forward, Choose, Either, InTurn, Joint, AnyOne, Chained, First, Second}
use Rattle.pq_policy.specs.Policy.{ArePoliciesOver, Gives, IsLawfulPolicy, IsTopOver, Policies, PolicyTree, Yields, none, put, written}
use Rattle.pq_policy.specs.Policy.{yields, is_writable as may_write}
use Rattle.pq_store.specs.Laws.{Ignores}
use Rattle.pq_store.specs.Tree.{Tree, value}
use Rattle.pq_store.proofs.PrefixNumbers.{number_with_other}
use Rattle.pq_rewrite.specs.Rewriting.{ChangesAll, IsGiven, IsWrittenBy}
use Rattle.pq_rewrite.proofs.Numbers.{has_on}
use Rattle.pq_rewrite.proofs.Sets.{one_given}
use Rattle.pq_classes.proofs.Ignoring.{fit_with, holds_kept}
use Rattle.pq_meaning.specs.Parts.{AreLawful, IsUnionOfParts, any_yields}
use Rattle.pq_meaning.proofs.Presence.{has_kept, on_kept, one_write, other_field}

module _ (f : Field) (n : ℕ) where
  -- a packet with the number
  abbrev changed : Numbers → Numbers
  changed x = with_number f n x

  -- on packets that lack the field the relation gives packets that lack it, and the same with that number as without
  record Carries (R : Numbers → Numbers → Type 0) : Type 0 where
    lacks : (x y : Numbers) → has_field f x ≡ false → R x y → has_field f y ≡ false
    there : (x y : Numbers) → has_field f x ≡ false → R x y → R (changed x) (changed y)
    back : (x y : Numbers) → has_field f x ≡ false → R (changed x) y → (z : Numbers) × R x z × (y ≡ changed z)

  carries_none : Carries (λ x y. ⊥)
  carries_none = record { lacks = λ x y lack never. absurd never; there = λ x y lack never. never; back = λ x y lack never. absurd never }

  carries_same : Carries (λ x y. y ≡ x)
  carries_same = record { lacks = λ x y lack is. ap (has_field f) is ∙ lack; there = λ x y lack is. ap changed is; back = λ x y lack is. (x, refl, is) }

  carries_write : (g : Field) (m : ℕ) → is_writable g ≡ true → Carries (λ x y. y ≡ written g m x)
  carries_write g m writable =
      let w = with_write g m no_writes in
      record {
        lacks = λ x y lack is. ap (has_field f) (is ∙ sym (one_write g m writable x)) ∙ (has_on f w x ∙ lack);
        there = λ x y lack is. ap changed (is ∙ sym (one_write g m writable x)) ∙ (sym (on_kept f n x lack w) ∙ one_write g m writable (changed x));
        back = λ x y lack is. (
          written g m x,
          refl,
          is
              ∙ (sym (one_write g m writable (changed x)) ∙ (on_kept f n x lack w ∙ ap changed (one_write g m writable x))),
        );
      }

  carries_either : (R S : Numbers → Numbers → Type 0) → Carries R → Carries S → Carries (λ x y. R x y ⊎ S x y)
  carries_either R S r s = record {
    lacks = λ x y lack given. elim given [ inl a ↦ r.lacks x y lack a | inr b ↦ s.lacks x y lack b ];
    there = λ x y lack given. elim given [ inl a ↦ inl (r.there x y lack a) | inr b ↦ inr (s.there x y lack b) ];
    back = λ x y lack given. elim given [
      | inl a ↦ let some = r.back x y lack a in (some.0, inl some.1, some.2)
      | inr b ↦ let some = s.back x y lack b in (some.0, inr some.1, some.2)
    ];
  }

  carries_chain : (R S : Numbers → Numbers → Type 0) → Carries R → Carries S → Carries (λ x y. (z : Numbers) × R x z × S z y)
  carries_chain R S r s = record {
    lacks = λ x y lack (z, a, b). s.lacks z y (r.lacks x z lack a) b;
    there = λ x y lack (z, a, b). (changed z, r.there x z lack a, s.there z y (r.lacks x z lack a) b);
    back = λ x y lack (z, a, b).
        let first = r.back x z lack a in
        let z_lacks = r.lacks x first.0 lack first.1 in
        let second = s.back first.0 y z_lacks (subst (λ v. S v y) first.2 b) in
        (second.0, (first.0, first.1, second.1), second.2);
  }

  module _ (T : Topology) where
    -- the packet at another port of its switch
    abbrev Spreads : Numbers → Numbers → Type 0
    Spreads x y = (p : ℕ) × Contains (ports_of T x.switch) p × (p ≢ x.port) × (y ≡ record x { port = p })

    carries_spread : Carries Spreads
    carries_spread = record {
      lacks = λ x y lack (p, there, other, is). (carries_write Port p refl).lacks x y lack is;
      there = λ x y lack (p, there, other, is). (
        p,
        subst (λ d. Contains (ports_of T d) p) (sym (switch_kept x lack)) there,
        subst (λ q. p ≢ q) (sym (port_kept x lack)) other,
        (carries_write Port p refl).there x y lack is,
      );
      back = λ x y lack (p, there, other, is).
          let some = (carries_write Port p refl).back x y lack is in
          (some.0, (p, subst (λ d. Contains (ports_of T d) p) (switch_kept x lack) there, subst (λ q. p ≢ q) (port_kept x lack) other, some.1), some.2);
    }
      where
        switch_kept : (x : Numbers) → has_field f x ≡ false → (changed x).switch ≡ x.switch
        switch_kept x lack = number_with_other f Switch n x (other_field f n x lack Switch refl)

        port_kept : (x : Numbers) → has_field f x ≡ false → (changed x).port ≡ x.port
        port_kept x lack = number_with_other f Port n x (other_field f n x lack Port refl)

    gives_carries : (top : PolicyTop) (below : Policies) (Operands : Joint → Numbers → Numbers → Type 0) → IsTopOver FitsField top below
        → ((j : Joint) → Carries (Operands j)) → Carries (Gives T top Operands)
    gives_carries Pass below Operands lawful carries = carries_same
    gives_carries Discard below Operands lawful carries = carries_none
    gives_carries Spread below Operands lawful carries = carries_spread
    gives_carries (Only p) below Operands lawful carries = record {
      lacks = λ x y lack (holding, is). carries_same.lacks x y lack is;
      there = λ x y lack (holding, is). (holds_kept f n x lack p ∙ holding, ap changed is);
      back = λ x y lack (holding, is). (x, (sym (holds_kept f n x lack p) ∙ holding, refl), is);
    }
    gives_carries (Write g m) below Operands lawful carries = carries_write g m (or_right (rank g == 1) (may_write g) lawful.0)
    gives_carries (Forward m) below Operands lawful carries = carries_write Port m refl
    gives_carries (Choose p) below Operands lawful carries = record {
      lacks = λ x y lack given. (carries (if holds p x then First else Second)).lacks x y lack given;
      there = λ x y lack given.
          subst (λ b. Operands (if b then First else Second) (changed x) (changed y)) (sym (holds_kept f n x lack p))
          ((carries (if holds p x then First else Second)).there x y lack given);
      back = λ x y lack given.
          (carries (if holds p x then First else Second)).back x y lack
          (subst (λ b. Operands (if b then First else Second) (changed x) y) (holds_kept f n x lack p) given);
    }
    gives_carries Either below Operands lawful carries = carries AnyOne
    gives_carries InTurn below Operands lawful carries = carries Chained

    -- so does what policies yield
    yields_carry : (ps : Policies) → ArePoliciesOver FitsField ps → (j : Joint) → Carries (Yields T ps j)
    yields_carry none lawful AnyOne = carries_none
    yields_carry none lawful Chained = carries_same
    yields_carry none lawful First = carries_none
    yields_carry none lawful Second = carries_none
    yields_carry (put top below rest) lawful AnyOne =
        carries_either (Gives T top (Yields T below)) (Yields T rest AnyOne)
        (gives_carries top below (Yields T below) lawful.0 (yields_carry below lawful.1)) (yields_carry rest lawful.2 AnyOne)
    yields_carry (put top below rest) lawful Chained =
        carries_chain (Gives T top (Yields T below)) (Yields T rest Chained)
        (gives_carries top below (Yields T below) lawful.0 (yields_carry below lawful.1)) (yields_carry rest lawful.2 Chained)
    yields_carry (put top below rest) lawful First = gives_carries top below (Yields T below) lawful.0 (yields_carry below lawful.1)
    yields_carry (put top below rest) lawful Second = yields_carry rest lawful.2 First

    part_carries : (p : PolicyTree) → IsLawfulPolicy p → Carries (yields T p)
    part_carries p lawful = gives_carries p.top p.below (Yields T p.below) lawful.0 (yields_carry p.below lawful.1)

    parts_carry : (ps : List PolicyTree) → AreLawful ps → Carries (any_yields T ps)
    parts_carry ps lawful = record {
      lacks = λ x y lack (k, p, within, at, given). (part_carries p (lawful_at k p within at)).lacks x y lack given;
      there = λ x y lack (k, p, within, at, given). (k, p, within, at, (part_carries p (lawful_at k p within at)).there x y lack given);
      back = λ x y lack (k, p, within, at, given). let some = (part_carries p (lawful_at k p within at)).back x y lack given in
          (some.0, (k, p, within, at, some.1), some.2);
    }
      where
        lawful_at : (k : ℕ) (p : PolicyTree) → k < length ps → get_or ps k p ≡ p → IsLawfulPolicy p
        lawful_at k p within at = subst IsLawfulPolicy at (lawful k p within)

  -- writes change the packet with the number as they do without
  changes_kept : (x : Numbers) → has_field f x ≡ false → (w : Written) → ChangesAll x w → ChangesAll (changed x) w
  changes_kept x lack w changes g m is =
      let own = changes g m is in
      (has_kept f n x lack g ∙ own.0, λ same. own.1 (sym (number_with_other f g n x (other_field f n x lack g own.0)) ∙ same))

  given_kept : (P : Numbers → Numbers → Type 0) → Carries P → (x : Numbers) → has_field f x ≡ false → (ws : List Written)
      → IsGiven x (P x) ws → IsGiven (changed x) (P (changed x)) ws
  given_kept P carries x lack ws given = record {
    ascend = given.ascend;
    fit = given.fit;
    idle_free = All-weaker (ChangesAll x) (ChangesAll (changed x)) (changes_kept x lack) ws given.idle_free;
    gives = λ y. (into y, out y);
  }
    where
      into : (y : Numbers) → IsWrittenBy (changed x) ws y → P (changed x) y
      into y (k, w, within, at, is) =
          subst (P (changed x)) (sym (is ∙ on_kept f n x lack w)) (carries.there x (on w x) lack ((given.gives (on w x)).0 (k, w, within, at, refl)))

      out : (y : Numbers) → P (changed x) y → IsWrittenBy (changed x) ws y
      out y yielded =
          let some = carries.back x y lack yielded in
          let writes = (given.gives some.0).1 some.1 in
          (writes.0, writes.1, writes.2, writes.3, some.2 ∙ (ap changed writes.4 ∙ sym (on_kept f n x lack writes.1)))

-- the value of the diagram of all parts doesn't depend on the number in a field that the packet lacks
pub parts_ignore : (T : Topology) (ps : List PolicyTree) (t : Tree (List Written)) → AreLawful ps → IsUnionOfParts T ps t → (f : Field)
    → Ignores f (λ x. has_field f x ≡ false) t
parts_ignore T ps t lawful united f x n fit small lack =
    let P = any_yields T ps in
    let y = with_number f n x in
    one_given y (P y) (P y) (value t y) (value t x) (λ z. (λ p. p, λ p. p)) (united.giving y (fit_with f n x fit small))
    (given_kept f n P (parts_carry f n T ps lawful) x lack (value t x) (united.giving x fit))
