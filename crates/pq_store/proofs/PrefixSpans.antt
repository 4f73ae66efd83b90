-- The packets that reach a tree share what was asked before it.
use Rattle.std.proofs.Common.{◌≡◌, ℕ, suc, ◌+◌, ◌-◌, ◌*◌, ◌/◌, ◌%◌, ◌^◌, ◌<◌, ◌≤◌, ◌⊎◌, inl, inr, false, ◌==◌, refl, sym, ap, subst, ◌∙◌}
use Rattle.std.proofs.Common.{lt_trans, lt_irrefl, arith}
use Rattle.std.proofs.Math.Nat.{div-div-eq-div-mul, mul-mod_right, zero-mod, mod-add-div}
use Rattle.std.proofs.lemmas.Nat.{pow-add}
use Rattle.std.proofs.lemmas.Bool.Decides.{eqb_tells}
use Rattle.pq_fields.specs.declared.field.Field.{Field}
use Rattle.pq_fields.specs.Packet.{Numbers, number_in, rank, width_of}
use Rattle.pq_store.specs.declared.test.Test.TheVariants.{Equal, Bit}
use Rattle.pq_store.specs.Test.{IsLawful, field_of}
use Rattle.pq_store.specs.Tree.{Tree, value, rest}
use Rattle.pq_store.specs.Tree.Tree.{Tip, Fork}
use Rattle.pq_store.specs.Diagram.{AllLawful, IsBefore, Ascends, Skips}
use Rattle.pq_store.specs.Search.{Shares, Begins, span_of, AsksFrom, Reaching, IsFirst, begins}
use Rattle.pq_store.proofs.Order.{rank_injective, kinds_differ}

-- what a multiple of a product leaves by a factor
mod_factor : (n a k : ℕ) → n % (a * k) ≡ 0 → n % a ≡ 0
mod_factor n a k whole =
    let same : n ≡ a * (k * (n / (a * k))) = omega (arith, mod-add-div n (a * k)) in
    ap (λ m. m % a) same ∙ mul-mod_right a (k * (n / (a * k)))

module _ {L : Type 0} where
  -- the tree asks nothing that tells packets apart outside of such a span of the field
  abbrev pub Inside : Field → ℕ → Tree L → Type 0
  Inside f span (Tip l) = Unit {0}
  Inside f span (Fork t y n) = (rank f < rank (field_of t)) ⊎ ((f ≡ field_of t) × (k : ℕ) × (span ≡ span_of t * k))

  -- packets that share what is asked before such a tree share the span
  pub narrows : (f : Field) (span : ℕ) (t : Tree L) (x p : Numbers) → Inside f span t → Reaching t x p → Shares f span x p
  narrows f span (Tip l) x p inside same = (λ g h. same g, ap (λ n. n / span) (same f))
  narrows f span (Fork t y n) x p (inl later) same = (λ g h. same.0 g (lt_trans h later), ap (λ n. n / span) (same.0 f later))
  narrows f span (Fork t y n) x p (inr (is, k, e)) same = subst (λ g. Shares g span x p) (sym is) (
    same.0,
    ap (λ m. number_in (field_of t) x / m) e
        ∙ sym (div-div-eq-div-mul (number_in (field_of t) x) (span_of t) k)
        ∙ ap (λ m. m / k) same.1
        ∙ div-div-eq-div-mul (number_in (field_of t) p) (span_of t) k
        ∙ ap (λ m. number_in (field_of t) p / m) (sym e),
  )

  -- the first packet of a span is the first before such a tree
  pub first_inside : (f : Field) (span : ℕ) (t : Tree L) (p : Numbers) → Inside f span t → Begins f span p → IsFirst t p
  first_inside f span (Tip l) p inside first = tt
  first_inside f span (Fork t y n) p (inl later) first =
      (λ g h. first.0 g (lt_trans later h), ap (λ m. m % span_of t) (first.0 (field_of t) later) ∙ zero-mod (span_of t))
  first_inside f span (Fork t y n) p (inr (is, k, e)) first =
      let moved : Begins (field_of t) span p = subst (λ g. Begins g span p) is first in
      (moved.0, mod_factor (number_in (field_of t) p) (span_of t) k (ap (λ m. number_in (field_of t) p % m) (sym e) ∙ moved.1))

  -- the sides of a test of a bit ask inside of the span that the bit leaves
  pub side_of_bit : (f : Field) (i : ℕ) (t : Tree L) → IsLawful (Bit f i) → AllLawful t → IsBefore (Bit f i) t → Inside f (2 ^ (width_of f - 1 - i)) t
  side_of_bit f i (Tip l) own lawful before = tt
  side_of_bit f i (Fork t y n) own lawful (inl less) = inl less
  side_of_bit f i (Fork (Equal g v) y n) own lawful (inr (same, less)) = absurd (kinds_differ g f lawful.0.0 own.0 (sym same))
  side_of_bit f i (Fork (Bit g j) y n) own lawful (inr (same, less)) =
      let is : f ≡ g = rank_injective f g same in
      let wide : width_of f ≡ width_of g = ap width_of is in
      let sum : width_of f - 1 - i ≡ (width_of g - j) + (j - 1 - i) = omega (arith, lawful.0.1) in
      inr (is, 2 ^ (j - 1 - i), ap (λ k. 2 ^ k) sum ∙ pow-add 2 (width_of g - j) (j - 1 - i))

  -- the yes side of a number asks of later fields
  pub yes_of_number : (f : Field) (v : ℕ) (t : Tree L) → IsLawful (Equal f v) → AllLawful t → IsBefore (Equal f v) t → Skips f t → Inside f 1 t
  yes_of_number f v (Tip l) own lawful before skips = tt
  yes_of_number f v (Fork t y n) own lawful (inl less) skips = inl less
  yes_of_number f v (Fork (Equal g w) y n) own lawful (inr (same, less)) skips = absurd (skips.0 same)
  yes_of_number f v (Fork (Bit g j) y n) own lawful (inr (same, less)) skips = absurd (kinds_differ f g own.0 lawful.0.0 same)

  -- the no side of a number asks of the field's later numbers
  pub no_of_number : (f : Field) (v : ℕ) (t : Tree L) → IsLawful (Equal f v) → AllLawful t → IsBefore (Equal f v) t → AsksFrom f (suc v) t
  no_of_number f v (Tip l) own lawful before = tt
  no_of_number f v (Fork (Equal g w) y n) own lawful (inl less) = inl less
  no_of_number f v (Fork (Equal g w) y n) own lawful (inr (same, less)) = inr (same, less)
  no_of_number f v (Fork (Bit g j) y n) own lawful (inl less) = less
  no_of_number f v (Fork (Bit g j) y n) own lawful (inr (same, less)) = absurd (kinds_differ f g own.0 lawful.0.0 same)

  -- a tree that asks of the field from a number on asks so from each one before
  pub asks_less : (f : Field) (a b : ℕ) (t : Tree L) → a ≤ b → AsksFrom f b t → AsksFrom f a t
  asks_less f a b (Tip l) less asks = tt
  asks_less f a b (Fork (Equal g v) y n) less (inl later) = inl later
  asks_less f a b (Fork (Equal g v) y n) less (inr (same, more)) = inr (same, omega arith)
  asks_less f a b (Fork (Bit g j) y n) less asks = asks

  -- after the field's numbers a tree asks of later fields
  pub rest_inside : (f : Field) (from : ℕ) (t : Tree L) → AsksFrom f from t → AllLawful t → Ascends t → Inside f 1 (rest f t)
  rest_inside f from (Tip l) asks lawful ascends = tt
  rest_inside f from (Fork (Equal g v) y n) asks lawful ascends = elim (eqb_tells (rank f) (rank g)) [
    | inl e ↦ rw e.0 (rest_inside f (suc v) n
        (subst (λ h. AsksFrom h (suc v) n) (sym (rank_injective f g e.1)) (no_of_number g v n lawful.0 lawful.2 ascends.1)) lawful.2
        ascends.3)
    | inr e ↦ rw e.0 (elim asks [ inl later ↦ inl later | inr same ↦ absurd (e.1 same.0) ])
  ]
  rest_inside f from (Fork (Bit g j) y n) asks lawful ascends = inl asks

  -- a packet with a lower number reaches what is after the field's numbers
  pub value_rest : (f : Field) (from : ℕ) (t : Tree L) (x : Numbers) → AsksFrom f from t → AllLawful t → Ascends t → number_in f x < from
      → value t x ≡ value (rest f t) x
  value_rest f from (Tip l) x asks lawful ascends less = refl
  value_rest f from (Fork (Equal g v) y n) x asks lawful ascends less = elim (eqb_tells (rank f) (rank g)) [
    | inl e ↦
        let is : f ≡ g = rank_injective f g e.1 in
        let below : number_in f x < v = elim asks [ inl later ↦ absurd (omega arith) | inr same ↦ omega arith ] in
        let differs : (number_in g x == v) ≡ false = elim (eqb_tells (number_in g x) v) [
          | inl h ↦ absurd (lt_irrefl _ (subst (λ m. m < v) (ap (λ h. number_in h x) is ∙ h.1) below))
          | inr h ↦ h.0
        ] in
        rw (e.0, differs) (value_rest f (suc v) n x
        (subst (λ h. AsksFrom h (suc v) n) (sym is) (no_of_number g v n lawful.0 lawful.2 ascends.1)) lawful.2 ascends.3 (omega arith))
    | inr e ↦ rw e.0 refl
  ]
  value_rest f from (Fork (Bit g j) y n) x asks lawful ascends less = refl

  -- nothing is after numbers that a tree doesn't begin with
  pub rest_same : (f : Field) (t : Tree L) → begins f t ≡ false → rest f t ≡ t
  rest_same f (Tip l) other = refl
  rest_same f (Fork (Equal g v) y n) other = rw other refl
  rest_same f (Fork (Bit g j) y n) other = refl
