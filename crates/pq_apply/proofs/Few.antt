-- A tree that tests only some numbers has on each path at most as many tests of them.
use Rattle.std.proofs.Common.{◌≡◌, ◌⊎◌, ℕ, zero, suc, ◌-◌, ◌/◌, ◌^◌, ◌≤◌, Bool, true, false, List, [], ◌∷◌, length, refl, sym, ◌∙◌, ap, inl, inr, arith}
use Rattle.std.proofs.Math.Nat.{max-le}
use Rattle.std.proofs.lemmas.Bool.Decides.{eqb_tells}
use Rattle.pq_fields.specs.declared.field.Field.{Field}
use Rattle.pq_fields.specs.Packet.{rank, width_of}
use Rattle.pq_store.specs.declared.test.Test.TheVariants.{Equal, Bit}
use Rattle.pq_store.specs.Test.{is_address, Precedes}
use Rattle.pq_store.specs.Tree.{Tree, IsTested}
use Rattle.pq_store.specs.Tree.Tree.{Tip, Fork}
use Rattle.pq_store.specs.Diagram.{AllLawful, Ascends, Fits, most}
use Rattle.pq_store.proofs.Order.{rank_injective, kinds_differ, before_tested}
use Rattle.pq_store.specs.Room.{AreFew, IsAmong, Within}

-- the number is in the list
abbrev Has : ℕ → List ℕ → Type 0
Has v [] = ⊥
Has v (x ∷ xs) = (v ≡ x) ⊎ Has v xs

-- a number among these is in the list
has : (v : ℕ) (xs : List ℕ) → IsAmong v xs → Has v xs
has v [] (k, x, within, at, is) = absurd (omega arith)
has v (x ∷ xs) (zero, w, within, at, is) = inl (is ∙ sym at)
has v (x ∷ xs) (suc k, w, within, at, is) = inr (has v xs (k, w, omega arith, at, is))

-- a list without one of its numbers is shorter by one, and has the others
without : (v : ℕ) (xs : List ℕ) → Has v xs → (ys : List ℕ) × (length xs ≡ suc (length ys)) × ((w : ℕ) → (v ≡ w → ⊥) → Has w xs → Has w ys)
without v [] there = absurd there
without v (x ∷ xs) (inl is) = (xs, refl, others)
  where
    others : (w : ℕ) → (v ≡ w → ⊥) → Has w (x ∷ xs) → Has w xs
    others w other (inl same) = absurd (other (is ∙ sym same))
    others w other (inr there) = there
without v (x ∷ xs) (inr there) =
    let less = without v xs there in
    (x ∷ less.0, ap suc less.1, others less.0 less.2)
  where
    others : (ys : List ℕ) → ((w : ℕ) → (v ≡ w → ⊥) → Has w xs → Has w ys) → (w : ℕ) → (v ≡ w → ⊥) → Has w (x ∷ xs) → Has w (x ∷ ys)
    others ys more w other (inl same) = inl same
    others ys more w other (inr there) = inr (more w other there)

-- of one field a test precedes only tests of other numbers
other_number : (f g : Field) (v w : ℕ) → rank f ≡ rank g → Precedes (Equal g v) (Equal f w) → v ≡ w → ⊥
other_number f g v w same (inl less) is = omega arith
other_number f g v w same (inr less) is = omega arith

module _ {L : Type 0} where
  -- the numbers of the field that the tree tests are in the list
  abbrev TestsOnly : Field → List ℕ → Tree L → Type 0
  TestsOnly f xs t = (v : ℕ) → IsTested (Equal f v) t → Has v xs

  -- a tree that ascends and tests only these has no path with more of them
  few_on_path : (f : Field) (t : Tree L) (xs : List ℕ) → Ascends t → TestsOnly f xs t → most f t ≤ length xs
  few_on_path f (Tip l) xs ascends only = omega arith
  few_on_path f (Fork (Equal g v) y n) xs ascends only = elim (eqb_tells (rank f) (rank g)) [
    | inl same ↦
        let field : f ≡ g = rank_injective f g same.1 in
        let less = without v xs (only v (inl (ap (λ h. Equal h v) field))) in
        let yes_few : most f y ≤ length less.0 = few_on_path f y less.0 ascends.2
        (λ w tested. less.2 w (other_number f g v w same.1 (before_tested (Equal g v) (Equal f w) y ascends.0 ascends.2 tested)) (only w (inr (inl tested)))) in
        let no_few : most f n ≤ length less.0 = few_on_path f n less.0 ascends.3
        (λ w tested. less.2 w (other_number f g v w same.1 (before_tested (Equal g v) (Equal f w) n ascends.1 ascends.3 tested)) (only w (inr (inr tested)))) in
        rw same.0 (omega (arith, less.1, max-le yes_few no_few))
    | inr other ↦
        let yes_few : most f y ≤ length xs = few_on_path f y xs ascends.2 (λ w tested. only w (inr (inl tested))) in
        let no_few : most f n ≤ length xs = few_on_path f n xs ascends.3 (λ w tested. only w (inr (inr tested))) in
        rw other.0 (omega (arith, max-le yes_few no_few))
  ]
  few_on_path f (Fork (Bit g i) y n) xs ascends only =
      let yes_few : most f y ≤ length xs = few_on_path f y xs ascends.2 (λ w tested. only w (inr (inl tested))) in
      let no_few : most f n ≤ length xs = few_on_path f n xs ascends.3 (λ w tested. only w (inr (inr tested))) in
      omega (arith, max-le yes_few no_few)

  -- no path tests a number of an address
  none_on_path : (f : Field) (t : Tree L) → is_address f ≡ true → AllLawful t → most f t ≡ 0
  none_on_path f (Tip l) address lawful = refl
  none_on_path f (Fork (Equal g v) y n) address lawful = elim (eqb_tells (rank f) (rank g)) [
    | inl same ↦ absurd (kinds_differ g f lawful.0.0 address (sym same.1))
    | inr other ↦ rw (other.0, none_on_path f y address lawful.1, none_on_path f n address lawful.2) refl
  ]
  none_on_path f (Fork (Bit g i) y n) address lawful = rw (none_on_path f y address lawful.1, none_on_path f n address lawful.2) refl

  -- so a tree fits, where the numbers that it tests are few
  pub few_fit : (ns : Field → List ℕ) (t : Tree L) → AreFew ns → Within ns t → AllLawful t → Ascends t → Fits t
  few_fit ns t few within lawful ascends f = by (is_address f) refl
    where
      by : (b : Bool) → is_address f ≡ b → most f t ≤ 2 ^ width_of f / 2 - 1
      by true address = omega (arith, none_on_path f t address lawful)
      by false whole =
          let path : most f t ≤ length (ns f) = few_on_path f t (ns f) ascends (λ v tested. has v (ns f) (within f v tested)) in
          omega (arith, path, few f whole)
