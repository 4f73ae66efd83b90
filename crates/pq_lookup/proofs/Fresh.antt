-- What a test asks isn't stated by the tests before it.
use Rattle.std.proofs.Common.{◌≡◌, ◌≢◌, inl, inr, ℕ, ◌-◌, ◌<◌, Bool, true, false, sym, ap, subst, ◌∙◌, None, arith}
use Rattle.std.proofs.lemmas.Bool.{cases_eq}
use Rattle.pq_fields.specs.declared.field.Field.{Field}
use Rattle.pq_fields.specs.declared.field.Field.TheVariants.{Switch}
use Rattle.pq_fields.specs.Packet.{rank, width_of}
use Rattle.pq_model.specs.MatchFields.{MatchFields}
use Rattle.pq_store.specs.declared.test.Test.{Test}
use Rattle.pq_store.specs.declared.test.Test.TheVariants.{Equal, Bit}
use Rattle.pq_store.specs.Test.{IsLawful, Precedes, field_of}
use Rattle.pq_store.specs.Tree.{Tree, IsTested}
use Rattle.pq_store.specs.Tree.Tree.{Tip, Fork}
use Rattle.pq_store.specs.Diagram.{AllLawful, Skips, SkipsBelow}
use Rattle.pq_store.proofs.Order.{rank_injective}
use Rattle.pq_layout.specs.Entries.{with_bit, with_number, passing, failing}
use Rattle.pq_lookup.proofs.MaskedBits.{AreWhole, stated_whole}
use Rattle.pq_lookup.proofs.Views.{stated_number, stated_bits, narrowed, other_number, same_bits, same_number, other_bits, own_bits}

-- what a test asks isn't stated yet: its number, or its bit and those below
abbrev pub IsFresh : Test → MatchFields → Type 0
IsFresh (Equal f v) m = stated_number f m ≡ None
IsFresh (Bit f i) m = AreWhole (width_of f - i) (stated_bits f m)

-- tests of numbers are of other fields
abbrev pub AreOther : Test → Test → Type 0
AreOther (Equal f v) (Equal g u) = rank f ≢ rank g
AreOther (Equal f v) (Bit g j) = Unit {0}
AreOther (Bit f i) s = Unit {0}

earlier : (f g : Field) (i j : ℕ) → Precedes (Bit f i) (Bit g j) → rank f ≡ rank g → i < j
earlier f g i j (inl less) same = omega arith
earlier f g i j (inr less) same = less.1

-- with a bit stated, what a later test asks still isn't
fresh_bit : (f : Field) (i : ℕ) (b : Bool) (s : Test) (m : MatchFields) → IsLawful (Bit f i) → IsLawful s → Precedes (Bit f i) s
    → IsFresh (Bit f i) m → IsFresh s m → IsFresh s (with_bit f i b m)
fresh_bit f i b (Equal g u) m lawful other before own fresh = same_number f g i b m ∙ fresh
fresh_bit f i b (Bit g j) m lawful other before own fresh = elim (cases_eq (rank f) (rank g)) [
  | inl same ↦
      let less : i < j = earlier f g i j before same in
      subst (λ h. j < width_of h → IsFresh (Bit h j) (with_bit f i b m)) (rank_injective f g same)
      (λ within. subst (AreWhole (width_of f - j)) (sym (own_bits f i b m lawful.0))
      (stated_whole (width_of f - j) (width_of f - 1 - i) b (stated_bits f m) (omega arith) (narrowed (width_of f) i (stated_bits f m) lawful.1 own)))
      other.1
  | inr apart ↦ subst (AreWhole (width_of g - j)) (sym (other_bits f g i b m lawful.0 apart)) fresh
]

-- and so with a number
fresh_number : (f : Field) (v : ℕ) (s : Test) (m : MatchFields) → IsLawful (Equal f v) → f ≢ Switch → AreOther (Equal f v) s → IsFresh s m
    → IsFresh s (with_number f v m)
fresh_number f v (Equal g u) m lawful numbered other fresh = other_number f g v m lawful.0 numbered other ∙ fresh
fresh_number f v (Bit g j) m lawful numbered other fresh = subst (AreWhole (width_of g - j)) (sym (same_bits f g v m)) fresh

pub fresh_passing : (t s : Test) (m : MatchFields) → IsLawful t → IsLawful s → field_of t ≢ Switch → Precedes t s → AreOther t s
    → IsFresh t m → IsFresh s m → IsFresh s (passing t m)
fresh_passing (Equal f v) s m lawful later numbered before other own fresh = fresh_number f v s m lawful numbered other fresh
fresh_passing (Bit f i) s m lawful later numbered before other own fresh = fresh_bit f i true s m lawful later before own fresh

pub fresh_failing : (t s : Test) (m : MatchFields) → IsLawful t → IsLawful s → Precedes t s → IsFresh t m → IsFresh s m → IsFresh s (failing t m)
fresh_failing (Equal f v) s m lawful later before own fresh = fresh
fresh_failing (Bit f i) s m lawful later before own fresh = fresh_bit f i false s m lawful later before own fresh

module _ {L : Type 0} where
  -- a tested number is of a field that isn't skipped
  skips_tested : (f g : Field) (u : ℕ) (t : Tree L) → Skips f t → IsTested (Equal g u) t → rank f ≢ rank g
  skips_tested f g u (Tip l) skips tested = absurd tested
  skips_tested f g u (Fork (Equal h w) y n) skips (inl is) = λ same. skips.0 (same ∙ ap (λ s. rank (field_of s)) is)
  skips_tested f g u (Fork (Equal h w) y n) skips (inr (inl in_yes)) = skips_tested f g u y skips.1 in_yes
  skips_tested f g u (Fork (Equal h w) y n) skips (inr (inr in_no)) = skips_tested f g u n skips.2 in_no
  skips_tested f g u (Fork (Bit h i) y n) skips (inl is) = cc
  skips_tested f g u (Fork (Bit h i) y n) skips (inr (inl in_yes)) = skips_tested f g u y skips.0 in_yes
  skips_tested f g u (Fork (Bit h i) y n) skips (inr (inr in_no)) = skips_tested f g u n skips.1 in_no

  pub others : (s r : Test) (t : Tree L) → SkipsBelow s t → IsTested r t → AreOther s r
  others (Equal f v) (Equal g u) t skips tested = skips_tested f g u t skips tested
  others (Equal f v) (Bit g j) t skips tested = tt
  others (Bit f i) r t skips tested = tt

  pub lawful_tested : (s : Test) (t : Tree L) → AllLawful t → IsTested s t → IsLawful s
  lawful_tested s (Tip l) lawful tested = absurd tested
  lawful_tested s (Fork r y n) lawful (inl is) = subst IsLawful (sym is) lawful.0
  lawful_tested s (Fork r y n) lawful (inr (inl in_yes)) = lawful_tested s y lawful.1 in_yes
  lawful_tested s (Fork r y n) lawful (inr (inr in_no)) = lawful_tested s n lawful.2 in_no
