-- The first part of a text, up to a separator.
use Rattle.std.proofs.Common.{◌≡◌, ℕ, ◌+◌, ◌-◌, Bool, true, false, cond, List, [], ◌∷◌, length, take, drop, eqb, ltb, refl, sym, ap, subst, ◌∙◌, arith}
use Rattle.std.specs.Prelude.{Option, Some, None, MatchOption, position}
use Rattle.std.specs.List.{position_or_len}
use Rattle.std.proofs.lemmas.Bool.{ltb-true, ltb-false}
use Rattle.std.proofs.lemmas.List.{take_rest}
use Rattle.std.proofs.lemmas.List.Sums.{fails_before_first}
use Rattle.std.proofs.lemmas.List.Splits.{slice_split_first, slice_split_none}
use Rattle.pq_term.specs.Groups.{parts}

-- the first part, and the parts after its separator
abbrev FirstPart : ℕ → List ℕ → Option ℕ → Type 0
FirstPart separator bs place = MatchOption place (parts separator bs ≡ bs ∷ []) (λ n. parts separator bs ≡ take n bs ∷ parts separator (drop (n + 1) bs))

first_part : (separator : ℕ) (bs : List ℕ) → FirstPart separator bs (position (λ b. eqb b separator) bs)
first_part separator bs = by (ltb first (length bs)) refl where
  first : ℕ
  first = position_or_len (λ b. eqb b separator) bs

  by : (found : Bool) → ltb first (length bs) ≡ found → FirstPart separator bs (cond found (Some first) None)
  by true is = slice_split_first (λ b. eqb b separator) bs 0 (ltb-true _ _ is)
  by false is = slice_split_none (λ b. eqb b separator) bs
      (λ k d within. fails_before_first (λ b. eqb b separator) bs k d (omega (arith, within, ltb-false first (length bs) is)))

-- a separator ends the first part
pub part_ended : (separator : ℕ) (bs : List ℕ) (place : ℕ) → Some place ≡ position (λ b. eqb b separator) bs
    → parts separator bs ≡ take place bs ∷ parts separator (take (length bs - (place + 1)) (drop (place + 1) bs))
part_ended separator bs place is =
    subst (FirstPart separator bs) (sym is) (first_part separator bs) ∙ ap (λ rest. take place bs ∷ parts separator rest) (sym (take_rest bs (place + 1)))

-- without a separator the first part is the whole
pub part_alone : (separator : ℕ) (bs : List ℕ) → None ≡ position (λ b. eqb b separator) bs → parts separator bs ≡ bs ∷ []
part_alone separator bs is = subst (FirstPart separator bs) (sym is) (first_part separator bs)
