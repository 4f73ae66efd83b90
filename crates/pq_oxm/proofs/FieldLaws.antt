-- An OXM field that is spelled is read back, and what is after it is kept.
use Rattle.std.proofs.Common.{◌≡◌, ℕ, ◌+◌, ◌*◌, ◌/◌, ◌<◌, ◌≤◌, Bool, true, false, eqb, leb, List, [], ◌∷◌, ◌++◌, length, get_or, take, drop}
use Rattle.std.proofs.Common.{Option, None, Some, refl, ap, ◌∙◌, append_assoc, arith}
use Rattle.std.specs.Prelude.{IfSome, cond}
use Rattle.std.specs.List.{list_any}
use Rattle.std.proofs.lemmas.Bool.{leb-true, eqb-true, eqb-false, le-leb, eq-eqb, and_parts, and_from, or_parts, ne_eqb, and_right}
use Rattle.std.proofs.lemmas.List.{take_at, drop_at, length-append}
use Rattle.pq_model.specs.Spelling.{oxm, oxm_masked, stated, stated_masked}
use Rattle.pq_oxm.specs.Reading.{is_field, number_field, address_field}
use Rattle.pq_oxm.proofs.Numbers.{Reads}

-- no OXM field of this number begins the bytes
abbrev pub IsApart : ℕ → List ℕ → Type 0
IsApart field bytes = 4 ≤ length bytes → get_or bytes 2 0 / 2 ≡ field → ⊥

-- a field begins the bytes only if its number is among these
abbrev pub AreOf : List ℕ → List ℕ → Type 0
AreOf fields bytes = (field : ℕ) → list_any (λ f. eqb f field) fields ≡ false → IsApart field bytes

pub none_of : AreOf [] []
none_of field other = λ long half. absurd (omega arith)

not_there : (field code size : ℕ) (bytes : List ℕ) → code / 2 ≡ field → IsApart field bytes → is_field code size bytes ≡ false
not_there field code size bytes half apart = by (is_field code size bytes) refl where
  by : (b : Bool) → is_field code size bytes ≡ b → b ≡ false
  by false e = refl
  by true e =
      let parts = and_parts (leb (4 + size) (length bytes)) (eqb (get_or bytes 2 0) code) e in
      let long : 4 + size ≤ length bytes = leb-true _ _ parts.0 in
      let same : get_or bytes 2 0 ≡ code = eqb-true _ _ parts.1 in
      absurd (apart (omega arith) (ap (λ (n : ℕ). n / 2) same ∙ half))

there : (code size : ℕ) (bytes : List ℕ) → 4 + size ≤ length bytes → get_or bytes 2 0 ≡ code → is_field code size bytes ≡ true
there code size bytes long same = and_from _ _ (le-leb _ _ long) (eq-eqb _ _ same)

pub more_of : (fields : List ℕ) (bytes : ℕ → List ℕ) (field : ℕ) (x : Option ℕ) (rest : List ℕ) → AreOf fields rest
    → AreOf (field ∷ fields) (stated field bytes x ++ rest)
more_of fields bytes field None rest of f other = of f (or_parts _ _ other).1
more_of fields bytes field (Some n) rest of f other = λ long half. eqb-false field f (or_parts _ _ other).0 (omega arith)

masked_of : (fields : List ℕ) (bytes : ℕ → List ℕ) (field : ℕ) (a : ℕ × ℕ) (rest : List ℕ) (b : Bool)
    → AreOf (field ∷ fields) (cond b (oxm field (bytes a.0)) (oxm_masked field (bytes a.0) (bytes a.1)) ++ rest)
masked_of fields bytes field a rest true f other = λ long half. eqb-false field f (or_parts _ _ other).0 (omega arith)
masked_of fields bytes field a rest false f other = λ long half. eqb-false field f (or_parts _ _ other).0 (omega arith)

pub more_masked_of : (fields : List ℕ) (bytes : ℕ → List ℕ) (ones field : ℕ) (x : Option (ℕ × ℕ)) (rest : List ℕ) → AreOf fields rest
    → AreOf (field ∷ fields) (stated_masked field bytes ones x ++ rest)
more_masked_of fields bytes ones field None rest of f other = of f (or_parts _ _ other).1
more_masked_of fields bytes ones field (Some a) rest of f other = masked_of fields bytes field a rest (eqb a.1 ones) f other

module _ (size limit : ℕ) (bytes : ℕ → List ℕ) (number : List ℕ → ℕ) (reads : Reads size limit bytes number) where
  -- a field that begins the bytes is seen, its number is read, and the rest is kept
  oxm_read : (code : ℕ) (n len : ℕ) (rest : List ℕ) → len ≡ length (bytes n) → n < limit →
      (is_field code size (0x80 ∷ 0x00 ∷ code ∷ len ∷ (bytes n ++ rest)) ≡ true)
      × (number (take size (drop 4 (0x80 ∷ 0x00 ∷ code ∷ len ∷ (bytes n ++ rest)))) ≡ n)
      × (drop (4 + size) (0x80 ∷ 0x00 ∷ code ∷ len ∷ (bytes n ++ rest)) ≡ rest)
  oxm_read code n len rest is below =
      let long : length (bytes n) ≡ size = reads.long n in
      let front : length (0x80 ∷ 0x00 ∷ code ∷ len ∷ bytes n) ≡ 4 + size = omega arith in (
        there code size (0x80 ∷ 0x00 ∷ code ∷ len ∷ (bytes n ++ rest)) (omega (arith, length-append (bytes n) rest)) refl,
        rw (take_at (bytes n) rest size long) (reads.again n below),
        drop_at (0x80 ∷ 0x00 ∷ code ∷ len ∷ bytes n) rest (4 + size) front,
      )

  pub number_read : (field : ℕ) (x : Option ℕ) (rest : List ℕ) → IfSome x (λ n. n < limit) → IsApart field rest
      → number_field field size number (stated field bytes x ++ rest) ≡ (x, rest)
  unfolding number_field
  number_read field None rest below apart = rw (not_there field (field * 2) size rest (omega arith) apart) refl
  number_read field (Some n) rest below apart =
      let read = oxm_read (field * 2) n (length (bytes n)) rest refl below in
      rw (read.0, read.1, read.2) refl

  masked_read : (field ones : ℕ) (a : ℕ × ℕ) (rest : List ℕ) → a.0 < limit → a.1 < limit →
      (b : Bool) → eqb a.1 ones ≡ b →
      address_field field size number ones (cond b (oxm field (bytes a.0)) (oxm_masked field (bytes a.0) (bytes a.1)) ++ rest) ≡ (Some a, rest)
  unfolding address_field
  masked_read field ones a rest value mask true all =
      let read = oxm_read (field * 2) a.0 (length (bytes a.0)) rest refl value in
      let same : a.1 ≡ ones = eqb-true _ _ all in
      rw (read.0, read.1, read.2, ← same) refl
  masked_read field ones a rest value mask false all =
      let whole : List ℕ = 0x80 ∷ 0x00 ∷ (field * 2 + 1) ∷ (length (bytes a.0) + length (bytes a.1)) ∷ ((bytes a.0 ++ bytes a.1) ++ rest) in
      let first : length (bytes a.0) ≡ size = reads.long a.0 in
      let second : length (bytes a.1) ≡ size = reads.long a.1 in
      let other : is_field (field * 2) size whole ≡ false = rw (ne_eqb (field * 2 + 1) (field * 2) (omega arith)) (and_right _ _ refl) in
      let here : is_field (field * 2 + 1) (size + size) whole ≡ true =
      there (field * 2 + 1) (size + size) whole
      (omega (arith, length-append (bytes a.0 ++ bytes a.1) rest, length-append (bytes a.0) (bytes a.1))) refl in
      let value_is : take size (drop 4 whole) ≡ bytes a.0 = ap (take size) (append_assoc (bytes a.0) (bytes a.1) rest)
      ∙ take_at (bytes a.0) (bytes a.1 ++ rest) size first in
      let mask_at : drop (4 + size) whole ≡ bytes a.1 ++ rest =
      ap (λ (bs : List ℕ). drop (4 + size) (0x80 ∷ 0x00 ∷ (field * 2 + 1) ∷ (length (bytes a.0) + length (bytes a.1)) ∷ bs))
      (append_assoc (bytes a.0) (bytes a.1) rest)
      ∙ drop_at (0x80 ∷ 0x00 ∷ (field * 2 + 1) ∷ (length (bytes a.0) + length (bytes a.1)) ∷ bytes a.0) (bytes a.1 ++ rest) (4 + size)
      (omega arith) in
      let mask_is : take size (drop (4 + size) whole) ≡ bytes a.1 = ap (take size) mask_at ∙ take_at (bytes a.1) rest size second in
      let behind : drop (4 + (size + size)) whole ≡ rest =
      drop_at (0x80 ∷ 0x00 ∷ (field * 2 + 1) ∷ (length (bytes a.0) + length (bytes a.1)) ∷ (bytes a.0 ++ bytes a.1)) rest
      (4 + (size + size)) (omega (arith, length-append (bytes a.0) (bytes a.1))) in
      rw (other, here, value_is, mask_is, behind, reads.again a.0 value, reads.again a.1 mask) refl

  pub address_read : (field ones : ℕ) (x : Option (ℕ × ℕ)) (rest : List ℕ) → IfSome x (λ a. (a.0 < limit) × (a.1 < limit))
      → IsApart field rest → address_field field size number ones (stated_masked field bytes ones x ++ rest) ≡ (x, rest)
  unfolding address_field
  address_read field ones None rest below apart =
      rw (not_there field (field * 2) size rest (omega arith) apart, not_there field (field * 2 + 1) (size + size) rest (omega arith) apart)
      refl
  address_read field ones (Some a) rest below apart = masked_read field ones a rest below.0 below.1 (eqb a.1 ones) refl
