-- Reading things that are spelled one after another: what is read so far is the front of every list that the bytes spell.
use Rattle.std.proofs.Common.{◌≡◌, ℕ, ◌<◌, Bool, true, false, eqb, List, [], ◌∷◌, ◌++◌, length, refl, sym, ap, ◌∙◌, append_assoc, arith}
use Rattle.std.specs.Prelude.{All}
use Rattle.std.specs.List.{flat_map}
use Rattle.std.proofs.lemmas.Bool.{eqb-true, eqb-false}
use Rattle.std.proofs.lemmas.List.{append-nil, length-append}
use Rattle.std.proofs.lemmas.List.Elements.{All-tail}
use Rattle.std.proofs.lemmas.List.Concat.{flat_map-cons}

-- of every list of lawful things that the bytes spell, these are read, and what is left is spelled by the rest
abbrev pub Leads : {A : Type 0} → (A → List ℕ) → (A → Type 0) → List ℕ → List A → List ℕ → Type 0
Leads {A} spelling IsLawful bytes read rest = (whole : List A) → All IsLawful whole → bytes ≡ flat_map spelling whole
    → (left : List A) × (whole ≡ read ++ left) × All IsLawful left × (rest ≡ flat_map spelling left)

pub nothing_read : {A : Type 0} (spelling : A → List ℕ) (IsLawful : A → Type 0) (bytes : List ℕ) → Leads spelling IsLawful bytes [] bytes
nothing_read spelling IsLawful bytes whole law is = (whole, refl, law, is)

-- the first thing that the rest spells, and what it spells after it
next_of : {A : Type 0} (spelling : A → List ℕ) (IsLawful : A → Type 0) (rest : List ℕ) (left : List A) → 0 < length rest → All IsLawful left
    → rest ≡ flat_map spelling left →
    (a : A) × (others : List A) × (left ≡ a ∷ others) × IsLawful a × All IsLawful others × (rest ≡ spelling a ++ flat_map spelling others)
next_of spelling IsLawful rest [] long law is = absurd (omega (arith, long, ap length is))
next_of spelling IsLawful rest (a ∷ others) long law is = (
  a,
  others,
  refl,
  law 0 a (omega arith),
  All-tail IsLawful a others law,
  is
      ∙ flat_map-cons spelling a others,
)

pub one_read : {A : Type 0} (spelling : A → List ℕ) (IsLawful : A → Type 0) (bytes : List ℕ) (read : List A) (rest : List ℕ) (found : A)
    (after : List ℕ) → 0 < length rest →
    ((a : A) (more : List ℕ) → IsLawful a → rest ≡ spelling a ++ more → (found ≡ a) × (after ≡ more)) →
    Leads spelling IsLawful bytes read rest → Leads spelling IsLawful bytes (read ++ found ∷ []) after
one_read {A} spelling IsLawful bytes read rest found after long said leads whole law is =
    let now = leads whole law is in
    let next = next_of spelling IsLawful rest now.0 long now.2 now.3 in
    let same = said next.0 (flat_map spelling next.1) next.3 next.5 in
    let parted : whole ≡ (read ++ found ∷ []) ++ next.1 = now.1
    ∙ ap (λ (l : List A). read ++ l) (next.2 ∙ ap (λ (x : A). x ∷ next.1) (sym same.0)) ∙ sym (append_assoc read (found ∷ []) next.1) in
    (next.1, parted, next.4, same.1)

pub none_read : {A : Type 0} (spelling : A → List ℕ) (IsLawful : A → Type 0) (bytes : List ℕ) (read : List A) (rest : List ℕ) → 0 < length rest →
    ((a : A) (more : List ℕ) → IsLawful a → rest ≡ spelling a ++ more → ⊥) →
    Leads spelling IsLawful bytes read rest → (whole : List A) → All IsLawful whole → bytes ≡ flat_map spelling whole → ⊥
none_read spelling IsLawful bytes read rest long said leads whole law is =
    let now = leads whole law is in
    let next = next_of spelling IsLawful rest now.0 long now.2 now.3 in
    said next.0 (flat_map spelling next.1) next.3 next.5

nothing_left : {A : Type 0} (spelling : A → List ℕ) (IsLawful : A → Type 0) → ((a : A) → IsLawful a → 0 < length (spelling a))
    → (left : List A) → All IsLawful left → length (flat_map spelling left) ≡ 0 → left ≡ []
nothing_left spelling IsLawful long [] law is = refl
nothing_left spelling IsLawful long (a ∷ others) law is =
    absurd (omega (
      arith,
      long a (law 0 a (omega arith)),
      ap length (flat_map-cons spelling a others),
      length-append (spelling a) (flat_map spelling others),
    ))

pub all_read : {A : Type 0} (spelling : A → List ℕ) (IsLawful : A → Type 0) → ((a : A) → IsLawful a → 0 < length (spelling a))
    → (bytes : List ℕ) (read : List A) (rest : List ℕ) → length rest ≡ 0 →
    Leads spelling IsLawful bytes read rest → (whole : List A) → All IsLawful whole → bytes ≡ flat_map spelling whole → read ≡ whole
all_read {A} spelling IsLawful long bytes read rest empty leads whole law is =
    let now = leads whole law is in
    let left : now.0 ≡ [] = nothing_left spelling IsLawful long now.0 now.2 (sym (ap length now.3) ∙ empty) in
    sym (now.1 ∙ ap (λ (l : List A). read ++ l) left ∙ append-nil read)

-- what the test for the end says
pub some_left : (rest : List ℕ) (b : Bool) → b ≡ eqb (length rest) 0 → b ≡ false → 0 < length rest
some_left rest b tests said = let more : length rest ≡ 0 → ⊥ = eqb-false (length rest) 0 (sym tests ∙ said) in omega arith

pub none_left : (rest : List ℕ) (b : Bool) → b ≡ eqb (length rest) 0 → b ≡ true → length rest ≡ 0
none_left rest b tests said = eqb-true (length rest) 0 (sym tests ∙ said)
