-- Readers one after another.
use Rattle.std.specs.Prelude.{ℕ, List, ◌++◌, length, refl}
use Rattle.std.proofs.Common.{sym, ap, ◌∙◌, append_assoc}
use Rattle.std.specs.Int.{Width, to_be_bytes}
use Rattle.std.specs.List.{flat_map}
use Rattle.pq_install.specs.Front.{NoneAtFront, IsAtFront, AreFew, counted_by}
use Rattle.pq_install.proofs.Front.{Unique, unique_list}

-- a value and another after it
module _ {X Y : Type 0} (P : X → Type 0) (first : X → List ℕ) (unique : Unique P first) (Q : Y → Type 0) (second : Y → List ℕ) where
  abbrev pub Both : X × Y → Type 0
  Both p = P p.0 × Q p.1

  abbrev pub both : X × Y → List ℕ
  both p = first p.0 ++ second p.1

  -- there is no pair where there is no first
  pub no_first : (bytes : List ℕ) → NoneAtFront P first bytes → NoneAtFront Both both bytes
  no_first bytes none p rest fit e = none p.0 (second p.1 ++ rest) fit.0 (e ∙ append_assoc (first p.0) (second p.1) rest)

  -- nor where there is no second after it
  pub no_second : (bytes : List ℕ) (x : X) (after : List ℕ) → IsAtFront P first bytes x after → NoneAtFront Q second after → NoneAtFront Both both bytes
  no_second bytes x after front none p rest fit e =
      let same = unique x p.0 after (second p.1 ++ rest) front.0 fit.0 (sym front.1 ∙ (e ∙ append_assoc (first p.0) (second p.1) rest)) in
      none p.1 rest fit.1 same.1

  -- both are read
  pub pair_at : (bytes : List ℕ) (x : X) (after : List ℕ) (y : Y) (rest : List ℕ) → IsAtFront P first bytes x after
      → IsAtFront Q second after y rest → IsAtFront Both both bytes (x, y) rest
  pair_at bytes x after y rest front behind =
      ((front.0, behind.0), front.1 ∙ (ap (λ (more : List ℕ). first x ++ more) behind.1 ∙ sym (append_assoc (first x) (second y) rest)))

  -- two pairs at one front are the same
  pub unique_pair : Unique Q second → Unique Both both
  unique_pair unique_second p q a b fp fq e =
      let same = unique p.0 q.0 (second p.1 ++ a) (second q.1 ++ b) fp.0 fq.0 (sym (append_assoc (first p.0) (second p.1) a)
      ∙ (e ∙ append_assoc (first q.0) (second q.1) b)) in
      let later = unique_second p.1 q.1 a b fp.1 fq.1 same.1 in
      (rw (same.0, later.0) refl, later.1)

-- values after their count
module _ {X : Type 0} (w : Width) (Fits : ℕ → Type 0) (unique_count : Unique Fits (to_be_bytes w)) (P : X → Type 0) (spell : X
    → List ℕ) (unique : Unique P spell) where
  pub unique_counted : Unique (AreFew Fits P) (counted_by w spell)
  unique_counted xs ys a b fx fy e =
      let same = unique_count (length xs) (length ys) (flat_map spell xs ++ a) (flat_map spell ys ++ b) fx.0 fy.0
      (sym (append_assoc (to_be_bytes w (length xs)) (flat_map spell xs) a)
      ∙ (e ∙ append_assoc (to_be_bytes w (length ys)) (flat_map spell ys) b)) in
      unique_list P spell unique xs ys a b fx.1 fy.1 same.0 same.1

-- a value that is read but has not the property is in the way of each that has it
pub none_but : {X : Type 0} (P : X → Type 0) (spell : X → List ℕ) → Unique P spell
    → (Q : X → Type 0) (bytes : List ℕ) (x : X) (rest : List ℕ) → ((y : X) → Q y → P y) → IsAtFront P spell bytes x rest → (Q x → ⊥)
    → NoneAtFront Q spell bytes
none_but P spell unique Q bytes x rest weaker front refused y more fit e =
    let same = unique x y rest more front.0 (weaker y fit) (sym front.1 ∙ e) in
    refused (rw same.0 fit)
