-- One turn of a loop over what is named.
use Rattle.std.specs.Prelude.{◌≡◌, ℕ, ◌+◌, ◌<◌, Bool, true, false, ◌||◌, List, length, drop, get_or, bytes_eq}
use Rattle.std.proofs.Common.{drop-cons, ap, sym, ◌∙◌, add-one}
use Rattle.pq_compile.specs.Names.{Named}
use Rattle.pq_compile.proofs.Statements.{names_of}
use Rattle.pq_edit.specs.Reading.{is_among}

module _ {B : Type 0} (name : List ℕ) (entries : List (Named B)) (i : ℕ) (entry : Named B) (below : i < length entries) (is : entry ≡ get_or entries i entry)
    (whole : Bool) (left : is_among name (names_of (drop i entries)) ≡ whole) where
  -- the first one that is left, and those after it
  split : (bytes_eq name entry.0 || is_among name (names_of (drop (i + 1) entries))) ≡ whole
  split =
      ap (λ (e : Named B). bytes_eq name e.0 || is_among name (names_of (drop (i + 1) entries))) is
      ∙ ap (λ j. bytes_eq name (get_or entries i entry).0 || is_among name (names_of (drop j entries))) (add-one i)
      ∙ sym (ap (λ es. is_among name (names_of es)) (drop-cons entries i entry below)) ∙ left

  -- it has the name
  pub found : bytes_eq name entry.0 ≡ true → true ≡ whole
  found same = ap (λ b. b || is_among name (names_of (drop (i + 1) entries))) (sym same) ∙ split

  -- it has another one
  pub missed : bytes_eq name entry.0 ≡ false → is_among name (names_of (drop (i + 1) entries)) ≡ whole
  missed other = ap (λ b. b || is_among name (names_of (drop (i + 1) entries))) (sym other) ∙ split
