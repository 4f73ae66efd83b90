-- A name at the front of bytes, and which name may follow others.
use Rattle.std.specs.Prelude.{◌≡◌, ℕ, ◌+◌, ◌<◌, ◌↔◌, Bool, true, false, Option, Some, None, MatchOption, if◌then◌else◌, List, [], ◌∷◌, ◌++◌}
use Rattle.std.specs.Prelude.{bytes_eq, length, drop}
use Rattle.std.proofs.Common.{arith, refl, sym, ap, ◌∙◌}
use Rattle.std.specs.List.{IsDistinct, list_any}
use Rattle.std.proofs.lemmas.List.{length-append, drop_at}
use Rattle.pq_term.specs.Names.{is_name}
use Rattle.pq_model.specs.Install.{name_bytes}
use Rattle.pq_install.specs.Front.{NoneAtFront, IsAtFront}
use Rattle.pq_install.specs.Names.{AreReadNames, IsName}
use Rattle.pq_install.proofs.Distinct.{distinct_more}
use Rattle.pq_install.proofs.Front.{Unique, same_fronts}
use Rattle.pq_install.proofs.UnitLists.{all_more}

-- two names at one front are the same
pub unique_name : Unique IsName name_bytes
unique_name m n a b fm fn e =
    let len : length m ≡ length n = cc in
    let rest : m ++ a ≡ n ++ b = cc in
    same_fronts m n a b len rest

-- no name where there are fewer bytes than the first says
pub cut_name : (bytes rest : List ℕ) (len : ℕ) → bytes ≡ len ∷ rest → length rest < len → NoneAtFront IsName name_bytes bytes
cut_name bytes rest len is short name more fit e =
    let same : len ∷ rest ≡ length name ∷ (name ++ more) = sym is ∙ e in
    let len_is : len ≡ length name = cc in
    let rest_is : rest ≡ name ++ more = cc in
    omega (arith, short, len_is, ap length rest_is, length-append name more)

module _ (bytes rest text after : List ℕ) (len : ℕ) (is : bytes ≡ len ∷ rest) (parts : rest ≡ text ++ after) (fills : length text ≡ len) where
  -- no name where the bytes are none
  bad_name : (IsName text → ⊥) → NoneAtFront IsName name_bytes bytes
  bad_name bad name more fit e =
      let same : len ∷ rest ≡ length name ∷ (name ++ more) = sym is ∙ e in
      let len_is : len ≡ length name = cc in
      let rest_is : rest ≡ name ++ more = cc in
      let text_is = same_fronts text name after more (fills ∙ len_is) (sym parts ∙ rest_is) in
      bad (rw text_is.0 fit)

  good_name : bytes ≡ name_bytes text ++ drop (length text + 1) bytes
  good_name =
      let whole : bytes ≡ (length text ∷ text) ++ after = rw (is, parts, fills) refl in
      rw (whole, drop_at (length text ∷ text) after (length text + 1) (omega arith)) refl

  -- what the test on the bytes after the length tells
  pub name_tells : (found : Option (List ℕ)) → found ≡ (if is_name text then Some text else None)
      → MatchOption found (NoneAtFront IsName name_bytes bytes)
      (λ name. IsAtFront IsName name_bytes bytes name (drop (length name + 1) bytes))
  name_tells found found_is = by (is_name text) refl
    where
      by : (b : Bool) → is_name text ≡ b
          → MatchOption found (NoneAtFront IsName name_bytes bytes)
          (λ name. IsAtFront IsName name_bytes bytes name (drop (length name + 1) bytes))
      by true e =
          let some : found ≡ Some text = rw e at found_is in
          rw some (e, good_name)
      by false e =
          let none : found ≡ None = rw e at found_is in
          rw none (bad_name (λ fit. absurd (grind (arith, e, fit))))

-- names may begin
pub no_names : AreReadNames []
unfolding IsDistinct
no_names = record { each = λ k d below. absurd (omega (arith, below)); differ = tt }

-- a name that is none of them may follow
pub name_follows : (before : List (List ℕ)) (name : List ℕ) → AreReadNames before → IsName name
    → (list_any (λ other. bytes_eq other name) before ≡ false) ↔ AreReadNames (before ++ name ∷ [])
name_follows before name are fit =
    let each = all_more IsName before name in
    let differ = distinct_more bytes_eq before name in
    (λ new. record { each = each.1 (are.each, fit); differ = differ.1 (are.differ, new) }, λ all. (differ.0 all.differ).1)

pub last_is_name : (before : List (List ℕ)) (name : List ℕ) → AreReadNames (before ++ name ∷ []) → IsName name
last_is_name before name are = ((all_more IsName before name).0 are.each).1
