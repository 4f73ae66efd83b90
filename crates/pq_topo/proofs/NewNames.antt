-- Whether a text is a name, as the name that is made of it tells.
use Rattle.std.specs.Prelude.{◌≡◌, ℕ, Bool, true, false, if◌then◌else◌, List, Option, Some, None, Ok, Err, bytes_eq}
use Rattle.std.proofs.Common.{refl, sym, ap, subst, ◌∙◌}
use Rattle.std.specs.List.{list_any}
use Rattle.pq_term.specs.declared.token.Token.{Token}
use Rattle.pq_term.specs.Names.{is_name}
use Rattle.pq_tree.specs.Texts.{text_in}
use Rattle.pq_topo.specs.declared.fault.NameFault.{NameFault}
use Rattle.pq_topo.specs.declared.fault.NameFault.TheVariants.{Name}
use Rattle.pq_topo.specs.declared.fault.NameKind.TheVariants.{BadValue, Doubled}
use Rattle.pq_topo.specs.Naming.{IsAnswer}
use Rattle.pq_topo.specs.Statements.{name_of}

-- no name is made
pub no_name : (bs : List ℕ) (r : Option (List ℕ)) → r ≡ (if is_name bs then Some bs else None) → r ≡ None → is_name bs ≡ false
no_name bs r made none = by (is_name bs) (sym made ∙ none)
  where
    by : (b : Bool) → (if b then Some bs else None) ≡ None → b ≡ false
    by true e = absurd cc
    by false e = refl

-- a name is made
pub a_name : (bs name : List ℕ) (r : Option (List ℕ)) → r ≡ (if is_name bs then Some bs else None) → r ≡ Some name → (is_name bs ≡ true) × (name ≡ bs)
a_name bs name r made some = by (is_name bs) (sym made ∙ some)
  where
    by : (b : Bool) → (if b then Some bs else None) ≡ Some name → (b ≡ true) × (name ≡ bs)
    by true e = (refl, cc)
    by false e = absurd cc

module _ (bytes : List ℕ) (names : List (List ℕ)) (t : Token) (text : List ℕ) (r : Option (List ℕ)) (is : text ≡ text_in bytes t)
    (made : r ≡ (if is_name text then Some text else None)) where
  -- what is not a name is refused
  pub name_is_refused : (fault : NameFault) → r ≡ None → fault ≡ Name t.at BadValue → IsAnswer (λ (name : List ℕ). name) (Err fault) (name_of bytes names t)
  name_is_refused fault none e =
      let no : is_name (text_in bytes t) ≡ false = subst (λ bs. is_name bs ≡ false) is (no_name text r made none) in
      rw (e, no) refl

  module _ (name : List ℕ) (some : r ≡ Some name) (b : Bool) (tells : b ≡ list_any (λ n. bytes_eq name n) names) where
    yes_name : is_name (text_in bytes t) ≡ true
    yes_name = subst (λ bs. is_name bs ≡ true) is (a_name text name r made some).0

    same_name : name ≡ text_in bytes t
    same_name = (a_name text name r made some).1 ∙ is

    seen : list_any (λ n. bytes_eq (text_in bytes t) n) names ≡ b
    seen = subst (λ bs. list_any (λ n. bytes_eq bs n) names ≡ b) same_name (sym tells)

    -- a name that an earlier switch has is refused
    pub name_is_doubled : (fault : NameFault) → b ≡ true → fault ≡ Name t.at Doubled → IsAnswer (λ (name : List ℕ). name) (Err fault) (name_of bytes names t)
    name_is_doubled fault has e = rw (e, yes_name, seen ∙ has) refl

    -- any other name is given
    pub name_is_given : b ≡ false → IsAnswer (λ (name : List ℕ). name) (Ok name) (name_of bytes names t)
    name_is_given has = rw (yes_name, seen ∙ has) (ap Ok same_name)
