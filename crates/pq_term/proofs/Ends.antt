-- A text has one division, and a list of tokens can be extended at its end.
use Rattle.std.proofs.Common.{◌≡◌, ℕ, ◌+◌, List, [], ◌∷◌, ◌++◌, refl, sym, ◌∙◌, ap, subst, append-nil, append_assoc, ◌≤◌, length}
use Rattle.std.specs.Prelude.{All}
use Rattle.std.proofs.lemmas.List.Elements.{All-push}
use Rattle.pq_term.specs.declared.token.Token.{Token}
use Rattle.pq_term.specs.declared.token.Next.{Next}
use Rattle.pq_term.specs.declared.token.Next.TheVariants.{Token as Found, End, NoToken}
use Rattle.pq_term.specs.Tokens.{next_of, IsWithin, HasItsForm}
use Rattle.pq_term.specs.Division.{IsDividedUpTo, IsLast, LiesWithin}

-- two tokens that are the same next thing are one
token_is : {t u : Token} → Found t ≡ Found u → t ≡ u
token_is {t} same = ap (λ (next : Next). elim next [ Found v ↦ v | End ↦ t | NoToken place ↦ t ]) same

-- from one place, two lists of tokens up to an end are one list, with one end
pub one_division : (bytes : List ℕ) (at : ℕ) (xs ys : List Token) (x y : Next) → IsLast x → IsLast y → IsDividedUpTo bytes at xs x
    → IsDividedUpTo bytes at ys y → (xs ≡ ys) × (x ≡ y)
one_division bytes at [] [] x y last other first second = (refl, sym first ∙ second)
one_division bytes at [] (u ∷ us) x y last other first second = absurd (subst IsLast (sym first ∙ second.0) last)
one_division bytes at (t ∷ ts) [] x y last other first second = absurd (subst IsLast (sym second ∙ first.0) other)
one_division bytes at (t ∷ ts) (u ∷ us) x y last other first second =
    let same : t ≡ u = token_is (sym first.0 ∙ second.0) in
    let rest = one_division bytes (t.at + t.len) ts us x y last other first.1
    (subst (λ (v : Token). IsDividedUpTo bytes (v.at + v.len) us y) (sym same) second.1) in
    ((λ i. same i ∷ rest.0 i), rest.1)

-- where this comes next, the tokens so far are all
pub ends_here : (bytes : List ℕ) (at : ℕ) (tokens : List Token) (next : Next)
    → ((rest : List Token) (last : Next) → IsDividedUpTo bytes at rest last → IsDividedUpTo bytes 0 (tokens ++ rest) last)
    → next_of bytes at ≡ next → IsDividedUpTo bytes 0 tokens next
ends_here bytes at tokens next divided is = subst (λ ts. IsDividedUpTo bytes 0 ts next) (append-nil tokens) (divided [] next is)

-- the text up to the place is these tokens: whatever the rest is divided into completes the division
pub record IsDividedBefore (bytes : List ℕ) (at : ℕ) (tokens : List Token) : Type 0 where
  pub within : at ≤ length bytes
  pub lie : All (LiesWithin (length bytes)) tokens
  pub formed : All (HasItsForm bytes) tokens
  pub divided : (rest : List Token) (last : Next) → IsDividedUpTo bytes at rest last → IsDividedUpTo bytes 0 (tokens ++ rest) last

-- one more token
pub divided_push : (bytes : List ℕ) (at : ℕ) (tokens : List Token) (t : Token) → IsDividedBefore bytes at tokens
    → Found t ≡ next_of bytes at → IsWithin at (length bytes) (Found t) → HasItsForm bytes t
    → IsDividedBefore bytes (t.at + t.len) (tokens ++ t ∷ [])
divided_push bytes at tokens t before next within form = record {
  within = within.2;
  lie = All-push (LiesWithin (length bytes)) tokens t before.lie (within.1, within.2);
  formed = All-push (HasItsForm bytes) tokens t before.formed form;
  divided = λ rest last more. subst (λ ts. IsDividedUpTo bytes 0 ts last) (sym (append_assoc tokens (t ∷ []) rest))
      (before.divided (t ∷ rest) last (sym next, more));
}
