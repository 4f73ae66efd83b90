-- Tokens have one first fault at most, and none where they are a sentence.
use Rattle.std.proofs.Common.{◌≡◌, ℕ, zero, suc, ◌+◌, ◌<◌, List, [], ◌∷◌, ◌++◌, length, take, refl, sym, ◌∙◌, ap, subst, inl, inr}
use Rattle.std.proofs.Common.{append-nil, append_assoc, arith}
use Rattle.std.proofs.lemmas.Bool.{cases_order, cases_lt}
use Rattle.std.proofs.lemmas.List.{take-take}
use Rattle.pq_grammar.specs.declared.sort.Sort.{Sort}
use Rattle.pq_grammar.specs.declared.mark.Lexeme.{Lexeme}
use Rattle.pq_grammar.specs.declared.mark.Mark.{Mark}
use Rattle.pq_grammar.specs.declared.mark.Mark.TheVariants.{Token as TokenMark, Close as CloseMark}
use Rattle.pq_grammar.specs.Sentences.{Completes, tokens, AllShallow, IsSentence, IsPrefix, IsFirstFault}

-- the marks up to this many tokens, and those after them
record Cut (k : ℕ) (ms : List Mark) : Type 0 where
  front : List Mark
  back : List Mark
  whole : ms ≡ front ++ back
  spelled : tokens front ≡ take k (tokens ms)
  shallow : AllShallow front

-- shallow marks can be cut after each token
cut : (k : ℕ) (ms : List Mark) → AllShallow ms → Cut k ms
cut zero ms shallow = record { front = []; back = ms; whole = refl; spelled = refl; shallow = tt }
cut (suc k) [] shallow = record { front = []; back = []; whole = refl; spelled = refl; shallow = tt }
cut (suc k) (TokenMark role x depth ∷ ms) shallow =
    let rest = cut k ms shallow.1 in
    record {
      front = TokenMark role x depth ∷ rest.front;
      back = rest.back;
      whole =
          ap (λ ns. TokenMark role x depth ∷ ns) rest.whole;
      spelled = ap (λ xs. x ∷ xs) rest.spelled;
      shallow = (shallow.0, rest.shallow);
    }
cut (suc k) (CloseMark ∷ ms) shallow =
    let rest = cut (suc k) ms shallow in
    record { front = CloseMark ∷ rest.front; back = rest.back; whole = ap (λ ns. CloseMark ∷ ns) rest.whole; spelled = rest.spelled; shallow = rest.shallow }

-- the front of a prefix of a sentence is one
shorter : (start : Sort) (xs : List Lexeme) (k : ℕ) → IsPrefix start xs → IsPrefix start (take k xs)
shorter start xs k p =
    let c = cut k p.before p.shallow in
    record {
      before = c.front;
      after = c.back ++ p.after;
      derived = subst (Completes start) (ap (λ ms. ms ++ p.after) c.whole ∙ append_assoc c.front c.back p.after) p.derived;
      spelled = c.spelled ∙ ap (take k) p.spelled;
      shallow = c.shallow;
    }

-- a sentence is a prefix of itself
whole_prefix : (start : Sort) (xs : List Lexeme) (ms : List Mark) → IsSentence start xs ms → IsPrefix start xs
whole_prefix start xs ms sentence = record {
  before = ms;
  after = [];
  derived = subst (Completes start) (sym (append-nil ms)) sentence.derived;
  spelled = sentence.spelled;
  shallow = sentence.shallow;
}

-- no first fault is before another one
none_before : (start : Sort) (xs : List Lexeme) (i j : ℕ) → IsFirstFault start xs i → IsFirstFault start xs j → i < j → ⊥
none_before start xs i j first second before =
    first.bad (omega (arith, second.within)) (subst (IsPrefix start) (take-take (i + 1) j xs (omega arith)) (shorter start (take j xs) (i + 1) second.good))

-- so there is one at most
pub one_fault : (start : Sort) (xs : List Lexeme) (i j : ℕ) → IsFirstFault start xs i → IsFirstFault start xs j → i ≡ j
one_fault start xs i j first second = elim (cases_order i j) [
  | inl same ↦ same
  | inr either ↦ elim either [
    | inl before ↦ absurd (none_before start xs i j first second before)
    | inr after ↦ absurd (none_before start xs j i second first after)
  ]
]

-- and none in a sentence
pub no_fault : (start : Sort) (xs : List Lexeme) (i : ℕ) (ms : List Mark) → IsFirstFault start xs i → IsSentence start xs ms → ⊥
no_fault start xs i ms fault sentence = elim (cases_lt i (length xs)) [
  | inl before ↦ fault.bad before (shorter start xs (i + 1) (whole_prefix start xs ms sentence))
  | inr end ↦ fault.short (omega (arith, fault.within, end)) ms sentence
]
