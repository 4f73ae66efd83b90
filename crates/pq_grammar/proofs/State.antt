-- A place in the reading of a sentence, and the steps from one to the next.
use Rattle.std.proofs.Common.{◌≡◌, ℕ, zero, suc, ◌+◌, ◌-◌, ◌≤◌, List, [], ◌∷◌, ◌++◌, Some, refl, sym, ◌∙◌, ap, subst, append-nil, append_assoc, arith}
use Rattle.pq_grammar.specs.declared.class.Class.{Class}
use Rattle.pq_grammar.specs.declared.sort.Sort.{Sort}
use Rattle.pq_grammar.specs.declared.symbol.Role.{Role}
use Rattle.pq_grammar.specs.declared.symbol.Symbol.{Symbol}
use Rattle.pq_grammar.specs.declared.symbol.Symbol.TheVariants.{Token, Opening, Leave, Close, Part}
use Rattle.pq_grammar.specs.declared.mark.Lexeme.{Lexeme}
use Rattle.pq_grammar.specs.declared.mark.Mark.{Mark}
use Rattle.pq_grammar.specs.declared.mark.Mark.TheVariants.{Token as TokenMark, Close as CloseMark}
use Rattle.pq_grammar.specs.Grammar.{alternatives}
use Rattle.pq_grammar.specs.Sentences.{IsOneOf, Derives, Completes, tokens, AllShallow}
use Rattle.pq_grammar.specs.Ahead.{look, is_open, chosen}
use Rattle.pq_grammar.specs.Reading.{Fits, Continues, IsState}
use Rattle.pq_grammar.proofs.Choices.{fits_alone, fits_part, takes, found_is_one}

-- the tokens of marks, one list after another
pub tokens_append : (ms ns : List Mark) → tokens (ms ++ ns) ≡ tokens ms ++ tokens ns
tokens_append [] ns = refl
tokens_append (TokenMark role x depth ∷ ms) ns = ap (λ xs. x ∷ xs) (tokens_append ms ns)
tokens_append (CloseMark ∷ ms) ns = tokens_append ms ns

-- shallow marks, one list after another
shallow_append : (ms ns : List Mark) → AllShallow ms → AllShallow ns → AllShallow (ms ++ ns)
shallow_append [] ns first second = second
shallow_append (TokenMark role x depth ∷ ms) ns first second = (first.0, shallow_append ms ns first.1 second)
shallow_append (CloseMark ∷ ms) ns first second = shallow_append ms ns first second

-- the beginning
pub begin : (start : Sort) (xs : List Lexeme) → IsState start xs [] (Part start ∷ []) 0
begin start xs = record {
  shallow = tt;
  bounded = omega arith;
  fits = fits_alone start;
  forward = λ n ms derived. (n, derived);
  backward = λ ms whole rest spelled ahead. record { steps = whole.0; more = ms; whole = refl; spelled = spelled; derived = whole.1 };
}

-- a symbol is read as a token: what begins with it derives marks that begin with the token's
pub record Reads (s : Symbol) (role : Role) (class : Class) (before after : ℕ) : Type 0 where
  pub builds : (n : ℕ) (ss : List Symbol) (x : Lexeme) (ms : List Mark) → x.class ≡ class → Derives n ss after ms
      → Derives (suc n) (s ∷ ss) before (TokenMark role x after ∷ ms)
  pub inverts : (n : ℕ) (ss : List Symbol) (ms : List Mark) → Derives n (s ∷ ss) before ms
      → (m : ℕ) × (x : Lexeme) × (rest : List Mark) × (ms ≡ TokenMark role x after ∷ rest) × (x.class ≡ class) × Derives m ss after rest

-- a token's
pub reads_token : (role : Role) (class : Class) (depth : ℕ) → Reads (Token role class) role class depth depth
reads_token role class depth = record {
  builds = λ n ss x ms is derived. (x, ms, refl, is, derived);
  inverts = inverted;
}
  where
    inverted : (n : ℕ) (ss : List Symbol) (ms : List Mark) → Derives n (Token role class ∷ ss) depth ms
        → (m : ℕ) × (x : Lexeme) × (rest : List Mark) × (ms ≡ TokenMark role x depth ∷ rest) × (x.class ≡ class) × Derives m ss depth rest
    inverted zero ss ms derived = absurd derived
    inverted (suc n) ss ms (x, rest, is, has_class, derived) = (n, x, rest, is, has_class, derived)

-- that of a token that opens a bracket
pub reads_opening : (role : Role) (class : Class) (depth : ℕ) → Reads (Opening role class) role class depth (depth + 1)
reads_opening role class depth = record {
  builds = λ n ss x ms is derived. (x, ms, refl, is, derived);
  inverts = inverted;
}
  where
    inverted : (n : ℕ) (ss : List Symbol) (ms : List Mark) → Derives n (Opening role class ∷ ss) depth ms
        → (m : ℕ) × (x : Lexeme) × (rest : List Mark) × (ms ≡ TokenMark role x (depth + 1) ∷ rest) × (x.class ≡ class)
        × Derives m ss (depth + 1) rest
    inverted zero ss ms derived = absurd derived
    inverted (suc n) ss ms (x, rest, is, has_class, derived) = (n, x, rest, is, has_class, derived)

-- the same symbols fit after a token
fits_behind : (s : Symbol) (role : Role) (class : Class) (before after : ℕ) (ss : List Symbol) → Reads s role class before after → Fits (s ∷ ss) → Fits ss
fits_behind (Token r c) role class before after ss reads fits = fits
fits_behind (Opening r c) role class before after ss reads fits = fits
fits_behind Leave role class before after ss reads fits = fits
fits_behind Close role class before after ss reads fits = fits
fits_behind (Part sort) role class before after ss reads fits = fits.1

-- a mark more, and what follows it
one_more : (out : List Mark) (m : Mark) (ms ns : List Mark) → ns ≡ out ++ (m ∷ ms) → ns ≡ (out ++ m ∷ []) ++ ms
one_more out m ms ns is = is ∙ sym (append_assoc out (m ∷ []) ms)

-- a token was read
pub read_step : (start : Sort) (x : Lexeme) (xs : List Lexeme) (out : List Mark) (s : Symbol) (role : Role) (class : Class)
    (before after : ℕ) (ss : List Symbol) → Reads s role class before after → x.class ≡ class → after ≤ 100
    → IsState start (x ∷ xs) out (s ∷ ss) before → IsState start xs (out ++ TokenMark role x after ∷ []) ss after
read_step start x xs out s role class before after ss reads is low state = record {
  shallow = shallow_append out (TokenMark role x after ∷ []) state.shallow (low, tt);
  bounded = low;
  fits = fits_behind s role class before after ss reads state.fits;
  forward = λ n ms derived. subst (Completes start) (sym (append_assoc out (TokenMark role x after ∷ []) ms))
      (state.forward (suc n) (TokenMark role x after ∷ ms) (reads.builds n ss x ms is derived));
  backward = λ ms whole rest spelled ahead. goes_on ms rest
      (state.backward ms whole (x ∷ rest) (spelled ∙ ap (λ ys. ys ++ rest) (tokens_append out (TokenMark role x after ∷ []))
      ∙ append_assoc (tokens out) (x ∷ []) rest) refl);
}
  where
    goes_on : (ms : List Mark) (rest : List Lexeme) → Continues out (s ∷ ss) before (x ∷ rest) ms
        → Continues (out ++ TokenMark role x after ∷ []) ss after rest ms
    goes_on ms rest c =
        let (n, y, more, is_mark, has_class, derived) = reads.inverts c.steps ss c.more c.derived in
        let front : y ∷ tokens more ≡ x ∷ rest = subst (λ ns. tokens ns ≡ x ∷ rest) is_mark c.spelled in
        let same : y ≡ x = cc in
        record {
          steps = n;
          more = more;
          whole = one_more out (TokenMark role x after) more ms (c.whole
              ∙ ap (λ ns. out ++ ns) (is_mark ∙ ap (λ z. TokenMark role z after ∷ more) same));
          spelled = cc;
          derived = derived;
        }

-- a bracket is no longer open
pub leave_step : (start : Sort) (xs : List Lexeme) (out : List Mark) (ss : List Symbol) (depth : ℕ)
    → IsState start xs out (Leave ∷ ss) depth → IsState start xs out ss (depth - 1)
leave_step start xs out ss depth state = record {
  shallow = state.shallow;
  bounded = omega (arith, state.bounded);
  fits = state.fits;
  forward = λ n ms derived. state.forward (suc n) ms derived;
  backward = λ ms whole rest spelled ahead. goes_on ms rest (state.backward ms whole rest spelled ahead);
}
  where
    inverted : (n : ℕ) (ms : List Mark) → Derives n (Leave ∷ ss) depth ms → (m : ℕ) × Derives m ss (depth - 1) ms
    inverted zero ms derived = absurd derived
    inverted (suc n) ms derived = (n, derived)

    goes_on : (ms : List Mark) (rest : List Lexeme) → Continues out (Leave ∷ ss) depth rest ms → Continues out ss (depth - 1) rest ms
    goes_on ms rest c = let d = inverted c.steps c.more c.derived in record { steps = d.0; more = c.more; whole = c.whole; spelled = c.spelled; derived = d.1 }

-- a tree ends
pub close_step : (start : Sort) (xs : List Lexeme) (out : List Mark) (ss : List Symbol) (depth : ℕ)
    → IsState start xs out (Close ∷ ss) depth → IsState start xs (out ++ CloseMark ∷ []) ss depth
close_step start xs out ss depth state = record {
  shallow = shallow_append out (CloseMark ∷ []) state.shallow tt;
  bounded = state.bounded;
  fits = state.fits;
  forward = λ n ms derived. subst (Completes start) (sym (append_assoc out (CloseMark ∷ []) ms)) (state.forward (suc n) (CloseMark ∷ ms) (ms, refl, derived));
  backward = λ ms whole rest spelled ahead. goes_on ms rest
      (state.backward ms whole rest (spelled ∙ ap (λ ys. ys ++ rest) (tokens_append out (CloseMark ∷ []) ∙ append-nil (tokens out))) ahead);
}
  where
    inverted : (n : ℕ) (ms : List Mark) → Derives n (Close ∷ ss) depth ms → (m : ℕ) × (rest : List Mark) × (ms ≡ CloseMark ∷ rest) × Derives m ss depth rest
    inverted zero ms derived = absurd derived
    inverted (suc n) ms (rest, is, derived) = (n, rest, is, derived)

    goes_on : (ms : List Mark) (rest : List Lexeme) → Continues out (Close ∷ ss) depth rest ms → Continues (out ++ CloseMark ∷ []) ss depth rest ms
    goes_on ms rest c =
        let (n, more, is, derived) = inverted c.steps c.more c.derived in
        record {
          steps = n;
          more = more;
          whole = one_more out CloseMark more ms (c.whole ∙ ap (λ ns. out ++ ns) is);
          spelled =
              subst (λ ns. tokens ns ≡ rest) is c.spelled;
          derived = derived;
        }

-- an alternative stands for its sort
pub part_step : (start : Sort) (xs : List Lexeme) (out : List Mark) (sort : Sort) (a ss : List Symbol) (depth : ℕ)
    → chosen sort (look xs) ≡ Some a → IsState start xs out (Part sort ∷ ss) depth → IsState start xs out (a ++ ss) depth
part_step start xs out sort a ss depth found state = record {
  shallow = state.shallow;
  bounded = state.bounded;
  fits = fits_part sort a ss among state.fits;
  forward = λ n ms derived. state.forward (suc n) ms (a, among, derived);
  backward = λ ms whole rest spelled ahead. goes_on ms rest ahead (state.backward ms whole rest spelled ahead);
}
  where
    among : IsOneOf a (alternatives sort)
    among = found_is_one (is_open sort (look xs)) a (alternatives sort) found

    taken : (n : ℕ) (ms : List Mark) → look (tokens ms) ≡ look xs → Derives n (Part sort ∷ ss) depth ms → (m : ℕ) × Derives m (a ++ ss) depth ms
    taken zero ms ahead derived = absurd derived
    taken (suc n) ms ahead (b, among, derived) = (
      n,
      subst (λ c. Derives n (c ++ ss) depth ms) (takes n sort a b ss depth ms state.fits (ap (chosen sort) ahead
          ∙ found) among derived) derived,
    )

    goes_on : (ms : List Mark) (rest : List Lexeme) → look rest ≡ look xs → Continues out (Part sort ∷ ss) depth rest ms → Continues out (a ++ ss) depth rest ms
    goes_on ms rest ahead c =
        let d = taken c.steps c.more (ap look c.spelled ∙ ahead) c.derived in
        record { steps = d.0; more = c.more; whole = c.whole; spelled = c.spelled; derived = d.1 }
