-- Where the reading of a sentence ends: at its first fault, or at its end.
use Rattle.std.proofs.Common.{◌≡◌, ℕ, zero, suc, ◌+◌, ◌<◌, ◌≤◌, true, List, [], ◌∷◌, ◌++◌, None, length, take, drop, get_or, refl, sym, ◌∙◌}
use Rattle.std.proofs.Common.{ap, subst, append-nil, append_assoc, arith}
use Rattle.std.proofs.lemmas.List.{drop_more, take_more, drop_all, take_all}
use Rattle.pq_grammar.specs.declared.class.Class.{Class}
use Rattle.pq_grammar.specs.declared.class.Class.TheVariants.{Name}
use Rattle.pq_grammar.specs.declared.sort.Sort.{Sort}
use Rattle.pq_grammar.specs.declared.symbol.Role.{Role}
use Rattle.pq_grammar.specs.declared.symbol.Symbol.{Symbol}
use Rattle.pq_grammar.specs.declared.symbol.Symbol.TheVariants.{Opening, Part}
use Rattle.pq_grammar.specs.declared.mark.Lexeme.{Lexeme}
use Rattle.pq_grammar.specs.declared.mark.Mark.{Mark}
use Rattle.pq_grammar.specs.declared.mark.Mark.TheVariants.{Token as TokenMark, Close as CloseMark}
use Rattle.pq_grammar.specs.Sentences.{Derives, Completes, tokens, AllShallow, IsSentence, IsPrefix, IsFirstFault}
use Rattle.pq_grammar.specs.Ahead.{look, chosen}
use Rattle.pq_grammar.specs.Reading.{can, Continues, IsState, IsPlace}
use Rattle.pq_grammar.proofs.Choices.{begins, takes_none}
use Rattle.pq_grammar.proofs.Lives.{lives, some_lexeme}
use Rattle.pq_grammar.proofs.State.{tokens_append, reads_opening}

-- the token at a place
pub record IsNext (xs : List Lexeme) (place : ℕ) (x : Lexeme) : Type 0 where
  pub rest : drop place xs ≡ x ∷ drop (place + 1) xs
  pub read : take (place + 1) xs ≡ take place xs ++ x ∷ []

-- there is one before the end
next_at : (xs : List Lexeme) (place : ℕ) → place < length xs → IsNext xs place (get_or xs place (some_lexeme Name))
next_at xs place before = record { rest = drop_more xs place (some_lexeme Name) before; read = take_more xs place (some_lexeme Name) before }

-- the tokens up to the place are a prefix of a sentence
good_at : (start : Sort) (xs : List Lexeme) (place : ℕ) (out : List Mark) (ss : List Symbol) (depth : ℕ)
    → IsPlace start xs place out ss depth → IsPrefix start (take place xs)
good_at start xs place out ss depth at =
    let more = lives ss depth in
    record { before = out; after = more.1; derived = at.state.forward more.0 more.1 more.2; spelled = at.spelled; shallow = at.state.shallow }

-- a longer prefix goes on with the next token
longer : (start : Sort) (xs : List Lexeme) (place : ℕ) (out : List Mark) (ss : List Symbol) (depth : ℕ) (x : Lexeme)
    → IsPlace start xs place out ss depth → IsNext xs place x → (p : IsPrefix start (take (place + 1) xs))
    → Continues out ss depth (x ∷ tokens p.after) (p.before ++ p.after)
longer start xs place out ss depth x at next p =
    at.state.backward (p.before ++ p.after) p.derived (x ∷ tokens p.after)
    (tokens_append p.before p.after ∙ ap (λ ys. ys ++ tokens p.after) (p.spelled ∙ next.read ∙ ap (λ ys. ys ++ x ∷ []) (sym at.spelled))
    ∙ append_assoc (tokens out) (x ∷ []) (tokens p.after))
    (ap look (sym next.rest))

-- a sentence goes on with nothing
whole_goes_on : (start : Sort) (xs : List Lexeme) (place : ℕ) (out : List Mark) (ss : List Symbol) (depth : ℕ) (ms : List Mark)
    → IsPlace start xs place out ss depth → place ≡ length xs → IsSentence start xs ms → Continues out ss depth [] ms
whole_goes_on start xs place out ss depth ms at end sentence =
    at.state.backward ms sentence.derived [] (sentence.spelled ∙ sym (take_all place xs (omega (arith, end))) ∙ sym at.spelled
    ∙ sym (append-nil (tokens out))) (ap look (sym (drop_all place xs (omega (arith, end)))))

-- nothing that the symbols derive goes on with a token of the class of the next one, or ends where the tokens do
abbrev pub IsStuck : List Symbol → ℕ → ℕ → Type 0
IsStuck ss depth k = (n : ℕ) (ms : List Mark) → Derives n ss depth ms → look (tokens ms) ≡ k → ⊥

-- there the first fault is
pub stuck : (start : Sort) (xs : List Lexeme) (place : ℕ) (out : List Mark) (ss : List Symbol) (depth : ℕ)
    → IsPlace start xs place out ss depth → IsStuck ss depth (look (drop place xs)) → IsFirstFault start xs place
stuck start xs place out ss depth at never = record {
  within = at.within;
  good = good_at start xs place out ss depth at;
  bad = λ before p.
      let next = next_at xs place before in
      let c = longer start xs place out ss depth (get_or xs place (some_lexeme Name)) at next p in
      never c.steps c.more c.derived (ap look (c.spelled) ∙ ap look (sym next.rest));
  short = λ end ms sentence.
      let c = whole_goes_on start xs place out ss depth ms at end sentence in
      never c.steps c.more c.derived (ap look c.spelled ∙ ap look (sym (drop_all place xs (omega (arith, end)))));
}

-- nothing goes on where the symbols cannot begin with what comes next
pub cannot : (ss : List Symbol) (depth k : ℕ) → (can ss k ≡ true → ⊥) → IsStuck ss depth k
cannot ss depth k never = λ n ms derived ahead. never (subst (λ m. can ss m ≡ true) ahead (begins n ss depth ms derived))

-- nor where no alternative was chosen
pub none_chosen : (start : Sort) (xs : List Lexeme) (out : List Mark) (sort : Sort) (ss : List Symbol) (depth : ℕ)
    → IsState start xs out (Part sort ∷ ss) depth → chosen sort (look xs) ≡ None → IsStuck (Part sort ∷ ss) depth (look xs)
none_chosen start xs out sort ss depth state none = by
  where
    by : (n : ℕ) (ms : List Mark) → Derives n (Part sort ∷ ss) depth ms → look (tokens ms) ≡ look xs → ⊥
    by zero ms derived ahead = derived
    by (suc n) ms (b, among, derived) ahead = takes_none n sort b ss depth ms state.fits (ap (chosen sort) ahead ∙ none) among derived

-- the token that follows marks is among those that spell one token more, and so it is shallow
is_shallow : (out before after rest : List Mark) (role : Role) (x y : Lexeme) (depth : ℕ)
    → before ++ after ≡ out ++ TokenMark role x depth ∷ rest → tokens before ≡ tokens out ++ y ∷ [] → AllShallow before → depth ≤ 100
is_shallow [] [] after rest role x y depth same spelled shallow = cc
is_shallow [] (TokenMark r z e ∷ before) after rest role x y depth same spelled shallow = let is : e ≡ depth = cc in subst (λ n. n ≤ 100) is shallow.0
is_shallow [] (CloseMark ∷ before) after rest role x y depth same spelled shallow = cc
is_shallow (TokenMark r z e ∷ out) [] after rest role x y depth same spelled shallow = cc
is_shallow (CloseMark ∷ out) [] after rest role x y depth same spelled shallow = absurd (no_more (tokens out) y spelled)
  where
    no_more : (xs : List Lexeme) (y : Lexeme) → [] ≡ xs ++ y ∷ [] → ⊥
    no_more [] y is = cc
    no_more (x ∷ xs) y is = cc
is_shallow (TokenMark r z e ∷ out) (TokenMark r2 z2 e2 ∷ before) after rest role x y depth same spelled shallow =
    is_shallow out before after rest role x y depth (cc) (cc) shallow.1
is_shallow (TokenMark r z e ∷ out) (CloseMark ∷ before) after rest role x y depth same spelled shallow = cc
is_shallow (CloseMark ∷ out) (TokenMark r2 z2 e2 ∷ before) after rest role x y depth same spelled shallow = cc
is_shallow (CloseMark ∷ out) (CloseMark ∷ before) after rest role x y depth same spelled shallow =
    is_shallow out before after rest role x y depth (cc) spelled shallow

-- the token that would be the 101st open bracket is the first fault
pub too_deep : (start : Sort) (xs : List Lexeme) (place : ℕ) (out : List Mark) (role : Role) (class : Class) (ss : List Symbol) (depth : ℕ)
    → IsPlace start xs place out (Opening role class ∷ ss) depth → place < length xs → 100 ≤ depth → IsFirstFault start xs place
too_deep start xs place out role class ss depth at before deep = record {
  within = at.within;
  good = good_at start xs place out (Opening role class ∷ ss) depth at;
  bad = λ before p.
      let next = next_at xs place before in
      let x = get_or xs place (some_lexeme Name) in
      let c = longer start xs place out (Opening role class ∷ ss) depth x at next p in
      let opening = reads_opening role class depth in
      let (n, y, more, is, has_class, derived) = opening.inverts c.steps ss c.more c.derived in
      let low = is_shallow out p.before p.after more role y x (depth + 1) (c.whole ∙ ap (λ ns. out ++ ns) is) (p.spelled ∙ next.read
      ∙ ap (λ ys. ys ++ x ∷ []) (sym at.spelled)) p.shallow in
      omega (arith, low, deep);
  short = λ end ms sentence. omega (arith, before, end);
}

-- the end: the marks are a sentence
pub finished : (start : Sort) (xs : List Lexeme) (place : ℕ) (out : List Mark) (depth : ℕ) → IsPlace start xs place out [] depth
    → length xs ≤ place → IsSentence start xs out
finished start xs place out depth at end = record {
  derived = subst (Completes start) (append-nil out) (at.state.forward 0 [] refl);
  spelled = at.spelled ∙ take_all place xs end;
  shallow = at.state.shallow;
}
