-- The parser's steps, from place to place.
use Rattle.std.proofs.Common.{◌≡◌, ◌==◌, ◌+◌, ℕ, ◌-◌, ◌<◌, ◌≤◌, List, [], ◌∷◌, ◌++◌, Option, Some, None, length, take, drop, reverse}
use Rattle.std.proofs.Common.{get_or, refl, sym, ◌∙◌, ap, subst, append-nil, arith, Bor}
use Rattle.std.specs.Slice.{IsItemAt}
use Rattle.std.proofs.lemmas.Bool.{eqb-false, eqb-true}
use Rattle.std.proofs.lemmas.List.{reverse-append, reverse-reverse, drop_all, take_more, drop_more}
use Rattle.pq_grammar.specs.declared.class.Class.TheVariants.{Name}
use Rattle.pq_grammar.specs.declared.sort.Sort.{Sort}
use Rattle.pq_grammar.specs.declared.symbol.Symbol.{Symbol}
use Rattle.pq_grammar.specs.declared.symbol.Symbol.TheVariants.{Token, Opening, Leave, Close, Part}
use Rattle.pq_grammar.specs.declared.mark.Lexeme.{Lexeme}
use Rattle.pq_grammar.specs.declared.mark.Mark.{Mark}
use Rattle.pq_grammar.specs.declared.mark.Mark.TheVariants.{Token as TokenMark, Close as CloseMark}
use Rattle.pq_grammar.specs.declared.parser.Expected.{Expected}
use Rattle.pq_grammar.specs.declared.parser.Parser.{Parser}
use Rattle.pq_grammar.specs.Grammar.{alternatives}
use Rattle.pq_grammar.specs.Sentences.{tokens, IsFirstFault, IsSentence}
use Rattle.pq_grammar.specs.Tables.{number, weight}
use Rattle.pq_grammar.specs.Ahead.{look, chosen, is_open, pending}
use Rattle.pq_grammar.specs.Reading.{IsPlace, IsState, Expects, IsExpected}
use Rattle.pq_grammar.proofs.Choices.{found_is_one, pending_falls}
use Rattle.pq_grammar.proofs.Lives.{some_lexeme}
use Rattle.pq_grammar.proofs.Numbers.{numbers_tell, no_class}
use Rattle.pq_grammar.proofs.State.{begin, Reads, reads_token, reads_opening, read_step, leave_step, close_step, part_step, tokens_append}
use Rattle.pq_grammar.proofs.Faults.{IsNext, stuck, cannot, IsStuck, none_chosen, too_deep, finished}

-- the beginning
pub begins_place : (start : Sort) (xs : List Lexeme) (out : List Mark) (stack : List Symbol) → out ≡ [] → stack ≡ Part start ∷ []
    → IsPlace start xs 0 out (reverse stack) 0
begins_place start xs out stack empty is =
    subst (λ ss. IsPlace start xs 0 out (reverse ss) 0) (sym is)
    (subst (λ ms. IsPlace start xs 0 ms (Part start ∷ []) 0) (sym empty)
    (record { within = omega arith; spelled = refl; state = begin start xs }))

-- the token that was got is the next one
pub got : (xs : List Lexeme) (place : ℕ) (x : Bor Lexeme) → IsItemAt xs place (Some x) → (place < length xs) × IsNext xs place x.now
got xs place x item =
    let here : place < length xs = item.3.0 in
    let same : x.now ≡ get_or xs place x.now = item.4 (omega arith) x.now in (
      here,
      record {
        rest = subst (λ y. drop place xs ≡ y ∷ drop (place + 1) xs) (sym same) (drop_more xs place x.now here);
        read = subst (λ y. take (place + 1) xs ≡ take place xs ++ y ∷ []) (sym same) (take_more xs place x.now here);
      },
    )

-- where none was got, the tokens end
pub got_none : (xs : List Lexeme) (place : ℕ) → IsItemAt xs place None → length xs ≤ place
got_none xs place item = item.3

-- how a symbol is read that is read as a token
record Is (s : Symbol) (depth : ℕ) (e : Expected) : Type 0 where
  reads : Reads s e.role e.class depth e.depth

-- as the token that is expected
is_read : (s : Symbol) (depth : ℕ) (e : Expected) → Expects s depth e → Is s depth e
is_read (Token role class) depth e is = subst (Is (Token role class) depth) (sym is) (record { reads = reads_token role class depth })
is_read (Opening role class) depth e is = subst (Is (Opening role class) depth) (sym is) (record { reads = reads_opening role class depth })
is_read Leave depth e is = absurd is
is_read Close depth e is = absurd is
is_read (Part sort) depth e is = absurd is

-- the token that is expected was read
pub read_place : (start : Sort) (xs : List Lexeme) (place : ℕ) (out new : List Mark) (s : Symbol) (ss : List Symbol) (depth : ℕ)
    (e : Expected) (x : Lexeme) → IsPlace start xs place out (s ∷ ss) depth → Expects s depth e → place < length xs → IsNext xs place x
    → x.class ≡ e.class → e.depth ≤ 100 → new ≡ out ++ TokenMark e.role x e.depth ∷ [] → IsPlace start xs (place + 1) new ss e.depth
read_place start xs place out new s ss depth e x at expects before next same low pushed =
    subst (λ ms. IsPlace start xs (place + 1) ms ss e.depth) (sym pushed) (record {
      within = omega (arith, before);
      spelled = tokens_append out (TokenMark e.role x e.depth ∷ []) ∙ ap (λ ys. ys ++ x ∷ []) at.spelled ∙ sym next.read;
      state = read_step start x (drop (place + 1) xs) out s e.role e.class depth e.depth ss (is_read s depth e expects).reads same low
          (subst (λ ys. IsState start ys out (s ∷ ss) depth) next.rest at.state);
    })

-- a token is expected, and another one comes, or none
pub refuses : (start : Sort) (xs : List Lexeme) (place : ℕ) (out : List Mark) (s : Symbol) (ss : List Symbol) (depth : ℕ) (e : Expected)
    → IsPlace start xs place out (s ∷ ss) depth → Expects s depth e
    → ((x : Lexeme) → x.class ≡ e.class → number x.class ≡ look (drop place xs) → ⊥) → IsFirstFault start xs place
refuses start xs place out s ss depth e at expects other = stuck start xs place out (s ∷ ss) depth at never
  where
    never : IsStuck (s ∷ ss) depth (look (drop place xs))
    never n ms derived same =
        let (m, x, rest, is, has_class, more) = (is_read s depth e expects).reads.inverts n ss ms derived in
        other x has_class (ap (λ ns. look (tokens ns)) (sym is) ∙ same)

-- no token comes
pub refuses_end : (start : Sort) (xs : List Lexeme) (place : ℕ) (out : List Mark) (s : Symbol) (ss : List Symbol) (depth : ℕ) (e : Expected)
    → IsPlace start xs place out (s ∷ ss) depth → Expects s depth e → length xs ≤ place → IsFirstFault start xs place
refuses_end start xs place out s ss depth e at expects end =
    refuses start xs place out s ss depth e at expects (λ x has_class same. eqb-false (number x.class) 47 (sym (no_class x.class)) (same
    ∙ ap look (drop_all place xs end)))

-- one of another class
pub refuses_class : (start : Sort) (xs : List Lexeme) (place : ℕ) (out : List Mark) (s : Symbol) (ss : List Symbol) (depth : ℕ)
    (e : Expected) (x : Lexeme) → IsPlace start xs place out (s ∷ ss) depth → Expects s depth e → IsNext xs place x
    → (x.class ≡ e.class → ⊥) → IsFirstFault start xs place
refuses_class start xs place out s ss depth e x at expects next other =
    refuses start xs place out s ss depth e at expects (λ y has_class same. other (sym (numbers_tell y.class x.class (same ∙ ap look next.rest)) ∙ has_class))

-- one that opens the 101st bracket
pub refuses_depth : (start : Sort) (xs : List Lexeme) (place : ℕ) (out : List Mark) (s : Symbol) (ss : List Symbol) (depth : ℕ)
    (e : Expected) → IsPlace start xs place out (s ∷ ss) depth → Expects s depth e → place < length xs → 100 < e.depth
    → IsFirstFault start xs place
refuses_depth start xs place out (Token role class) ss depth e at expects before deep = let low = at.state.bounded in
    let same : e.depth ≡ depth = ap (λ (f : Expected). f.depth) expects in absurd (omega (arith, low, same, deep))
refuses_depth start xs place out (Opening role class) ss depth e at expects before deep =
    let same : e.depth ≡ depth + 1 = ap (λ (f : Expected). f.depth) expects in
    too_deep start xs place out role class ss depth at before (omega (arith, same, deep))
refuses_depth start xs place out Leave ss depth e at expects before deep = absurd expects
refuses_depth start xs place out Close ss depth e at expects before deep = absurd expects
refuses_depth start xs place out (Part sort) ss depth e at expects before deep = absurd expects

-- a bracket is no longer open, and less is to be worked off before the next token
pub leave_place : (start : Sort) (xs : List Lexeme) (place : ℕ) (out : List Mark) (s : Symbol) (ss : List Symbol) (depth less : ℕ)
    → s ≡ Leave → less ≡ depth - 1 → IsPlace start xs place out (s ∷ ss) depth
    → IsPlace start xs place out ss less × (pending ss < pending (s ∷ ss))
leave_place start xs place out s ss depth less leave is at =
    let here = subst (λ t. IsPlace start xs place out (t ∷ ss) depth) leave at in (
      subst (λ d. IsPlace start xs place out ss d) (sym is) (record {
        within = here.within;
        spelled = here.spelled;
        state = leave_step start (drop place xs) out ss depth here.state;
      }),
      subst (λ t. pending ss < pending (t ∷ ss)) (sym leave) (omega arith),
    )

-- a tree ends, and less is to be worked off
pub close_place : (start : Sort) (xs : List Lexeme) (place : ℕ) (out new : List Mark) (s : Symbol) (ss : List Symbol) (depth : ℕ)
    → s ≡ Close → new ≡ out ++ CloseMark ∷ [] → IsPlace start xs place out (s ∷ ss) depth
    → IsPlace start xs place new ss depth × (pending ss < pending (s ∷ ss))
close_place start xs place out new s ss depth close is at =
    let here = subst (λ t. IsPlace start xs place out (t ∷ ss) depth) close at in (
      subst (λ ms. IsPlace start xs place ms ss depth) (sym is) (record {
        within = here.within;
        spelled = tokens_append out (CloseMark ∷ []) ∙ append-nil (tokens out) ∙ here.spelled;
        state = close_step start (drop place xs) out ss depth here.state;
      }),
      subst (λ t. pending ss < pending (t ∷ ss)) (sym close) (omega arith),
    )

-- the symbols on a stack on which others were pushed
pushed : (stack new a : List Symbol) → new ≡ stack ++ reverse a → a ++ reverse stack ≡ reverse new
pushed stack new a is = ap (λ ss. ss ++ reverse stack) (sym (reverse-reverse a)) ∙ sym (reverse-append stack (reverse a)) ∙ ap reverse (sym is)

-- an alternative stands for its sort
pub part_place : (start : Sort) (xs : List Lexeme) (place : ℕ) (out : List Mark) (sort : Sort) (a stack new : List Symbol) (depth : ℕ)
    → chosen sort (look (drop place xs)) ≡ Some a → new ≡ stack ++ reverse a → IsPlace start xs place out (Part sort ∷ reverse stack) depth
    → IsPlace start xs place out (reverse new) depth
part_place start xs place out sort a stack new depth found is at = record {
  within = at.within;
  spelled = at.spelled;
  state = subst (λ ss. IsState start (drop place xs) out ss depth) (pushed stack new a is)
      (part_step start (drop place xs) out sort a (reverse stack) depth found at.state);
}

-- and what is before the first token weighs less
pub part_falls : (sort : Sort) (k : ℕ) (a stack new : List Symbol) → chosen sort k ≡ Some a → new ≡ stack ++ reverse a
    → pending (reverse new) < weight sort + pending (reverse stack)
part_falls sort k a stack new found is = subst (λ ss. pending ss < weight sort + pending (reverse stack)) (pushed stack new a is)
    (pending_falls sort a (reverse stack) (found_is_one (is_open sort k) a (alternatives sort) found))

-- no alternative can be taken
pub refuses_part : (start : Sort) (xs : List Lexeme) (place : ℕ) (out : List Mark) (sort : Sort) (ss : List Symbol) (depth : ℕ)
    → chosen sort (look (drop place xs)) ≡ None → IsPlace start xs place out (Part sort ∷ ss) depth → IsFirstFault start xs place
refuses_part start xs place out sort ss depth none at =
    stuck start xs place out (Part sort ∷ ss) depth at (none_chosen start (drop place xs) out sort ss depth at.state none)

-- the parser is at a place with no symbol left
record IsEnd (xs : List Lexeme) (start : Sort) (p : Parser) : Type 0 where
  place : IsPlace start xs p.at p.marks.items [] p.depth

-- where no token is expected
is_end : (xs : List Lexeme) (start : Sort) (old new : Parser) (e : Option Expected) → e ≡ None → old.start ≡ start → IsExpected xs old new e
    → IsEnd xs start new
is_end xs start old new e none is expected =
    let (at, same, kept) = subst (IsExpected xs old new) none expected in
    record { place = subst (λ s. IsPlace s xs new.at new.marks.items [] new.depth) (kept ∙ is) at }

-- the marks are a sentence there, if all tokens were read
pub ends_sentence : (xs : List Lexeme) (start : Sort) (old new : Parser) (e : Option Expected) → e ≡ None → old.start ≡ start
    → IsExpected xs old new e → length xs ≤ new.at → IsSentence start xs new.marks.items
ends_sentence xs start old new e none is expected all =
    finished start xs new.at new.marks.items new.depth (is_end xs start old new e none is expected).place all

-- and there is the first fault otherwise
pub ends_early : (xs : List Lexeme) (start : Sort) (old new : Parser) (e : Option Expected) → e ≡ None → old.start ≡ start
    → IsExpected xs old new e → new.at < length xs → IsFirstFault start xs new.at
ends_early xs start old new e none is expected before =
    stuck start xs new.at new.marks.items [] new.depth (is_end xs start old new e none is expected).place
    (cannot [] new.depth (look (drop new.at xs)) (λ same.
    eqb-false (look (drop new.at xs)) 47 (ap (λ ys. look ys == 47) (drop_more xs new.at (some_lexeme Name) before)
    ∙ sym (no_class (get_or xs new.at (some_lexeme Name)).class)) (eqb-true (look (drop new.at xs)) 47 same)))
