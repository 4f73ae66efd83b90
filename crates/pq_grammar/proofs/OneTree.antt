-- A sentence has one tree.
use Rattle.std.proofs.Common.{◌≡◌, ℕ, zero, suc, ◌+◌, ◌-◌, List, [], ◌∷◌, ◌++◌, sym, ◌∙◌, ap, subst}
use Rattle.pq_grammar.specs.declared.sort.Sort.{Sort}
use Rattle.pq_grammar.specs.declared.symbol.Role.{Role}
use Rattle.pq_grammar.specs.declared.symbol.Symbol.{Symbol}
use Rattle.pq_grammar.specs.declared.symbol.Symbol.TheVariants.{Token, Opening, Leave, Close, Part}
use Rattle.pq_grammar.specs.declared.mark.Lexeme.{Lexeme}
use Rattle.pq_grammar.specs.declared.mark.Mark.{Mark}
use Rattle.pq_grammar.specs.declared.mark.Mark.TheVariants.{Token as TokenMark, Close as CloseMark}
use Rattle.pq_grammar.specs.Sentences.{Derives, tokens, IsSentence}
use Rattle.pq_grammar.specs.Ahead.{look}
use Rattle.pq_grammar.specs.Reading.{Fits}
use Rattle.pq_grammar.proofs.Choices.{fits_alone, fits_part, same_taken}

-- marks that begin with one token's have the token in common, and what follows
one_front : (role : Role) (depth : ℕ) (x y : Lexeme) (ms ns left right : List Mark) → ms ≡ TokenMark role x depth ∷ left
    → ns ≡ TokenMark role y depth ∷ right → tokens ms ≡ tokens ns → (tokens left ≡ tokens right → left ≡ right) → ms ≡ ns
one_front role depth x y ms ns left right first second same rest =
    let front : x ∷ tokens left ≡ y ∷ tokens right = sym (ap tokens first) ∙ same ∙ ap tokens second in
    let token : x ≡ y = cc in
    let all : left ≡ right = rest (cc) in
    cc

-- what is derived has one tree
one_tree : (n m : ℕ) (ss : List Symbol) (depth : ℕ) (ms ns : List Mark) → Fits ss → Derives n ss depth ms → Derives m ss depth ns
    → tokens ms ≡ tokens ns → ms ≡ ns
one_tree n m [] depth ms ns fits first second same = first ∙ sym second
one_tree zero m (s ∷ ss) depth ms ns fits first second same = absurd first
one_tree (suc n) zero (s ∷ ss) depth ms ns fits first second same = absurd second
one_tree (suc n) (suc m) (Token role class ∷ ss) depth ms ns fits (x, left, is, has_class, more) (y, right, also, same_class, others) same =
    one_front role depth x y ms ns left right is also same (one_tree n m ss depth left right fits more others)
one_tree (suc n) (suc m) (Opening role class ∷ ss) depth ms ns fits (x, left, is, has_class, more) (
  y,
  right,
  also,
  same_class,
  others,
) same = one_front role (depth + 1) x y ms ns left right is also same (one_tree n m ss (depth + 1) left right fits more others)
one_tree (suc n) (suc m) (Leave ∷ ss) depth ms ns fits first second same = one_tree n m ss (depth - 1) ms ns fits first second same
one_tree (suc n) (suc m) (Close ∷ ss) depth ms ns fits (left, is, more) (right, also, others) same = is
    ∙ ap (λ rest. CloseMark ∷ rest) (one_tree n m ss depth left right fits more others (sym (ap tokens is) ∙ same ∙ ap tokens also))
    ∙ sym also
one_tree (suc n) (suc m) (Part sort ∷ ss) depth ms ns fits (a, among, more) (b, also, others) same =
    let taken = same_taken n m sort a b ss depth ms ns fits (ap look (sym same)) among also more others in
    one_tree n m (a ++ ss) depth ms ns (fits_part sort a ss among fits) more (subst (λ c. Derives m (c ++ ss) depth ns) taken others) same

-- so does a sentence
pub one_sentence : (start : Sort) (xs : List Lexeme) (ms ns : List Mark) → IsSentence start xs ms → IsSentence start xs ns → ms ≡ ns
one_sentence start xs ms ns first second =
    one_tree first.derived.0 second.derived.0 (Part start ∷ []) 0 ms ns (fits_alone start) first.derived.1 second.derived.1 (first.spelled ∙ sym second.spelled)
