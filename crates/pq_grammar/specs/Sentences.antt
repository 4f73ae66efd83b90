-- The sentences of the grammar, with their trees, and the first fault of tokens that are none.
use Rattle.std.specs.Prelude.{◌≡◌, ℕ, zero, suc, ◌+◌, ◌-◌, ◌<◌, ◌≤◌, ◌⊎◌, List, [], ◌∷◌, ◌++◌, length, take}
use Rattle.pq_grammar.specs.declared.sort.Sort.{Sort}
use Rattle.pq_grammar.specs.declared.symbol.Symbol.{Symbol}
use Rattle.pq_grammar.specs.declared.symbol.Symbol.TheVariants.{Token, Opening, Leave, Close, Part}
use Rattle.pq_grammar.specs.declared.mark.Lexeme.{Lexeme}
use Rattle.pq_grammar.specs.declared.mark.Mark.{Mark}
use Rattle.pq_grammar.specs.declared.mark.Mark.TheVariants.{Token as TokenMark, Close as CloseMark}
use Rattle.pq_grammar.specs.declared.fault.SentenceFault.{SentenceFault}
use Rattle.pq_grammar.specs.declared.fault.SentenceFault.TheVariants.{Syntax, Memory}
use Rattle.pq_grammar.specs.Grammar.{alternatives}

-- the symbols are one of the alternatives
abbrev pub IsOneOf : List Symbol → List (List Symbol) → Type 0
IsOneOf a [] = ⊥
IsOneOf a (b ∷ bs) = (a ≡ b) ⊎ IsOneOf a bs

-- the symbols give the marks in this many steps, where this many brackets are open before them
abbrev pub Derives : ℕ → List Symbol → ℕ → List Mark → Type 0
Derives n [] depth ms = ms ≡ []
Derives zero (s ∷ ss) depth ms = ⊥
Derives (suc n) (Token role class ∷ ss) depth ms = (x : Lexeme) × (rest : List Mark) × (ms ≡ TokenMark role x depth ∷ rest)
    × (x.class ≡ class) × Derives n ss depth rest
Derives (suc n) (Opening role class ∷ ss) depth ms = (x : Lexeme) × (rest : List Mark) × (ms ≡ TokenMark role x (depth + 1) ∷ rest)
    × (x.class ≡ class) × Derives n ss (depth + 1) rest
Derives (suc n) (Leave ∷ ss) depth ms = Derives n ss (depth - 1) ms
Derives (suc n) (Close ∷ ss) depth ms = (rest : List Mark) × (ms ≡ CloseMark ∷ rest) × Derives n ss depth rest
Derives (suc n) (Part sort ∷ ss) depth ms = (a : List Symbol) × IsOneOf a (alternatives sort) × Derives n (a ++ ss) depth ms

-- the marks are a phrase of the sort, however many brackets are open in it
abbrev pub Completes : Sort → List Mark → Type 0
Completes start ms = (n : ℕ) × Derives n (Part start ∷ []) 0 ms

-- the tokens among the marks
abbrev pub tokens : List Mark → List Lexeme
tokens [] = []
tokens (TokenMark role x depth ∷ ms) = x ∷ tokens ms
tokens (CloseMark ∷ ms) = tokens ms

-- at no token more than 100 brackets are open
abbrev pub AllShallow : List Mark → Type 0
AllShallow [] = Unit {0}
AllShallow (TokenMark role x depth ∷ ms) = (depth ≤ 100) × AllShallow ms
AllShallow (CloseMark ∷ ms) = AllShallow ms

-- the marks are a sentence of the start sort with these tokens, and its tree
pub record IsSentence (start : Sort) (xs : List Lexeme) (ms : List Mark) : Type 0 where
  pub derived : Completes start ms
  pub spelled : tokens ms ≡ xs
  pub shallow : AllShallow ms

-- the tokens are the front of a phrase of the start sort; no more than 100 brackets are open at any of them, though perhaps after them
pub record IsPrefix (start : Sort) (xs : List Lexeme) : Type 0 where
  pub before : List Mark
  pub after : List Mark
  pub derived : Completes start (before ++ after)
  pub spelled : tokens before ≡ xs
  pub shallow : AllShallow before

-- the tokens are not sentence: the place is that of the first token with which no prefix of a sentence ends, or the number of tokens where all of them are one
pub record IsFirstFault (start : Sort) (xs : List Lexeme) (place : ℕ) : Type 0 where
  pub within : place ≤ length xs
  pub good : IsPrefix start (take place xs)
  pub bad : place < length xs → IsPrefix start (take (place + 1) xs) → ⊥
  pub short : place ≡ length xs → (ms : List Mark) → IsSentence start xs ms → ⊥

-- the tokens are refused for their first fault, or because memory runs out
abbrev pub IsCause : Sort → List Lexeme → SentenceFault → Type 0
IsCause start xs (Syntax place) = IsFirstFault start xs place
IsCause start xs Memory = Unit {0}
