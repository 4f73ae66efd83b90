-- A place in the reading of a sentence.
use Rattle.std.specs.Prelude.{◌≡◌, ℕ, ◌+◌, ◌<◌, ◌≤◌, Bool, true, List, [], ◌∷◌, ◌++◌, ◌==◌, length, take, drop, reverse, Option, Some, None}
use Rattle.pq_grammar.specs.declared.sort.Sort.{Sort}
use Rattle.pq_grammar.specs.declared.symbol.Symbol.{Symbol}
use Rattle.pq_grammar.specs.declared.symbol.Symbol.TheVariants.{Token, Opening, Leave, Close, Part}
use Rattle.pq_grammar.specs.declared.mark.Lexeme.{Lexeme}
use Rattle.pq_grammar.specs.declared.mark.Mark.{Mark}
use Rattle.pq_grammar.specs.declared.parser.Parser.{Parser}
use Rattle.pq_grammar.specs.declared.parser.Expected.{Expected}
use Rattle.pq_grammar.specs.Sentences.{Derives, Completes, tokens, AllShallow}
use Rattle.pq_grammar.specs.Ahead.{look, may_begin, follows, pending}

-- the symbols may be before what comes next, and before nothing else
abbrev pub can : List Symbol → ℕ → Bool
can ss k = may_begin (k == 47) ss k

-- what follows each phrase among the symbols may follow it
abbrev pub Fits : List Symbol → Type 0
Fits [] = Unit {0}
Fits (Token role class ∷ ss) = Fits ss
Fits (Opening role class ∷ ss) = Fits ss
Fits (Leave ∷ ss) = Fits ss
Fits (Close ∷ ss) = Fits ss
Fits (Part sort ∷ ss) = ((k : ℕ) → k < 48 → can ss k ≡ true → follows sort k ≡ true) × Fits ss

-- the marks go on after those so far with what the symbols derive, whose tokens are these
pub record Continues (out : List Mark) (ss : List Symbol) (depth : ℕ) (xs : List Lexeme) (ms : List Mark) : Type 0 where
  pub steps : ℕ
  pub more : List Mark
  pub whole : ms ≡ out ++ more
  pub spelled : tokens more ≡ xs
  pub derived : Derives steps ss depth more

-- these marks were read, and what the symbols derive completes them to sentences, and to all those whose next token is of the class of the next one here
pub record IsState (start : Sort) (xs : List Lexeme) (out : List Mark) (ss : List Symbol) (depth : ℕ) : Type 0 where
  pub shallow : AllShallow out
  pub bounded : depth ≤ 100
  pub fits : Fits ss
  pub forward : (n : ℕ) (ms : List Mark) → Derives n ss depth ms → Completes start (out ++ ms)
  pub backward : (ms : List Mark) → Completes start ms → (rest : List Lexeme) → tokens ms ≡ tokens out ++ rest → look rest ≡ look xs
      → Continues out ss depth rest ms

-- the reading has come to the place: this many tokens were read
pub record IsPlace (start : Sort) (xs : List Lexeme) (place : ℕ) (out : List Mark) (ss : List Symbol) (depth : ℕ) : Type 0 where
  pub within : place ≤ length xs
  pub spelled : tokens out ≡ take place xs
  pub state : IsState start (drop place xs) out ss depth

-- the parser is at a place, with these symbols still to come
abbrev pub IsAt : List Lexeme → Parser → List Symbol → Type 0
IsAt xs p ss = IsPlace p.start xs p.at p.marks.items ss p.depth

-- the symbol is read as the token that is expected, where this many brackets are open before it
abbrev pub Expects : Symbol → ℕ → Expected → Type 0
Expects (Token role class) depth e = e ≡ record { role = role; class = class; depth = depth }
Expects (Opening role class) depth e = e ≡ record { role = role; class = class; depth = depth + 1 }
Expects _ depth e = ⊥

-- the token that is expected is the next symbol
abbrev pub IsComing : List Lexeme → Parser → Expected → Type 0
IsComing xs p e = (s : Symbol) × IsAt xs p (s ∷ reverse p.stack.items) × Expects s p.depth e

-- the parser went on, without reading a token: either one is expected, or no symbol is left
abbrev pub IsExpected : List Lexeme → Parser → Parser → Option Expected → Type 0
IsExpected xs old new None = IsAt xs new [] × (new.at ≡ old.at) × (new.start ≡ old.start)
IsExpected xs old new (Some e) = IsComing xs new e × (new.at ≡ old.at) × (new.start ≡ old.start)

-- the symbol was worked off, or is read as the token that is expected
abbrev pub HasPassed : List Lexeme → Symbol → Parser → Parser → Option Expected → Type 0
HasPassed xs s old new None = IsAt xs new (reverse new.stack.items)
    × (pending (reverse new.stack.items) < pending (s ∷ reverse old.stack.items)) × (new.at ≡ old.at) × (new.start ≡ old.start)
HasPassed xs s old new (Some e) = (new ≡ old) × Expects s old.depth e
