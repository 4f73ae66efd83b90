-- What the class of the next token tells of a phrase.
use Rattle.std.specs.Prelude.{ℕ, ◌+◌, Bool, ◌&&◌, ◌||◌, List, [], ◌∷◌, ◌==◌, Option, Some, None}
use Rattle.std.specs.List.{list_any, find}
use Rattle.pq_grammar.specs.declared.class.Class.{Class}
use Rattle.pq_grammar.specs.declared.sort.Sort.{Sort}
use Rattle.pq_grammar.specs.declared.symbol.Symbol.{Symbol}
use Rattle.pq_grammar.specs.declared.symbol.Symbol.TheVariants.{Token, Opening, Leave, Close, Part}
use Rattle.pq_grammar.specs.declared.mark.Lexeme.{Lexeme}
use Rattle.pq_grammar.specs.Grammar.{alternatives}
use Rattle.pq_grammar.specs.Tables.{number, may_be_empty, first, follow, weight}

-- the number of the class that comes next, or 47 where nothing does
abbrev pub ahead : Option Class → ℕ
ahead None = 47
ahead (Some c) = number c

-- the class of the first token
abbrev pub next_class : List Lexeme → Option Class
next_class [] = None
next_class (x ∷ xs) = Some x.class

-- what comes next, as a number
abbrev pub look : List Lexeme → ℕ
look xs = ahead (next_class xs)

-- the number is that of one of the classes
abbrev pub has : List Class → ℕ → Bool
has classes k = list_any (λ c. number c == k) classes

-- what comes next may follow a phrase of the sort; the end always may
abbrev pub follows : Sort → ℕ → Bool
follows sort k = k == 47 || has (follow sort) k

-- the symbols may be before what comes next; `otherwise` tells whether that may follow them
abbrev pub may_begin : Bool → List Symbol → ℕ → Bool
may_begin otherwise [] k = otherwise
may_begin otherwise (Token role class ∷ ss) k = number class == k
may_begin otherwise (Opening role class ∷ ss) k = number class == k
may_begin otherwise (Leave ∷ ss) k = may_begin otherwise ss k
may_begin otherwise (Close ∷ ss) k = may_begin otherwise ss k
may_begin otherwise (Part sort ∷ ss) k = has (first sort) k || (may_be_empty sort && may_begin otherwise ss k)

-- the alternative may be taken where this comes next
abbrev pub is_open : Sort → ℕ → List Symbol → Bool
is_open sort k a = may_begin (follows sort k) a k

-- the alternative to take
abbrev pub chosen : Sort → ℕ → Option (List Symbol)
chosen sort k = find (is_open sort k) (alternatives sort)

-- the sum of weights of what is before the first token
abbrev pub pending : List Symbol → ℕ
pending [] = 0
pending (Token role class ∷ ss) = 0
pending (Opening role class ∷ ss) = 0
pending (Leave ∷ ss) = 1 + pending ss
pending (Close ∷ ss) = 1 + pending ss
pending (Part sort ∷ ss) = weight sort + pending ss
