-- Each list of symbols derives something.
use Rattle.std.proofs.Common.{◌≡◌, ℕ, zero, suc, ◌+◌, ◌-◌, ◌<◌, true, List, [], ◌∷◌, ◌++◌, refl, ltb-true, arith}
use Rattle.std.specs.List.{list_all}
use Rattle.std.proofs.lemmas.Bool.{and_parts}
use Rattle.pq_term.specs.declared.token.Kind.TheVariants.{Word}
use Rattle.pq_grammar.specs.declared.class.Class.{Class}
use Rattle.pq_grammar.specs.declared.sort.Sort.{Sort}
use Rattle.pq_grammar.specs.declared.symbol.Symbol.{Symbol}
use Rattle.pq_grammar.specs.declared.symbol.Symbol.TheVariants.{Token, Opening, Leave, Close, Part}
use Rattle.pq_grammar.specs.declared.mark.Lexeme.{Lexeme}
use Rattle.pq_grammar.specs.declared.mark.Mark.{Mark}
use Rattle.pq_grammar.specs.declared.mark.Mark.TheVariants.{Token as TokenMark, Close as CloseMark}
use Rattle.pq_grammar.specs.Sentences.{Derives}
use Rattle.pq_grammar.specs.Tables.{weight}
use Rattle.pq_grammar.proofs.Right.{is_below}
use Rattle.pq_grammar.proofs.Choices.{light}

-- the symbols derive something, however many brackets are open
abbrev pub Lives : List Symbol → Type 0
Lives ss = (depth : ℕ) → (n : ℕ) × (ms : List Mark) × Derives n ss depth ms

-- a token of a class
abbrev pub some_lexeme : Class → Lexeme
some_lexeme class = record { class = class; token = record { kind = Word; at = 0; len = 0 } }

-- one more symbol
lives_symbol : (bound : ℕ) (s : Symbol) (ss : List Symbol) → is_below bound s ≡ true
    → ((sort : Sort) → weight sort < bound → Lives ss → Lives (Part sort ∷ ss)) → Lives ss → Lives (s ∷ ss)
lives_symbol bound (Token role class) ss below parts lives = λ depth. let rest = lives depth in
    (suc rest.0, TokenMark role (some_lexeme class) depth ∷ rest.1, (some_lexeme class, rest.1, refl, refl, rest.2))
lives_symbol bound (Opening role class) ss below parts lives = λ depth. let rest = lives (depth + 1) in
    (suc rest.0, TokenMark role (some_lexeme class) (depth + 1) ∷ rest.1, (some_lexeme class, rest.1, refl, refl, rest.2))
lives_symbol bound Leave ss below parts lives = λ depth. let rest = lives (depth - 1) in (suc rest.0, rest.1, rest.2)
lives_symbol bound Close ss below parts lives = λ depth. let rest = lives depth in (suc rest.0, CloseMark ∷ rest.1, (rest.1, refl, rest.2))
lives_symbol bound (Part sort) ss below parts lives = parts sort (ltb-true (weight sort) bound below) lives

-- an alternative of light parts
lives_before : (bound : ℕ) (a ss : List Symbol) → list_all (is_below bound) a ≡ true
    → ((sort : Sort) → weight sort < bound → (rest : List Symbol) → Lives rest → Lives (Part sort ∷ rest)) → Lives ss → Lives (a ++ ss)
lives_before bound [] ss below parts lives = lives
lives_before bound (s ∷ a) ss below parts lives =
    let both = and_parts (is_below bound s) (list_all (is_below bound) a) below in
    lives_symbol bound s (a ++ ss) both.0 (λ sort lighter more. parts sort lighter (a ++ ss) more) (lives_before bound a ss both.1 parts lives)

-- a phrase of a light sort
lives_part : (bound : ℕ) (sort : Sort) → weight sort < bound → (rest : List Symbol) → Lives rest → Lives (Part sort ∷ rest)
lives_part zero sort below rest lives = absurd (omega arith)
lives_part (suc bound) sort below rest lives = λ depth.
    let a = light sort in
    let more = lives_before (weight sort) a.0 rest a.2 (λ part lighter. lives_part bound part (omega arith)) lives depth in
    (suc more.0, more.1, (a.0, a.1, more.2))

-- each list of symbols
pub lives : (ss : List Symbol) → Lives ss
lives [] = λ depth. (0, [], refl)
lives (Part sort ∷ ss) = lives_part (weight sort + 1) sort (omega arith) ss (lives ss)
lives (s ∷ ss) = lives_symbol 0 s ss refl (λ sort below more. absurd (omega arith)) (lives ss)
