-- Which words of half steps an expression holds (after NSDI 2016, Compiling Path Queries): plain concatenation, no padding.
use Rattle.std.specs.Prelude.{ℕ, zero, suc, Bool, true, false, not, ◌&&◌, ◌||◌, List, [], ◌∷◌, length, map}
use Rattle.std.specs.List.{list_any, list_all}
use Rattle.std.proofs.Math.ListN.{get_or}
use Rattle.pq_expr.specs.declared.side.Side.{Side}
use Rattle.pq_expr.specs.declared.side.Side.TheVariants.{In, Out}
use Rattle.pq_expr.specs.Word.{HalfStep, Word, is_side}
use Rattle.pq_expr.specs.Expr.{ExprTop, NoWord, EmptyWord, Enters, Leaves, InTurn, Either, Both, Other, Repeated, Exprs, none, put, ExprTree}

-- which words are held
abbrev pub Language : Type 0
Language = Word → Bool

-- the word is empty
abbrev pub is_empty : Language
is_empty [] = true
is_empty (l ∷ w) = false

-- the half step is at this side, and this predicate holds of its packet; a predicate without a value doesn't
abbrev pub meets : Side → ℕ → HalfStep → Bool
meets s p l = is_side s l.side && get_or l.truth p false

-- the word is one half step that meets the predicate
abbrev pub is_step : Side → ℕ → Language
is_step s p [] = false
is_step s p (l ∷ w) = meets s p l && is_empty w

-- two words
pub record Cut : Type 0 where
  pub before : Word
  pub behind : Word

-- all ways to cut a word in two
abbrev pub cuts : Word → List Cut
cuts [] = record { before = []; behind = [] } ∷ []
cuts (l ∷ w) = record { before = []; behind = l ∷ w } ∷ map (λ c. record { before = l ∷ c.before; behind = c.behind }) (cuts w)

-- some cut of the word gives a word of the first language and a word of the second one
abbrev pub joined : Language → Language → Language
joined P Q w = list_any (λ c. P c.before && Q c.behind) (cuts w)

-- the word is cut into words of the languages, in order
abbrev pub in_turn : List Language → Language
in_turn [] = is_empty
in_turn (P ∷ Ps) = joined P (in_turn Ps)

-- the word is cut into at most this many words of the language
abbrev pub in_pieces : Language → ℕ → Language
in_pieces P zero w = is_empty w
in_pieces P (suc n) w = is_empty w || joined P (in_pieces P n) w

-- the word is cut into words of the language; a word needs no more pieces than it has half steps
abbrev pub repeated : Language → Language
repeated P w = in_pieces P (length w) w

-- the first of the languages
abbrev pub first : List Language → Language
first [] w = false
first (P ∷ Ps) w = P w

-- the words of an expression with this top, from the words of its operands
abbrev pub top_language : ExprTop → List Language → Language
top_language NoWord Ps w = false
top_language EmptyWord Ps w = is_empty w
top_language (Enters p) Ps w = is_step In p w
top_language (Leaves p) Ps w = is_step Out p w
top_language InTurn Ps w = in_turn Ps w
top_language Either Ps w = list_any (λ P. P w) Ps
top_language Both Ps w = list_all (λ P. P w) Ps
top_language Other Ps w = not (first Ps w)
top_language Repeated Ps w = repeated (first Ps) w

-- the words of each of the expressions
abbrev pub languages : Exprs → List Language
languages none = []
languages (put top below rest) = top_language top (languages below) ∷ languages rest

-- whether the expression holds the word
abbrev pub holds : ExprTree → Language
holds e = top_language e.top (languages e.below)
