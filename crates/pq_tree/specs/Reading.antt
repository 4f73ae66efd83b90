-- The trees of a text, and why a text has none.
use Rattle.std.specs.Prelude.{◌≡◌, ℕ, List, [], ◌∷◌, length, map, drop}
use Rattle.pq_term.specs.declared.token.Token.{Token}
use Rattle.pq_term.specs.declared.division.TermFault.{TermFault}
use Rattle.pq_term.specs.declared.division.TermFault.TheVariants.{Lex, Syntax, Memory}
use Rattle.pq_term.specs.Division.{IsDivision, MeetsNoToken}
use Rattle.pq_grammar.specs.declared.sort.Sort.{Sort}
use Rattle.pq_grammar.specs.declared.mark.Lexeme.{Lexeme}
use Rattle.pq_grammar.specs.declared.mark.Mark.{Mark}
use Rattle.pq_grammar.specs.Classes.{lexeme_of}
use Rattle.pq_grammar.specs.Sentences.{IsSentence, IsFirstFault}
use Rattle.pq_tree.specs.Trees.{Forest, Tree, forest}
use Rattle.pq_tree.specs.Shapes.{Makes}

-- tokens of the text, each with its class
abbrev pub lexemes : List ℕ → List Token → List Lexeme
lexemes bytes tokens = map (lexeme_of bytes) tokens

-- the text is a sentence of the start sort, and these are the trees that its marks make
pub record IsForestOf (start : Sort) (bytes : List ℕ) (f : Forest) : Type 0 where
  pub tokens : List Token
  pub marks : List Mark
  pub divided : IsDivision bytes tokens
  pub sentence : IsSentence start (lexemes bytes tokens) marks
  pub trees : List Tree
  pub made : Makes marks trees
  pub same : f ≡ forest trees

-- the first byte of the first token, or the end of the text where there is none
abbrev pub first_byte : ℕ → List Token → ℕ
first_byte end [] = end
first_byte end (t ∷ ts) = t.at

-- the text's tokens are not sentence of the start sort: the first one with which no prefix of a sentence ends begins at this byte, or all of them are a prefix of a sentence and the text ends there
pub record IsSyntaxFault (start : Sort) (bytes : List ℕ) (at : ℕ) : Type 0 where
  pub tokens : List Token
  pub divided : IsDivision bytes tokens
  pub place : ℕ
  pub fault : IsFirstFault start (lexemes bytes tokens) place
  pub begins : at ≡ first_byte (length bytes) (drop place tokens)

-- the text is refused for what is not a token, for tokens that are not sentence, or because memory runs out
abbrev pub IsTextFault : Sort → List ℕ → TermFault → Type 0
IsTextFault start bytes (Lex at) = MeetsNoToken bytes at
IsTextFault start bytes (Syntax at) = IsSyntaxFault start bytes at
IsTextFault start bytes Memory = Unit {0}
