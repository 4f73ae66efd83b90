-- The classes of a text's tokens.
use Rattle.std.specs.Prelude.{ℕ, List, [], ◌∷◌, if◌then◌else◌, codes, bytes_eq}
use Rattle.pq_term.specs.declared.token.Kind.{Kind}
use Rattle.pq_term.specs.declared.token.Kind.TheVariants.{Word, Number as NumberKind, Mac as MacKind, Ipv4 as Ipv4Kind}
use Rattle.pq_term.specs.declared.token.Kind.TheVariants.{Ipv4Prefix as Ipv4PrefixKind, Ipv6 as Ipv6Kind, Symbol}
use Rattle.pq_term.specs.declared.token.Token.{Token}
use Rattle.pq_term.specs.Tokens.{text_of}
use Rattle.pq_grammar.specs.declared.class.Class.{Class}
use Rattle.pq_grammar.specs.declared.class.Class.TheVariants.{SwitchWord, PortsWord, LimitWord, LinkWord, PartWord, QueryWord, RemoveWord}
use Rattle.pq_grammar.specs.declared.class.Class.TheVariants.{TrueWord, FalseWord, NotWord, AndWord, OrWord, FilterWord, ModWord, FwdWord}
use Rattle.pq_grammar.specs.declared.class.Class.TheVariants.{FloodWord, DropWord, IdentityWord, IfWord, OfWord, InAtom, OutAtom, InOutAtom}
use Rattle.pq_grammar.specs.declared.class.Class.TheVariants.{InGroup, OutGroup, InOutGroup, EndAtom, Name, Number, Mac, Ipv4, Ipv4Prefix}
use Rattle.pq_grammar.specs.declared.class.Class.TheVariants.{Ipv6, Equals, Semicolon, Comma, Left, Right, LeftBracket, RightBracket, Plus}
use Rattle.pq_grammar.specs.declared.class.Class.TheVariants.{Then, Caret, Bar, Ampersand, Tilde, Star}
use Rattle.pq_grammar.specs.declared.mark.Lexeme.{Lexeme}

-- the reserved words
abbrev pub word_classes : List (List ℕ × Class)
word_classes = (codes "switch", SwitchWord) ∷ (codes "ports", PortsWord) ∷ (codes "limit", LimitWord) ∷ (codes "link", LinkWord) ∷
    (codes "part", PartWord) ∷ (codes "query", QueryWord) ∷ (codes "remove", RemoveWord) ∷ (codes "true", TrueWord) ∷ (
      codes "false",
      FalseWord,
    ) ∷ (codes "not", NotWord) ∷ (codes "and", AndWord) ∷ (codes "or", OrWord) ∷ (codes "filter", FilterWord) ∷ (
      codes "mod",
      ModWord,
    ) ∷ (codes "fwd", FwdWord) ∷ (codes "flood", FloodWord) ∷ (codes "drop", DropWord) ∷ (codes "identity", IdentityWord) ∷
    (codes "if", IfWord) ∷ (codes "of", OfWord) ∷ (codes "in_atom", InAtom) ∷ (codes "out_atom", OutAtom) ∷ (
      codes "in_out_atom",
      InOutAtom,
    ) ∷ (codes "in_group", InGroup) ∷ (codes "out_group", OutGroup) ∷ (codes "in_out_group", InOutGroup) ∷ (
      codes "end_atom",
      EndAtom,
    ) ∷ []

-- the symbols
abbrev pub symbol_classes : List (List ℕ × Class)
symbol_classes = (codes "=", Equals) ∷ (codes ";", Semicolon) ∷ (codes ",", Comma) ∷ (codes "(", Left) ∷ (codes ")", Right) ∷
    (codes "[", LeftBracket) ∷ (codes "]", RightBracket) ∷ (codes "+", Plus) ∷ (codes ">>", Then) ∷ (codes "^", Caret) ∷ (codes "|", Bar) ∷
    (codes "&", Ampersand) ∷ (codes "~", Tilde) ∷ (codes "*", Star) ∷ []

-- the class of the text in a table, or else the other one
abbrev pub class_in : List (List ℕ × Class) → Class → List ℕ → Class
class_in [] other text = other
class_in (e ∷ es) other text = if bytes_eq e.0 text then e.1 else class_in es other text

-- the class of a token of the kind with this text; each symbol is in the table
abbrev pub class_of_text : Kind → List ℕ → Class
class_of_text Word text = class_in word_classes Name text
class_of_text NumberKind text = Number
class_of_text MacKind text = Mac
class_of_text Ipv4Kind text = Ipv4
class_of_text Ipv4PrefixKind text = Ipv4Prefix
class_of_text Ipv6Kind text = Ipv6
class_of_text Symbol text = class_in symbol_classes Star text

-- the class of a token of the text
abbrev pub class_of : List ℕ → Token → Class
class_of bytes t = class_of_text t.kind (text_of bytes t)

-- a token of the text with its class
abbrev pub lexeme_of : List ℕ → Token → Lexeme
lexeme_of bytes t = record { class = class_of bytes t; token = t }

-- the kind of the tokens of a class
abbrev pub kind_of : Class → Kind
kind_of Number = NumberKind
kind_of Mac = MacKind
kind_of Ipv4 = Ipv4Kind
kind_of Ipv4Prefix = Ipv4PrefixKind
kind_of Ipv6 = Ipv6Kind
kind_of Equals = Symbol
kind_of Semicolon = Symbol
kind_of Comma = Symbol
kind_of Left = Symbol
kind_of Right = Symbol
kind_of LeftBracket = Symbol
kind_of RightBracket = Symbol
kind_of Plus = Symbol
kind_of Then = Symbol
kind_of Caret = Symbol
kind_of Bar = Symbol
kind_of Ampersand = Symbol
kind_of Tilde = Symbol
kind_of Star = Symbol
kind_of _ = Word
