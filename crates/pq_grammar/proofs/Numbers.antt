-- The numbers of classes.
use Rattle.std.proofs.Common.{◌≡◌, ◌==◌, Bool, true, false, List, [], ◌∷◌, get_or, refl, sym, ◌∙◌, ap, eq-eqb}
use Rattle.std.proofs.lemmas.Bool.{ne_eqb}
use Rattle.std.specs.Prelude.{MatchBool}
use Rattle.pq_grammar.specs.declared.class.Class.{Class}
use Rattle.pq_grammar.specs.declared.class.Class.TheVariants.{SwitchWord, PortsWord, LimitWord, LinkWord, PartWord, QueryWord, RemoveWord}
use Rattle.pq_grammar.specs.declared.class.Class.TheVariants.{TrueWord, FalseWord, NotWord, AndWord, OrWord, FilterWord, ModWord, FwdWord}
use Rattle.pq_grammar.specs.declared.class.Class.TheVariants.{FloodWord, DropWord, IdentityWord, IfWord, OfWord, InAtom, OutAtom, InOutAtom}
use Rattle.pq_grammar.specs.declared.class.Class.TheVariants.{InGroup, OutGroup, InOutGroup, EndAtom, Name, Number, Mac, Ipv4, Ipv4Prefix}
use Rattle.pq_grammar.specs.declared.class.Class.TheVariants.{Ipv6, Equals, Semicolon, Comma, Left, Right, LeftBracket, RightBracket, Plus}
use Rattle.pq_grammar.specs.declared.class.Class.TheVariants.{Then, Caret, Bar, Ampersand, Tilde, Star}
use Rattle.pq_grammar.specs.Tables.{number}

-- the classes, by their numbers
abbrev classes : List Class
classes = SwitchWord ∷ PortsWord ∷ LimitWord ∷ LinkWord ∷ PartWord ∷ QueryWord ∷ RemoveWord ∷ TrueWord ∷ FalseWord ∷ NotWord ∷ AndWord ∷
    OrWord ∷ FilterWord ∷ ModWord ∷ FwdWord ∷ FloodWord ∷ DropWord ∷ IdentityWord ∷ IfWord ∷ OfWord ∷ InAtom ∷ OutAtom ∷ InOutAtom ∷ InGroup
    ∷ OutGroup ∷ InOutGroup ∷ EndAtom ∷ Name ∷ Number ∷ Mac ∷ Ipv4 ∷ Ipv4Prefix ∷ Ipv6 ∷ Equals ∷ Semicolon ∷ Comma ∷ Left ∷ Right ∷
    LeftBracket ∷ RightBracket ∷ Plus ∷ Then ∷ Caret ∷ Bar ∷ Ampersand ∷ Tilde ∷ Star ∷ []

-- a class is the one at its number
class_at : (c : Class) → get_or classes (number c) Name ≡ c
class_at SwitchWord = refl
class_at _ = refl

-- classes of one number are one
pub numbers_tell : (a b : Class) → number a ≡ number b → a ≡ b
numbers_tell a b same = sym (class_at a) ∙ ap (λ n. get_or classes n Name) same ∙ class_at b

-- one class, one number; and otherwise two
pub class_numbers : (a b : Class) (v : Bool) → MatchBool v (a ≡ b) (a ≡ b → ⊥) → v ≡ (number a == number b)
class_numbers a b true same = sym (eq-eqb (number a) (number b) (ap number same))
class_numbers a b false other = sym (ne_eqb (number a) (number b) (λ same. other (numbers_tell a b same)))

-- no class has the number of the end
pub no_class : (c : Class) → false ≡ (number c == 47)
no_class SwitchWord = refl
no_class _ = refl
