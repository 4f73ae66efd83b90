-- What the class of a token tells of it.
use Rattle.std.proofs.Common.{◌≡◌, ℕ, Bool, true, false, cond, List, [], ◌∷◌, refl, sym, ◌∙◌, ap, subst, ◌||◌, ◌↔◌, rules, map}
use Rattle.std.specs.Prelude.{bytes_eq}
use Rattle.std.specs.List.{list_any}
use Rattle.std.proofs.lemmas.Bool.{cond_both, true≢false}
use Rattle.pq_term.specs.declared.token.Kind.{Kind}
use Rattle.pq_term.specs.declared.token.Kind.TheVariants.{Word, Number as NumberKind, Mac as MacKind, Ipv4 as Ipv4Kind}
use Rattle.pq_term.specs.declared.token.Kind.TheVariants.{Ipv4Prefix as Ipv4PrefixKind, Ipv6 as Ipv6Kind, Symbol}
use Rattle.pq_term.specs.Names.{is_reserved}
use Rattle.pq_grammar.specs.declared.class.Class.{Class}
use Rattle.pq_grammar.specs.declared.class.Class.TheVariants.{Name, Star}
use Rattle.pq_grammar.specs.Classes.{word_classes, symbol_classes, class_in, class_of_text, kind_of}

-- each class of a table has the property
abbrev Each : (Class → Type 0) → List (List ℕ × Class) → Type 0
Each P [] = Unit {0}
Each P (e ∷ es) = P e.1 × Each P es

-- so has the class that a text has by it
each_in : (P : Class → Type 0) (es : List (List ℕ × Class)) (other : Class) (text : List ℕ) → Each P es → P other → P (class_in es other text)
each_in P [] other text each has = has
each_in P (e ∷ es) other text each has = cond_both (bytes_eq e.0 text) e.1 (class_in es other text) P (λ same. each.0)
    (λ differs. each_in P es other text each.1 has)

-- the classes of words
words : Each (λ c. kind_of c ≡ Word) word_classes
words = search rules

-- and those of symbols
symbols : Each (λ c. kind_of c ≡ Symbol) symbol_classes
symbols = search rules

-- a token's class has its kind
pub has_kind : (kind : Kind) (text : List ℕ) → kind_of (class_of_text kind text) ≡ kind
has_kind Word text = each_in (λ c. kind_of c ≡ Word) word_classes Name text words refl
has_kind NumberKind text = refl
has_kind MacKind text = refl
has_kind Ipv4Kind text = refl
has_kind Ipv4PrefixKind text = refl
has_kind Ipv6Kind text = refl
has_kind Symbol text = each_in (λ c. kind_of c ≡ Symbol) symbol_classes Star text symbols refl

-- none of the words' classes is that of names
no_names : Each (λ c. c ≡ Name → ⊥) word_classes
no_names = search rules

-- a text is a name by a table of other classes where it isn't in the table
is_unlisted : (es : List (List ℕ × Class)) (text : List ℕ) → Each (λ c. c ≡ Name → ⊥) es
    → (class_in es Name text ≡ Name) ↔ (list_any (λ word. bytes_eq word text) (map (λ e. e.0) es) ≡ false)
is_unlisted [] text each = ((λ is. refl), (λ is. refl))
is_unlisted (e ∷ es) text each = by (bytes_eq e.0 text) (is_unlisted es text each.1)
  where
    by : (v : Bool) → (class_in es Name text ≡ Name) ↔ (list_any (λ word. bytes_eq word text) (map (λ d. d.0) es) ≡ false)
        → (cond v e.1 (class_in es Name text) ≡ Name) ↔ ((v || list_any (λ word. bytes_eq word text) (map (λ d. d.0) es)) ≡ false)
    by true rest = ((λ is. absurd (each.0 is)), (λ is. absurd (true≢false is)))
    by false rest = rest

-- a word is a name where it is not reserved
pub is_unreserved : (kind : Kind) (text : List ℕ) (class : Class) → class ≡ class_of_text kind text → kind ≡ Word → (class ≡ Name) ↔ (is_reserved text ≡ false)
is_unreserved kind text class is word =
    subst (λ c. (c ≡ Name) ↔ (is_reserved text ≡ false)) (sym (is ∙ ap (λ k. class_of_text k text) word))
    (is_unlisted word_classes text no_names)
