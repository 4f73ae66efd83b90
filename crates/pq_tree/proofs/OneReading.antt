-- A text has one forest at most, and one fault at most, and not both.
use Rattle.std.proofs.Common.{◌≡◌, ℕ, List, length, drop, refl, sym, ◌∙◌, ap, subst}
use Rattle.pq_term.specs.declared.token.Token.{Token}
use Rattle.pq_term.specs.declared.token.Next.{Next}
use Rattle.pq_term.specs.declared.token.Next.TheVariants.{Token as Found, End, NoToken}
use Rattle.pq_term.specs.declared.division.TermFault.{TermFault}
use Rattle.pq_term.specs.declared.division.TermFault.TheVariants.{Lex, Syntax, Memory}
use Rattle.pq_term.specs.Division.{IsDivision, MeetsNoToken}
use Rattle.pq_term.proofs.Ends.{one_division}
use Rattle.pq_grammar.specs.declared.sort.Sort.{Sort}
use Rattle.pq_grammar.specs.Sentences.{IsSentence, IsFirstFault}
use Rattle.pq_grammar.proofs.OneTree.{one_sentence}
use Rattle.pq_grammar.proofs.OneFault.{one_fault, no_fault}
use Rattle.pq_tree.specs.Trees.{Forest, forest}
use Rattle.pq_tree.specs.Shapes.{Makes}
use Rattle.pq_tree.specs.Reading.{lexemes, first_byte, IsForestOf, IsSyntaxFault, IsTextFault}
use Rattle.pq_tree.proofs.Machine.{one_making}

-- two divisions are one
same_tokens : (bytes : List ℕ) (xs ys : List Token) → IsDivision bytes xs → IsDivision bytes ys → xs ≡ ys
same_tokens bytes xs ys first second = (one_division bytes 0 xs ys End End tt tt first second).0

-- the end of a text
abbrev IsEnd : Next → Type 0
IsEnd (Found t) = ⊥
IsEnd End = Unit {0}
IsEnd (NoToken at) = ⊥

-- a text that is divided to its end has nothing that is not a token
no_other : (bytes : List ℕ) (xs : List Token) (at : ℕ) → IsDivision bytes xs → MeetsNoToken bytes at → ⊥
no_other bytes xs at whole meets = subst IsEnd ((one_division bytes 0 xs meets.0 End (NoToken at) tt tt whole meets.1).1) tt

-- where something is that is not a token
abbrev place_in : Next → ℕ
place_in (Found t) = 0
place_in End = 0
place_in (NoToken at) = at

-- the first of them is one
one_place : (bytes : List ℕ) (i j : ℕ) → MeetsNoToken bytes i → MeetsNoToken bytes j → i ≡ j
one_place bytes i j first second = ap place_in ((one_division bytes 0 first.0 second.0 (NoToken i) (NoToken j) tt tt first.1 second.1).1)

-- a text has one forest
pub one_forest : (start : Sort) (bytes : List ℕ) (f g : Forest) → IsForestOf start bytes f → IsForestOf start bytes g → f ≡ g
one_forest start bytes f g first second =
    let same : first.tokens ≡ second.tokens = same_tokens bytes first.tokens second.tokens first.divided second.divided in
    let marks : first.marks ≡ second.marks = one_sentence start (lexemes bytes second.tokens) first.marks second.marks
    (subst (λ ts. IsSentence start (lexemes bytes ts) first.marks) same first.sentence) second.sentence in
    let trees : first.trees ≡ second.trees = one_making second.marks first.trees second.trees
    (subst (λ ms. Makes ms first.trees) marks first.made) second.made in
    first.same ∙ ap forest trees ∙ sym second.same

-- its tokens have one fault
one_byte : (start : Sort) (bytes : List ℕ) (i j : ℕ) → IsSyntaxFault start bytes i → IsSyntaxFault start bytes j → i ≡ j
one_byte start bytes i j first second =
    let same : first.tokens ≡ second.tokens = same_tokens bytes first.tokens second.tokens first.divided second.divided in
    let place : first.place ≡ second.place = one_fault start (lexemes bytes second.tokens) first.place second.place
    (subst (λ ts. IsFirstFault start (lexemes bytes ts) first.place) same first.fault) second.fault in
    first.begins ∙ ap (λ ts. first_byte (length bytes) (drop first.place ts)) same
    ∙ ap (λ k. first_byte (length bytes) (drop k second.tokens)) place ∙ sym second.begins

-- the text has one fault, running out of memory aside
pub one_text_fault : (start : Sort) (bytes : List ℕ) (d e : TermFault) → IsTextFault start bytes d → IsTextFault start bytes e
    → (d ≡ Memory → ⊥) → (e ≡ Memory → ⊥) → d ≡ e
one_text_fault start bytes (Lex i) (Lex j) first second some other = ap Lex (one_place bytes i j first second)
one_text_fault start bytes (Lex i) (Syntax j) first second some other = absurd (no_other bytes second.tokens i second.divided first)
one_text_fault start bytes (Syntax i) (Lex j) first second some other = absurd (no_other bytes first.tokens j first.divided second)
one_text_fault start bytes (Syntax i) (Syntax j) first second some other = ap Syntax (one_byte start bytes i j first second)
one_text_fault start bytes Memory e first second some other = absurd (some refl)
one_text_fault start bytes (Lex i) Memory first second some other = absurd (other refl)
one_text_fault start bytes (Syntax i) Memory first second some other = absurd (other refl)

-- where the text has a forest, it has none
pub no_text_fault : (start : Sort) (bytes : List ℕ) (f : Forest) (e : TermFault) → IsForestOf start bytes f → IsTextFault start bytes e → e ≡ Memory
no_text_fault start bytes f (Lex i) whole fault = absurd (no_other bytes whole.tokens i whole.divided fault)
no_text_fault start bytes f (Syntax i) whole fault =
    let same : whole.tokens ≡ fault.tokens = same_tokens bytes whole.tokens fault.tokens whole.divided fault.divided in
    absurd (no_fault start (lexemes bytes fault.tokens) fault.place whole.marks fault.fault
    (subst (λ ts. IsSentence start (lexemes bytes ts) whole.marks) same whole.sentence))
no_text_fault start bytes f Memory whole fault = refl
