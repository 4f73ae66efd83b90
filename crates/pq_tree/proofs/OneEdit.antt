-- The marks of an edit make one tree.
use Rattle.std.proofs.Common.{◌≡◌, ℕ, zero, suc, ◌+◌, ◌-◌, ◌<◌, List, [], ◌∷◌, ◌++◌, length, get_or, refl}
use Rattle.std.proofs.Common.{sym, ◌∙◌, ap, subst, inl, inr, arith}
use Rattle.std.proofs.lemmas.List.{append_assoc}
use Rattle.pq_grammar.specs.declared.class.Class.{Class}
use Rattle.pq_grammar.specs.declared.class.Class.TheVariants.{PartWord, QueryWord, RemoveWord, Name, Equals, Semicolon}
use Rattle.pq_grammar.specs.declared.sort.Sort.TheVariants.{Edit, Removed, Policy, Paths}
use Rattle.pq_grammar.specs.declared.symbol.Role.TheVariants.{Leaf, Spelled, Head}
use Rattle.pq_grammar.specs.declared.symbol.Symbol.{Symbol}
use Rattle.pq_grammar.specs.declared.symbol.Symbol.TheVariants.{Token, Opening, Leave, Close, Part}
use Rattle.pq_grammar.specs.declared.mark.Mark.{Mark}
use Rattle.pq_grammar.specs.declared.mark.Mark.TheVariants.{Token as TokenMark, Close as CloseMark}
use Rattle.pq_grammar.specs.Sentences.{Derives, Completes}
use Rattle.pq_tree.specs.declared.term.Term.{Term}
use Rattle.pq_tree.specs.Trees.{Forest, nothing, grown, Tree, forest, tree, trees}
use Rattle.pq_tree.specs.Shapes.{Makes, none, head, tree_over}
use Rattle.pq_tree.specs.Reading.{IsForestOf}
use Rattle.pq_tree.proofs.Machine.{one_making}
use Rattle.pq_tree.proofs.Making.{AreWhole, whole_made}

-- the forest is one tree
abbrev pub IsAlone : Forest → Type 0
IsAlone nothing = ⊥
IsAlone (grown keyword below nothing) = Unit {0}
IsAlone (grown keyword below (grown other more rest)) = ⊥

-- the marks are those of the symbols before `Close`, and the end of a tree
ends : (n : ℕ) (ss : List Symbol) (depth : ℕ) (ms : List Mark) → Derives n (ss ++ Close ∷ []) depth ms
    → (inner : List Mark) × (ms ≡ inner ++ CloseMark ∷ []) × Derives n ss depth inner
ends zero [] depth ms derived = absurd derived
ends (suc n) [] depth ms (rest, is, derived) = ([], is ∙ ap (λ all. CloseMark ∷ all) derived, refl)
ends zero (s ∷ ss) depth ms derived = absurd derived
ends (suc n) (Token role class ∷ ss) depth ms (x, rest, is, has_class, derived) =
    let cut = ends n ss depth rest derived in
    (TokenMark role x depth ∷ cut.0, is ∙ ap (λ all. TokenMark role x depth ∷ all) cut.1, (x, cut.0, refl, has_class, cut.2))
ends (suc n) (Opening role class ∷ ss) depth ms (x, rest, is, has_class, derived) =
    let cut = ends n ss (depth + 1) rest derived in
    (TokenMark role x (depth + 1) ∷ cut.0, is ∙ ap (λ all. TokenMark role x (depth + 1) ∷ all) cut.1, (x, cut.0, refl, has_class, cut.2))
ends (suc n) (Leave ∷ ss) depth ms derived = ends n ss (depth - 1) ms derived
ends (suc n) (Close ∷ ss) depth ms (rest, is, derived) =
    let cut = ends n ss depth rest derived in (CloseMark ∷ cut.0, is ∙ ap (λ all. CloseMark ∷ all) cut.1, (cut.0, refl, cut.2))
ends (suc n) (Part sort ∷ ss) depth ms (a, among, derived) =
    let cut = ends n (a ++ ss) depth ms (subst (λ all. Derives n all depth ms) (sym (append_assoc a ss (Close ∷ []))) derived) in
    (cut.0, cut.1, (a, among, cut.2))

-- the marks make one tree
abbrev MakesOne : List Mark → Type 0
MakesOne ms = (t : Tree) × Makes ms (t ∷ [])

-- a head, whole symbols and `Close` give such marks
over : (n : ℕ) (class : Class) (ss : List Symbol) (ms : List Mark) → Derives n (Token Head class ∷ ss ++ Close ∷ []) 0 ms → AreWhole ss → MakesOne ms
over zero class ss ms derived whole = absurd derived
over (suc n) class ss ms (x, rest, is, has_class, derived) whole =
    let cut = ends n ss 0 rest derived in
    let below = whole_made n ss 0 cut.0 cut.2 whole in
    let made : MakesOne (TokenMark Head x 0 ∷ cut.0 ++ CloseMark ∷ []) = (tree_over x below.0, head [] cut.0 [] below.0 x 0 none below.1) in
    subst MakesOne (sym (is ∙ ap (λ all. TokenMark Head x 0 ∷ all) cut.1)) made

-- what an edit has between its head and its end
abbrev of_part : List Symbol
of_part = Token Leaf Name ∷ Token Spelled Equals ∷ Part Policy ∷ Token Spelled Semicolon ∷ []

abbrev of_query : List Symbol
of_query = Token Leaf Name ∷ Token Spelled Equals ∷ Part Paths ∷ Token Spelled Semicolon ∷ []

abbrev of_removal : List Symbol
of_removal = Part Removed ∷ Token Spelled Semicolon ∷ []

-- so it is with each alternative of an edit
one_edit : (ms : List Mark) → Completes Edit ms → MakesOne ms
one_edit ms (zero, derived) = absurd derived
one_edit ms (suc n, (a, among, derived)) = elim among [
  | inl is ↦ over n PartWord of_part ms (subst (λ b. Derives n (b ++ []) 0 ms) is derived) refl
  | inr more ↦ elim more [
    | inl is ↦ over n QueryWord of_query ms (subst (λ b. Derives n (b ++ []) 0 ms) is derived) refl
    | inr other ↦ elim other [ inl is ↦ over n RemoveWord of_removal ms (subst (λ b. Derives n (b ++ []) 0 ms) is derived) refl | inr last ↦ absurd last ]
  ]
]

-- the forest of an edit is one tree
pub is_alone : (bytes : List ℕ) (f : Forest) → IsForestOf Edit bytes f → IsAlone f
is_alone bytes f reads =
    let one = one_edit reads.marks reads.sentence.derived in
    let only : reads.trees ≡ one.0 ∷ [] = one_making reads.marks reads.trees (one.0 ∷ []) reads.made one.1 in
    subst IsAlone (sym (reads.same ∙ ap forest only)) tt

-- so there is a term
pub some_term : (terms : List Term) → IsAlone (trees terms) → 0 < length terms
some_term [] only = absurd only
some_term (t ∷ ts) only = omega arith

-- and it is the first one
pub first_term : (terms : List Term) (other : Term) → IsAlone (trees terms) → trees terms ≡ forest (tree (get_or terms 0 other) ∷ [])
first_term [] other only = absurd only
first_term (t ∷ []) other only = refl
first_term (t ∷ u ∷ ts) other only = absurd only
