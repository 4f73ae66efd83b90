-- The names of parts and of queries.
use Rattle.std.specs.Prelude.{ℕ, List, [], ◌∷◌, ◌++◌, map, if◌then◌else◌, length, nat_le, bytes_eq, Option, Some, None, Ok}
use Rattle.std.specs.List.{list_any}
use Rattle.pq_term.specs.declared.token.Token.{Token}
use Rattle.pq_grammar.specs.declared.class.Class.{Class}
use Rattle.pq_tree.specs.Trees.{Forest, nothing, grown, Tree}
use Rattle.pq_tree.specs.Texts.{text_in}
use Rattle.pq_topo.specs.declared.fault.NameKind.TheVariants.{Many, Doubled, BadValue}
use Rattle.pq_topo.specs.Naming.{Reading, faulty, unless, next}
use Rattle.pq_topo.specs.Statements.{begins_with}
use Rattle.pq_pred.specs.Values.{name_in}

-- the keyword of a statement after this many others of its sort
abbrev pub keyword_at : ℕ → ℕ → Token → Reading Token
keyword_at most count t = unless t ((nat_le most count, Many) ∷ []) t

-- a name that is among no earlier ones; what is not a name is in no sentence
abbrev pub new_name : Token → List (List ℕ) → Option (List ℕ) → Reading (List ℕ)
new_name t names None = faulty t BadValue
new_name t names (Some name) = unless t ((list_any (λ n. bytes_eq name n) names, Doubled) ∷ []) name

abbrev pub name_at : List ℕ → List (List ℕ) → Token → Reading (List ℕ)
name_at bytes names t = new_name t names (name_in (text_in bytes t))

-- what is read of the body of a statement, with its name
abbrev pub Named : Type 0 → Type 0
Named A = List ℕ × A

-- a statement of a sort after others, which have these names, where there may be this many: its keyword, its name, its body
abbrev pub named_from : {A : Type 0} → List ℕ → ℕ → (Tree → Reading A) → List (List ℕ) → Token → Token → Tree → Reading (Named A)
named_from bytes most read names keyword name body =
    next (keyword_at most (length names) keyword) (λ _.
    next (name_at bytes names name) (λ name.
    next (read body) (λ value. Ok (name, value))))

-- the statement with these parts; statements with fewer are in no sentence
abbrev pub named_of : {A : Type 0} → List ℕ → ℕ → (Tree → Reading A) → List (List ℕ) → Token → Forest → Reading (Named A)
named_of bytes most read names keyword nothing = faulty keyword BadValue
named_of bytes most read names keyword (grown name x nothing) = faulty keyword BadValue
named_of bytes most read names keyword (grown name x (grown head below rest)) =
    named_from bytes most read names keyword name (record { head = head; below = below })

-- the statements that begin with the keyword, in text order, after earlier ones
abbrev pub named_after : {A : Type 0} → List ℕ → Class → ℕ → (Tree → Reading A) → List (Named A) → Forest → Reading (List (Named A))
named_after bytes class most read earlier nothing = Ok earlier
named_after bytes class most read earlier (grown head below rest) =
    if begins_with bytes class head then next (named_of bytes most read (map (λ s. s.0) earlier) head below)
    (λ s. named_after bytes class most read (earlier ++ s ∷ []) rest)
    else named_after bytes class most read earlier rest
