-- A text as its tokens.
use Rattle.std.specs.Prelude.{◌≡◌, ℕ, ◌+◌, ◌≤◌, List, [], ◌∷◌}
use Rattle.pq_term.specs.declared.token.Token.{Token}
use Rattle.pq_term.specs.declared.token.Next.{Next}
use Rattle.pq_term.specs.declared.token.Next.TheVariants.{Token as Found, End, NoToken}
use Rattle.pq_term.specs.declared.division.TermFault.{TermFault}
use Rattle.pq_term.specs.declared.division.TermFault.TheVariants.{Lex, Syntax, Memory}
use Rattle.pq_term.specs.Tokens.{next_of}

-- from the place on, these tokens are one after another, and this comes next
abbrev pub IsDividedUpTo : List ℕ → ℕ → List Token → Next → Type 0
IsDividedUpTo bytes at [] next = next_of bytes at ≡ next
IsDividedUpTo bytes at (t ∷ ts) next = (next_of bytes at ≡ Found t) × IsDividedUpTo bytes (t.at + t.len) ts next

-- the whole text is these tokens
abbrev pub IsDivision : List ℕ → List Token → Type 0
IsDivision bytes tokens = IsDividedUpTo bytes 0 tokens End

-- the division into tokens meets something that is not a token, whose first byte is at the place
abbrev pub MeetsNoToken : List ℕ → ℕ → Type 0
MeetsNoToken bytes place = (tokens : List Token) × IsDividedUpTo bytes 0 tokens (NoToken place)

-- the token has a byte, and lies within a text of this length
abbrev pub LiesWithin : ℕ → Token → Type 0
LiesWithin end t = (1 ≤ t.len) × (t.at + t.len ≤ end)

-- nothing more can be divided off
abbrev pub IsLast : Next → Type 0
IsLast (Found t) = ⊥
IsLast End = Unit {0}
IsLast (NoToken place) = Unit {0}

-- a text is refused for what is not a token, or because memory runs out
abbrev pub IsTokenFault : List ℕ → TermFault → Type 0
IsTokenFault bytes (Lex at) = MeetsNoToken bytes at
IsTokenFault bytes (Syntax at) = ⊥
IsTokenFault bytes Memory = Unit {0}
