-- The naming rules: each belongs to a token of a sentence. The first faulty token in text order is what a text is refused for; where a token breaks several rules, the first of them.
use Rattle.std.specs.Prelude.{◌≡◌, ℕ, Bool, if◌then◌else◌, List, [], ◌∷◌, Result, Ok, Err}
use Rattle.pq_term.specs.declared.token.Token.{Token}
use Rattle.pq_topo.specs.declared.fault.NameKind.{NameKind}
use Rattle.pq_topo.specs.declared.fault.NameFault.{NameFault}
use Rattle.pq_topo.specs.declared.fault.NameFault.TheVariants.{Name, Memory}

-- a faulty token: its first byte, and the rule that it breaks
pub record Fault : Type 0 where
  pub at : ℕ
  pub kind : NameKind

-- what is read of a tree: a value, or the first fault
abbrev pub Reading : Type 0 → Type 0
Reading A = Result A Fault

-- the token breaks this rule
abbrev pub faulty : {A : Type 0} → Token → NameKind → Reading A
faulty t kind = Err (record { at = t.at; kind = kind })

-- the value, unless the token breaks a rule; each rule comes with whether it is broken
abbrev pub unless : {A : Type 0} → Token → List (Bool × NameKind) → A → Reading A
unless t [] value = Ok value
unless t (rule ∷ rules) value = if rule.0 then faulty t rule.1 else unless t rules value

-- the value, or the rule that the token breaks
abbrev pub named : {A : Type 0} → Token → Result A NameKind → Reading A
named t (Ok value) = Ok value
named t (Err kind) = faulty t kind

-- one reading after another: the second may depend on what the first gave
abbrev pub next : {A B : Type 0} → Reading A → (A → Reading B) → Reading B
next (Ok value) f = f value
next (Err fault) f = Err fault

-- all that is read, or the first fault
abbrev pub gathered : {A : Type 0} → List (Reading A) → Reading (List A)
gathered [] = Ok []
gathered (r ∷ rs) = next r (λ value. next (gathered rs) (λ values. Ok (value ∷ values)))

-- the answer of a call is what is read: the value, or the first fault; running out of memory is free
abbrev pub IsAnswer : {A B : Type 0} → (A → B) → Result A NameFault → Reading B → Type 0
IsAnswer view (Ok value) reading = Ok (view value) ≡ reading
IsAnswer view (Err (Name at kind)) reading = Err (record { at = at; kind = kind }) ≡ reading
IsAnswer view (Err Memory) reading = Unit {0}
