-- A token's bytes have the form of its kind.
use Rattle.std.proofs.Common.{◌≡◌, ℕ, ◌==◌, ◌-◌, true, false, List, [], ◌∷◌, length, take, drop, subst, sym, refl, ap, Some, None, Option}
use Rattle.std.specs.Prelude.{codes, bytes_eq, IfSome, is_some}
use Rattle.std.specs.List.{prefix_len}
use Rattle.std.proofs.lemmas.List.{take_rest}
use Rattle.std.proofs.lemmas.Bool.{false≢true, cond_both, and_parts}
use Rattle.std.proofs.lemmas.List.Folds.{length-prefix_len}
use Rattle.pq_term.specs.declared.token.Kind.{Kind}
use Rattle.pq_term.specs.declared.token.Kind.TheVariants.{Symbol}
use Rattle.pq_term.specs.declared.token.Next.{Next}
use Rattle.pq_term.specs.declared.token.Next.TheVariants.{Token as Found, End, NoToken}
use Rattle.pq_term.specs.Bytes.{is_run_byte, is_symbol}
use Rattle.pq_term.specs.Numbers.{number_of}
use Rattle.pq_term.specs.Forms.{is_word, is_mac, is_ipv4, is_ipv4_prefix, is_ipv6, form_of, is_symbol_text, HasForm}
use Rattle.pq_term.specs.Tokens.{token_or_none, first_token, IsFormed}

-- the kind of a run has the run's form
form_of_run : (run : List ℕ) → IfSome (form_of run) (λ kind. HasForm kind run)
form_of_run run =
    let P = λ (found : Option Kind). IfSome found (λ kind. HasForm kind run) in
    cond_both (is_word run) _ _ P (λ word. word) (λ a.
    cond_both (is_some (number_of run)) _ _ P (λ number. number) (λ b.
    cond_both (is_mac run) _ _ P (λ mac. mac) (λ c.
    cond_both (is_ipv4 run) _ _ P (λ address. address) (λ d.
    cond_both (is_ipv4_prefix run) _ _ P (λ prefix. prefix) (λ e.
    cond_both (is_ipv6 run) _ _ P (λ address. address) (λ f. tt))))))

-- a token of the rest is at the place, and the rest begins with its text
abbrev Begins : List ℕ → ℕ → Next → Type 0
Begins rest place (Found t) = (t.at ≡ place) × HasForm t.kind (take t.len rest)
Begins rest place End = Unit {0}
Begins rest place (NoToken at) = Unit {0}

-- a token with such a text begins the rest
begins_named : (rest text : List ℕ) (place len : ℕ) (found : Option Kind) → take len rest ≡ text → IfSome found (λ kind. HasForm kind text)
    → Begins rest place (token_or_none place len found)
begins_named rest text place len None is form = tt
begins_named rest text place len (Some kind) is form = (refl, subst (HasForm kind) (sym is) form)

-- the first bytes that pass are as many as they are
take_run : (b : ℕ) (bs : List ℕ) → take (length (take (prefix_len is_run_byte (b ∷ bs)) (b ∷ bs))) (b ∷ bs) ≡ take (prefix_len is_run_byte (b ∷ bs)) (b ∷ bs)
take_run b bs = ap (λ n. take n (b ∷ bs)) (length-prefix_len is_run_byte (b ∷ bs))

-- the two bytes of `>>` are a symbol's text
two_bytes : (b : ℕ) (bs : List ℕ) → bytes_eq (take 2 (b ∷ bs)) (codes ">>") ≡ true → is_symbol_text (take 2 (b ∷ bs)) ≡ true
two_bytes b [] same = absurd (false≢true (and_parts (b == 62) false same).1)
two_bytes b (c ∷ cs) same = same

-- what a text begins with has the form of its kind
begins_text : (place : ℕ) (rest : List ℕ) → Begins rest place (first_token place rest)
begins_text place [] = tt
begins_text place (b ∷ bs) =
    let P = Begins (b ∷ bs) place in
    let run = take (prefix_len is_run_byte (b ∷ bs)) (b ∷ bs) in
    cond_both (is_run_byte b) _ _ P (λ of_run. begins_named (b ∷ bs) run place (length run) (form_of run) (take_run b bs) (form_of_run run)) (λ other.
    cond_both (is_symbol b) _ _ P (λ one. begins_named (b ∷ bs) (b ∷ []) place 1 (Some Symbol) refl one) (λ more.
    cond_both (bytes_eq (take 2 (b ∷ bs)) (codes ">>")) _ _ P
    (λ two. begins_named (b ∷ bs) (take 2 (b ∷ bs)) place 2 (Some Symbol) refl (two_bytes b bs two)) (λ none. tt)))

-- a token that begins the rest of a text is a token of the text
formed_at : (bytes : List ℕ) (place : ℕ) (next : Next) → Begins (drop place bytes) place next → IsFormed bytes next
formed_at bytes place (Found t) begins = subst (λ at. HasForm t.kind (take t.len (drop at bytes))) (sym begins.0) begins.1
formed_at bytes place End begins = tt
formed_at bytes place (NoToken at) begins = tt

-- what the rest of a text begins with has the form of its kind
pub formed_rest : (bytes : List ℕ) (place : ℕ) (next : Next) → next ≡ first_token place (take (length bytes - place) (drop place bytes)) → IsFormed bytes next
formed_rest bytes place next is =
    let whole = take_rest bytes place in
    formed_at bytes place next
    (subst (Begins (drop place bytes) place) (sym is)
    (subst (λ rest. Begins (drop place bytes) place (first_token place rest)) (sym whole) (begins_text place (drop place bytes))))
