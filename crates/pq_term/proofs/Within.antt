-- Where a token lies in a text.
use Rattle.std.proofs.Common.{◌≡◌, ℕ, ◌+◌, ◌==◌, ◌-◌, ◌≤◌, true, false, cond, List, [], ◌∷◌, length, take, drop, length-drop}
use Rattle.std.proofs.Common.{length-take-le, subst, sym, Some, None, Option, ap, arith}
use Rattle.std.specs.Prelude.{codes, bytes_eq}
use Rattle.std.specs.List.{prefix_len}
use Rattle.std.proofs.lemmas.Bool.{false≢true, cond_both, and_parts}
use Rattle.std.proofs.lemmas.List.Folds.{length-prefix_len}
use Rattle.std.proofs.lemmas.List.Sums.{prefix_len-le-length}
use Rattle.pq_term.specs.declared.token.Kind.{Kind}
use Rattle.pq_term.specs.declared.token.Kind.TheVariants.{Symbol}
use Rattle.pq_term.specs.declared.token.Next.{Next}
use Rattle.pq_term.specs.Bytes.{is_run_byte, is_symbol}
use Rattle.pq_term.specs.Forms.{form_of}
use Rattle.pq_term.specs.Tokens.{token_or_none, run_token, first_token, IsWithin}

-- what has bytes and ends in time lies within
within_named : (at place len end : ℕ) (kind : Option Kind) → at ≤ place → 1 ≤ len → place + len ≤ end → IsWithin at end (token_or_none place len kind)
within_named at place len end None after has ends = (after, omega arith)
within_named at place len end (Some kind) after has ends = (after, has, ends)

-- a symbol of two bytes has a second one
second_byte : (b : ℕ) (bs : List ℕ) → bytes_eq (take 2 (b ∷ bs)) (codes ">>") ≡ true → 1 ≤ length bs
second_byte b [] same = absurd (false≢true (and_parts (b == 62) false same).1)
second_byte b (c ∷ cs) same = omega arith

-- a run has the byte that it begins with
within_run : (at place b : ℕ) (bs : List ℕ) → at ≤ place → is_run_byte b ≡ true
    → IsWithin at (place + length (b ∷ bs)) (run_token place (take (prefix_len is_run_byte (b ∷ bs)) (b ∷ bs)))
within_run at place b bs after begins =
    let run = length-prefix_len is_run_byte (b ∷ bs) in
    let first : prefix_len is_run_byte (b ∷ bs) ≡ 1 + prefix_len is_run_byte bs = ap (λ t. cond t (1 + prefix_len is_run_byte bs) 0) begins in
    within_named at place _ _ (form_of (take (prefix_len is_run_byte (b ∷ bs)) (b ∷ bs))) after (omega (arith, run, first))
    (omega (arith, run, prefix_len-le-length is_run_byte (b ∷ bs)))

-- what a text begins with lies within the text
pub within_text : (at place : ℕ) (rest : List ℕ) → at ≤ place → IsWithin at (place + length rest) (first_token place rest)
within_text at place [] after = tt
within_text at place (b ∷ bs) after =
    let end = place + length (b ∷ bs) in
    cond_both (is_run_byte b) _ _ (IsWithin at end) (within_run at place b bs after) (λ other.
    cond_both (is_symbol b) _ _ (IsWithin at end) (λ one. within_named at place 1 end (Some Symbol) after (omega arith) (omega arith)) (λ more.
    cond_both (bytes_eq (take 2 (b ∷ bs)) (codes ">>")) _ _ (IsWithin at end)
    (λ two. let second = second_byte b bs two in within_named at place 2 end (Some Symbol) after (omega arith) (omega (arith, second)))
    (λ none. (after, omega arith))))

-- what the rest of a text begins with lies within the text
pub within_rest : (bytes : List ℕ) (at place : ℕ) (next : Next) → at ≤ place → place ≤ length bytes
    → next ≡ first_token place (take (length bytes - place) (drop place bytes)) → IsWithin at (length bytes) next
within_rest bytes at place next after inside is =
    let rest = take (length bytes - place) (drop place bytes) in
    let left = length-take-le (length bytes - place) (drop place bytes) (omega (arith, length-drop place bytes)) in
    let end : place + length rest ≡ length bytes = omega (arith, left, inside) in
    subst (IsWithin at (length bytes)) (sym is) (subst (λ n. IsWithin at n (first_token place rest)) end (within_text at place rest after))
