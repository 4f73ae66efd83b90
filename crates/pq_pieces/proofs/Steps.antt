-- Bytes one after another.
use Rattle.std.proofs.Common.{◌≡◌, ◌≤◌, ◌<◌, ◌+◌, ◌-◌, ℕ, List, [], ◌∷◌, ◌++◌, refl, sym, ap, subst, ◌∙◌, arith, length, length-append}
use Rattle.std.proofs.Common.{append_assoc, take, drop, get_or, None, Some}
use Rattle.std.proofs.Math.Seq.{drop-append-add}
use Rattle.std.proofs.lemmas.List.{drop-append-le, drop-drop, drop-take, length-take, take-append-drop, take_more}
use Rattle.pq_pieces.specs.declared.line.Line.{Line}
use Rattle.pq_pieces.specs.Pieces.{BeginsLong, pieces_of}
use Rattle.pq_pieces.specs.Lines.{GoesOn, IsParted, Takes, going}
use Rattle.pq_pieces.proofs.Within.{stays_long}

-- no byte changes nothing
pub goes_nowhere : (line : Line) (piece : List ℕ) → GoesOn line piece [] line piece
goes_nowhere line piece = record { same = λ rest. refl; held = omega arith }

-- some bytes and then others
pub goes_further : (line : Line) (old more : List ℕ) (mid : Line) (piece : List ℕ) (others : List ℕ) (next : Line) (new : List ℕ)
    → GoesOn line old more mid piece → GoesOn mid piece others next new → GoesOn line old (more ++ others) next new
goes_further line old more mid piece others next new first second = record {
  same = λ rest. ap (λ t. going line old t) (append_assoc more others rest) ∙ (first.same (others ++ rest) ∙ second.same rest);
  held = omega (arith, first.held, second.held, length-append more others);
}

-- some bytes and then those that end the piece
pub is_parted_later : (line : Line) (old more : List ℕ) (mid : Line) (piece others : List ℕ) (used : ℕ) (new : List ℕ)
    → GoesOn line old more mid piece → IsParted mid piece others used new → IsParted line old (more ++ others) (length more + used) new
is_parted_later line old more mid piece others used new first second = record {
  same = λ rest. ap (λ t. going line old t) (append_assoc more others rest)
      ∙ (first.same (others ++ rest) ∙ (second.same rest ∙ ap (λ t. new ∷ pieces_of (t ++ rest)) (sym (drop-append-add more others used))));
  within = omega (arith, second.within, length-append more others);
}

-- where the piece is too long after some bytes, it is whatever follows
pub is_long_later : (limit : ℕ) (line : Line) (old more : List ℕ) (next : Line) (piece : List ℕ) → GoesOn line old more next piece → limit < length piece
    → (rest : List ℕ) → BeginsLong limit (going line old (more ++ rest))
is_long_later limit line old more next piece gone long rest = subst (BeginsLong limit) (sym (gone.same rest)) (stays_long limit next piece rest long)

-- so where these bytes are the first of some
pub long_with : (limit : ℕ) (line : Line) (old bytes : List ℕ) (i : ℕ) (next : Line) (piece : List ℕ)
    → GoesOn line old (take i bytes) next piece → limit < length piece
    → (rest : List ℕ) → BeginsLong limit (going line old (bytes ++ rest))
long_with limit line old bytes i next piece gone long rest =
    let split = sym (append_assoc (take i bytes) (drop i bytes) rest) ∙ ap (λ t. t ++ rest) (take-append-drop i bytes) in
    subst (λ t. BeginsLong limit (going line old t)) split (is_long_later limit line old (take i bytes) next piece gone long (drop i bytes ++ rest))

-- a piece that has ended, with bytes that follow
ended_still : (line : Line) (old more others : List ℕ) (used : ℕ) (piece : List ℕ) → IsParted line old more used piece
    → IsParted line old (more ++ others) used piece
ended_still line old more others used piece parted = record {
  same = λ rest.
      ap (λ t. going line old t) (append_assoc more others rest)
      ∙ (parted.same (others ++ rest) ∙ ap (λ t. piece ∷ pieces_of t) (sym (append_assoc (drop used more) others rest)
      ∙ ap (λ t. t ++ rest) (sym (drop-append-le used more others parted.within))));
  within = omega (arith, parted.within, length-append more others);
}

-- the next byte of some
pub next_goes : (line : Line) (old bytes : List ℕ) (i : ℕ) (mid : Line) (piece : List ℕ) (next : Line) (new : List ℕ) → i < length bytes
    → GoesOn line old (take i bytes) mid piece → Takes mid piece (get_or bytes i 0) new (Some next) → GoesOn line old (take (i + 1) bytes) next new
next_goes line old bytes i mid piece next new within first second =
    subst (λ t. GoesOn line old t next new) (sym (take_more bytes i 0 within))
    (goes_further line old (take i bytes) mid piece (get_or bytes i 0 ∷ []) next new first second)

pub next_ends : (line : Line) (old bytes : List ℕ) (i : ℕ) (mid : Line) (piece new : List ℕ) → i < length bytes
    → GoesOn line old (take i bytes) mid piece → Takes mid piece (get_or bytes i 0) new None → IsParted line old bytes (i + 1) new
next_ends line old bytes i mid piece new within first second =
    let so_far = is_parted_later line old (take i bytes) mid piece (get_or bytes i 0 ∷ []) 1 new first second.0 in
    let these = subst (λ t. IsParted line old t (length (take i bytes) + 1) new) (sym (take_more bytes i 0 within)) so_far in
    let used : length (take i bytes) + 1 ≡ i + 1 = omega (arith, length-take i bytes, within) in
    let at = subst (λ n. IsParted line old (take (i + 1) bytes) n new) used these in
    subst (λ t. IsParted line old t (i + 1) new) (take-append-drop (i + 1) bytes)
    (ended_still line old (take (i + 1) bytes) (drop (i + 1) bytes) (i + 1) new at)

-- what is pending after some bytes were used
pub pending_after : (chunk : List ℕ) (from to used : ℕ) → from + used ≤ to
    → drop used (take (to - from) (drop from chunk)) ≡ take (to - (from + used)) (drop (from + used) chunk)
pending_after chunk from to used within =
    let same : to - from ≡ used + (to - (from + used)) = omega (arith, within) in
    ap (λ n. drop used (take n (drop from chunk))) same
    ∙ (drop-take used (to - (from + used)) (drop from chunk) ∙ ap (take (to - (from + used))) (drop-drop used from chunk))
