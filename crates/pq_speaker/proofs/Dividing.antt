-- How bytes are divided.
use Rattle.std.proofs.Common.{◌≡◌, ◌≢◌, ◌⊎◌, ℕ, ◌+◌, ◌<◌, ◌≤◌, Bool, true, false, eqb, leb, List, [], ◌∷◌, ◌++◌, length, take, drop, refl}
use Rattle.std.proofs.Common.{sym, ap, subst, ◌∙◌, inl, inr, append_assoc, append-nil, length-append, arith}
use Rattle.std.specs.Int.{w16, w32, from_be_bytes}
use Rattle.std.proofs.lemmas.List.{get_or_append_left, take-append-le, take-append-drop, drop-append-le, length-drop, length-take-le}
use Rattle.std.proofs.lemmas.Bool.{lt-leb, ne_eqb, eqb-true, leb-true, and_parts, and_left, and_right, and_from, le-leb, eq-eqb, cases_lt}
use Rattle.pq_speaker.specs.declared.header.Header.{Header}
use Rattle.pq_speaker.specs.Division.{Division, divided, header_of, is_whole, uncut, with_first}

-- the header is the same with more bytes after it
pub header-more : (xs ys : List ℕ) → 8 ≤ length xs → header_of (xs ++ ys) ≡ header_of xs
header-more xs ys long = λ i. record {
  version = get_or_append_left xs ys 0 0 (omega (arith, long)) i;
  kind = get_or_append_left xs ys 0 1 (omega (arith, long)) i;
  length = from_be_bytes w16 (within 2 2 (omega (arith, long)) i);
  xid = from_be_bytes w32 (within 4 4 (omega (arith, long)) i);
}
  where
    within : (n m : ℕ) → n + m ≤ length xs → take m (drop n (xs ++ ys)) ≡ take m (drop n xs)
    within n m h = ap (take m) (drop-append-le n xs ys (omega (arith, h))) ∙ take-append-le m (drop n xs) ys (omega (arith, h, length-drop n xs))

-- one division after another
abbrev pub joined : Division → Division → Division
joined d e = record { messages = d.messages ++ e.messages; rest = e.rest }

-- a piece is divided, and then the next one after what is left of it
pub divided-append : (before xs ys : List ℕ) → divided before (xs ++ ys) ≡ joined (divided before xs) (divided (divided before xs).rest ys)
divided-append before [] ys = refl
divided-append before (x ∷ xs) ys = by (is_whole (before ++ x ∷ [])) refl (λ next. divided-append next xs ys)
  where
    by : (b : Bool) → is_whole (before ++ x ∷ []) ≡ b
        → ((next : List ℕ) → divided next (xs ++ ys) ≡ joined (divided next xs) (divided (divided next xs).rest ys))
        → divided before (x ∷ xs ++ ys) ≡ joined (divided before (x ∷ xs)) (divided (divided before (x ∷ xs)).rest ys)
    by true e rest = rw e (ap (with_first (before ++ x ∷ [])) (rest []))
    by false e rest = rw e (rest (before ++ x ∷ []))

-- bytes that wait are divided with those that come
pub divided-waiting : (before bytes : List ℕ) → divided [] before ≡ uncut before → divided [] (before ++ bytes) ≡ divided before bytes
divided-waiting before bytes e = divided-append [] before bytes ∙ (λ i. joined (e i) (divided (e i).rest bytes))

-- the first bytes are not whole message yet: the header isn't there, or it states another size
abbrev pub IsShort : List ℕ → Type 0
IsShort bytes = 8 ≤ length bytes → ((header_of bytes).length < 8) ⊎ (length bytes < (header_of bytes).length)

-- both tests of a whole message
abbrev has_header : List ℕ → Bool
has_header bytes = leb 8 (length bytes)

abbrev has_size : List ℕ → Bool
has_size bytes = eqb (length bytes) (header_of bytes).length

-- bytes that aren't as many as the header says are not message
other-size : (xs ys : List ℕ) → (8 ≤ length xs → length xs ≢ (header_of (xs ++ ys)).length) → is_whole xs ≡ false
other-size xs ys differs = by (cases_lt (length xs) 8)
  where
    by : (length xs < 8) ⊎ (8 ≤ length xs) → is_whole xs ≡ false
    by (inl few) = and_left (has_header xs) (has_size xs) (lt-leb 8 (length xs) few)
    by (inr long) =
        let same = ap (λ (h : Header). h.length) (header-more xs ys long) in
        and_right (has_header xs) (has_size xs) (ne_eqb (length xs) (header_of xs).length (λ e. differs long (e ∙ sym same)))

-- bytes that end before their header's size have no whole message in front
not_whole : (xs ys : List ℕ) → IsShort (xs ++ ys) → is_whole xs ≡ false
not_whole xs ys short = other-size xs ys (λ long. differs long (short (omega (arith, long, length-append xs ys))))
  where
    stated : ℕ
    stated = (header_of (xs ++ ys)).length

    differs : 8 ≤ length xs → (stated < 8) ⊎ (length (xs ++ ys) < stated) → length xs ≢ stated
    differs long (inl small) e = omega (arith, small, e, long)
    differs long (inr less) e = omega (arith, less, e, length-append xs ys)

-- a whole message is as long as its header says, and has a header
pub whole-long : (m : List ℕ) → is_whole m ≡ true → (8 ≤ length m) × (length m ≡ (header_of m).length)
whole-long m whole =
    let parts = and_parts (has_header m) (has_size m) whole in
    (leb-true 8 (length m) parts.0, eqb-true (length m) (header_of m).length parts.1)

-- a part of a whole message is none
part-of-whole : (xs ys : List ℕ) → is_whole (xs ++ ys) ≡ true → 0 < length ys → is_whole xs ≡ false
part-of-whole xs ys whole more =
    other-size xs ys (λ long e. omega (arith, e, (whole-long (xs ++ ys) whole).1, more, length-append xs ys))

short-uncut : (before bytes : List ℕ) → IsShort (before ++ bytes) → divided before bytes ≡ uncut (before ++ bytes)
short-uncut before [] short = ap uncut (sym (append-nil before))
short-uncut before (b ∷ bytes) short =
    let again : before ++ b ∷ [] ++ bytes ≡ before ++ b ∷ bytes = append_assoc before (b ∷ []) bytes in
    let short_again : IsShort (before ++ b ∷ [] ++ bytes) = subst IsShort (sym again) short in
    rw (not_whole (before ++ b ∷ []) bytes short_again)
    (short-uncut (before ++ b ∷ []) bytes short_again ∙ ap uncut again)

-- without a whole message in front there is none
pub uncut-short : (bytes : List ℕ) → IsShort bytes → divided [] bytes ≡ uncut bytes
uncut-short bytes short = short-uncut [] bytes short

-- a whole message in front is the first
whole-first : (before bytes more : List ℕ) → is_whole (before ++ bytes) ≡ true → 0 < length bytes →
    divided before (bytes ++ more) ≡ with_first (before ++ bytes) (divided [] more)
whole-first before [] more whole some = absurd (omega (arith, some))
whole-first before (b ∷ []) more whole some = rw whole refl
whole-first before (b ∷ c ∷ bytes) more whole some =
    let again : before ++ b ∷ [] ++ c ∷ bytes ≡ before ++ b ∷ c ∷ bytes = append_assoc before (b ∷ []) (c ∷ bytes) in
    let all : is_whole (before ++ b ∷ [] ++ c ∷ bytes) ≡ true = subst (λ l. is_whole l ≡ true) (sym again) whole in
    rw (part-of-whole (before ++ b ∷ []) (c ∷ bytes) all (omega arith))
    (whole-first (before ++ b ∷ []) (c ∷ bytes) more all (omega arith) ∙ ap (λ m. with_first m (divided [] more)) again)

pub divided-whole : (m more : List ℕ) → is_whole m ≡ true → divided [] (m ++ more) ≡ with_first m (divided [] more)
divided-whole m more whole = whole-first [] m more whole (omega (arith, (whole-long m whole).0))

-- What the code's tests tell.

pub few-uncut : (bytes : List ℕ) → length bytes < 8 → divided [] bytes ≡ uncut bytes
few-uncut bytes few = uncut-short bytes (λ long. absurd (omega (arith, few, long)))

pub small-uncut : (bytes : List ℕ) → (header_of bytes).length < 8 → divided [] bytes ≡ uncut bytes
small-uncut bytes small = uncut-short bytes (λ long. inl small)

pub less-uncut : (bytes : List ℕ) → length bytes < (header_of bytes).length → divided [] bytes ≡ uncut bytes
less-uncut bytes less = uncut-short bytes (λ long. inr less)

pub whole-front : (bytes : List ℕ) → 8 ≤ (header_of bytes).length → (header_of bytes).length ≤ length bytes
    → is_whole (take (header_of bytes).length bytes) ≡ true
whole-front bytes long there =
    let n = (header_of bytes).length in
    let m = take n bytes in
    let size : length m ≡ n = length-take-le n bytes there in
    let same : header_of bytes ≡ header_of m = ap header_of (sym (take-append-drop n bytes)) ∙ header-more m (drop n bytes) (omega (arith, size, long)) in
    and_from (has_header m) (has_size m)
    (le-leb 8 (length m) (omega (arith, size, long)))
    (eq-eqb (length m) (header_of m).length (size ∙ ap (λ (h : Header). h.length) same))

-- what is left over has no whole message in front
pub rest-uncut : (before bytes : List ℕ) → divided [] before ≡ uncut before → divided [] (divided before bytes).rest ≡ uncut (divided before bytes).rest
rest-uncut before [] none = none
rest-uncut before (b ∷ bytes) none =
    by (is_whole (before ++ b ∷ [])) refl (rest-uncut [] bytes refl) (rest-uncut (before ++ b ∷ []) bytes)
  where
    by : (w : Bool) → is_whole (before ++ b ∷ []) ≡ w
        → divided [] (divided [] bytes).rest ≡ uncut (divided [] bytes).rest
        → (divided [] (before ++ b ∷ []) ≡ uncut (before ++ b ∷ [])
        → divided [] (divided (before ++ b ∷ []) bytes).rest ≡ uncut (divided (before ++ b ∷ []) bytes).rest)
        → divided [] (divided before (b ∷ bytes)).rest ≡ uncut (divided before (b ∷ bytes)).rest
    by true e empty later = rw e empty
    by false e empty later = rw e (later (divided-waiting before (b ∷ []) none ∙ rw e refl))
