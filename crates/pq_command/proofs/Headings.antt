-- A line and an install with more bytes after them.
use Rattle.std.proofs.Common.{◌≡◌, ℕ, zero, suc, ◌+◌, ◌<◌, ◌≤◌, Bool, true, false, not, ltb, eqb, is_none, List, [], ◌∷◌, ◌++◌, length}
use Rattle.std.proofs.Common.{take, drop, position, refl, sym, ap, ◌∙◌, arith, length-append, length-drop, length-take, Option, Some, None}
use Rattle.std.specs.Prelude.{◌==◌}
use Rattle.std.specs.List.{prefix_len}
use Rattle.std.proofs.lemmas.Bool.{and_parts, eq-eqb, ltb-false, ltb-true, lt-ltb, ne_eqb}
use Rattle.std.proofs.lemmas.List.{drop-append-le, take-append-le, take_all}
use Rattle.std.proofs.lemmas.List.Folds.{prefix_len-append}
use Rattle.std.proofs.lemmas.List.Sums.{prefix_len-le-length}
use Rattle.std.proofs.lemmas.Option.{same_Some}
use Rattle.pq_term.specs.Numbers.{decimal_of}
use Rattle.pq_command.specs.Speaks.{Stated, line_end, needs_more, stated, stated_before, stated_to}

abbrev is_feed : ℕ → Bool
is_feed b = b == 10

abbrev no_feed : ℕ → Bool
no_feed b = not (b == 10)

-- the place of a line feed, and that there is none

found : (xs : List ℕ) (k : ℕ) → position is_feed xs ≡ Some k → (k < length xs) × (prefix_len no_feed xs ≡ k)
found xs k is = by (ltb (prefix_len no_feed xs) (length xs)) refl
  where
    by : (w : Bool) → ltb (prefix_len no_feed xs) (length xs) ≡ w → (k < length xs) × (prefix_len no_feed xs ≡ k)
    by true e =
        let same : prefix_len no_feed xs ≡ k = same_Some _ _ (rw e at is) in
        let below = ltb-true (prefix_len no_feed xs) (length xs) e in
        (omega (arith, same, below), same)
    by false e = let none : None ≡ Some k = rw e at is in cc

finds : (xs : List ℕ) (k : ℕ) → k < length xs → prefix_len no_feed xs ≡ k → position is_feed xs ≡ Some k
finds xs k below is =
    let e : ltb (prefix_len no_feed xs) (length xs) ≡ true = lt-ltb (prefix_len no_feed xs) (length xs) (omega (arith, below, is)) in
    rw e (ap Some is)

missed : (xs : List ℕ) → position is_feed xs ≡ None → prefix_len no_feed xs ≡ length xs
missed xs is = by (ltb (prefix_len no_feed xs) (length xs)) refl
  where
    by : (w : Bool) → ltb (prefix_len no_feed xs) (length xs) ≡ w → prefix_len no_feed xs ≡ length xs
    by true e = let some : Some (prefix_len no_feed xs) ≡ None = rw e at is in cc
    by false e = let most = prefix_len-le-length no_feed xs in let least = ltb-false (prefix_len no_feed xs) (length xs) e in omega (arith, most, least)

-- a line feed is where it was when more follows
position-append : (xs ys : List ℕ) (k : ℕ) → position is_feed xs ≡ Some k → position is_feed (xs ++ ys) ≡ Some k
position-append xs ys k is =
    let at = found xs k is in
    let other : eqb (prefix_len no_feed xs) (length xs) ≡ false =
    ne_eqb (prefix_len no_feed xs) (length xs) (λ same. absurd (omega (arith, same, at.0, at.1))) in
    let same : prefix_len no_feed (xs ++ ys) ≡ prefix_len no_feed xs = prefix_len-append no_feed xs ys ∙ rw other refl in
    finds (xs ++ ys) k (omega (arith, at.0, length-append xs ys)) (same ∙ at.1)

-- and where there was none, it follows
position-later : (xs ys : List ℕ) (k : ℕ) → position is_feed xs ≡ None → position is_feed (xs ++ ys) ≡ Some k → length xs ≤ k
position-later xs ys k none is =
    let all = missed xs none in
    let at = found (xs ++ ys) k is in
    let same : prefix_len no_feed (xs ++ ys) ≡ length xs + prefix_len no_feed ys =
    prefix_len-append no_feed xs ys ∙ rw (eq-eqb (prefix_len no_feed xs) (length xs) all) refl in
    omega (arith, same, at.1)

-- the first bytes, when more follow
take-more : (n : ℕ) (xs ys : List ℕ) → (zs : List ℕ) × (take n (xs ++ ys) ≡ take n xs ++ zs)
take-more zero xs ys = ([], refl)
take-more (suc n) [] ys = (take (suc n) ys, refl)
take-more (suc n) (x ∷ xs) ys = let more = take-more n xs ys in (more.0, ap (λ (zs : List ℕ). x ∷ zs) more.1)

-- The line.

within : (text : List ℕ) (k : ℕ) → line_end text ≡ Some k → k < length text
within text k is = let at = found (take 10 text) k is in omega (arith, at.0, length-take 10 text)

line_end-append : (text more : List ℕ) (k : ℕ) → line_end text ≡ Some k → line_end (text ++ more) ≡ Some k
line_end-append text more k is =
    let front = take-more 10 text more in
    ap (position is_feed) front.1 ∙ position-append (take 10 text) front.0 k is

-- ten bytes without a line feed have none when more follow
line_end-long : (text more : List ℕ) → 10 ≤ length text → line_end (text ++ more) ≡ line_end text
line_end-long text more long = ap (position is_feed) (take-append-le 10 text more long)

-- more bytes after what a line states
abbrev pub followed : List ℕ → Stated → Stated
followed more s = record { size = s.size; rest = s.rest ++ more }

before-append : (rest more : List ℕ) (n : Option ℕ) (s : Stated) → stated_before rest n ≡ Some s → stated_before (rest ++ more) n ≡ Some (followed more s)
before-append rest more None s is = cc
before-append rest more (Some size) s is = ap (λ (t : Stated). Some (followed more t)) (same_Some _ _ is)

before-none : (rest other : List ℕ) (n : Option ℕ) → stated_before rest n ≡ None → stated_before other n ≡ None
before-none rest other None is = refl
before-none rest other (Some size) is = cc

-- what is before the line feed and after it, when more follows
to-more : (text more : List ℕ) (k : ℕ) → k < length text
    → stated_to (text ++ more) (Some k) ≡ stated_before (drop (k + 1) text ++ more) (decimal_of 999999999 (take k text))
to-more text more k below =
    ap (λ (rest : List ℕ). stated_before rest (decimal_of 999999999 (take k (text ++ more)))) (drop-append-le (k + 1) text more (omega (arith, below)))
    ∙ ap (λ (front : List ℕ). stated_before (drop (k + 1) text ++ more) (decimal_of 999999999 front)) (take-append-le k text more (omega (arith, below)))

-- a line that states a length states it when more follows
pub stated-append : (text more : List ℕ) (s : Stated) → stated text ≡ Some s → stated (text ++ more) ≡ Some (followed more s)
stated-append text more s is = by (line_end text) refl
  where
    by : (e : Option ℕ) → line_end text ≡ e → stated (text ++ more) ≡ Some (followed more s)
    by None e = let none : None ≡ Some s = rw e at is in cc
    by (Some k) e =
        let here : stated_to text (Some k) ≡ Some s = rw e at is in
        rw (line_end-append text more k e)
        (to-more text more k (within text k e) ∙ before-append (drop (k + 1) text) more (decimal_of 999999999 (take k text)) s here)

-- a line that is whole and states no length states none when more follows
pub none-append : (text more : List ℕ) → stated text ≡ None → needs_more text ≡ false → stated (text ++ more) ≡ None
none-append text more none whole = by (line_end text) refl
  where
    by : (e : Option ℕ) → line_end text ≡ e → stated (text ++ more) ≡ None
    by None e =
        let short : ltb (length text) 10 ≡ false = rw (none, e) at whole in
        rw (line_end-long text more (ltb-false (length text) 10 short), e) refl
    by (Some k) e =
        let here : stated_to text (Some k) ≡ None = rw e at none in
        rw (line_end-append text more k e)
        (to-more text more k (within text k e) ∙ before-none (drop (k + 1) text) (drop (k + 1) text ++ more) (decimal_of 999999999 (take k text)) here)

-- The install.

-- where the line or the install isn't whole, a last piece ends the install and no more than this piece follows
pub few-follow : (before last : List ℕ) (s : Stated) → needs_more before ≡ true → stated (before ++ last) ≡ Some s → length s.rest ≤ s.size + length last
few-follow before last s short is = by (stated before) refl
  where
    to : (e : Option ℕ) → line_end (before ++ last) ≡ e → line_end before ≡ None → length before < 10 → length s.rest ≤ s.size + length last
    to None e none few = let nothing : None ≡ Some s = rw e at is in cc
    to (Some k) e none few =
        let front = take-more 10 before last in
        let all : take 10 before ≡ before = take_all 10 before (omega (arith, few)) in
        let later : length (take 10 before) ≤ k = position-later (take 10 before) front.0 k none (sym (ap (position is_feed) front.1) ∙ e) in
        let here : stated_before (drop (k + 1) (before ++ last)) (decimal_of 999999999 (take k (before ++ last))) ≡ Some s = rw e at is in
        let rest = rest-is (drop (k + 1) (before ++ last)) (decimal_of 999999999 (take k (before ++ last))) here in
        omega (arith, later, ap length all, ap length rest, length-drop (k + 1) (before ++ last), length-append before last)
      where
        rest-is : (rest : List ℕ) (n : Option ℕ) → stated_before rest n ≡ Some s → rest ≡ s.rest
        rest-is rest None none = cc
        rest-is rest (Some size) some = ap (λ (t : Stated). t.rest) (same_Some _ _ some)

    by : (e : Option Stated) → stated before ≡ e → length s.rest ≤ s.size + length last
    by None e =
        let both = and_parts (is_none (line_end before)) (ltb (length before) 10) (rw e at short) in
        to (line_end (before ++ last)) refl (none-is (line_end before) both.0) (ltb-true (length before) 10 both.1)
      where
        none-is : (o : Option ℕ) → is_none o ≡ true → o ≡ None
        none-is None is = refl
        none-is (Some k) is = cc
    by (Some t) e =
        let few = ltb-true (length t.rest) t.size (rw e at short) in
        let same : followed last t ≡ s = same_Some _ _ (sym (stated-append before last t e) ∙ is) in
        let size : t.size ≡ s.size = ap (λ (u : Stated). u.size) same in
        let rest : t.rest ++ last ≡ s.rest = ap (λ (u : Stated). u.rest) same in
        omega (arith, few, size, ap length rest, length-append t.rest last)
