-- What comes next tells which alternative a derivation takes.
use Rattle.std.proofs.Common.{◌≡◌, ℕ, zero, suc, ◌+◌, ◌-◌, ◌<◌, ◌≤◌, ◌==◌, Bool, true, false, not, ◌&&◌, ◌||◌, cond, List, [], ◌∷◌, ◌++◌}
use Rattle.std.proofs.Common.{Option, Some, None, refl, sym, ◌∙◌, ap, subst, inl, inr, ◌⊎◌, eq-eqb, ltb-true, arith, lit<}
use Rattle.std.specs.Prelude.{nat_lt}
use Rattle.std.specs.List.{list_any, list_all, find}
use Rattle.std.proofs.lemmas.Bool.{and_parts, and_from, or_cases, or_left, or_right, cases_eq, not-true, both_ways}
use Rattle.pq_grammar.specs.declared.class.Class.{Class}
use Rattle.pq_grammar.specs.declared.class.Class.TheVariants.{SwitchWord}
use Rattle.pq_grammar.specs.declared.sort.Sort.{Sort}
use Rattle.pq_grammar.specs.declared.symbol.Symbol.{Symbol}
use Rattle.pq_grammar.specs.declared.symbol.Symbol.TheVariants.{Token, Opening, Leave, Close, Part}
use Rattle.pq_grammar.specs.declared.mark.Mark.{Mark}
use Rattle.pq_grammar.specs.Grammar.{alternatives}
use Rattle.pq_grammar.specs.Sentences.{IsOneOf, Derives, tokens}
use Rattle.pq_grammar.specs.Tables.{number, may_be_empty, first, follow, weight}
use Rattle.pq_grammar.specs.Ahead.{ahead, next_class, look, has, follows, may_begin, is_open, chosen, pending}
use Rattle.pq_grammar.specs.Reading.{can, Fits}
use Rattle.pq_grammar.proofs.Right.{all_below, implies, at_most_one, is_first, is_followed, is_below, right}

-- a test that passes below a bound passes at each number below it
all_below_at : (n k : ℕ) (test : ℕ → Bool) → all_below n test ≡ true → k < n → test k ≡ true
all_below_at zero k test all below = absurd (omega arith)
all_below_at (suc n) k test all below =
    let parts = and_parts (test n) (all_below n test) all in
    elim (cases_eq k n) [ inl same ↦ subst (λ m. test m ≡ true) (sym same) parts.0 | inr other ↦ all_below_at n k test parts.1 (omega (arith, other)) ]

-- an implication, at one number
implies_at : (p q : ℕ → Bool) (k : ℕ) → implies p q ≡ true → k < 48 → p k ≡ true → q k ≡ true
implies_at p q k all below is =
    elim (or_cases (not (p k)) (q k) (all_below_at 48 k (λ m. not (p m) || q m) all below)) [
      | inl never ↦
          absurd (both_ways (p k) (not-true (p k) never) is)
      | inr then ↦ then
    ]

-- what each alternative passes, one of them passes
all_at : (test : List Symbol → Bool) (a : List Symbol) (bs : List (List Symbol)) → list_all test bs ≡ true → IsOneOf a bs → test a ≡ true
all_at test a [] all among = absurd among
all_at test a (b ∷ bs) all (inl same) = subst (λ c. test c ≡ true) (sym same) (and_parts (test b) (list_all test bs) all).0
all_at test a (b ∷ bs) all (inr later) = all_at test a bs (and_parts (test b) (list_all test bs) all).1 later

-- the alternative that was found is one
pub found_is_one : (test : List Symbol → Bool) (a : List Symbol) (bs : List (List Symbol)) → find test bs ≡ Some a → IsOneOf a bs
found_is_one test a [] found = cc
found_is_one test a (b ∷ bs) found = by (test b) found (found_is_one test a bs)
  where
    by : (v : Bool) → cond v (Some b) (find test bs) ≡ Some a → (find test bs ≡ Some a → IsOneOf a bs) → (a ≡ b) ⊎ IsOneOf a bs
    by true is later = inl (cc)
    by false is later = inr (later is)

-- where none was found, none passes
none_passes : (test : List Symbol → Bool) (a : List Symbol) (bs : List (List Symbol)) → find test bs ≡ None → IsOneOf a bs → test a ≡ true → ⊥
none_passes test a [] found among passes = among
none_passes test a (b ∷ bs) found among passes = by (test b) refl found among (none_passes test a bs)
  where
    by : (v : Bool) → test b ≡ v → cond v (Some b) (find test bs) ≡ None → (a ≡ b) ⊎ IsOneOf a bs → (find test bs ≡ None → IsOneOf a bs → test a ≡ true → ⊥) → ⊥
    by true is nothing among later = cc
    by false is nothing (inl same) later = both_ways (test b) is (subst (λ c. test c ≡ true) same passes)
    by false is nothing (inr among) later = later nothing among passes

-- where one at most passes, the one that was found is each that passes
only_one : (test : List Symbol → Bool) (a b : List Symbol) (cs : List (List Symbol)) → at_most_one test cs ≡ true → find test cs ≡ Some a
    → IsOneOf b cs → test b ≡ true → b ≡ a
only_one test a b [] most found among passes = absurd among
only_one test a b (c ∷ cs) most found among passes = by (test c) refl most found among (only_one test a b cs)
  where
    by : (v : Bool) → test c ≡ v → cond v (list_all (λ y. not (test y)) cs) (at_most_one test cs) ≡ true
        → cond v (Some c) (find test cs) ≡ Some a → (b ≡ c) ⊎ IsOneOf b cs
        → (at_most_one test cs ≡ true → find test cs ≡ Some a → IsOneOf b cs → test b ≡ true → b ≡ a) → b ≡ a
    by true is most found (inl same) later = cc
    by true is most found (inr among) later = absurd (both_ways (test b) (not-true (test b) (all_at (λ y. not (test y)) b cs most among)) passes)
    by false is most found (inl same) later = absurd (both_ways (test c) is (subst (λ d. test d ≡ true) same passes))
    by false is most found (inr among) later = later most found among passes

-- what the tables tell of a sort
record IsRight (sort : Sort) : Type 0 where
  begins : list_all (is_first sort) (alternatives sort) ≡ true
  followed : list_all (is_followed sort) (alternatives sort) ≡ true
  one : all_below 48 (λ k. at_most_one (is_open sort k) (alternatives sort)) ≡ true
  falls : list_all (λ a. nat_lt (pending a) (weight sort)) (alternatives sort) ≡ true
  lives : list_any (list_all (is_below (weight sort))) (alternatives sort) ≡ true

-- they tell it of each
told : (sort : Sort) → IsRight sort
told sort =
    let a = list_all (is_first sort) (alternatives sort) in
    let b = list_all (is_followed sort) (alternatives sort) in
    let c = all_below 48 (λ k. at_most_one (is_open sort k) (alternatives sort)) in
    let d = list_all (λ a. nat_lt (pending a) (weight sort)) (alternatives sort) in
    let e = list_any (list_all (is_below (weight sort))) (alternatives sort) in
    let last = and_parts (a && b && c && d) e (right sort) in
    let fourth = and_parts (a && b && c) d last.0 in
    let third = and_parts (a && b) c fourth.0 in
    let second = and_parts a b third.0 in
    record { begins = second.0; followed = second.1; one = third.1; falls = fourth.1; lives = last.1 }

-- a class's number is below the end's
number_below : (c : Class) → number c < 47
number_below SwitchWord = lit< tt
number_below _ = lit< tt

-- what comes next is one of 48
ahead_below : (o : Option Class) → ahead o < 48
ahead_below None = lit< tt
ahead_below (Some c) = omega (arith, number_below c)

-- the front of a list of symbols, and what follows it
begin_append : (otherwise : Bool) (ss rest : List Symbol) (k : ℕ) → may_begin otherwise (ss ++ rest) k ≡ may_begin (may_begin otherwise rest k) ss k
begin_append otherwise [] rest k = refl
begin_append otherwise (Token role class ∷ ss) rest k = refl
begin_append otherwise (Opening role class ∷ ss) rest k = refl
begin_append otherwise (Leave ∷ ss) rest k = begin_append otherwise ss rest k
begin_append otherwise (Close ∷ ss) rest k = begin_append otherwise ss rest k
begin_append otherwise (Part sort ∷ ss) rest k = ap (λ b. has (first sort) k || (may_be_empty sort && b)) (begin_append otherwise ss rest k)

-- what may be where less may follow may be where more may
begin_more : (b c : Bool) (ss : List Symbol) (k : ℕ) → (b ≡ true → c ≡ true) → may_begin b ss k ≡ true → may_begin c ss k ≡ true
begin_more b c [] k more is = more is
begin_more b c (Token role class ∷ ss) k more is = is
begin_more b c (Opening role class ∷ ss) k more is = is
begin_more b c (Leave ∷ ss) k more is = begin_more b c ss k more is
begin_more b c (Close ∷ ss) k more is = begin_more b c ss k more is
begin_more b c (Part sort ∷ ss) k more is =
    let more_may = may_be_empty sort && may_begin c ss k in
    elim (or_cases (has (first sort) k) (may_be_empty sort && may_begin b ss k) is) [
      | inl here ↦ or_left (has (first sort) k) more_may here
      | inr later ↦
          let parts = and_parts (may_be_empty sort) (may_begin b ss k) later in
          or_right (has (first sort) k) more_may (and_from (may_be_empty sort) (may_begin c ss k) parts.0 (begin_more b c ss k more parts.1))
    ]

-- an alternative begins with what its sort may begin with
first_covers : (sort : Sort) (a : List Symbol) (k : ℕ) (b : Bool) → IsOneOf a (alternatives sort) → k < 48 → may_begin b a k ≡ true
    → may_begin b (Part sort ∷ []) k ≡ true
first_covers sort a k false among below is =
    let parts = and_parts (implies (may_begin false a) (may_begin false (Part sort ∷ [])))
    (implies (may_begin true a) (may_begin true (Part sort ∷ [])))
    (all_at (is_first sort) a (alternatives sort) (told sort).begins among) in
    implies_at (may_begin false a) (may_begin false (Part sort ∷ [])) k parts.0 below is
first_covers sort a k true among below is =
    let parts = and_parts (implies (may_begin false a) (may_begin false (Part sort ∷ [])))
    (implies (may_begin true a) (may_begin true (Part sort ∷ [])))
    (all_at (is_first sort) a (alternatives sort) (told sort).begins among) in
    implies_at (may_begin true a) (may_begin true (Part sort ∷ [])) k parts.1 below is

-- what is derived begins with what may come next
pub begins : (n : ℕ) (ss : List Symbol) (depth : ℕ) (ms : List Mark) → Derives n ss depth ms → can ss (look (tokens ms)) ≡ true
begins n [] depth ms is = subst (λ ns. can [] (look (tokens ns)) ≡ true) (sym is) refl
begins zero (s ∷ ss) depth ms derived = absurd derived
begins (suc n) (Token role class ∷ ss) depth ms (x, rest, is, has_class, derived) =
    subst (λ ns. can (Token role class ∷ ss) (look (tokens ns)) ≡ true) (sym is)
    (eq-eqb (number class) (number x.class) (ap number (sym has_class)))
begins (suc n) (Opening role class ∷ ss) depth ms (x, rest, is, has_class, derived) =
    subst (λ ns. can (Opening role class ∷ ss) (look (tokens ns)) ≡ true) (sym is)
    (eq-eqb (number class) (number x.class) (ap number (sym has_class)))
begins (suc n) (Leave ∷ ss) depth ms derived = begins n ss (depth - 1) ms derived
begins (suc n) (Close ∷ ss) depth ms (rest, is, derived) = subst (λ ns. can ss (look (tokens ns)) ≡ true) (sym is) (begins n ss depth rest derived)
begins (suc n) (Part sort ∷ ss) depth ms (a, among, derived) =
    let k = look (tokens ms) in
    first_covers sort a k (can ss k) among (ahead_below (next_class (tokens ms)))
    (subst (λ b. b ≡ true) (begin_append (k == 47) a ss k) (begins n (a ++ ss) depth ms derived))

-- the end may follow each phrase
pub fits_alone : (sort : Sort) → Fits (Part sort ∷ [])
fits_alone sort = ((λ k below may. or_left (k == 47) (has (follow sort) k) may), tt)

-- so it does where an alternative stands for its sort
fits_append : (sort : Sort) (a rest : List Symbol) → is_followed sort a ≡ true
    → ((k : ℕ) → k < 48 → can rest k ≡ true → follows sort k ≡ true) → Fits rest → Fits (a ++ rest)
fits_append sort [] rest all after fits = fits
fits_append sort (Token role class ∷ a) rest all after fits = fits_append sort a rest all after fits
fits_append sort (Opening role class ∷ a) rest all after fits = fits_append sort a rest all after fits
fits_append sort (Leave ∷ a) rest all after fits = fits_append sort a rest all after fits
fits_append sort (Close ∷ a) rest all after fits = fits_append sort a rest all after fits
fits_append sort (Part part ∷ a) rest all after fits =
    let parts = and_parts (implies (λ m. is_open sort m a) (follows part)) (is_followed sort a) all in (
      (λ k below may. implies_at (λ m. is_open sort m a) (follows part) k parts.0 below
          (begin_more (can rest k) (follows sort k) a k (after k below) (subst (λ b. b ≡ true) (begin_append (k == 47) a rest k) may))),
      fits_append sort a rest parts.1 after fits,
    )

-- the alternative that was chosen fits
pub fits_part : (sort : Sort) (a ss : List Symbol) → IsOneOf a (alternatives sort) → Fits (Part sort ∷ ss) → Fits (a ++ ss)
fits_part sort a ss among fits = fits_append sort a ss (all_at (is_followed sort) a (alternatives sort) (told sort).followed among) fits.0 fits.1

-- the alternative that a derivation takes is open
opens : (n : ℕ) (sort : Sort) (a ss : List Symbol) (depth : ℕ) (ms : List Mark) → Fits (Part sort ∷ ss) → Derives n (a ++ ss) depth ms
    → is_open sort (look (tokens ms)) a ≡ true
opens n sort a ss depth ms fits derived =
    let k = look (tokens ms) in
    begin_more (can ss k) (follows sort k) a k (fits.0 k (ahead_below (next_class (tokens ms))))
    (subst (λ b. b ≡ true) (begin_append (k == 47) a ss k) (begins n (a ++ ss) depth ms derived))

-- the alternative that a derivation takes was chosen
pub takes : (n : ℕ) (sort : Sort) (a b ss : List Symbol) (depth : ℕ) (ms : List Mark) → Fits (Part sort ∷ ss)
    → chosen sort (look (tokens ms)) ≡ Some a → IsOneOf b (alternatives sort) → Derives n (b ++ ss) depth ms → b ≡ a
takes n sort a b ss depth ms fits found among derived =
    let k = look (tokens ms) in
    only_one (is_open sort k) a b (alternatives sort)
    (all_below_at 48 k (λ m. at_most_one (is_open sort m) (alternatives sort)) (told sort).one (ahead_below (next_class (tokens ms))))
    found among (opens n sort b ss depth ms fits derived)

-- where no alternative was chosen, there is no derivation
pub takes_none : (n : ℕ) (sort : Sort) (b ss : List Symbol) (depth : ℕ) (ms : List Mark) → Fits (Part sort ∷ ss)
    → chosen sort (look (tokens ms)) ≡ None → IsOneOf b (alternatives sort) → Derives n (b ++ ss) depth ms → ⊥
takes_none n sort b ss depth ms fits found among derived = none_passes (is_open sort (look (tokens ms))) b (alternatives sort) found among
    (opens n sort b ss depth ms fits derived)

-- two derivations before which the same comes next take the same alternative
pub same_taken : (n m : ℕ) (sort : Sort) (a b ss : List Symbol) (depth : ℕ) (ms ns : List Mark) → Fits (Part sort ∷ ss)
    → look (tokens ns) ≡ look (tokens ms) → IsOneOf a (alternatives sort) → IsOneOf b (alternatives sort) → Derives n (a ++ ss) depth ms
    → Derives m (b ++ ss) depth ns → b ≡ a
same_taken n m sort a b ss depth ms ns fits same first second left right = by (chosen sort (look (tokens ms))) refl
  where
    by : (o : Option (List Symbol)) → chosen sort (look (tokens ms)) ≡ o → b ≡ a
    by None is = absurd (takes_none n sort a ss depth ms fits is first left)
    by (Some c) is = takes m sort c b ss depth ns fits (ap (chosen sort) same ∙ is) second right ∙ sym (takes n sort c a ss depth ms fits is first left)

-- some alternative of light parts there is
some_alternative : (test : List Symbol → Bool) (bs : List (List Symbol)) → list_any test bs ≡ true → (a : List Symbol) × IsOneOf a bs × (test a ≡ true)
some_alternative test [] any = cc
some_alternative test (b ∷ bs) any = elim (or_cases (test b) (list_any test bs) any) [
  | inl here ↦ (b, inl refl, here)
  | inr later ↦ let rest = some_alternative test bs later in (rest.0, inr rest.1, rest.2)
]

-- of each sort
pub light : (sort : Sort) → (a : List Symbol) × IsOneOf a (alternatives sort) × (list_all (is_below (weight sort)) a ≡ true)
light sort = some_alternative (list_all (is_below (weight sort))) (alternatives sort) (told sort).lives

-- what is before the first token, where an alternative stands for its sort
pending_append : (a ss : List Symbol) → pending (a ++ ss) ≤ pending a + pending ss
pending_append [] ss = omega arith
pending_append (Token role class ∷ a) ss = omega arith
pending_append (Opening role class ∷ a) ss = omega arith
pending_append (Leave ∷ a) ss = omega (arith, pending_append a ss)
pending_append (Close ∷ a) ss = omega (arith, pending_append a ss)
pending_append (Part sort ∷ a) ss = omega (arith, pending_append a ss)

-- there it falls
pub pending_falls : (sort : Sort) (a ss : List Symbol) → IsOneOf a (alternatives sort) → pending (a ++ ss) < weight sort + pending ss
pending_falls sort a ss among =
    let lighter = ltb-true (pending a) (weight sort) (all_at (λ b. nat_lt (pending b) (weight sort)) a (alternatives sort) (told sort).falls among) in
    omega (arith, lighter, pending_append a ss)
