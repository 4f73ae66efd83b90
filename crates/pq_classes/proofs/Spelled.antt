-- Words of least packets: each letter of a word of letters is spelled by its least packet.
use Rattle.std.proofs.Common.{◌≡◌, ◌<◌, ℕ, suc, Bool, true, false, not, if◌then◌else◌, List, [], ◌∷◌, ◌++◌, length, get_or, refl, sym, ap, ap₂, subst, ◌∙◌}
use Rattle.std.specs.Option.{unwrap_or}
use Rattle.std.proofs.lemmas.List.{map-append}
use Rattle.std.proofs.lemmas.List.Elements.{All-head, All-tail, All-nil, All-cons, All-append}
use Rattle.pq_fields.specs.Packet.{Numbers, Fit, zero_packet}
use Rattle.pq_model.specs.Word.{Word, Observation, In, Out, alternates, observed_packet}
use Rattle.pq_model.specs.Classes.{AllObservedFit, IsPath, has_even_length}
use Rattle.pq_auto.specs.Machine.{AllBelow, has_even_length as has_even_count}
use Rattle.pq_letters.specs.Letters.{LettersValue, IsLettered}
use Rattle.pq_letters.specs.Words.{letter_number, letters_of, least_word}

-- an In, or an Out
abbrev pub observation : Bool → Numbers → Observation
observation true x = In x
observation false x = Out x

observed : (enters : Bool) (x : Numbers) → observed_packet (observation enters x) ≡ x
observed true x = refl
observed false x = refl

-- the packet that is observed fits
pub IsFitting : Observation → Type 0
IsFitting o = Fit (observed_packet o)

module _ (a : LettersValue) where
  -- the word of least packets with these letters; the flag says that it begins with In
  abbrev pub spelled : Bool → List ℕ → Word
  spelled enters [] = []
  spelled enters (l ∷ ls) = observation enters (get_or a.least l zero_packet) ∷ spelled (not enters) ls

  spelled_long : (enters : Bool) (ls : List ℕ) → length (spelled enters ls) ≡ length ls
  spelled_long enters [] = refl
  spelled_long enters (l ∷ ls) = ap suc (spelled_long (not enters) ls)

  -- it alternates
  pub spelled_alternates : (enters : Bool) (ls : List ℕ) → alternates enters (spelled enters ls) ≡ true
  spelled_alternates enters [] = refl
  spelled_alternates true (l ∷ ls) = spelled_alternates false ls
  spelled_alternates false (l ∷ ls) = spelled_alternates true ls

  -- the parity of its length is that of its letters
  pub spelled_even : (enters : Bool) (ls : List ℕ) → has_even_length (spelled enters ls) ≡ has_even_count ls
  spelled_even enters [] = refl
  spelled_even enters (l ∷ ls) = ap not (spelled_even (not enters) ls)

  -- the word of least packets is that of the word's letters
  pub least_spelled : (enters : Bool) (w : Word) → alternates enters w ≡ true → least_word a w ≡ spelled enters (letters_of a w)
  least_spelled enters [] h = refl
  least_spelled true (In x ∷ w) h = ap (λ v. In (get_or a.least (letter_number a x) zero_packet) ∷ v) (least_spelled false w h)
  least_spelled false (Out x ∷ w) h = ap (λ v. Out (get_or a.least (letter_number a x) zero_packet) ∷ v) (least_spelled true w h)
  least_spelled true (Out x ∷ w) h = absurd cc
  least_spelled false (In x ∷ w) h = absurd cc

  -- the letters of a word and then of more
  pub letters_append : (u v : Word) → letters_of a (u ++ v) ≡ letters_of a u ++ letters_of a v
  letters_append u v = map-append (λ o. letter_number a (observed_packet o)) u v

  pub even_letters : (w : Word) → has_even_count (letters_of a w) ≡ has_even_length w
  even_letters [] = refl
  even_letters (o ∷ w) = ap not (even_letters w)

module _ (a : LettersValue) (lettered : IsLettered a) where
  -- the letter of a least packet
  letter_back : (l : ℕ) → l < length a.least → letter_number a (get_or a.least l zero_packet) ≡ l
  letter_back l below = ap (λ o. unwrap_or o 0) (lettered.each l below).has

  -- a word of least packets has the letters that it spells
  pub letters_spelled : (enters : Bool) (ls : List ℕ) → AllBelow (length a.least) ls → letters_of a (spelled a enters ls) ≡ ls
  letters_spelled enters [] below = refl
  letters_spelled enters (l ∷ ls) (first, rest) =
      ap₂ (λ k ks. k ∷ ks) (ap (letter_number a) (observed enters (get_or a.least l zero_packet)) ∙ letter_back l first) (letters_spelled (not enters) ls rest)

  -- its packets fit
  pub spelled_fits : (enters : Bool) (ls : List ℕ) → AllBelow (length a.least) ls → AllObservedFit (spelled a enters ls)
  spelled_fits enters [] below = All-nil (λ o. Fit (observed_packet o))
  spelled_fits enters (l ∷ ls) (first, rest) =
      All-cons (λ o. Fit (observed_packet o)) (observation enters (get_or a.least l zero_packet)) (spelled a (not enters) ls)
      (subst Fit (sym (observed enters (get_or a.least l zero_packet))) (lettered.each l first).fit)
      (spelled_fits (not enters) ls rest)

  -- so it is a word of packets
  pub spelled_path : (ls : List ℕ) → AllBelow (length a.least) ls → IsPath (spelled a true ls)
  spelled_path ls below = (spelled_alternates a true ls, spelled_fits true ls below)

  -- the letters of packets are letters
  pub letters_below : (w : Word) → AllObservedFit w → AllBelow (length a.least) (letters_of a w)
  letters_below [] fit = tt
  letters_below (o ∷ w) fit =
      let whole = lettered.whole (observed_packet o) (All-head (λ o. Fit (observed_packet o)) o w fit) in
      let number : letter_number a (observed_packet o) ≡ whole.0 = ap (λ l. unwrap_or l 0) whole.2 in
      (subst (λ k. k < length a.least) (sym number) whole.1, letters_below w (All-tail (λ o. Fit (observed_packet o)) o w fit))

-- where a word ends, the next observation is an In after an even length
pub alternates_append : (enters : Bool) (u e : Word) → alternates enters u ≡ true
    → alternates (if has_even_length u then enters else not enters) e ≡ true → alternates enters (u ++ e) ≡ true
alternates_append enters [] e h k = k
alternates_append true (In x ∷ u) e h k = alternates_append false u e h (turned (has_even_length u) e k)
  where
    turned : (b : Bool) (e : Word) → alternates (if not b then true else false) e ≡ true → alternates (if b then false else true) e ≡ true
    turned true e k = k
    turned false e k = k
alternates_append false (Out x ∷ u) e h k = alternates_append true u e h (turned (has_even_length u) e k)
  where
    turned : (b : Bool) (e : Word) → alternates (if not b then false else true) e ≡ true → alternates (if b then true else false) e ≡ true
    turned true e k = k
    turned false e k = k
alternates_append true (Out x ∷ u) e h k = absurd cc
alternates_append false (In x ∷ u) e h k = absurd cc

-- a word with least packets after it is a word of packets
pub path_more : (a : LettersValue) → IsLettered a → (u : Word) → IsPath u → (ls : List ℕ) → AllBelow (length a.least) ls
    → IsPath (u ++ spelled a (has_even_length u) ls)
path_more a lettered u (is, fits) ls below = (
  alternates_append true u (spelled a (has_even_length u) ls) is (by (has_even_length u)),
  All-append (λ o. Fit (observed_packet o)) u (spelled a (has_even_length u) ls) fits (spelled_fits a lettered (has_even_length u) ls below),
)
  where
    by : (b : Bool) → alternates (if b then true else false) (spelled a b ls) ≡ true
    by true = spelled_alternates a true ls
    by false = spelled_alternates a false ls

-- the parity of a word and more
pub even_append : (u v w : Word) → has_even_length u ≡ has_even_length v → has_even_length (u ++ w) ≡ has_even_length (v ++ w)
even_append u v w same = by u ∙ ap (λ b. if b then has_even_length w else not (has_even_length w)) same ∙ sym (by v)
  where
    step : (b c : Bool) → not (if b then c else not c) ≡ (if not b then c else not c)
    step true c = refl
    step false true = refl
    step false false = refl

    by : (u : Word) → has_even_length (u ++ w) ≡ (if has_even_length u then has_even_length w else not (has_even_length w))
    by [] = refl
    by (o ∷ u) = ap not (by u) ∙ step (has_even_length u) (has_even_length w)
