-- The least packets of letters spell words of letters.
use Rattle.std.proofs.Common.{◌≡◌, ◌<◌, ℕ, Bool, true, false, List, [], ◌∷◌, ◌++◌, Some, length, get_or, flat_map, refl, sym, ap, ap₂}
use Rattle.std.proofs.Common.{subst, ◌∙◌, inl, inr, arith}
use Rattle.std.specs.Option.{unwrap_or}
use Rattle.std.proofs.lemmas.List.Elements.{All-head, All-tail}
use Rattle.std.proofs.lemmas.List.{length-map}
use Rattle.pq_fields.specs.Packet.{Numbers, Fit, is_before, numbers, zero_packet}
use Rattle.pq_model.specs.Classes.{AllObservedFit}
use Rattle.pq_model.specs.Word.{Word, Observation, In, Out, alternates, observed_packet, word_is_before}
use Rattle.pq_store.specs.Least.{precedes}
use Rattle.pq_letters.specs.Letters.{LettersValue, IsLettered, IsLeastOf, letter_at}
use Rattle.pq_letters.specs.Words.{least_observation, least_word, letter_number, letters_are_before, letters_of}
use Rattle.pq_model.proofs.NumberLists.{by_first, by_piece, first_or_rest, not_by_piece, same_first, same_piece}

-- the numbers of the packets that a word observes, one packet after the other
abbrev spelling : Word → List ℕ
spelling w = flat_map (λ o. numbers (observed_packet o)) w

-- the packet that a word observes first fits
first_fits : (o : Observation) (w : Word) → AllObservedFit (o ∷ w) → Fit (observed_packet o)
first_fits o w fit = All-head (λ o. Fit (observed_packet o)) o w fit

-- and so do those that it observes later
rest_fits : (o : Observation) (w : Word) → AllObservedFit (o ∷ w) → AllObservedFit w
rest_fits o w fit = All-tail (λ o. Fit (observed_packet o)) o w fit

module _ (a : LettersValue) where
  -- the letter of the packet that is observed
  abbrev letter : Observation → ℕ
  letter o = letter_number a (observed_packet o)

  -- the packet that is observed in its place: the least one of its letter
  abbrev least_packet : Observation → Numbers
  least_packet o = observed_packet (least_observation a o)

  -- it is the one in the list of least packets
  observed_least : (o : Observation) → least_packet o ≡ get_or a.least (letter o) zero_packet
  observed_least (In x) = refl
  observed_least (Out x) = refl

  -- the word with the least packets alternates as the word does
  pub least_alternates : (enters : Bool) (w : Word) → alternates enters (least_word a w) ≡ alternates enters w
  least_alternates enters [] = refl
  least_alternates true (In x ∷ w) = least_alternates false w
  least_alternates true (Out x ∷ w) = refl
  least_alternates false (In x ∷ w) = refl
  least_alternates false (Out x ∷ w) = least_alternates true w

module _ (a : LettersValue) (lettered : IsLettered a) where
  -- the letter of a packet is one of the letters, and the packet has it
  letter_is : (x : Numbers) → Fit x → (letter_number a x < length a.least) × (letter_at a x ≡ Some (letter_number a x))
  letter_is x fit =
      let whole = lettered.whole x fit in
      let number : letter_number a x ≡ whole.0 = ap (λ o. unwrap_or o 0) whole.2 in
      (subst (λ k. k < length a.least) (sym number) whole.1, whole.2 ∙ ap Some (sym number))

  -- the least packet of the letter is the first of it
  is_least : (o : Observation) → Fit (observed_packet o) → IsLeastOf a (letter a o) (get_or a.least (letter a o) zero_packet)
  is_least o fit = lettered.each (letter a o) (letter_is (observed_packet o) fit).0

  -- the observation with the least packet has the same letter
  same_letter : (o : Observation) → Fit (observed_packet o) → letter_number a (least_packet a o) ≡ letter a o
  same_letter o fit = ap (letter_number a) (observed_least a o) ∙ ap (λ k. unwrap_or k 0) (is_least o fit).has

  -- and so the word with the least packets has the same letters
  pub same_letters : (w : Word) → AllObservedFit w → letters_of a (least_word a w) ≡ letters_of a w
  same_letters [] fit = refl
  same_letters (o ∷ w) fit = ap₂ (λ k ks. k ∷ ks) (same_letter o (first_fits o w fit)) (same_letters w (rest_fits o w fit))

  -- a packet isn't before the least packet of its letter
  not_less : (o : Observation) → Fit (observed_packet o) → precedes (observed_packet o) (least_packet a o) ≡ false
  not_less o fit = subst (λ y. precedes (observed_packet o) y ≡ false) (sym (observed_least a o))
      ((is_least o fit).least (observed_packet o) fit (letter_is (observed_packet o) fit).1)

  -- a word's packets aren't before the least packets of its letters
  not_less_spelling : (w : Word) → AllObservedFit w → is_before (spelling w) (spelling (least_word a w)) ≡ false
  not_less_spelling [] fit = refl
  not_less_spelling (o ∷ w) fit =
      not_by_piece (numbers (observed_packet o)) (numbers (least_packet a o)) (spelling w) (spelling (least_word a w)) refl
      (not_less o (first_fits o w fit))
      (not_less_spelling w (rest_fits o w fit))

  -- a word isn't before the word with the least packets
  pub not_before_least : (w : Word) → AllObservedFit w → word_is_before w (least_word a w) ≡ false
  not_before_least w fit =
      subst (λ n. is_before (length w ∷ spelling w) (n ∷ spelling (least_word a w)) ≡ false) (sym (length-map w (least_observation a)))
      (same_first (length w) (spelling w) (spelling (least_word a w)) ∙ not_less_spelling w fit)

  -- of two observations the one with the lesser letter has the lesser least packet
  lesser_letter : (o p : Observation) → Fit (observed_packet p) → letter a o < letter a p → precedes (least_packet a o) (least_packet a p) ≡ true
  lesser_letter o p fit less =
      subst (λ x. precedes x (least_packet a p) ≡ true) (sym (observed_least a o))
      (subst (λ y. precedes (get_or a.least (letter a o) zero_packet) y ≡ true) (sym (observed_least a p))
      (lettered.ascending (letter a o) (letter a p) zero_packet less (letter_is (observed_packet p) fit).0))

  -- observations with the same letter have the same least packet
  one_letter : (o p : Observation) → letter a o ≡ letter a p → least_packet a o ≡ least_packet a p
  one_letter o p same = observed_least a o ∙ ap (λ k. get_or a.least k zero_packet) same ∙ sym (observed_least a p)

  -- of two words as long as each other, the least packets of the one with the lesser letters are the lesser ones
  lesser_spelling : (v w : Word) → AllObservedFit w → length v ≡ length w → is_before (letters_of a v) (letters_of a w) ≡ true
      → is_before (spelling (least_word a v)) (spelling (least_word a w)) ≡ true
  lesser_spelling [] [] fit long less = less
  lesser_spelling [] (p ∷ w) fit long less = absurd (omega arith)
  lesser_spelling (o ∷ v) [] fit long less = less
  lesser_spelling (o ∷ v) (p ∷ w) fit long less =
      let first = least_packet a o in
      let second = least_packet a p in
      elim (first_or_rest (letter a o) (letter a p) (letters_of a v) (letters_of a w) less) [
        | inl lesser ↦
            by_piece (numbers first) (numbers second) (spelling (least_word a v)) (spelling (least_word a w)) refl
            (lesser_letter o p (first_fits p w fit) lesser)
        | inr same ↦
            subst (λ x. is_before (numbers first ++ spelling (least_word a v)) (numbers x ++ spelling (least_word a w)) ≡ true) (one_letter o p same.0)
            (same_piece (numbers first) (spelling (least_word a v)) (spelling (least_word a w)) ∙ lesser_spelling v w (rest_fits p w fit) (omega arith) same.1)
      ]

  -- of two words of least packets the one with the lesser letters is the lesser
  pub lesser_word : (v w : Word) → AllObservedFit w → letters_are_before (letters_of a v) (letters_of a w) ≡ true
      → word_is_before (least_word a v) (least_word a w) ≡ true
  lesser_word v w fit less =
      let numbered : (u : Word) → length (letters_of a u) ≡ length u = λ u. length-map u (letter a) in
      let spelled : (u : Word) → length (least_word a u) ≡ length u = λ u. length-map u (least_observation a) in
      elim (first_or_rest (length (letters_of a v)) (length (letters_of a w)) (letters_of a v) (letters_of a w) less) [
        | inl shorter ↦ by_first (length (least_word a v)) (length (least_word a w)) (spelling (least_word a v)) (spelling (least_word a w))
            (omega (arith, numbered v, numbered w, spelled v, spelled w))
        | inr same ↦
            let long : length v ≡ length w = sym (numbered v) ∙ same.0 ∙ numbered w in
            subst (λ n. is_before (length (least_word a v) ∷ spelling (least_word a v)) (n ∷ spelling (least_word a w)) ≡ true) (spelled v
            ∙ long ∙ sym (spelled w))
            (same_first (length (least_word a v)) (spelling (least_word a v)) (spelling (least_word a w)) ∙ lesser_spelling v w fit long same.1)
      ]
