-- Concatenation and repetition, by the first half step of a word.
use Rattle.std.proofs.Common.{◌≡◌, ℕ, zero, suc, ◌≤◌, Bool, true, false, ◌&&◌, ◌||◌, inl, inr, List, [], ◌∷◌, length, map, refl, sym, arith, rules, ◌∙◌}
use Rattle.std.specs.List.{list_any}
use Rattle.std.specs.Cmp.{both_ways}
use Rattle.std.proofs.lemmas.Bool.{or_left, or_right, and_parts, or_cases}
use Rattle.pq_expr.specs.Word.{HalfStep, Word}
use Rattle.pq_expr.specs.Language.{Language, Cut, cuts, joined, in_pieces, repeated}

-- what a language holds after a half step
abbrev pub after : HalfStep → Language → Language
after l P w = P (l ∷ w)

-- a test of changed elements
pub any_changed : {A B : Type 0} (f : A → B) (t : B → Bool) (xs : List A) → list_any t (map f xs) ≡ list_any (λ x. t (f x)) xs
any_changed f t [] = refl
any_changed f t (x ∷ xs) = rw (any_changed f t xs) refl

-- a word that isn't empty is cut at its front, or after its first half step
pub joined_cons : (P Q : Language) (l : HalfStep) (w : Word) → joined P Q (l ∷ w) ≡ ((P [] && Q (l ∷ w)) || joined (after l P) Q w)
joined_cons P Q l w = rw (any_changed {B = Cut} (λ c. record { before = l ∷ c.before; behind = c.behind }) (λ c. P c.before && Q c.behind) (cuts w)) refl

-- the empty word has one cut
pub joined_empty : (P Q : Language) → joined P Q [] ≡ (P [] && Q [])
joined_empty P Q = by (P [] && Q []) where
  by : (b : Bool) → (b || false) ≡ b
  by true = refl
  by false = refl

-- a cut stays one where the second language holds more of what can be after it
pub joined_wider : (w : Word) (P Q R : Language) → ((v : Word) → length v ≤ length w → Q v ≡ true → R v ≡ true) → joined P Q w ≡ true → joined P R w ≡ true
joined_wider [] P Q R wider h = let cut = and_parts (P []) (Q []) (sym (joined_empty P Q) ∙ h) in joined_empty P R
    ∙ rw (cut.0, wider [] (omega arith) cut.1) refl
joined_wider (l ∷ w) P Q R wider h =
    joined_cons P R l w ∙ elim (or_cases _ _ (sym (joined_cons P Q l w) ∙ h)) [
      | inl front ↦ (let cut = and_parts (P []) (Q (l ∷ w)) front in
          or_left (P [] && R (l ∷ w)) (joined (after l P) R w) (rw (cut.0, wider (l ∷ w) (omega arith) cut.1) refl))
      | inr later ↦ or_right _ _ (joined_wider w (after l P) Q R (λ v short. wider v (omega (arith, short))) later)
    ]

-- a repetition needs no more pieces than the word has half steps
pub enough_pieces : (n k : ℕ) (P : Language) (w : Word) → length w ≤ k → in_pieces P n w ≡ true → in_pieces P k w ≡ true
enough_pieces n zero P [] few h = refl
enough_pieces n (suc k) P [] few h = refl
enough_pieces n zero P (l ∷ w) few h = absurd (omega (arith, few))
enough_pieces zero (suc k) P (l ∷ w) few h = absurd (search (h, rules))
enough_pieces (suc n) (suc k) P (l ∷ w) few h =
    elim (or_cases _ _ (sym (joined_cons P (in_pieces P n) l w) ∙ h)) [
      | inl front ↦ enough_pieces n (suc k) P (l ∷ w) few (and_parts (P []) (in_pieces P n (l ∷ w)) front).1
      | inr later ↦ joined_cons P (in_pieces P k) l w
          ∙ or_right _ _ (joined_wider w (after l P) (in_pieces P n) (in_pieces P k)
          (λ v short. enough_pieces n k P v (omega (arith, short, few))) later)
    ]

pub any_number : (P : Language) (n : ℕ) (w : Word) → in_pieces P n w ≡ true → repeated P w ≡ true
any_number P n w h = enough_pieces n (length w) P w (omega arith) h

-- after a half step, pieces are what is left of the first that isn't empty, and then pieces
pieces_later : (n : ℕ) (P : Language) (l : HalfStep) (w : Word) → in_pieces P n (l ∷ w) ≡ true → joined (after l P) (repeated P) w ≡ true
pieces_later zero P l w h = absurd (search (h, rules))
pieces_later (suc n) P l w h =
    elim (or_cases _ _ (sym (joined_cons P (in_pieces P n) l w) ∙ h)) [
      | inl front ↦ pieces_later n P l w (and_parts (P []) (in_pieces P n (l ∷ w)) front).1
      | inr later ↦ joined_wider w (after l P) (in_pieces P n) (repeated P) (λ v short. any_number P n v) later
    ]

pieces_sooner : (P : Language) (l : HalfStep) (w : Word) → joined (after l P) (repeated P) w ≡ true → repeated P (l ∷ w) ≡ true
pieces_sooner P l w h = joined_cons P (in_pieces P (length w)) l w
    ∙ or_right _ _ (joined_wider w (after l P) (repeated P) (in_pieces P (length w))
    (λ v short. enough_pieces (length v) (length w) P v short) h)

-- after a half step, a repetition is what is left of a word, and then the repetition
pub repeated_cons : (P : Language) (l : HalfStep) (w : Word) → repeated P (l ∷ w) ≡ joined (after l P) (repeated P) w
repeated_cons P l w = both_ways _ _ (pieces_later (suc (length w)) P l w) (pieces_sooner P l w)
