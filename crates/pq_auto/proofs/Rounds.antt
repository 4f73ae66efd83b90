-- Each round keeps together what is the same; classes of the last round lead to classes.
use Rattle.std.proofs.Common.{ℕ, ◌≤◌, ◌<◌, ◌≡◌, ◌∙◌, List, [], ◌∷◌, length, get_or, refl, sym, ap, ap₂, arith}
use Rattle.std.specs.Prelude.{Bool, true, false, map}
use Rattle.std.proofs.lemmas.List.{get_or-map, length-map, ext_get_or}
use Rattle.pq_auto.specs.Machine.{Machine, IsMachine, AreSame, AllBelow, follow, is_even_at, accepted_at}
use Rattle.pq_auto.proofs.Below.{one_below}
use Rattle.pq_auto.specs.Parts.{Parts, IsParted, class_of}
use Rattle.pq_auto.specs.Refinement.{IsRound, IsLast, parity_number, mark, signature, row_of}
use Rattle.pq_auto.proofs.Numbers.{one_key, class_within}
use Rattle.pq_auto.proofs.Settled.{settled}

-- the parities of two marks that are equal
parity_of : (a b : Bool) → parity_number a ≡ parity_number b → a ≡ b
parity_of true true e = refl
parity_of false false e = refl
parity_of true false e = absurd (omega arith)
parity_of false true e = absurd (omega arith)

-- the state after a letter
abbrev pub next : Machine → ℕ → ℕ → ℕ
next m s l = get_or (row_of m s) l 0

-- the class of a state is a class
pub class_in : (m : Machine) (p : Parts) → IsRound m p → (s : ℕ) → s < length m.rows → class_of p s < length p.firsts
class_in m p round s h = class_within round.key p round.parted s (omega (arith, round.whole))

module _ (m : Machine) (machine : IsMachine m) where
  -- a letter is in each row
  pub letter_in : (s l : ℕ) → s < length m.rows → l < m.letters → l < length (row_of m s)
  letter_in s l h hl = let long = machine.long s h in omega (arith, long)

  -- the next state is a state
  pub next_within : (s l : ℕ) → s < length m.rows → l < m.letters → next m s l < length m.rows
  next_within s l h hl = one_below (length m.rows) (row_of m s) l 0 (machine.within s h) (letter_in s l h hl)

  -- a word leads to a state
  pub follow_within : (w : List ℕ) (s : ℕ) → AllBelow m.letters w → s < length m.rows → follow m.rows s w < length m.rows
  follow_within [] s below h = h
  follow_within (l ∷ w) s below h = follow_within w (next m s l) below.1 (next_within s l h below.0)

  -- states of one mark have one parity, and accept the same
  pub same_parity : (s t : ℕ) → mark m s ≡ mark m t → is_even_at m s ≡ is_even_at m t
  same_parity s t e = parity_of (is_even_at m s) (is_even_at m t) cc

  pub same_accepted : (s t : ℕ) → mark m s ≡ mark m t → accepted_at m s ≡ accepted_at m t
  same_accepted s t e = cc

  -- what is the same has one mark
  same_mark : (s t : ℕ) → AreSame m s t → mark m s ≡ mark m t
  same_mark s t same = let here = same [] tt in ap₂ (λ (b : Bool) (xs : List ℕ). parity_number b ∷ xs) here.0 here.1

  -- rows by classes are equal where each letter leads to one class
  pub rows_same : (p : Parts) (s t : ℕ) → s < length m.rows → t < length m.rows
      → ((l : ℕ) → l < m.letters → class_of p (next m s l) ≡ class_of p (next m t l))
      → map (class_of p) (row_of m s) ≡ map (class_of p) (row_of m t)
  rows_same p s t hs ht each =
      ext_get_or 0 (map (class_of p) (row_of m s)) (map (class_of p) (row_of m t))
      (length-map (row_of m s) (class_of p) ∙ machine.long s hs ∙ sym (length-map (row_of m t) (class_of p) ∙ machine.long t ht))
      (λ l h. let hl : l < m.letters = (let long = machine.long s hs in omega (arith, long, length-map (row_of m s) (class_of p))) in one l hl)
    where
      one : (l : ℕ) → l < m.letters → get_or (map (class_of p) (row_of m s)) l 0 ≡ get_or (map (class_of p) (row_of m t)) l 0
      one l hl = get_or-map (class_of p) (row_of m s) l 0 0 (letter_in s l hs hl) ∙ each l hl
          ∙ sym (get_or-map (class_of p) (row_of m t) l 0 0 (letter_in t l ht hl))

  -- a letter leads to one class where rows by classes are equal
  pub classes_same : (p : Parts) (s t l : ℕ) → s < length m.rows → t < length m.rows → l < m.letters
      → map (class_of p) (row_of m s) ≡ map (class_of p) (row_of m t) → class_of p (next m s l) ≡ class_of p (next m t l)
  classes_same p s t l hs ht hl same =
      sym (get_or-map (class_of p) (row_of m s) l 0 0 (letter_in s l hs hl)) ∙ ap (λ row. get_or row l 0) same
      ∙ get_or-map (class_of p) (row_of m t) l 0 0 (letter_in t l ht hl)

  -- the first round: parts by marks
  pub marked : (p : Parts) → IsParted (mark m) p → length p.classes ≡ length m.rows → IsRound m p
  marked p parted whole = record {
    key = mark m;
    parted = parted;
    whole = whole;
    coarse = λ s t hs ht same. parted.together s t (omega (arith, whole)) (omega (arith, whole)) (same_mark s t same);
    fine = λ s t hs ht same. one_key (mark m) p parted s t (omega (arith, whole)) (omega (arith, whole)) same;
  }

  module _ (p q : Parts) (round : IsRound m p) (parted : IsParted (signature m p) q) (whole : length q.classes ≡ length m.rows) where
    -- states of one class have one signature
    one_signature : (s t : ℕ) → s < length m.rows → t < length m.rows → class_of q s ≡ class_of q t → signature m p s ≡ signature m p t
    one_signature s t hs ht same = one_key (signature m p) q parted s t (omega (arith, whole)) (omega (arith, whole)) same

    -- so they were of one class
    refines : (s t : ℕ) → s < length m.rows → t < length m.rows → class_of q s ≡ class_of q t → class_of p s ≡ class_of p t
    refines s t hs ht same = let e = one_signature s t hs ht same in cc

    -- and their rows were equal
    one_row : (s t : ℕ) → s < length m.rows → t < length m.rows → class_of q s ≡ class_of q t → map (class_of p) (row_of m s) ≡ map (class_of p) (row_of m t)
    one_row s t hs ht same = let e = one_signature s t hs ht same in cc

    -- what is the same has one signature
    same_signature : (s t : ℕ) → s < length m.rows → t < length m.rows → AreSame m s t → signature m p s ≡ signature m p t
    same_signature s t hs ht same =
        ap₂ (λ (c : ℕ) (row : List ℕ). c ∷ row) (round.coarse s t hs ht same)
        (rows_same p s t hs ht (λ l hl. round.coarse (next m s l) (next m t l) (next_within s l hs hl) (next_within t l ht hl)
        (λ w below. same (l ∷ w) (hl, below))))

    -- the next round: parts by signatures
    pub refined : IsRound m q
    refined = record {
      key = signature m p;
      parted = parted;
      whole = whole;
      coarse = λ s t hs ht same. parted.together s t (omega (arith, whole)) (omega (arith, whole)) (same_signature s t hs ht same);
      fine = λ s t hs ht same. round.fine s t hs ht (refines s t hs ht same);
    }

    -- after a round that adds no class, classes lead to classes
    pub last : length q.firsts ≤ length p.firsts → IsLast m p
    last few = record {
      round = round;
      leads = λ s t hs ht same. one_row s t hs ht (stays s hs ∙ same ∙ sym (stays t ht));
    }
      where
        stays : (s : ℕ) → s < length m.rows → class_of q s ≡ class_of p s
        stays s h = settled round.key (signature m p) p q round.parted parted (whole ∙ sym round.whole)
            (λ i j hi hj. refines i j (omega (arith, round.whole)) (omega (arith, round.whole))) few s (omega (arith, round.whole))
