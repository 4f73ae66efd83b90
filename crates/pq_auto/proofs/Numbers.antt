-- Places parted by their keys, one place after another.
use Rattle.std.proofs.Common.{ℕ, zero, suc, ◌+◌, ◌≤◌, ◌<◌, ◌≡◌, ◌∙◌, ◌⊎◌, inl, inr, List, [], ◌∷◌, ◌++◌, length, get_or, Some, refl, sym, ap, arith}
use Rattle.std.specs.Prelude.{slice_get}
use Rattle.std.proofs.lemmas.Bool.{cases_lt}
use Rattle.std.proofs.lemmas.List.{get_or_append_left, get_or_push, length-append}
use Rattle.std.proofs.lemmas.Option.{slice_get_within}
use Rattle.pq_auto.specs.Parts.{Parts, GivesNumber, IsParted, class_of, first_of}

-- a number that was in a list stays
module _ (xs : List ℕ) (x : ℕ) where
  old_at : (i : ℕ) → i < length xs → get_or (xs ++ x ∷ []) i 0 ≡ get_or xs i 0
  old_at i h = get_or_append_left xs (x ∷ []) 0 i h

  -- the new one is last
  new_at : (i : ℕ) → i ≡ length xs → get_or (xs ++ x ∷ []) i 0 ≡ x
  new_at i is = get_or_push xs x 0 i (sym is)

  -- a place is an old one or the last
  place : (i : ℕ) → i < length (xs ++ x ∷ []) → (i < length xs) ⊎ (i ≡ length xs)
  place i h = elim (cases_lt i (length xs)) [ inl before ↦ inl before | inr past ↦ inr (omega (arith, length-append xs (x ∷ []))) ]

-- a key that was seen keeps its place
seen_kept : (xs : List (List ℕ)) (x : List ℕ) (i : ℕ) (k : List ℕ) → slice_get xs i ≡ Some k → slice_get (xs ++ x ∷ []) i ≡ Some k
seen_kept [] x i k h = absurd cc
seen_kept (y ∷ xs) x zero k h = h
seen_kept (y ∷ xs) x (suc i) k h = seen_kept xs x i k h

-- the new key is last
seen_last : (xs : List (List ℕ)) (x : List ℕ) → slice_get (xs ++ x ∷ []) (length xs) ≡ Some x
seen_last [] x = refl
seen_last (y ∷ xs) x = seen_last xs x

module _ (key : ℕ → List ℕ) (p : Parts) (parted : IsParted key p) where
  -- the class of a place is among the classes
  pub class_within : (i : ℕ) → i < length p.classes → class_of p i < length p.firsts
  class_within i h =
      let within : class_of p i < length p.seen = slice_get_within p.seen (class_of p i) (key i) (parted.keyed i h) in
      omega (arith, parted.each)

  -- places of one class have one key
  pub one_key : (i j : ℕ) → i < length p.classes → j < length p.classes → class_of p i ≡ class_of p j → key i ≡ key j
  one_key i j hi hj same =
      let a = parted.keyed i hi in
      let b = parted.keyed j hj in
      let c : slice_get p.seen (class_of p i) ≡ slice_get p.seen (class_of p j) = ap (slice_get p.seen) same in
      cc (a, b, c)

  -- a key that was seen is that of its class
  one_class : (c i : ℕ) → i < length p.classes → slice_get p.seen c ≡ Some (key i) → class_of p i ≡ c
  one_class c i h at =
      let seen : c < length p.seen = slice_get_within p.seen c (key i) at in
      let here : c < length p.firsts = omega (arith, parted.each) in
      let f : ℕ = first_of p c in
      let own : slice_get p.seen c ≡ Some (key f) = sym (ap (slice_get p.seen) (parted.first c here)) ∙ parted.keyed f (parted.within c here) in
      let same : key i ≡ key f = cc (own, at) in
      parted.together i f h (parted.within c here) same ∙ parted.first c here

  abbrev n : ℕ
  n = length p.classes

  -- one place more, whose key was seen
  pub again : (c : ℕ) → slice_get p.seen c ≡ Some (key (length p.classes))
      → IsParted key (record { seen = p.seen; classes = p.classes ++ c ∷ []; firsts = p.firsts })
  again c at = record {
    each = parted.each;
    keyed = λ i h. keyed i (place p.classes c i h);
    together = λ i j hi hj. together i j (place p.classes c i hi) (place p.classes c j hj);
    within = λ d h. let w = parted.within d h in omega (arith, w, length-append p.classes (c ∷ []));
    first = λ d h. old_at p.classes c (first_of p d) (parted.within d h) ∙ parted.first d h;
    least = λ i h. least i (place p.classes c i h);
    ascend = parted.ascend;
  }
    where
      keyed : (i : ℕ) → (i < length p.classes) ⊎ (i ≡ length p.classes) → slice_get p.seen (get_or (p.classes ++ c ∷ []) i 0) ≡ Some (key i)
      keyed i (inl h) = rw (old_at p.classes c i h) (parted.keyed i h)
      keyed i (inr is) = rw (new_at p.classes c i is, is) at

      together : (i j : ℕ) → (i < length p.classes) ⊎ (i ≡ length p.classes) → (j < length p.classes) ⊎ (j ≡ length p.classes)
          → key i ≡ key j → get_or (p.classes ++ c ∷ []) i 0 ≡ get_or (p.classes ++ c ∷ []) j 0
      together i j (inl hi) (inl hj) same = old_at p.classes c i hi ∙ parted.together i j hi hj same ∙ sym (old_at p.classes c j hj)
      together i j (inl hi) (inr is) same = old_at p.classes c i hi ∙ one_class c i hi (at ∙ ap Some (sym (same ∙ ap key is))) ∙ sym (new_at p.classes c j is)
      together i j (inr is) (inl hj) same = new_at p.classes c i is ∙ sym (one_class c j hj (at ∙ ap Some (sym (ap key is) ∙ same)))
          ∙ sym (old_at p.classes c j hj)
      together i j (inr is) (inr js) same = new_at p.classes c i is ∙ sym (new_at p.classes c j js)

      least : (i : ℕ) → (i < length p.classes) ⊎ (i ≡ length p.classes) → get_or p.firsts (get_or (p.classes ++ c ∷ []) i 0) 0 ≤ i
      least i (inl h) = rw (old_at p.classes c i h) (parted.least i h)
      least i (inr is) =
          let seen : c < length p.seen = slice_get_within p.seen c (key (length p.classes)) at in
          let within = parted.within c (omega (arith, parted.each)) in
          rw (new_at p.classes c i is) (omega (arith, within))

  -- one place more, whose key is new
  pub fresh : (c : ℕ) → c ≡ length p.seen → ((d : ℕ) → slice_get p.seen d ≡ Some (key (length p.classes)) → ⊥) → IsParted key (record {
    seen = p.seen ++ key (length p.classes) ∷ [];
    classes = p.classes ++ c ∷ [];
    firsts = p.firsts ++ length p.classes ∷ [];
  })
  fresh c is_next none = record {
    each = length-append p.seen (key n ∷ []) ∙ ap (λ m. m + 1) parted.each ∙ sym (length-append p.firsts (n ∷ []));
    keyed = λ i h. keyed i (place p.classes c i h);
    together = λ i j hi hj. together i j (place p.classes c i hi) (place p.classes c j hj);
    within = λ d h. within d (place p.firsts n d h);
    first = λ d h. first d (place p.firsts n d h);
    least = λ i h. least i (place p.classes c i h);
    ascend = λ d e less h. ascend d e less (place p.firsts n e h);
  }
    where
      keyed : (i : ℕ) → (i < length p.classes) ⊎ (i ≡ length p.classes) → slice_get (p.seen ++ key n ∷ []) (get_or (p.classes ++ c ∷ []) i 0) ≡ Some (key i)
      keyed i (inl h) = rw (old_at p.classes c i h) (seen_kept p.seen (key n) (class_of p i) (key i) (parted.keyed i h))
      keyed i (inr is) = rw (new_at p.classes c i is, is_next, is) (seen_last p.seen (key n))

      together : (i j : ℕ) → (i < length p.classes) ⊎ (i ≡ length p.classes) → (j < length p.classes) ⊎ (j ≡ length p.classes)
          → key i ≡ key j → get_or (p.classes ++ c ∷ []) i 0 ≡ get_or (p.classes ++ c ∷ []) j 0
      together i j (inl hi) (inl hj) same = old_at p.classes c i hi ∙ parted.together i j hi hj same ∙ sym (old_at p.classes c j hj)
      together i j (inl hi) (inr is) same = absurd (none (class_of p i) (parted.keyed i hi ∙ ap Some (same ∙ ap key is)))
      together i j (inr is) (inl hj) same = absurd (none (class_of p j) (parted.keyed j hj ∙ ap Some (sym same ∙ ap key is)))
      together i j (inr is) (inr js) same = new_at p.classes c i is ∙ sym (new_at p.classes c j js)

      within : (d : ℕ) → (d < length p.firsts) ⊎ (d ≡ length p.firsts) → get_or (p.firsts ++ n ∷ []) d 0 < length (p.classes ++ c ∷ [])
      within d (inl h) = let w = parted.within d h in rw (old_at p.firsts n d h) (omega (arith, w, length-append p.classes (c ∷ [])))
      within d (inr is) = rw (new_at p.firsts n d is) (omega (arith, length-append p.classes (c ∷ [])))

      first : (d : ℕ) → (d < length p.firsts) ⊎ (d ≡ length p.firsts) → get_or (p.classes ++ c ∷ []) (get_or (p.firsts ++ n ∷ []) d 0) 0 ≡ d
      first d (inl h) = rw (old_at p.firsts n d h) (old_at p.classes c (first_of p d) (parted.within d h) ∙ parted.first d h)
      first d (inr is) = rw (new_at p.firsts n d is) (new_at p.classes c n refl ∙ is_next ∙ parted.each ∙ sym is)

      least : (i : ℕ) → (i < length p.classes) ⊎ (i ≡ length p.classes) → get_or (p.firsts ++ n ∷ []) (get_or (p.classes ++ c ∷ []) i 0) 0 ≤ i
      least i (inl h) = rw (old_at p.classes c i h, old_at p.firsts n (class_of p i) (class_within i h)) (parted.least i h)
      least i (inr is) = rw (new_at p.classes c i is, new_at p.firsts n c (is_next ∙ parted.each)) (omega (arith, is))

      ascend : (d e : ℕ) → d < e → (e < length p.firsts) ⊎ (e ≡ length p.firsts) → get_or (p.firsts ++ n ∷ []) d 0 < get_or (p.firsts ++ n ∷ []) e 0
      ascend d e less (inl h) = rw (old_at p.firsts n d (omega arith), old_at p.firsts n e h) (parted.ascend d e less h)
      ascend d e less (inr is) =
          let h : d < length p.firsts = omega arith in
          rw (old_at p.firsts n d h, new_at p.firsts n e is) (parted.within d h)

  -- one place more, whose key has this number, with its first place where the number is the next
  pub added : (k : List ℕ) (c : ℕ) (seen : List (List ℕ)) (classes firsts : List ℕ) → key (length p.classes) ≡ k
      → GivesNumber p.seen k c seen → classes ≡ p.classes ++ c ∷ []
      → ((c ≡ length p.firsts) × (firsts ≡ p.firsts ++ length p.classes ∷ [])) ⊎ ((c ≡ length p.firsts → ⊥) × (firsts ≡ p.firsts))
      → IsParted key (record { seen = seen; classes = classes; firsts = firsts })
  added k c seen classes firsts own (inl found) grown (inl first) =
      absurd (let h : c < length p.seen = slice_get_within p.seen c k found.1 in omega (arith, h, parted.each, first.0))
  added k c seen classes firsts own (inl found) grown (inr other) = rw (found.0, grown, other.1) (again c (found.1 ∙ ap Some (sym own)))
  added k c seen classes firsts own (inr next) grown (inl first) =
      rw (next.0, grown, first.1, ← own) (fresh c next.1 (λ d at. next.2 d (at ∙ ap Some own)))
  added k c seen classes firsts own (inr next) grown (inr other) = absurd (other.0 (next.1 ∙ parted.each))
