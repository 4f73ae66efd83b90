-- The states of a least automaton over letters are the classes of words of packets, numbered by least words.
use Rattle.std.proofs.Common.{◌≡◌, ◌<◌, ◌≤◌, ℕ, suc, zero, Bool, true, false, inl, inr, List, [], ◌∷◌, ◌++◌, length, get_or, refl, sym, ap}
use Rattle.std.proofs.Common.{subst, ◌∙◌, arith, length-append, true≢false}
use Rattle.std.specs.Prelude.{slice_get, Some, All}
use Rattle.std.specs.List.{Contains}
use Rattle.std.proofs.lemmas.Bool.{cases_order}
use Rattle.std.proofs.lemmas.List.Elements.{All-nil, All-push}
use Rattle.std.proofs.lemmas.Option.{slice_get-get_or, slice_get_within, get_or_from_slice_get}
use Rattle.pq_lists.proofs.Places.{older_or_last, last_place}
use Rattle.pq_model.specs.Word.{Word, word_is_before, word_numbers}
use Rattle.pq_model.specs.Classes.{AreSame, HasClasses, IsLeast, IsPath, IsTag, Languages, has_even_length}
use Rattle.pq_auto.specs.Machine.{Machine, AllBelow, IsMachine, IsLeastMachine, follow, reached, is_even_at, accepted_at, has_even_length as has_even_count}
use Rattle.pq_auto.specs.Numbering.{IsNumbered, IsLeastTo}
use Rattle.pq_letters.specs.Letters.{LettersValue, IsLettered}
use Rattle.pq_letters.specs.Words.{least_word, letters_are_before, letters_of}
use Rattle.pq_model.proofs.NumberLists.{not_back, before_trans}
use Rattle.pq_letters.proofs.Spelled.{lesser_word, not_before_least}
use Rattle.pq_classes.specs.Told.{AreClasses, AreHolding, class_of}
use Rattle.pq_classes.proofs.Order.{letters_before, one_word}
use Rattle.pq_classes.proofs.Spelled.{even_append, even_letters, least_spelled, letters_append, letters_below, letters_spelled, path_more}
use Rattle.pq_classes.proofs.Spelled.{spelled, spelled_path}
use Rattle.pq_classes.proofs.Following.{follow_append, follow_within, same_contents}

-- The list of what a function gives for each number below a bound.

pub each_below : {X : Type 0} → (ℕ → X) → ℕ → List X
each_below f zero = []
each_below f (suc n) = each_below f n ++ f n ∷ []

each_long : {X : Type 0} (f : ℕ → X) (n : ℕ) → length (each_below f n) ≡ n
unfolding each_below
each_long f zero = refl
each_long f (suc n) = let more = each_long f n in omega (arith, more, length-append (each_below f n) (f n ∷ []))

push_kept : {X : Type 0} (xs : List X) (y : X) (k : ℕ) (x : X) → slice_get xs k ≡ Some x → slice_get (xs ++ y ∷ []) k ≡ Some x
push_kept [] y k x at = absurd cc
push_kept (z ∷ xs) y zero x at = at
push_kept (z ∷ xs) y (suc k) x at = push_kept xs y k x at

-- what is at a place
each_at : {X : Type 0} (f : ℕ → X) (n k : ℕ) (x : X) → slice_get (each_below f n) k ≡ Some x → (k < n) × (x ≡ f k)
unfolding each_below
each_at f zero k x at = absurd cc
each_at f (suc n) k x at = elim (older_or_last (each_below f n) (f n) k x at) [
  | inl h ↦ let told = each_at f n k x h in (omega (arith, told.0), told.1)
  | inr h ↦ let place : k ≡ n = h.0 ∙ each_long f n in (omega (arith, place), h.1 ∙ ap f (sym place))
]

at_each : {X : Type 0} (f : ℕ → X) (n k : ℕ) → k < n → slice_get (each_below f n) k ≡ Some (f k)
unfolding each_below
at_each f zero k below = absurd (omega (arith, below))
at_each f (suc n) k below = elim (cases_order k n) [
  | inl same ↦ subst (λ k. slice_get (each_below f n ++ f n ∷ []) k ≡ Some (f k)) (sym same)
      (subst (λ i. slice_get (each_below f n ++ f n ∷ []) i ≡ Some (f n)) (each_long f n) (last_place (each_below f n) (f n)))
  | inr other ↦ elim other [
    | inl less ↦ push_kept (each_below f n) (f n) k (f k) (at_each f n k less)
    | inr more ↦ absurd (omega (arith, below, more))
  ]
]

module _ (Ls : Languages) (a : LettersValue) (lettered : IsLettered a) (m : Machine) (machine : IsMachine m) (numbering : IsNumbered m)
    (least : IsLeastMachine m) (letters : m.letters ≡ length a.least)
    (even : (w : List ℕ) → AllBelow m.letters w → is_even_at m (reached m w) ≡ has_even_count w)
    (holding : (w : Word) → IsPath w → AreHolding Ls w (accepted_at m (class_of a m w))) where
  -- the letters of a word of packets are letters of the automaton
  below_of : (w : Word) → IsPath w → AllBelow m.letters (letters_of a w)
  below_of w path = subst (λ n. AllBelow n (letters_of a w)) (sym letters) (letters_below a lettered w path.1)

  to_letters : (ls : List ℕ) → AllBelow m.letters ls → AllBelow (length a.least) ls
  to_letters ls below = subst (λ n. AllBelow n ls) letters below

  -- a word of packets has a class, which says its parity
  class_within : (w : Word) → IsPath w → class_of a m w < length m.rows
  class_within w path = follow_within m machine 0 machine.some (letters_of a w) (below_of w path)

  class_even : (w : Word) → IsPath w → is_even_at m (class_of a m w) ≡ has_even_length w
  class_even w path = even (letters_of a w) (below_of w path) ∙ even_letters a w

  -- the class of a word and more
  class_more : (u e : Word) → class_of a m (u ++ e) ≡ follow m.rows (class_of a m u) (letters_of a e)
  class_more u e = ap (reached m) (letters_append a u e) ∙ follow_append m.rows 0 (letters_of a u) (letters_of a e)

  -- words of one class are the same
  pub same_from_class : (u v : Word) → IsPath u → IsPath v → class_of a m u ≡ class_of a m v → AreSame Ls u v
  same_from_class u v path_u path_v one = record {
    parity = sym (class_even u path_u) ∙ ap (is_even_at m) one ∙ class_even v path_v;
    held = λ e more_u more_v i.
        let both : class_of a m (u ++ e) ≡ class_of a m (v ++ e) = class_more u e ∙ ap (λ c. follow m.rows c (letters_of a e)) one ∙ sym (class_more v e) in
        let said_u = (holding (u ++ e) more_u).exact i in
        let said_v = (holding (v ++ e) more_v).exact i in
        let same : accepted_at m (class_of a m (u ++ e)) ≡ accepted_at m (class_of a m (v ++ e)) = ap (accepted_at m) both in (
          λ h. said_v.0 (subst (λ is. Contains is i) same (said_u.1 h)),
          λ h. said_u.0 (subst (λ is. Contains is i) (sym same) (said_v.1 h)),
        );
  }

  -- the class of a word with least packets after it
  spelled_more : (u : Word) → IsPath u → (ls : List ℕ) → AllBelow m.letters ls
      → class_of a m (u ++ spelled a (has_even_length u) ls) ≡ follow m.rows (class_of a m u) ls
  spelled_more u path ls below = class_more u (spelled a (has_even_length u) ls)
      ∙ ap (follow m.rows (class_of a m u)) (letters_spelled a lettered (has_even_length u) ls (to_letters ls below))

  -- words that are the same are of one class
  pub class_from_same : (u v : Word) → IsPath u → IsPath v → AreSame Ls u v → class_of a m u ≡ class_of a m v
  class_from_same u v path_u path_v same =
      least (class_of a m u) (class_of a m v) (class_within u path_u) (class_within v path_v) (λ ls below.
      let e = spelled a (has_even_length u) ls in
      let more_u : IsPath (u ++ e) = path_more a lettered u path_u ls (to_letters ls below) in
      let more_v : IsPath (v ++ e) = subst (λ b. IsPath (v ++ spelled a b ls)) (sym same.parity) (path_more a lettered v path_v ls (to_letters ls below)) in
      let to_u : class_of a m (u ++ e) ≡ follow m.rows (class_of a m u) ls = spelled_more u path_u ls below in
      let to_v : class_of a m (v ++ e) ≡ follow m.rows (class_of a m v) ls =
      subst (λ b. class_of a m (v ++ spelled a b ls) ≡ follow m.rows (class_of a m v) ls) (sym same.parity) (spelled_more v path_v ls below) in
      let hold_u = holding (u ++ e) more_u in
      let hold_v = holding (v ++ e) more_v in (
        ap (is_even_at m) (sym to_u) ∙ class_even (u ++ e) more_u ∙ even_append u v e same.parity ∙ sym (class_even (v ++ e) more_v) ∙ ap (is_even_at m) to_v,
        ap (accepted_at m) (sym to_u)
            ∙ same_contents (accepted_at m (class_of a m (u ++ e))) (accepted_at m (class_of a m (v ++ e))) hold_u.ascend hold_v.ascend
            (λ i. (
              λ h. (hold_v.exact i).1 ((same.held e more_u more_v i).0 ((hold_u.exact i).0 h)),
              λ h. (hold_u.exact i).1 ((same.held e more_u more_v i).1 ((hold_v.exact i).0 h)),
            ))
            ∙ ap (accepted_at m) to_v,
      ))

  -- the least word of a class, with the least packet of each letter
  abbrev first_word : ℕ → Word
  first_word c = spelled a true (get_or numbering.0 c [])

  least_to : (c : ℕ) → c < length m.rows → IsLeastTo m c (get_or numbering.0 c [])
  least_to c within = numbering.1.each c within

  first_path : (c : ℕ) → c < length m.rows → IsPath (first_word c)
  first_path c within = spelled_path a lettered (get_or numbering.0 c []) (to_letters (get_or numbering.0 c []) (least_to c within).word)

  first_letters : (c : ℕ) → c < length m.rows → letters_of a (first_word c) ≡ get_or numbering.0 c []
  first_letters c within = letters_spelled a lettered true (get_or numbering.0 c []) (to_letters (get_or numbering.0 c []) (least_to c within).word)

  first_class : (c : ℕ) → c < length m.rows → class_of a m (first_word c) ≡ c
  first_class c within = ap (reached m) (first_letters c within) ∙ (least_to c within).leads

  -- the word of least packets with its letters is it
  first_own : (c : ℕ) → c < length m.rows → least_word a (first_word c) ≡ first_word c
  first_own c within = least_spelled a true (first_word c) (first_path c within).0 ∙ ap (spelled a true) (first_letters c within)

  -- the first of two classes has the lesser word
  first_before : (c d : ℕ) → c < d → d < length m.rows → word_is_before (first_word c) (first_word d) ≡ true
  first_before c d less within =
      let within_c : c < length m.rows = omega (arith, less, within) in
      let lesser : letters_are_before (letters_of a (first_word c)) (letters_of a (first_word d)) ≡ true =
      subst (λ ls. letters_are_before ls (letters_of a (first_word d)) ≡ true) (sym (first_letters c within_c))
      (subst (λ ls. letters_are_before (get_or numbering.0 c []) ls ≡ true) (sym (first_letters d within))
      (letters_before (get_or numbering.0 c []) (get_or numbering.0 d []) (numbering.1.ascend c d less within))) in
      subst (λ v. word_is_before v (first_word d) ≡ true) (first_own c within_c)
      (subst (λ w. word_is_before (least_word a (first_word c)) w ≡ true) (first_own d within)
      (lesser_word a lettered (first_word c) (first_word d) (first_path d within).1 lesser))

  -- no word is before the least word of its class
  first_least : (v : Word) → IsPath v → word_is_before v (first_word (class_of a m v)) ≡ false
  first_least v path =
      let c = class_of a m v in
      let within = class_within v path in
      elim ((least_to c within).least (letters_of a v) (below_of v path) refl) [
        | inl same ↦ subst (λ w. word_is_before v w ≡ false) (least_spelled a true v path.0 ∙ ap (spelled a true) same) (not_before_least a lettered v path.1)
        | inr before ↦ by (word_is_before v (first_word c)) refl (
            subst (λ u. word_is_before u (least_word a v) ≡ true) (first_own c within)
            (lesser_word a lettered (first_word c) v path.1
            (subst (λ ls. letters_are_before ls (letters_of a v) ≡ true) (sym (first_letters c within))
            (letters_before (get_or numbering.0 c []) (letters_of a v) before))))
      ]
    where
      by : (b : Bool) → word_is_before v (first_word (class_of a m v)) ≡ b → word_is_before (first_word (class_of a m v)) (least_word a v)
          ≡ true → word_is_before v (first_word (class_of a m v)) ≡ false
      by false is after = is
      by true is after = absurd
          (true≢false (sym (before_trans (word_numbers v) (word_numbers (first_word (class_of a m v)))
          (word_numbers (least_word a v)) is after) ∙ not_before_least a lettered v path.1))

  -- it is the least of its class
  pub first_is_least : (c : ℕ) → c < length m.rows → IsLeast Ls (first_word c)
  first_is_least c within = record {
    path = first_path c within;
    least = λ v path same.
        let one : class_of a m v ≡ c = sym (class_from_same (first_word c) v (first_path c within) path same) ∙ first_class c within in
        subst (λ d. word_is_before v (first_word d) ≡ false) one (first_least v path);
  }

  -- and the only one
  least_is_first : (u : Word) → IsLeast Ls u → u ≡ first_word (class_of a m u)
  least_is_first u is =
      let c = class_of a m u in
      let within = class_within u is.path in
      let path = first_path c within in
      one_word u (first_word c) is.path.0 path.0 (first_least u is.path)
      (is.least (first_word c) path (same_from_class u (first_word c) is.path path (sym (first_class c within))))

  -- the words of the classes below a class are just the least words before its own
  smaller_first : (u : Word) (c : ℕ) → c < length m.rows → IsLeast Ls u → word_is_before u (first_word c) ≡ true → class_of a m u < c
  smaller_first u c within is before =
      let d = class_of a m u in
      let own : u ≡ first_word d = least_is_first u is in
      let less : word_is_before (first_word d) (first_word c) ≡ true = subst (λ w. word_is_before w (first_word c) ≡ true) own before in
      elim (cases_order d c) [
        | inl same ↦ absurd (true≢false (sym less
            ∙ subst (λ e. word_is_before (first_word d) (first_word e) ≡ false) same
            (not_back (word_numbers (first_word d)) (word_numbers (first_word d))
            (subst (λ e. word_is_before (first_word d) (first_word e) ≡ true) (sym same) less))))
        | inr other ↦ elim other [
          | inl lower ↦ lower
          | inr higher ↦ absurd
              (true≢false (sym less
              ∙ not_back (word_numbers (first_word c)) (word_numbers (first_word d)) (first_before c d higher (class_within u is.path))))
        ]
      ]

  tag_of : (w : Word) → IsPath w → IsTag Ls w (suc (class_of a m w))
  tag_of w path =
      let c = class_of a m w in
      let within = class_within w path in
      let smaller = each_below first_word c in
      let lower : (d : ℕ) → d < c → d < length m.rows = λ d less. omega (arith, less, within) in record {
        least = first_word c;
        same = same_from_class w (first_word c) path (first_path c within) (sym (first_class c within));
        is_least = first_is_least c within;
        smaller = smaller;
        once = λ i j u at_i at_j.
            let told_i = each_at first_word c i u at_i in
            let told_j = each_at first_word c j u at_j in
            sym (first_class i (lower i told_i.0)) ∙ ap (class_of a m) (sym told_i.1 ∙ told_j.1) ∙ first_class j (lower j told_j.0);
        exact = λ u. (
          λ h.
              let told = each_at first_word c h.0 u (slice_get-get_or smaller h.0 u h.1 ∙ ap Some h.2) in
              subst (λ v. IsLeast Ls v × (word_is_before v (first_word c) ≡ true)) (sym told.1) (
                first_is_least h.0 (lower h.0 told.0),
                first_before h.0 c told.0 within,
              ),
          λ h.
              let d = class_of a m u in
              let less = smaller_first u c within h.0 h.1 in
              let at : slice_get smaller d ≡ Some u = at_each first_word c d less ∙ ap Some (sym (least_is_first u h.0)) in
              (d, slice_get_within smaller d u at, get_or_from_slice_get smaller d u u at),
        );
        counted = ap suc (sym (each_long first_word c));
      }

  paths_below : (n : ℕ) → n ≤ length m.rows → All IsPath (each_below first_word n)
  unfolding each_below
  paths_below zero within = All-nil IsPath
  paths_below (suc n) within = All-push IsPath (each_below first_word n) (first_word n) (paths_below n (omega (arith, within)))
      (first_path n (omega (arith, within)))

  count_of : HasClasses Ls (length m.rows)
  count_of = let n = length m.rows in let words = each_below first_word n in record {
    words = words;
    count = each_long first_word n;
    paths = paths_below n (omega arith);
    differ = λ i j u v at_i at_j same.
        let told_i = each_at first_word n i u at_i in
        let told_j = each_at first_word n j v at_j in
        let path_u = subst IsPath (sym told_i.1) (first_path i told_i.0) in
        let path_v = subst IsPath (sym told_j.1) (first_path j told_j.0) in
        sym (first_class i told_i.0) ∙ ap (class_of a m) (sym told_i.1) ∙ class_from_same u v path_u path_v same
        ∙ ap (class_of a m) told_j.1 ∙ first_class j told_j.0;
    every = λ w path.
        let c = class_of a m w in
        let within = class_within w path in
        let at : slice_get words c ≡ Some (first_word c) = at_each first_word n c within in (
          c,
          first_word c,
          slice_get_within words c (first_word c) at,
          get_or_from_slice_get words c (first_word c) (first_word c) at,
          same_from_class w (first_word c) path (first_path c within) (sym (first_class c within)),
        );
  }

  pub are_classes : AreClasses Ls a m
  are_classes = record {
    letters = letters;
    told = λ w path. record { within = class_within w path; even = class_even w path; accepted = holding w path; tag = tag_of w path };
    reached = λ c within. (first_word c, first_path c within, first_class c within);
    count = count_of;
  }
