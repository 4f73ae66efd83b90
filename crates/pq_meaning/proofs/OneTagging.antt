-- Languages have one tagging, up to what it says of other numbers than tags.
use Rattle.std.proofs.Common.{◌≡◌, ◌∙◌, ◌≤◌, ℕ, suc, Bool, true, false, Some, List, [], ◌∷◌, ◌++◌, length, length-append, refl, sym, ap, arith}
use Rattle.std.specs.Prelude.{slice_get}
use Rattle.std.specs.List.{Contains}
use Rattle.std.proofs.lemmas.Option.{slice_get-get_or}
use Rattle.pq_fields.specs.Packet.{Fit, Numbers}
use Rattle.pq_model.specs.Classes.{AreSame, IsLeast, IsPath, IsTag, Languages, has_even_length}
use Rattle.pq_model.specs.Meaning.{entered}
use Rattle.pq_model.specs.Orders.{IsReordering}
use Rattle.pq_model.specs.Word.{Out, Word, word_is_before}
use Rattle.pq_classes.proofs.Counted.{one_count, same_back, same_through}
use Rattle.pq_classes.proofs.Following.{same_contents}
use Rattle.pq_classes.proofs.Order.{one_word}
use Rattle.pq_layout.specs.Tagging.{IsTagging, Tagging, tag_of}
use Rattle.pq_headline.proofs.Members.{AreApart, StandsIn, among_from_contains, contains_from_among, same_members}
use Rattle.pq_headline.proofs.Paths.{entered_path, entered_tag, left_path, left_tag}

-- Words that are the same.

module _ (Ls : Languages) where
  -- a class has one least word
  one_least : (u v : Word) → IsLeast Ls u → IsLeast Ls v → AreSame Ls u v → u ≡ v
  one_least u v left right same = one_word u v left.path.0 right.path.0 (right.least u left.path (same_back Ls u v same)) (left.least v right.path same)

-- Lists of the same values, each once, are as long.

module _ {A : Type 0} where
  reordered_long : (xs ys : List A) → IsReordering xs ys → length xs ≡ length ys
  reordered_long [] ys is = ap length (sym is)
  reordered_long (x ∷ xs) ys (front, back, is, rest) =
      let more = reordered_long xs (front ++ back) rest in
      let whole : length ys ≡ length (front ++ x ∷ back) = ap length is in
      let long = length-append front back in
      let longer = length-append front (x ∷ back) in
      omega (arith, more, whole, long, longer)

  -- each is at one place
  abbrev StandOnce : List A → Type 0
  StandOnce xs = (i j : ℕ) (x : A) → slice_get xs i ≡ Some x → slice_get xs j ≡ Some x → i ≡ j

  once_apart : (xs : List A) → StandOnce xs → AreApart xs
  once_apart [] once = tt
  once_apart (x ∷ xs) once = (alone, once_apart xs (λ i j y a b. let one = once (suc i) (suc j) y a b in omega (arith, one)))
    where
      alone : StandsIn x xs → ⊥
      alone there =
          let some = contains_from_among xs x there in
          let place : slice_get xs some.0 ≡ Some x = slice_get-get_or xs some.0 x some.1 ∙ ap Some some.2 in
          let one = once 0 (suc some.0) x refl place in
          omega (arith, one)

  same_long : (xs ys : List A) → StandOnce xs → StandOnce ys → ((x : A) → Contains xs x → Contains ys x)
      → ((x : A) → Contains ys x → Contains xs x) → length xs ≡ length ys
  same_long xs ys left right into back =
      reordered_long xs ys (same_members xs ys (once_apart xs left) (once_apart ys right)
      (λ z there. among_from_contains ys z (into z (contains_from_among xs z there)))
      (λ z there. among_from_contains xs z (back z (contains_from_among ys z there))))

-- Tags.

-- a word has one tag
one_tag : (Ls : Languages) (w : Word) (s t : ℕ) → IsPath w → IsTag Ls w s → IsTag Ls w t → s ≡ t
one_tag Ls w s t path a b =
    let least : a.least ≡ b.least =
    one_least Ls a.least b.least a.is_least b.is_least (same_through Ls a.least w b.least path (same_back Ls w a.least a.same) b.same)
    in
    let long : length a.smaller ≡ length b.smaller = same_long a.smaller b.smaller a.once b.once
    (λ u there. let is = (a.exact u).0 there in (b.exact u).1 (is.0, ap (λ v. word_is_before u v) (sym least) ∙ is.1))
    (λ u there. let is = (b.exact u).0 there in (a.exact u).1 (is.0, ap (λ v. word_is_before u v) least ∙ is.1)) in
    let first = a.counted in
    let second = b.counted in
    omega (arith, first, second, long)

-- a word with one packet more, whichever way it goes
record IsNext (w : Word) (x : Numbers) (v : Word) : Type 0 where
  path : IsPath v
  tag : (g : Tagging) → tag_of g v ≡ g.after (tag_of g w) x

next_of : (w : Word) (x : Numbers) → IsPath w → Fit x → (v : Word) × IsNext w x v
next_of w x path fit = by (has_even_length w) refl
  where
    by : (b : Bool) → has_even_length w ≡ b → (v : Word) × IsNext w x v
    by true even = (entered w x, record { path = entered_path w x path even fit; tag = λ g. entered_tag g w x })
    by false odd = (w ++ Out x ∷ [], record { path = left_path w x path odd fit; tag = λ g. left_tag g w x })

-- taggings that say the same of tags
pub record AreAlike (g h : Tagging) : Type 0 where
  pub some : 1 ≤ g.count
  pub count : g.count ≡ h.count
  pub even : (t : ℕ) → 1 ≤ t → t ≤ g.count → g.is_even t ≡ h.is_even t
  pub accepted : (t : ℕ) → 1 ≤ t → t ≤ g.count → g.accepted t ≡ h.accepted t
  pub after : (t : ℕ) (x : Numbers) → 1 ≤ t → t ≤ g.count → Fit x → g.after t x ≡ h.after t x
  pub within : (t : ℕ) (x : Numbers) → 1 ≤ t → t ≤ g.count → Fit x → (1 ≤ g.after t x) × (g.after t x ≤ g.count)

module _ (Ls : Languages) (g h : Tagging) (a : IsTagging Ls g) (b : IsTagging Ls h) where
  tag_same : (w : Word) → IsPath w → tag_of g w ≡ tag_of h w
  tag_same w path = one_tag Ls w (tag_of g w) (tag_of h w) path (a.tagged w path).tag (b.tagged w path).tag

  even_same : (t : ℕ) → 1 ≤ t → t ≤ g.count → g.is_even t ≡ h.is_even t
  even_same t least most =
      let some = a.reached t least most in
      let w = some.0 in
      let there : tag_of h w ≡ t = sym (tag_same w some.1) ∙ some.2 in
      ap g.is_even (sym some.2) ∙ ((a.tagged w some.1).even ∙ (sym (b.tagged w some.1).even ∙ ap h.is_even there))

  accepted_same : (t : ℕ) → 1 ≤ t → t ≤ g.count → g.accepted t ≡ h.accepted t
  accepted_same t least most =
      let some = a.reached t least most in
      let w = some.0 in
      let left = a.tagged w some.1 in
      let right = b.tagged w some.1 in
      let there : tag_of h w ≡ t = sym (tag_same w some.1) ∙ some.2 in
      ap g.accepted (sym some.2) ∙ (same_contents (g.accepted (tag_of g w)) (h.accepted (tag_of h w)) left.ascending right.ascending
      (λ i. let one = left.held i in let two = right.held i in (λ c. two.1 (one.0 c), λ c. one.1 (two.0 c))) ∙ ap h.accepted there)

  after_same : (t : ℕ) (x : Numbers) → 1 ≤ t → t ≤ g.count → Fit x → (g.after t x ≡ h.after t x) × ((1 ≤ g.after t x) × (g.after t x ≤ g.count))
  after_same t x least most fit =
      let some = a.reached t least most in
      let w = some.0 in
      let there : tag_of h w ≡ t = sym (tag_same w some.1) ∙ some.2 in
      let next = next_of w x some.1 fit in
      let v = next.0 in
      let left : tag_of g v ≡ g.after t x = next.1.tag g ∙ ap (λ s. g.after s x) some.2 in
      let right : tag_of h v ≡ h.after t x = next.1.tag h ∙ ap (λ s. h.after s x) there in
      let within = (a.tagged v next.1.path).within in
      (sym left ∙ (tag_same v next.1.path ∙ right), (omega (arith, within.0, left), omega (arith, within.1, left)))

  -- so they are alike
  pub taggings_alike : AreAlike g h
  taggings_alike = record {
    some = (let within = (a.tagged [] (refl, λ k d below. absurd (omega (arith, below)))).within in within.1);
    count = one_count Ls g.count h.count a.classes b.classes;
    even = even_same;
    accepted = accepted_same;
    after = λ t x least most fit. (after_same t x least most fit).0;
    within = λ t x least most fit. (after_same t x least most fit).1;
  }
