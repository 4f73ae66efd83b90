-- The tags of words are one more than the numbers of their classes.
use Rattle.std.proofs.Common.{◌≡◌, ◌∙◌, ◌-◌, ℕ, suc, [], ◌∷◌, refl, sym, ap, subst, arith}
use Rattle.std.specs.Prelude.{◌↔◌}
use Rattle.std.specs.List.{Contains}
use Rattle.std.proofs.Math.ListN.{get_or}
use Rattle.pq_model.specs.Classes.{IsPath, IsTag, Languages}
use Rattle.pq_model.specs.Lawful.{Ascends}
use Rattle.pq_model.specs.Word.{Word, observed_packet}
use Rattle.pq_auto.specs.Machine.{Machine, accepted_at, follow, is_even_at}
use Rattle.pq_letters.specs.Letters.{LettersValue}
use Rattle.pq_letters.specs.Words.{letter_number, letters_of}
use Rattle.pq_classes.specs.Told.{AreClasses, class_of}
use Rattle.pq_layout.specs.Tagging.{IsTagged, IsTagging, tag_from, tag_of}
use Rattle.pq_join.specs.Tags.{tagging_of}

module _ (a : LettersValue) (m : Machine) where
  -- from a class on, a word leads to a class, and from its tag to that class's tag
  tag_follows : (c : ℕ) (w : Word) → tag_from (tagging_of a m) (suc c) w ≡ suc (follow m.rows c (letters_of a w))
  tag_follows c [] = refl
  tag_follows c (o ∷ w) =
      let l = letter_number a (observed_packet o) in
      let less : suc c - 1 ≡ c = omega arith in
      ap (λ d. tag_from (tagging_of a m) (suc (get_or (get_or m.rows d []) l 0)) w) less ∙ tag_follows (get_or (get_or m.rows c []) l 0) w

  -- the tag of a word is one more than its class
  pub tag_is : (w : Word) → tag_of (tagging_of a m) w ≡ suc (class_of a m w)
  tag_is w = tag_follows 0 w

  module _ (Ls : Languages) (classes : AreClasses Ls a m) where
    -- so it says what the class says
    is_tagged : (w : Word) → IsPath w → IsTagged Ls (tagging_of a m) w
    is_tagged w path =
        let word = classes.told w path in
        let is = tag_is w in
        let below = word.within in
        let less : tag_of (tagging_of a m) w - 1 ≡ class_of a m w = omega (arith, is) in
        record {
          tag = subst (IsTag Ls w) (sym is) word.tag;
          within = (omega (arith, is), omega (arith, is, below));
          even = ap (is_even_at m) less ∙ word.even;
          ascending = subst (λ c. Ascends (accepted_at m c)) (sym less) word.accepted.ascend;
          held = λ i. subst (λ c. Contains (accepted_at m c) i ↔ Ls i w) (sym less) (word.accepted.exact i);
        }

    -- and classes give tags
    pub classes_tag : IsTagging Ls (tagging_of a m)
    classes_tag = record {
      classes = classes.count;
      tagged = is_tagged;
      reached = λ t least most.
          let some = classes.reached (t - 1) (omega (arith, least, most)) in
          let is = tag_is some.0 in
          let class = some.2 in
          (some.0, some.1, omega (arith, is, class, least));
    }
