-- Classes are numbered by their least words, since states are.
use Rattle.std.proofs.Common.{ℕ, ◌≤◌, ◌<◌, ◌≡◌, ◌∙◌, ◌⊎◌, inl, inr, List, [], length, get_or, refl, sym, ap, subst, arith}
use Rattle.std.specs.Prelude.{map}
use Rattle.std.proofs.lemmas.Bool.{cases_lt}
use Rattle.std.proofs.lemmas.List.{get_or-map}
use Rattle.pq_auto.specs.Machine.{Machine, IsMachine, reached}
use Rattle.pq_auto.specs.Numbering.{IsBefore, IsLeastTo, AreLeast, IsNumbered}
use Rattle.pq_auto.specs.Parts.{Parts, class_of, first_of}
use Rattle.pq_auto.specs.Refinement.{IsLast, quotient}
use Rattle.pq_auto.proofs.Order.{before_trans}
use Rattle.pq_auto.proofs.Rounds.{follow_within}
use Rattle.pq_auto.proofs.Quotients.{first_in, count_is, leads_to}

module _ (m : Machine) (p : Parts) (machine : IsMachine m) (last : IsLast m p) (words : List (List ℕ)) (least : AreLeast m words) where
  -- the least word to a state
  abbrev word_to : ℕ → List ℕ
  word_to s = get_or words s []

  -- words of later states are greater
  no_less : (s t : ℕ) (v : List ℕ) → s ≤ t → t < length m.rows → (v ≡ word_to t) ⊎ IsBefore (word_to t) v → (v ≡ word_to s) ⊎ IsBefore (word_to s) v
  no_less s t v le h is = elim (cases_lt s t) [
    | inl less ↦ inr (by less is)
    | inr level ↦ let same : t ≡ s = omega arith in subst (λ u. (v ≡ word_to u) ⊎ IsBefore (word_to u) v) same is
  ]
    where
      by : s < t → (v ≡ word_to t) ⊎ IsBefore (word_to t) v → IsBefore (word_to s) v
      by less (inl own) = rw own (least.ascend s t less h)
      by less (inr more) = before_trans (word_to s) (word_to t) v (least.ascend s t less h) more

  -- the least word to the first state of a class is the least to the class
  least_to : (c : ℕ) → c < length p.firsts → IsLeastTo (quotient m p) c (word_to (first_of p c))
  least_to c h =
      let s : ℕ = first_of p c in
      let own : IsLeastTo m s (word_to s) = least.each s (first_in m p machine last c h) in
      record {
        word = own.word;
        leads = leads_to m p machine last (word_to s) own.word ∙ ap (class_of p) own.leads ∙ last.round.parted.first c h;
        least = λ v below leads.
            let t : ℕ = reached m v in
            let t_in : t < length m.rows = follow_within m machine v 0 below machine.some in
            let class_is : class_of p t ≡ c = sym (leads_to m p machine last v below) ∙ leads in
            let low : first_of p (class_of p t) ≤ t = last.round.parted.least t (omega (arith, last.round.whole)) in
            no_less s t v (subst (λ d. first_of p d ≤ t) class_is low) t_in ((least.each t t_in).least v below refl);
      }

  -- the words of the classes
  abbrev class_words : List (List ℕ)
  class_words = map word_to p.firsts

  word_at : (c : ℕ) → c < length p.firsts → get_or class_words c [] ≡ word_to (first_of p c)
  word_at c h = get_or-map word_to p.firsts c 0 [] h

  pub are_least : AreLeast (quotient m p) class_words
  are_least = record {
    each = λ c h. (let c_in : c < length p.firsts = omega (arith, count_is m p machine last) in rw (word_at c c_in) (least_to c c_in));
    ascend = λ c d less h.
        let d_in : d < length p.firsts = omega (arith, count_is m p machine last) in
        let c_in : c < length p.firsts = omega arith in
        rw (word_at c c_in, word_at d d_in) (least.ascend (first_of p c) (first_of p d) (last.round.parted.ascend c d less d_in)
        (first_in m p machine last d d_in));
  }

-- classes are numbered by their least words
pub is_numbered : (m : Machine) (p : Parts) → IsMachine m → IsNumbered m → IsLast m p → IsNumbered (quotient m p)
is_numbered m p machine numbered last = (class_words m p machine last numbered.0 numbered.1, are_least m p machine last numbered.0 numbered.1)
