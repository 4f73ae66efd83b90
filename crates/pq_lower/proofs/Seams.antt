-- Words of observations, and where queries join them.
use Rattle.std.proofs.Common.{◌≡◌, ◌≢◌, Bool, true, false, not, [], ◌∷◌, ◌++◌, refl, sym, ap, subst, ◌∙◌, append-nil, rules}
use Rattle.std.proofs.lemmas.Bool.{not-false}
use Rattle.pq_fields.specs.Packet.{Numbers}
use Rattle.pq_model.specs.Word.{Observation, In, Out, Word, alternates, is_word}
use Rattle.pq_query.specs.Language.{ends_inward, Linked, Joins}

-- whether an In comes after the word; the flag says whether the word begins with one
abbrev pub behind : Bool → Word → Bool
behind b [] = b
behind b (o ∷ u) = behind (not b) u

-- what is on the two sides of a cut
pub alternating_cut : (b : Bool) (u v : Word) → alternates b (u ++ v) ≡ true → (alternates b u ≡ true) × (alternates (behind b u) v ≡ true)
alternating_cut b [] v h = (refl, h)
alternating_cut true (In x ∷ u) v h = alternating_cut false u v h
alternating_cut true (Out x ∷ u) v h = absurd (search (h, rules))
alternating_cut false (In x ∷ u) v h = absurd (search (h, rules))
alternating_cut false (Out x ∷ u) v h = alternating_cut true u v h

-- the same of a word
pub word_cut : (u v w : Word) → is_word w ≡ true → w ≡ u ++ v → (is_word u ≡ true) × (alternates (behind true u) v ≡ true)
word_cut u v w word parts = alternating_cut true u v (ap (λ z. is_word z) (sym parts) ∙ word)

-- an alternating word ends in an In where none comes after it
ends_behind : (b : Bool) (o : Observation) (u : Word) → alternates b (o ∷ u) ≡ true → ends_inward (o ∷ u) ≡ not (behind b (o ∷ u))
ends_behind true (In x) [] h = refl
ends_behind true (In x) (p ∷ u) h = ends_behind false p u h
ends_behind true (Out x) u h = absurd (search (h, rules))
ends_behind false (In x) u h = absurd (search (h, rules))
ends_behind false (Out x) [] h = refl
ends_behind false (Out x) (p ∷ u) h = ends_behind true p u h

pub word_ends : (u : Word) → is_word u ≡ true → ends_inward u ≡ not (behind true u)
word_ends [] h = refl
word_ends (o ∷ u) h = ends_behind true o u h

-- how a word joins u and v: with nothing after u, with v at once, or with an Out between them
pub data Seam (u v w : Word) : Type 0 where
  AtEnd : v ≡ [] → w ≡ u → Seam u v w
  AtOnce : behind true u ≡ true → is_word v ≡ true → v ≢ [] → w ≡ u ++ v → Seam u v w
  Over : (x : Numbers) → behind true u ≡ false → is_word v ≡ true → v ≢ [] → w ≡ u ++ Out x ∷ v → Seam u v w

-- the word before a seam
pub seam_before : (u v w : Word) → is_word w ≡ true → Seam u v w → is_word u ≡ true
seam_before u v w word (AtEnd last whole) = ap (λ z. is_word z) (sym whole) ∙ word
seam_before u v w word (AtOnce even behind some whole) = (word_cut u v w word whole).0
seam_before u v w word (Over x odd behind some whole) = (word_cut u (Out x ∷ v) w word whole).0

-- an Out comes only where no In does
pub out_next : (b : Bool) (x : Numbers) (v : Word) → alternates b (Out x ∷ v) ≡ true → (b ≡ false) × (is_word v ≡ true)
out_next true x v h = absurd (search (h, rules))
out_next false x v h = (refl, h)

-- a join of words is one of the three
pub seam : (u v w : Word) → is_word w ≡ true → Joins u v w → Seam u v w
seam u [] w word joins = AtEnd refl joins
seam u (o ∷ v) w word joins = by (ends_inward u) refl joins where
  by : (b : Bool) → ends_inward u ≡ b → Linked b u (o ∷ v) w → Seam u (o ∷ v) w
  by true ends (x, whole) =
      let cut = word_cut u (Out x ∷ o ∷ v) w word whole in
      let next = out_next (behind true u) x (o ∷ v) cut.1 in
      Over x next.0 next.1 (λ e. cc) whole
  by false ends whole =
      let cut = word_cut u (o ∷ v) w word whole in
      let even : behind true u ≡ true = not-false (behind true u) (sym (word_ends u cut.0) ∙ ends) in
      AtOnce even (ap (λ z. alternates z (o ∷ v)) (sym even) ∙ cut.1) (λ e. cc) whole

-- a word after an even one
pub join_at_once : (u v : Word) → is_word u ≡ true → behind true u ≡ true → Joins u v (u ++ v)
join_at_once u [] word even = append-nil u
join_at_once u (o ∷ v) word even = subst (λ b. Linked b u (o ∷ v) (u ++ o ∷ v)) (sym (word_ends u word ∙ ap (λ b. not b) even)) refl

-- a word that isn't empty after an odd one
pub join_over : (u v : Word) (x : Numbers) → v ≢ [] → is_word u ≡ true → behind true u ≡ false → Joins u v (u ++ Out x ∷ v)
join_over u [] x some word odd = absurd (some refl)
join_over u (o ∷ v) x some word odd = subst (λ b. Linked b u (o ∷ v) (u ++ Out x ∷ o ∷ v)) (sym (word_ends u word ∙ ap (λ b. not b) odd)) (x, refl)
