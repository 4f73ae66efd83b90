-- A marking tells apart what languages tell apart, and tags are one.
use Rattle.std.proofs.Common.{◌≡◌, ◌∙◌, ◌<◌, ℕ, Bool, true, false, List, [], ◌∷◌, ◌++◌, length, map, get_or, append-nil, append_assoc, refl}
use Rattle.std.proofs.Common.{sym, ap, subst, arith}
use Rattle.std.specs.Prelude.{All, Some, eqb, slice_get}
use Rattle.std.specs.List.{Contains, list_any}
use Rattle.std.proofs.Math.Seq.{take-append_seam}
use Rattle.std.proofs.lemmas.Bool.{eqb-true}
use Rattle.std.proofs.lemmas.List.{get_or-map, length-map}
use Rattle.std.proofs.lemmas.List.Elements.{All-take}
use Rattle.std.proofs.lemmas.Map.Keys.{IsDistinct-from_apart}
use Rattle.std.proofs.lemmas.Map.Steps.{length-le_from_distinct_below}
use Rattle.std.proofs.lemmas.Map.Views.{Contains-from_any}
use Rattle.std.proofs.lemmas.Option.{get_or_from_slice_get, slice_get-get_or, slice_get_within}
use Rattle.pq_fields.specs.Packet.{Fit}
use Rattle.pq_model.specs.Classes.{IsPath, Languages}
use Rattle.pq_model.specs.Word.{In, Observation, Out, Word, observed_packet}
use Rattle.pq_lower.proofs.Seams.{alternating_cut}
use Rattle.pq_layout.specs.Tagging.{IsTagging, Tagging, tag_of}
use Rattle.pq_headline.proofs.Paths.{entered_tag, left_tag}
use Rattle.pq_meaning.specs.Markings.{HasClassPerMark, HasMarkPerClass, IsCarriedOn, IsMarking, KeepsHeld, KeepsParity, TellsApart}

-- the beginning of a word of packets is one
begins : (u e : Word) → IsPath (u ++ e) → IsPath u
begins u e (is, fits) = (
  (alternating_cut true u e is).0,
  subst (All (λ o. Fit (observed_packet o))) (take-append_seam u e) (All-take (λ o. Fit (observed_packet o)) (length u) (u ++ e) fits),
)

module _ (Ls : Languages) (mark : Word → ℕ) (parity : KeepsParity mark) (held : KeepsHeld Ls mark) (carried : IsCarriedOn mark) where
  -- after the same observations marks are equal again
  carried_on : (e u v : Word) → IsPath (u ++ e) → IsPath (v ++ e) → mark u ≡ mark v → mark (u ++ e) ≡ mark (v ++ e)
  carried_on [] u v a b same = ap mark (append-nil u) ∙ (same ∙ ap mark (sym (append-nil v)))
  carried_on (o ∷ e) u v a b same =
      let left : (u ++ o ∷ []) ++ e ≡ u ++ o ∷ e = append_assoc u (o ∷ []) e in
      let right : (v ++ o ∷ []) ++ e ≡ v ++ o ∷ e = append_assoc v (o ∷ []) e in
      let first : IsPath ((u ++ o ∷ []) ++ e) = subst IsPath (sym left) a in
      let second : IsPath ((v ++ o ∷ []) ++ e) = subst IsPath (sym right) b in
      let next : mark (u ++ o ∷ []) ≡ mark (v ++ o ∷ []) = carried u v o (begins (u ++ o ∷ []) e first) (begins (v ++ o ∷ []) e second) same in
      ap mark (sym left) ∙ (carried_on e (u ++ o ∷ []) (v ++ o ∷ []) first second next ∙ ap mark right)

  -- so words with equal marks are the same
  pub tells_apart : TellsApart Ls mark
  tells_apart u v path_u path_v same = record {
    parity = parity u v path_u path_v same;
    held = λ e a b. held (u ++ e) (v ++ e) a b (carried_on e u v a b same);
  }

  -- and words of different classes have different marks
  pub mark_per_class : HasMarkPerClass Ls mark
  mark_per_class n classes = record {
    words = classes.words;
    count = classes.count;
    paths = classes.paths;
    differ = λ i j u v at_i at_j same. classes.differ i j u v at_i at_j (tells_apart u v (path_at i u at_i) (path_at j v at_j) same);
  }
    where
      path_at : (i : ℕ) (u : Word) → slice_get classes.words i ≡ Some u → IsPath u
      path_at i u at = subst IsPath (get_or_from_slice_get classes.words i u u at) (classes.paths i u (slice_get_within classes.words i u at))

  -- so there are at most as many classes as there are marks
  pub class_per_mark : HasClassPerMark Ls mark
  class_per_mark n m classes below =
      let few = length-le_from_distinct_below marks m (IsDistinct-from_apart eqb marks apart) small in
      let long = length-map words mark in
      omega (arith, few, long, classes.count)
    where
      words : List Word
      words = classes.words

      marks : List ℕ
      marks = map mark words

      mark_at : (i d : ℕ) → i < length words → get_or marks i d ≡ mark (get_or words i [])
      mark_at i d within = get_or-map mark words i [] d within

      apart : (i j d : ℕ) → i < j → j < length marks → eqb (get_or marks i d) (get_or marks j d) ≡ false
      apart i j d less within = by (eqb (get_or marks i d) (get_or marks j d)) refl
        where
          by : (b : Bool) → eqb (get_or marks i d) (get_or marks j d) ≡ b → eqb (get_or marks i d) (get_or marks j d) ≡ false
          by false is = is
          by true is =
              let second : j < length words = omega (arith, within, length-map words mark) in
              let first : i < length words = omega (arith, less, second) in
              let same : mark (get_or words i []) ≡ mark (get_or words j []) = sym (mark_at i d first)
              ∙ (eqb-true (get_or marks i d) (get_or marks j d) is ∙ mark_at j d second) in
              let told = tells_apart (get_or words i []) (get_or words j []) (classes.paths i [] first) (classes.paths j [] second) same in
              let one = classes.differ i j (get_or words i []) (get_or words j []) (slice_get-get_or words i [] first)
              (slice_get-get_or words j [] second) told in
              absurd (omega (arith, less, one))

      small : (q : ℕ) → list_any (eqb q) marks ≡ true → q < m
      small q is =
          let found = Contains-from_any eqb-true q marks is in
          let within : found.0 < length words = omega (arith, found.1, length-map words mark) in
          subst (λ k. k < m) (sym (mark_at found.0 q within) ∙ found.2) (below (get_or words found.0 []) (classes.paths found.0 [] within))

module _ (Ls : Languages) (g : Tagging) (is : IsTagging Ls g) where
  -- the tag of a word with one observation more
  tag_next : (w : Word) (o : Observation) → tag_of g (w ++ o ∷ []) ≡ g.after (tag_of g w) (observed_packet o)
  tag_next w (In x) = entered_tag g w x
  tag_next w (Out x) = left_tag g w x

  -- tags are a marking
  pub tags_mark : IsMarking Ls (tag_of g)
  tags_mark = record {
    parity = λ u v path_u path_v same. sym (is.tagged u path_u).even ∙ (ap g.is_even same ∙ (is.tagged v path_v).even);
    held = λ u v path_u path_v same i.
        let left = (is.tagged u path_u).held i in
        let right = (is.tagged v path_v).held i in (
          λ h. right.0 (subst (λ t. Contains (g.accepted t) i) same (left.1 h)),
          λ h. left.0 (subst (λ t. Contains (g.accepted t) i) (sym same) (right.1 h)),
        );
    carried = λ u v o path_u path_v same. tag_next u o ∙ (ap (λ t. g.after t (observed_packet o)) same ∙ sym (tag_next v o));
  }
