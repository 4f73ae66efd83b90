-- Words of packets, one observation longer.
use Rattle.std.proofs.Common.{◌≡◌, ◌∙◌, ℕ, Bool, true, false, not, [], ◌∷◌, ◌++◌, refl, sym, ap}
use Rattle.std.proofs.lemmas.Bool.{true≢false, not-false, not-true}
use Rattle.std.proofs.lemmas.List.Elements.{All-push}
use Rattle.pq_fields.specs.Packet.{Numbers, Fit}
use Rattle.pq_model.specs.Classes.{IsPath, has_even_length}
use Rattle.pq_model.specs.Meaning.{entered}
use Rattle.pq_model.specs.Word.{Observation, In, Out, Word, alternates, observed_packet}
use Rattle.pq_layout.specs.Tagging.{Tagging, tag_from, tag_of}

even_more : (w : Word) (o : Observation) → has_even_length (w ++ o ∷ []) ≡ not (has_even_length w)
even_more [] o = refl
even_more (p ∷ w) o = ap not (even_more w o)

tag_more : (g : Tagging) (t : ℕ) (w : Word) (o : Observation) → tag_from g t (w ++ o ∷ []) ≡ g.after (tag_from g t w) (observed_packet o)
tag_more g t [] o = refl
tag_more g t (p ∷ w) o = tag_more g (g.after t (observed_packet p)) w o

-- an In may follow where it is the turn of one
in_follows : (b : Bool) (w : Word) (x : Numbers) → alternates b w ≡ true → has_even_length w ≡ b → alternates b (w ++ In x ∷ []) ≡ true
in_follows true [] x is even = refl
in_follows false [] x is even = absurd (true≢false even)
in_follows true (In z ∷ w) x is even = in_follows false w x is (not-true (has_even_length w) even)
in_follows true (Out z ∷ w) x is even = absurd (true≢false (sym is))
in_follows false (In z ∷ w) x is even = absurd (true≢false (sym is))
in_follows false (Out z ∷ w) x is even = in_follows true w x is (not-false (has_even_length w) even)

-- and an Out likewise
out_follows : (b : Bool) (w : Word) (y : Numbers) → alternates b w ≡ true → has_even_length w ≡ not b → alternates b (w ++ Out y ∷ []) ≡ true
out_follows true [] y is even = absurd (true≢false even)
out_follows false [] y is even = refl
out_follows true (In z ∷ w) y is even = out_follows false w y is (not-false (has_even_length w) even)
out_follows true (Out z ∷ w) y is even = absurd (true≢false (sym is))
out_follows false (In z ∷ w) y is even = absurd (true≢false (sym is))
out_follows false (Out z ∷ w) y is even = out_follows true w y is (not-true (has_even_length w) even)

abbrev ObservesPacket : Observation → Type 0
ObservesPacket o = Fit (observed_packet o)

module _ (w : Word) (x : Numbers) (path : IsPath w) (even : has_even_length w ≡ true) (fit : Fit x) where
  -- a packet enters after hops
  pub entered_path : IsPath (entered w x)
  entered_path = (in_follows true w x path.0 even, All-push ObservesPacket w (In x) path.1 fit)

  pub entered_odd : has_even_length (entered w x) ≡ false
  entered_odd = even_more w (In x) ∙ ap not even

pub entered_tag : (g : Tagging) (w : Word) (x : Numbers) → tag_of g (entered w x) ≡ g.after (tag_of g w) x
entered_tag g w x = tag_more g 1 w (In x)

module _ (v : Word) (y : Numbers) (path : IsPath v) (odd : has_even_length v ≡ false) (fit : Fit y) where
  -- a packet leaves after it entered
  pub left_path : IsPath (v ++ Out y ∷ [])
  left_path = (out_follows true v y path.0 odd, All-push ObservesPacket v (Out y) path.1 fit)

  pub left_even : has_even_length (v ++ Out y ∷ []) ≡ true
  left_even = even_more v (Out y) ∙ ap not odd

pub left_tag : (g : Tagging) (v : Word) (y : Numbers) → tag_of g (v ++ Out y ∷ []) ≡ g.after (tag_of g v) y
left_tag g v y = tag_more g 1 v (Out y)
