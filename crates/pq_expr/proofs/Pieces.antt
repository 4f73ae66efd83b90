-- Cuts of words whose half steps come from other things, as from observations.
use Rattle.std.proofs.Common.{◌≡◌, true, ◌&&◌, inl, inr, List, [], ◌∷◌, ◌++◌, map, refl, sym, ap, ◌∙◌}
use Rattle.std.proofs.lemmas.Bool.{or_left, or_right, and_parts, or_cases}
use Rattle.std.proofs.Math.Bool.{and-false, and-true}
use Rattle.pq_expr.specs.Word.{HalfStep, Word}
use Rattle.pq_expr.specs.Language.{Language, is_empty, joined}
use Rattle.pq_expr.proofs.Cuts.{after, joined_empty, joined_cons}

-- a joined word is cut where its things are
pub joined_cut : {A : Type 0} (f : A → HalfStep) (w : List A) (P Q : Language) → joined P Q (map f w) ≡ true
    → (u : List A) × (v : List A) × (w ≡ u ++ v) × (P (map f u) ≡ true) × (Q (map f v) ≡ true)
joined_cut f [] P Q h = let cut = and_parts (P []) (Q []) (sym (joined_empty P Q) ∙ h) in ([], [], refl, cut.0, cut.1)
joined_cut f (x ∷ w) P Q h =
    elim (or_cases _ _ (sym (joined_cons P Q (f x) (map f w)) ∙ h)) [
      | inl front ↦ (let cut = and_parts (P []) (Q (f x ∷ map f w)) front in ([], x ∷ w, refl, cut.0, cut.1))
      | inr later ↦ (let cut = joined_cut f w (after (f x) P) Q later in (x ∷ cut.0, cut.1, ap (λ z. x ∷ z) cut.2, cut.3, cut.4))
    ]

-- words of the languages are joined
pub cut_joined : {A : Type 0} (f : A → HalfStep) (u v : List A) (P Q : Language) → P (map f u) ≡ true → Q (map f v) ≡ true → joined P Q (map f (u ++ v)) ≡ true
cut_joined f [] [] P Q p q = joined_empty P Q ∙ rw (p, q) refl
cut_joined f [] (y ∷ v) P Q p q = joined_cons P Q (f y) (map f v) ∙ or_left (P [] && Q (f y ∷ map f v)) (joined (after (f y) P) Q (map f v)) (rw (p, q) refl)
cut_joined f (x ∷ u) v P Q p q = joined_cons P Q (f x) (map f (u ++ v)) ∙ or_right _ _ (cut_joined f u v (after (f x) P) Q p q)

-- nothing is joined
pub joined_last : (P : Language) (w : Word) → joined P is_empty w ≡ P w
joined_last P [] = joined_empty P is_empty ∙ and-true (P [])
joined_last P (l ∷ w) = joined_cons P is_empty l w ∙ rw (and-false (P [])) (joined_last (after l P) w)
