-- Diagrams whose value doesn't depend on a field at points that lack it.
use Rattle.std.proofs.Common.{◌≡◌, ◌<◌, ℕ, Bool, true, false, List, [], ◌∷◌, length, refl, sym, ◌∙◌, subst, inl, inr, eq-eqb, eqb-true, arith}
use Rattle.std.specs.Prelude.{◌==◌, ◌&&◌, if◌then◌else◌}
use Rattle.std.proofs.Math.Nat.{le-max_right}
use Rattle.std.proofs.lemmas.Bool.Decides.{eqb_tells}
use Rattle.pq_fields.specs.declared.field.Field.{Field}
use Rattle.pq_fields.specs.Packet.{rank}
use Rattle.pq_store.specs.declared.test.Test.{Test}
use Rattle.pq_store.specs.declared.test.Test.TheVariants.{Equal, Bit}
use Rattle.pq_store.specs.Test.{IsLawful, field_of}
use Rattle.pq_store.specs.Tree.{Tree, IsTested, past}
use Rattle.pq_store.specs.Tree.Tree.{Tip, Fork}
use Rattle.pq_store.specs.Diagram.{IsBefore, SkipsBelow, Fits, IsDiagram, counts, most}
use Rattle.pq_store.proofs.Fresh.{IsNone}
use Rattle.pq_store.proofs.Point.{Point, answer, leaf_at, InRange}
use Rattle.pq_store.proofs.Order.{before_side}
use Rattle.pq_store.proofs.Points.{IsApart, AreAlike, IsTurned, yes_point, no_point, yes_turns, apart, skips_yes, skips_no}
use Rattle.pq_store.proofs.Sides.{yes_diagram, no_diagram, past_diagram, past_before}
use Rattle.pq_store.proofs.Past.{hit, LeavesNumber, free_number, Misses, miss}
use Rattle.pq_store.proofs.Unique.{side, past_same, yes_same, same_tree}
use Rattle.pq_store.proofs.RoomLemmas.{roomy}
use Rattle.pq_store.proofs.Mixed.{mixed, early_number, mixed_in_range, mixed_early, mixed_same}

-- the numbers in prerequisites
abbrev keys : List ℕ
keys = 0x0800 ∷ 0x86dd ∷ 6 ∷ 17 ∷ []

abbrev pub IsKey : ℕ → Type 0
IsKey v = IsNone v keys → ⊥

-- the point passes all of the tests
abbrev pub AllPass : List Test → Point → Type 0
AllPass [] p = Unit {0}
AllPass (r ∷ rs) p = (answer r p ≡ true) × AllPass rs p

-- the points answer alike but for tests of the field
abbrev pub AreAlikeOff : Field → Point → Point → Type 0
AreAlikeOff f p q = (t : Test) → (rank f ≡ rank (field_of t) → ⊥) → answer t p ≡ answer t q

-- what is apart is so both ways
apart_sym : (s t : Test) → IsApart s t → IsApart t s
apart_sym (Equal f v) (Equal g w) other = λ same. other (sym same)
apart_sym (Equal f v) (Bit g j) other = tt
apart_sym (Bit f i) (Equal g w) other = tt
apart_sym (Bit f i) (Bit g j) other = λ same place. other (sym same) (sym place)

-- points alike but for one test of the field are alike but for all
alike_off : (f : Field) (s : Test) (p q : Point) → rank f ≡ rank (field_of s) → AreAlike s p q → AreAlikeOff f p q
alike_off f s p q own alike t other = alike t (by s t own other)
  where
    by : (s t : Test) → rank f ≡ rank (field_of s) → (rank f ≡ rank (field_of t) → ⊥) → IsApart s t
    by (Equal g v) (Equal h w) own other = λ same. other (own ∙ same)
    by (Equal g v) (Bit h j) own other = tt
    by (Bit g i) (Equal h w) own other = tt
    by (Bit g i) (Bit h j) own other = λ same place. other (own ∙ same)

-- they stay so where both say no to a test
no_alike : (f : Field) (s : Test) (k : ℕ) (p q : Point) → AreAlikeOff f p q → AreAlikeOff f (no_point s k p) (no_point s k q)
no_alike f (Equal g v) k p q alike (Equal h w) other = by (rank g == rank h)
  where
    by : (b : Bool) → ((if b then k else p.number h) == w) ≡ ((if b then k else q.number h) == w)
    by true = refl
    by false = alike (Equal h w) other
no_alike f (Equal g v) k p q alike (Bit h j) other = alike (Bit h j) other
no_alike f (Bit g i) k p q alike (Equal h w) other = alike (Equal h w) other
no_alike f (Bit g i) k p q alike (Bit h j) other = by ((rank g == rank h) && (i == j))
  where
    by : (b : Bool) → (if b then false else p.bit h j) ≡ (if b then false else q.bit h j)
    by true = refl
    by false = alike (Bit h j) other

-- the points that lack a field stay such where they gain none of the numbers in its prerequisites
abbrev pub StayLacking : Field → (Point → Type 0) → Type 0
StayLacking f Lacks = (p q : Point) → ((g : Field) (v : ℕ) → rank g < rank f → IsKey v → answer (Equal g v) q ≡ true
    → answer (Equal g v) p ≡ true) → Lacks p → Lacks q

module _ (f : Field) (Lacks : Point → Type 0) (stay : StayLacking f Lacks) where
  -- points alike but for the field lack it both
  lacks_off : (p q : Point) → AreAlikeOff f p q → Lacks p → Lacks q
  lacks_off p q alike lacks = stay p q (λ g v less key is. alike (Equal g v) (λ same. omega arith) ∙ is) lacks

  -- a number that is in no prerequisites leaves it lacking
  lacks_miss : (s : Test) (k : ℕ) (p : Point) → IsNone k keys → Lacks p → Lacks (no_point s k p)
  lacks_miss (Equal g v) k p none lacks = stay p (no_point (Equal g v) k p) still lacks
    where
      still : (h : Field) (w : ℕ) → rank h < rank f → IsKey w → answer (Equal h w) (no_point (Equal g v) k p) ≡ true → answer (Equal h w) p ≡ true
      still h w less key = by (rank g == rank h)
        where
          by : (b : Bool) → ((if b then k else p.number h) == w) ≡ true → (p.number h == w) ≡ true
          by true is = absurd (key (subst (λ m. IsNone m keys) (eqb-true k w is) none))
          by false is = is
  lacks_miss (Bit g i) k p none lacks = stay p (no_point (Bit g i) k p) (λ h w less key is. is) lacks

  -- no point that passes the tests lacks the field
  abbrev pub NoneLacks : List Test → Type 0
  NoneLacks passed = (x : Point) → InRange x → AllPass passed x → Lacks x → ⊥

module _ {L : Type 0} where
  -- the tests precede the tree and ask for something else than it
  abbrev pub AreAhead : List Test → Tree L → Type 0
  AreAhead [] t = Unit {0}
  AreAhead (r ∷ rs) t = (IsLawful r × IsBefore r t × SkipsBelow r t) × AreAhead rs t

  -- so they do on its yes side
  ahead_yes : (rs : List Test) (s : Test) (y n : Tree L) → IsDiagram (Fork s y n) → AreAhead rs (Fork s y n) → AreAhead rs y
  ahead_yes [] s y n d ahead = tt
  ahead_yes (r ∷ rs) s y n d ahead = ((ahead.0.0, before_side r s y ahead.0.1 d.ascends.0, skips_yes r s y n ahead.0.2), ahead_yes rs s y n d ahead.1)

  -- and on its no side
  pub ahead_no : (rs : List Test) (s : Test) (y n : Tree L) → IsDiagram (Fork s y n) → AreAhead rs (Fork s y n) → AreAhead rs n
  ahead_no [] s y n d ahead = tt
  ahead_no (r ∷ rs) s y n d ahead = ((ahead.0.0, before_side r s n ahead.0.1 d.ascends.1, skips_no r s y n ahead.0.2), ahead_no rs s y n d ahead.1)

  -- with the root's own test on the yes side
  pub own_ahead : (rs : List Test) (s : Test) (y n : Tree L) → IsDiagram (Fork s y n) → AreAhead rs (Fork s y n) → AreAhead (s ∷ rs) y
  own_ahead rs s y n d ahead = ((d.lawful.0, d.ascends.0, d.asks_once.0), ahead_yes rs s y n d ahead)

  -- points alike but for the root's test pass them both
  pub pass_still : (rs : List Test) (s : Test) (y n : Tree L) (p q : Point) → AreAhead rs (Fork s y n) → AreAlike s p q → AllPass rs p → AllPass rs q
  pass_still [] s y n p q ahead alike pass = tt
  pass_still (r ∷ rs) s y n p q ahead alike pass =
      (sym (alike r (apart_sym r s (apart r s y n ahead.0.1 ahead.0.2))) ∙ pass.0, pass_still rs s y n p q ahead.1 alike pass.1)

  -- and so does a point that answers the tests before the root as one that passes them
  pass_mixed : (rs : List Test) (s : Test) (y n : Tree L) (x p : Point) → IsLawful s → AreAhead rs (Fork s y n) → AllPass rs x → AllPass rs (mixed s x p)
  pass_mixed [] s y n x p lawful ahead pass = tt
  pass_mixed (r ∷ rs) s y n x p lawful ahead pass =
      (mixed_early r s x p ahead.0.1 (apart r s y n ahead.0.1 ahead.0.2) ahead.0.0 lawful ∙ pass.0, pass_mixed rs s y n x p lawful ahead.1 pass.1)

  -- a fork leaves more numbers than those in prerequisites
  spare : (s : Test) (y n : Tree L) (l : L) → Fits (Fork s y n) → LeavesNumber (length keys) s n (Tip l)
  spare (Equal g v) y n l fit =
      let one : counts g (Equal g v) ≡ 1 = rw (eq-eqb (rank g) (rank g) refl) refl in
      omega (arith, fit g, le-max_right (most g y) (most g n), roomy g)
  spare (Bit g i) y n l fit = tt

  module _ (f : Field) (Lacks : Point → Type 0) (stay : StayLacking f Lacks) where
    -- at points that pass the tests and lack the field the tree says the same whatever is asked of the field
    abbrev pub IgnoresIn : List Test → Tree L → Type 0
    IgnoresIn passed t = (p q : Point) → InRange p → InRange q → AllPass passed p → AllPass passed q → Lacks p → AreAlikeOff f p q → leaf_at t p ≡ leaf_at t q

    -- a test of the field is reached by no point that lacks it
    abbrev pub Guarded : List Test → Tree L → Type 0
    Guarded passed (Tip l) = Unit {0}
    Guarded passed (Fork s y n) = (rank f ≡ rank (field_of s) → NoneLacks f Lacks stay passed) × Guarded (s ∷ passed) y × Guarded passed n

    module _ (passed : List Test) (s : Test) (y n : Tree L) (d : IsDiagram (Fork s y n)) (ahead : AreAhead passed (Fork s y n))
        (same : IgnoresIn passed (Fork s y n)) where
      -- what is asked of the field leads to one side
      equal_sides : rank f ≡ rank (field_of s) → (x : Point) → InRange x → AllPass passed x → Lacks x → (p : Point) → InRange p
          → leaf_at y p ≡ leaf_at (past s n) p
      equal_sides own x x_in pass lacks p p_in =
          let lawful = d.lawful.0 in
          let no_d = no_diagram s y n d in
          let m : Point = mixed s x p in
          let m_in : InRange m = mixed_in_range s x p x_in p_in in
          let m_pass : AllPass passed m = pass_mixed passed s y n x p lawful ahead pass in
          let m_lacks : Lacks m = stay x m (λ g v less key is. subst (λ k. (k == v) ≡ true) (early_number s x p g (omega arith)) is) lacks in
          let yes : Point = yes_point s m in
          let yes_turned : IsTurned s true m yes = yes_turns s m lawful m_in in
          let found = free_number s n (Tip (leaf_at n m)) keys (spare s y n (leaf_at n m) d.fits) in
          let no : Point = no_point s found.0 m in
          let missed : Misses s n (Tip (leaf_at n m)) m no = miss s n (Tip (leaf_at n m)) found.0 m found.1 m_in in
          let no_turned = missed.turned in
          let yes_off : AreAlikeOff f m yes = alike_off f s m yes own yes_turned.alike in
          let no_off : AreAlikeOff f m no = alike_off f s m no own no_turned.alike in
          sym (mixed_same s x p y d.ascends.0 d.ascends.2)
          ∙ yes_same s y n m yes d yes_turned
          ∙ same yes no yes_turned.in_range no_turned.in_range
          (pass_still passed s y n m yes ahead yes_turned.alike m_pass) (pass_still passed s y n m no ahead no_turned.alike m_pass)
          (lacks_off f Lacks stay m yes yes_off m_lacks) (λ t other. sym (yes_off t other) ∙ no_off t other)
          ∙ side s y n no false no_turned.answers
          ∙ missed.left
          ∙ sym (past_same s n m no no_turned.alike lawful d.ascends.1 no_d)
          ∙ mixed_same s x p (past s n) (past_before s s n d.ascends.1 no_d) (past_diagram s n no_d).ascends

      -- so no point that lacks it comes to a test of the field
      none_lacks : rank f ≡ rank (field_of s) → NoneLacks f Lacks stay passed
      none_lacks own x x_in pass lacks =
          d.reduced.0 (same_tree y (past s n) (yes_diagram s y n d) (past_diagram s n (no_diagram s y n d)) (equal_sides own x x_in pass lacks))

      -- a test of another field leaves both sides such
      yes_ignores : IgnoresIn (s ∷ passed) y
      yes_ignores p q p_in q_in p_pass q_pass lacks alike =
          sym (side s y n p true p_pass.0) ∙ same p q p_in q_in p_pass.1 q_pass.1 lacks alike ∙ side s y n q true q_pass.0

      no_ignores : (rank f ≡ rank (field_of s) → ⊥) → IgnoresIn passed n
      no_ignores other p q p_in q_in p_pass q_pass lacks alike = by (answer s p) refl
        where
          by : (b : Bool) → answer s p ≡ b → leaf_at n p ≡ leaf_at n q
          by false is = sym (side s y n p false is) ∙ same p q p_in q_in p_pass q_pass lacks alike ∙ side s y n q false (sym (alike s other) ∙ is)
          by true is =
              let lawful = d.lawful.0 in
              let no_d = no_diagram s y n d in
              let found = free_number s n (Tip (leaf_at n p)) keys (spare s y n (leaf_at n p) d.fits) in
              let k = found.0 in
              let p_no : Point = no_point s k p in
              let q_no : Point = no_point s k q in
              let p_missed : Misses s n (Tip (leaf_at n p)) p p_no = miss s n (Tip (leaf_at n p)) k p found.1 p_in in
              let q_missed : Misses s n (Tip (leaf_at n p)) q q_no = miss s n (Tip (leaf_at n p)) k q found.1 q_in in
              let p_turned = p_missed.turned in
              let q_turned = q_missed.turned in
              hit s n p is d.ascends.1 no_d.ascends
              ∙ past_same s n p p_no p_turned.alike lawful d.ascends.1 no_d
              ∙ sym p_missed.left
              ∙ sym (side s y n p_no false p_turned.answers)
              ∙ same p_no q_no p_turned.in_range q_turned.in_range
              (pass_still passed s y n p p_no ahead p_turned.alike p_pass) (pass_still passed s y n q q_no ahead q_turned.alike q_pass)
              (lacks_miss f Lacks stay s k p found.2 lacks) (no_alike f s k p q alike)
              ∙ side s y n q_no false q_turned.answers
              ∙ q_missed.left
              ∙ sym (past_same s n q q_no q_turned.alike lawful d.ascends.1 no_d)
              ∙ sym (hit s n q (sym (alike s other) ∙ is) d.ascends.1 no_d.ascends)

    -- where no point that passes the tests lacks the field, nothing is asked of a tree below
    none_ignores : (passed : List Test) (t : Tree L) → NoneLacks f Lacks stay passed → IgnoresIn passed t
    none_ignores passed t none p q p_in q_in p_pass q_pass lacks alike = absurd (none p p_in p_pass lacks)

    pub guarded : (passed : List Test) (t : Tree L) → IsDiagram t → AreAhead passed t → IgnoresIn passed t → Guarded passed t
    guarded passed (Tip l) d ahead same = tt
    guarded passed (Fork s y n) d ahead same =
        let yes_d = yes_diagram s y n d in
        let no_d = no_diagram s y n d in
        let yes_ahead = own_ahead passed s y n d ahead in
        let no_ahead = ahead_no passed s y n d ahead in
        let none = none_lacks passed s y n d ahead same in
        elim (eqb_tells (rank f) (rank (field_of s))) [
          | inl own ↦ (
            none,
            guarded (s ∷ passed) y yes_d yes_ahead (yes_ignores passed s y n d ahead same),
            guarded passed n no_d no_ahead (none_ignores passed n (none own.1)),
          )
          | inr other ↦ (
            none,
            guarded (s ∷ passed) y yes_d yes_ahead (yes_ignores passed s y n d ahead same),
            guarded passed n no_d no_ahead (no_ignores passed s y n d ahead same other.1),
          )
        ]

    -- where each point lacks the field, it isn't tested
    pub guarded_untested : ((p : Point) → Lacks p) → (passed : List Test) (t : Tree L) → IsDiagram t → AreAhead passed t → Guarded passed t
        → (z : Point) → InRange z → AllPass passed z → (s : Test) → IsTested s t → rank f ≡ rank (field_of s) → ⊥
    guarded_untested all passed (Tip l) d ahead guards z z_in pass s tested own = tested
    guarded_untested all passed (Fork r y n) d ahead guards z z_in pass s (inl is) own =
        guards.0 (subst (λ q. rank f ≡ rank (field_of q)) is own) z z_in pass (all z)
    guarded_untested all passed (Fork r y n) d ahead guards z z_in pass s (inr (inl in_yes)) own =
        let turned = yes_turns r z d.lawful.0 z_in in
        guarded_untested all (r ∷ passed) y (yes_diagram r y n d) (own_ahead passed r y n d ahead) guards.1 (yes_point r z) turned.in_range
        (turned.answers, pass_still passed r y n z (yes_point r z) ahead turned.alike pass) s in_yes own
    guarded_untested all passed (Fork r y n) d ahead guards z z_in pass s (inr (inr in_no)) own =
        guarded_untested all passed n (no_diagram r y n d) (ahead_no passed r y n d ahead) guards.2 z z_in pass s in_no own
