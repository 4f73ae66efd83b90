-- Diagrams at a number of the field at their front, and choices by a test.
use Rattle.std.proofs.Common.{ℕ, ◌<◌, ◌≡◌, ◌∙◌, ◌⊎◌, Bool, true, false, List, Some, if◌then◌else◌, inl, inr, refl, ap, subst, arith}
use Rattle.std.specs.Prelude.{length, slice_get}
use Rattle.std.proofs.lemmas.Option.{slice_get_within}
use Rattle.pq_fields.specs.declared.field.Field.{Field}
use Rattle.pq_fields.specs.Packet.{rank}
use Rattle.pq_store.specs.declared.test.Test.{Test}
use Rattle.pq_store.specs.Test.{field_of, passes}
use Rattle.pq_store.specs.Tree.{Tree, IsTested, value}
use Rattle.pq_store.specs.Tree.Tree.{Tip, Fork}
use Rattle.pq_store.specs.Room.{HasRoom, Within}
use Rattle.pq_store.specs.Store.{AreDiagrams, ShowsBranch}
use Rattle.pq_store.proofs.RoomLemmas.{fork_within, room_for, tip_within}
use Rattle.pq_apply.specs.Choice.{ChoosesAt, FitAsChoiceAt}
use Rattle.pq_apply.specs.Restricting.{IsLater, IsRestrictedAt, decides}
use Rattle.pq_apply.specs.Restriction.{RestrictsAt}
use Rattle.pq_apply.proofs.Restricted.{keep_restricted, restricted_tree, side_restricted}
use Rattle.pq_join.specs.Fronts.{ChoosesByTestAt, FitByTestAt, Starts, StartsAt}

-- the diagram of a test
abbrev pub test_tree : Test → Tree Bool
test_tree s = Fork s (Tip true) (Tip false)

module _ {L : Type 0} where
  -- a tree without tests of a field starts after it
  pub starts_side : (b : Bool) (f : Field) (s : Test) (y n : Tree L) → Starts f (Fork s y n) → Starts f (if b then y else n)
  starts_side true f s y n starts r tested = starts r (inr (inl tested))
  starts_side false f s y n starts r tested = starts r (inr (inr tested))

  -- the restriction of the tree at one place is that of the tree at another
  pub record IsReached (f : Field) (v : ℕ) (ts : List (Tree L)) (from at : ℕ) : Type 0 where
    pub within : at < length ts
    pub starts : StartsAt f ts at
    pub back : (id : ℕ) → IsRestrictedAt f v ts at id → IsRestrictedAt f v ts from id

  pub reached_first : (f : Field) (v : ℕ) (ts : List (Tree L)) (k : ℕ) → k < length ts → StartsAt f ts k → IsReached f v ts k k
  reached_first f v ts k within starts = record { within = within; starts = starts; back = λ id h. h }

  -- so is that of the side that the number decides
  pub reached_side : (f : Field) (v : ℕ) (ts : List (Tree L)) (from at : ℕ) (s : Test) (i j next : ℕ) → IsReached f v ts from at → ShowsBranch ts at s i j
      → rank (field_of s) ≡ rank f → next ≡ (if decides s v then i else j) → IsReached f v ts from next
  reached_side f v ts from at s i j next reached shows same is = by (decides s v) refl
    where
      back : (id : ℕ) → IsRestrictedAt f v ts next id → IsRestrictedAt f v ts from id
      back id h = reached.back id (side_restricted f v ts ts at next id (λ k u u_is. u_is) (s, i, j, shows, same, is) h)

      there : (b : Bool) → decides s v ≡ b → slice_get ts next ≡ Some (if b then shows.yes_tree else shows.no_tree)
      there true e = ap (slice_get ts) (is ∙ ap (λ b. if b then i else j) e) ∙ shows.yes_is
      there false e = ap (slice_get ts) (is ∙ ap (λ b. if b then i else j) e) ∙ shows.no_is

      by : (b : Bool) → decides s v ≡ b → IsReached f v ts from next
      by b e = record {
        within = slice_get_within ts next (if b then shows.yes_tree else shows.no_tree) (there b e);
        starts = λ t t_is.
            let side = there b e in
            let same_tree : (if b then shows.yes_tree else shows.no_tree) ≡ t = cc in
            subst (Starts f) same_tree (starts_side b f s shows.yes_tree shows.no_tree (reached.starts (Fork s shows.yes_tree shows.no_tree) shows.is));
        back = back;
      }

  -- a tree of later fields is the restriction
  reached_later : (f : Field) (v : ℕ) (ts : List (Tree L)) (from at : ℕ) (t : Tree L) → IsReached f v ts from at → AreDiagrams ts
      → slice_get ts at ≡ Some t → IsLater f t → RestrictsAt f v ts from ts at
  reached_later f v ts from at t reached diagrams t_is later =
      restricted_tree f v ts ts from at (λ k u u_is. u_is) (reached.back at (keep_restricted f v ts at diagrams (t, t_is, later)))

  pub reached_leaf : (f : Field) (v : ℕ) (ts : List (Tree L)) (from at : ℕ) (l : L) → IsReached f v ts from at → AreDiagrams ts
      → slice_get ts at ≡ Some (Tip l) → RestrictsAt f v ts from ts at
  reached_leaf f v ts from at l reached diagrams is = reached_later f v ts from at (Tip l) reached diagrams is tt

  pub reached_other : (f : Field) (v : ℕ) (ts : List (Tree L)) (from at : ℕ) (s : Test) (i j : ℕ) → IsReached f v ts from at → AreDiagrams ts
      → ShowsBranch ts at s i j → (rank (field_of s) ≡ rank f → ⊥) → RestrictsAt f v ts from ts at
  reached_other f v ts from at s i j reached diagrams shows other =
      let least = reached.starts (Fork s shows.yes_tree shows.no_tree) shows.is s (inl refl) in
      reached_later f v ts from at (Fork s shows.yes_tree shows.no_tree) reached diagrams shows.is (omega (arith, least, other))

  -- Choices by a test.

  -- it may choose between two trees where the test may be before them
  pub test_fits : (s : Test) (cs : List (Tree Bool)) (k : ℕ) (ts : List (Tree L)) (i j : ℕ) → slice_get cs k ≡ Some (test_tree s)
      → FitByTestAt s ts i j → FitAsChoiceAt cs k ts i j
  test_fits s cs k ts i j test fits c y n c_is y_is n_is =
      let same : test_tree s ≡ c = cc in
      subst (λ d. HasRoom (λ ns. Within ns d × Within ns y × Within ns n)) same
      (room_for (λ ns w. (fork_within ns s (Tip true) (Tip false) w.0 (tip_within ns true) (tip_within ns false), w.1, w.2)) (fits y n y_is n_is))

  -- and then chooses by the test
  pub test_chooses : (s : Test) (cs : List (Tree Bool)) (k : ℕ) (ts new : List (Tree L)) (i j id : ℕ) → slice_get cs k ≡ Some (test_tree s)
      → ChoosesAt cs k ts i j new id → ChoosesByTestAt s ts i j new id
  test_chooses s cs k ts new i j id test chooses y n y_is n_is =
      let made = chooses (test_tree s) y n test y_is n_is in
      (made.0, made.1, record { gives = λ x. made.2.gives x ∙ by (passes s x) (value y x) (value n x); tests = λ q tested. told q (made.2.tests q tested) })
    where
      by : (b : Bool) (u w : L) → (if (if b then true else false) then u else w) ≡ (if b then u else w)
      by true u w = refl
      by false u w = refl

      told : (q : Test) → IsTested q (test_tree s) ⊎ (IsTested q y ⊎ IsTested q n) → (q ≡ s) ⊎ (IsTested q y ⊎ IsTested q n)
      told q (inl (inl same)) = inl same
      told q (inl (inr (inl none))) = absurd none
      told q (inl (inr (inr none))) = absurd none
      told q (inr sides) = inr sides
