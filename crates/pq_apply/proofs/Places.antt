-- The places that a split of a node gives, and those of two roots.
use Rattle.std.proofs.Common.{◌≡◌, ◌⊎◌, ℕ, ◌+◌, ◌<◌, ◌≤◌, true, false, List, Option, None, Some, length, refl, sym, ◌∙◌, ap, subst, inl, inr, arith}
use Rattle.std.specs.Prelude.{slice_get}
use Rattle.std.proofs.lemmas.Option.{slice_get_within}
use Rattle.pq_store.specs.declared.test.Test.{Test}
use Rattle.pq_store.specs.Test.{IsLawful, Precedes}
use Rattle.pq_store.specs.Tree.{Tree, past}
use Rattle.pq_store.specs.Tree.Tree.{Fork}
use Rattle.pq_store.specs.Diagram.{IsBefore}
use Rattle.pq_store.specs.Store.{AreDiagrams, IsPastAt, Keeps, ShowsBranch}
use Rattle.pq_lists.proofs.Places.{at_place, one_at}
use Rattle.pq_store.proofs.Sides.{size}
use Rattle.pq_apply.specs.Split.{HasRootAt, IsAtOrBefore, IsEarlier, IsLawfulRoot, LeadsAt, SplitsAt}
use Rattle.pq_apply.proofs.Splits.{IsRoot, IsSide, root_lawful, split_no, split_yes}

-- the first of a lawful test and a lawful root is lawful
pub earlier_lawful : (r : Test) (other : Option Test) (s : Test) → IsLawful r → IsLawfulRoot other → IsEarlier r other s → IsLawful s
earlier_lawful r None s lawful root earlier = elim earlier.is [ inl is ↦ subst IsLawful (sym is) lawful | inr is ↦ absurd cc ]
earlier_lawful r (Some t) s lawful root earlier = elim earlier.is [
  | inl is ↦ subst IsLawful (sym is) lawful
  | inr is ↦ (let same : t ≡ s = cc in subst IsLawful same root)
]

-- a number is no larger than another, and smaller where this holds
pub record IsSmaller (Where : Type 0) (less more : ℕ) : Type 0 where
  pub small : less ≤ more
  pub smaller : Where → less < more

-- two such numbers together are smaller where one of them is
pub together : {P Q : Type 0} {a b c d : ℕ} → IsSmaller P a b → IsSmaller Q c d → IsSmaller (P ⊎ Q) (a + c) (b + d)
together {P} {Q} {a} {b} {c} {d} first second = record { small = omega (arith, first.small, second.small); smaller = smaller }
  where
    smaller : P ⊎ Q → a + c < b + d
    smaller (inl is) = omega (arith, first.smaller is, second.small)
    smaller (inr is) = omega (arith, first.small, second.smaller is)

module _ {L : Type 0} where
  -- a node whose root is the test splits into its sides
  pub splits_root : (ts : List (Tree L)) (s r : Test) (k i j : ℕ) → ShowsBranch ts k r i j → LeadsAt s ts k → (Precedes s r → ⊥) → SplitsAt ts s k i j
  splits_root ts s r k i j shows leads not t t_is =
      (shows.yes_tree, shows.no_tree, shows.yes_is, shows.no_is, inl (own (leads (Fork r shows.yes_tree shows.no_tree) shows.is)))
    where
      own : IsAtOrBefore s r → t ≡ Fork s shows.yes_tree shows.no_tree
      own (inl is) = one_at ts k t (Fork r shows.yes_tree shows.no_tree) t_is shows.is ∙ ap (λ x. Fork x shows.yes_tree shows.no_tree) (sym is)
      own (inr before) = absurd (not before)

  -- a later node splits into what it says past the test, and itself
  pub splits_later : (ts : List (Tree L)) (s : Test) (k p : ℕ) (u : Tree L) → slice_get ts k ≡ Some u → IsBefore s u → IsPastAt ts s k p → SplitsAt ts s k p k
  splits_later ts s k p u u_is before is t t_is =
      (past s t, t, is t t_is, t_is, inr (subst (IsBefore s) (one_at ts k u t u_is t_is) before, refl, refl))

  -- the root at a place of a store is lawful
  pub lawful_at : (ts : List (Tree L)) (k : ℕ) (r : Option Test) → AreDiagrams ts → k < length ts → HasRootAt ts k r → IsLawfulRoot r
  lawful_at ts k None diagrams within has = tt
  lawful_at ts k (Some s) diagrams within has = let t = at_place ts k within in root_lawful s t.0 (diagrams k t.0 t.1) (has t.0 t.1)

  -- the size of a tree that may be there
  abbrev pub size_of : Option (Tree L) → ℕ
  size_of None = 0
  size_of (Some t) = size t

  -- the size of the tree at a place
  abbrev pub size_at : List (Tree L) → ℕ → ℕ
  size_at ts k = size_of (slice_get ts k)

  -- the trees at the places that a split gives are sides of the tree that is split
  pub record SidesAt (ts : List (Tree L)) (s : Test) (t : Tree L) (i j : ℕ) : Type 0 where
    pub yes : Tree L
    pub no : Tree L
    pub yes_is : slice_get ts i ≡ Some yes
    pub no_is : slice_get ts j ≡ Some no
    pub yes_side : IsSide true s t yes
    pub no_side : IsSide false s t no

  -- so they are, in a store of diagrams
  pub sides_at : (ts : List (Tree L)) (s : Test) (t : Tree L) (k i j : ℕ) → IsLawful s → AreDiagrams ts → slice_get ts k ≡ Some t
      → SplitsAt ts s k i j → SidesAt ts s t i j
  sides_at ts s t k i j lawful diagrams t_is splits =
      let p = splits t t_is in
      let d = diagrams k t t_is in
      record {
        yes = p.0;
        no = p.1;
        yes_is = p.2;
        no_is = p.3;
        yes_side = split_yes s t p.0 p.1 lawful d p.4;
        no_side = split_no s t p.0 p.1 d p.4;
      }

  -- the yes side is in the store
  pub yes_within : {ts : List (Tree L)} {s : Test} {t : Tree L} {i j : ℕ} → SidesAt ts s t i j → i < length ts
  yes_within {ts} {s} {t} {i} sides = slice_get_within ts i sides.yes sides.yes_is

  -- and so does the no side
  pub no_within : {ts : List (Tree L)} {s : Test} {t : Tree L} {i j : ℕ} → SidesAt ts s t i j → j < length ts
  no_within {ts} {s} {t} {i} {j} sides = slice_get_within ts j sides.no sides.no_is

  -- the yes side is no larger, and smaller where the test is the root
  pub yes_small : {ts : List (Tree L)} {s : Test} {t : Tree L} {i j : ℕ} (k : ℕ) → slice_get ts k ≡ Some t → SidesAt ts s t i j
      → IsSmaller (IsRoot s t) (size_at ts i) (size_at ts k)
  yes_small k t_is sides = rw (sides.yes_is, t_is) (record { small = sides.yes_side.small; smaller = sides.yes_side.smaller })

  -- and so is the no side
  pub no_small : {ts : List (Tree L)} {s : Test} {t : Tree L} {i j : ℕ} (k : ℕ) → slice_get ts k ≡ Some t → SidesAt ts s t i j
      → IsSmaller (IsRoot s t) (size_at ts j) (size_at ts k)
  no_small k t_is sides = rw (sides.no_is, t_is) (record { small = sides.no_side.small; smaller = sides.no_side.smaller })

  -- sides keep their places while the store grows
  pub sides_still : {ts vs : List (Tree L)} {s : Test} {t : Tree L} {y n : ℕ} → Keeps ts vs → SidesAt ts s t y n → SidesAt vs s t y n
  sides_still {y = y} {n = n} keeps sides = record {
    yes = sides.yes;
    no = sides.no;
    yes_is = keeps y sides.yes sides.yes_is;
    no_is = keeps n sides.no sides.no_is;
    yes_side = sides.yes_side;
    no_side = sides.no_side;
  }

  -- a node's tree has one size while the store grows
  pub size_still : (ts vs : List (Tree L)) (k : ℕ) (t : Tree L) → slice_get ts k ≡ Some t → slice_get vs k ≡ Some t → size_at vs k ≡ size_at ts k
  size_still ts vs k t t_is still = rw (t_is, still) refl
