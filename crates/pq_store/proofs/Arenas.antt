-- The trees that the cells of a store stand for.
use Rattle.std.proofs.Common.{◌≡◌, ℕ, zero, suc, ◌+◌, ◌<◌, ◌≤◌, List, [], ◌∷◌, ◌++◌, length, Option, None, Some, Bool, true, false, ◌==◌}
use Rattle.std.proofs.Common.{if◌then◌else◌, fold, inl, inr, refl, sym, ap, subst, ◌∙◌, arith}
use Rattle.std.proofs.lemmas.Grind.{fold-append}
use Rattle.std.proofs.Math.ListN.{length-append}
use Rattle.std.proofs.lemmas.Bool.{true≢false}
use Rattle.std.proofs.lemmas.List.Folds.{list_any_at}
use Rattle.std.proofs.lemmas.Option.{slice_get_within, get_or_from_slice_get}
use Rattle.std.specs.List.{list_any}
use Rattle.indexmap.specs.IndexSet.{insert_key}
use Rattle.std.specs.Prelude.{◌⊎◌, slice_get}
use Rattle.std.specs.Option.{option_map}
use Rattle.std.specs.Result.{IfOk, OnErr}
use Rattle.std.specs.declared.result.Result.{Result}
use Rattle.std.specs.declared.result.Result.TheVariants.{Ok, Err}
use Rattle.pq_fields.specs.declared.field.Field.{Field}
use Rattle.pq_fields.specs.Packet.{Numbers, Fit, rank}
use Rattle.pq_store.specs.declared.test.Test.{Test}
use Rattle.pq_store.specs.declared.test.Test.TheVariants.{Equal, Bit}
use Rattle.pq_store.specs.declared.cell.Branch.{Branch}
use Rattle.pq_store.specs.declared.cell.Cell.{Cell}
use Rattle.pq_store.specs.declared.cell.Cell.TheVariants as cell
use Rattle.pq_store.specs.Tree.{Tree, past, rest, value}
use Rattle.pq_store.specs.Tree.Tree.{Tip, Fork}
use Rattle.pq_store.specs.Diagram.{IsDiagram}
use Rattle.pq_store.specs.Store.{Keeps, IsCanonical, value_at}
use Rattle.pq_store.specs.Arena.{put_fork, put_cell, trees, KnowsPast, IsArena, fork_of, tree_of, CanStand}
use Rattle.pq_lists.proofs.Places.{kept_places, last_place, older_or_last, at_place}
use Rattle.pq_store.proofs.Canonical.{one_diagram}

module _ {L : Type 0} where
  -- the trees at the sides of a branch, and the fork of them
  pub record Sides (ts : List (Tree L)) (b : Branch) (t : Tree L) : Type 0 where
    pub yes_tree : Tree L
    pub no_tree : Tree L
    pub yes_is : slice_get ts b.yes ≡ Some yes_tree
    pub no_is : slice_get ts b.no ≡ Some no_tree
    pub tree_is : t ≡ Fork b.test yes_tree no_tree

  -- a branch stands for a tree only where its sides do
  pub sides_of : (ts : List (Tree L)) (b : Branch) (t : Tree L) → tree_of ts (cell.Branch b) ≡ Some t → Sides ts b t
  sides_of ts b t h = by (slice_get ts b.yes) (slice_get ts b.no) refl refl h
    where
      by : (y n : Option (Tree L)) → slice_get ts b.yes ≡ y → slice_get ts b.no ≡ n → fork_of b.test y n ≡ Some t → Sides ts b t
      by None n y_is n_is e = absurd cc
      by (Some y) None y_is n_is e = absurd cc
      by (Some y) (Some n) y_is n_is e = record { yes_tree = y; no_tree = n; yes_is = y_is; no_is = n_is; tree_is = cc }

  -- a branch whose sides stand for trees stands for their fork
  pub of_sides : (ts : List (Tree L)) (b : Branch) (y n : Tree L) → slice_get ts b.yes ≡ Some y → slice_get ts b.no ≡ Some n
      → tree_of ts (cell.Branch b) ≡ Some (Fork b.test y n)
  of_sides ts b y n y_is n_is = (λ i. fork_of b.test (y_is i) (n_is i))

  -- a cell stands for one tree while trees are added
  pub kept_tree : (ts us : List (Tree L)) (c : Cell L) (t : Tree L) → Keeps ts us → tree_of ts c ≡ Some t → tree_of us c ≡ Some t
  kept_tree ts us (cell.Leaf l) t keeps h = h
  kept_tree ts us (cell.Branch b) t keeps h =
      let s = sides_of ts b t h in
      of_sides us b s.yes_tree s.no_tree (keeps b.yes s.yes_tree s.yes_is) (keeps b.no s.no_tree s.no_is) ∙ ap Some (sym s.tree_is)

  -- a cell that stands for a tree puts it at the end
  pub put_tree : (ts : List (Tree L)) (c : Cell L) (t : Tree L) → tree_of ts c ≡ Some t → put_cell ts c ≡ ts ++ t ∷ []
  put_tree ts (cell.Leaf l) t h = let e : Tip l ≡ t = cc in ap (λ u. ts ++ u ∷ []) e
  put_tree ts (cell.Branch b) t h =
      let s = sides_of ts b t h in
      (λ i. put_fork ts b.test (s.yes_is i) (s.no_is i)) ∙ ap (λ u. ts ++ u ∷ []) (sym s.tree_is)

  -- a cell stands for a tree, or puts none
  put_or_not : (ts : List (Tree L)) (c : Cell L) → ((t : Tree L) × (tree_of ts c ≡ Some t)) ⊎ (put_cell ts c ≡ ts)
  put_or_not ts (cell.Leaf l) = inl (Tip l, refl)
  put_or_not ts (cell.Branch b) = by (slice_get ts b.yes) (slice_get ts b.no)
    where
      by : (y n : Option (Tree L)) → ((t : Tree L) × (fork_of b.test y n ≡ Some t)) ⊎ (put_fork ts b.test y n ≡ ts)
      by None n = inr refl
      by (Some y) None = inr refl
      by (Some y) (Some n) = inl (Fork b.test y n, refl)

  -- trees keep their places while cells are added
  pub kept_trees : (ts : List (Tree L)) (cs : List (Cell L)) → Keeps ts (fold put_cell ts cs)
  kept_trees ts [] k t h = h
  kept_trees ts (c ∷ cs) k t h = kept_trees (put_cell ts c) cs k t
      (elim (put_or_not ts c) [
        | inl p ↦ subst (λ us. slice_get us k ≡ Some t) (sym (put_tree ts c p.0 p.1)) (kept_places ts (p.0 ∷ []) k t h)
        | inr e ↦ subst (λ us. slice_get us k ≡ Some t) (sym e) h
      ])

  -- a cell adds at most one tree
  length_put : (ts : List (Tree L)) (c : Cell L) → length (put_cell ts c) ≤ length ts + 1
  length_put ts c = elim (put_or_not ts c) [
    | inl p ↦ omega (arith, ap length (put_tree ts c p.0 p.1), length-append ts (p.0 ∷ []))
    | inr e ↦ omega (arith, ap length e)
  ]

  -- so cells add at most one each
  length_trees : (ts : List (Tree L)) (cs : List (Cell L)) → length (fold put_cell ts cs) ≤ length ts + length cs
  length_trees ts [] = omega arith
  length_trees ts (c ∷ cs) = omega (arith, length_trees (put_cell ts c) cs, length_put ts c)

  -- the sides of a cell are below a place
  abbrev pub SidesBelow : ℕ → Cell L → Type 0
  SidesBelow k (cell.Leaf l) = Unit {0}
  SidesBelow k (cell.Branch b) = (b.yes < k) × (b.no < k)

  -- a cell stands for the tree at its place, and its sides are below
  pub record StandsAt (ts : List (Tree L)) (k : ℕ) (c : Cell L) : Type 0 where
    pub tree : Tree L
    pub at : slice_get ts k ≡ Some tree
    pub is : tree_of ts c ≡ Some tree
    pub below : SidesBelow k c

  -- the sides of a cell that stands for a tree are below all that is added
  sides_below : (ts : List (Tree L)) (c : Cell L) (t : Tree L) → tree_of ts c ≡ Some t → SidesBelow (length ts) c
  sides_below ts (cell.Leaf l) t h = tt
  sides_below ts (cell.Branch b) t h =
      let s = sides_of ts b t h in (slice_get_within ts b.yes s.yes_tree s.yes_is, slice_get_within ts b.no s.no_tree s.no_is)

  -- where there are as many trees as cells, the first cell stands for one
  puts_one : (ts : List (Tree L)) (c : Cell L) (cs : List (Cell L)) → length (fold put_cell ts (c ∷ cs)) ≡ length ts + length (c ∷ cs)
      → (t : Tree L) × (tree_of ts c ≡ Some t)
  puts_one ts c cs grown = elim (put_or_not ts c) [
    | inl p ↦ p
    | inr e ↦ absurd (omega (arith, length_trees (put_cell ts c) cs, ap length e))
  ]

  -- then each cell stands for the tree at its place
  stand_after : (ts : List (Tree L)) (cs : List (Cell L)) → length (fold put_cell ts cs) ≡ length ts + length cs
      → (k : ℕ) (c : Cell L) → slice_get cs k ≡ Some c → StandsAt (fold put_cell ts cs) (length ts + k) c
  stand_after ts [] grown k c h = absurd cc
  stand_after ts (d ∷ cs) grown zero c h =
      let p = puts_one ts d cs grown in
      let same : d ≡ c = cc in
      let put : put_cell ts d ≡ ts ++ p.0 ∷ [] = put_tree ts d p.0 p.1 in
      let keeps : Keeps ts (fold put_cell ts (d ∷ cs)) = kept_trees ts (d ∷ cs) in
      let end : length ts + 0 ≡ length ts = omega arith in
      record {
        tree = p.0;
        at = subst (λ j. slice_get (fold put_cell ts (d ∷ cs)) j ≡ Some p.0) (sym end)
            (kept_trees (put_cell ts d) cs (length ts) p.0 (subst (λ us. slice_get us (length ts) ≡ Some p.0) (sym put) (last_place ts p.0)));
        is = subst (λ x. tree_of (fold put_cell ts (d ∷ cs)) x ≡ Some p.0) same (kept_tree ts (fold put_cell ts (d ∷ cs)) d p.0 keeps p.1);
        below = subst (λ j. SidesBelow j c) (sym end) (subst (SidesBelow (length ts)) same (sides_below ts d p.0 p.1));
      }
  stand_after ts (d ∷ cs) grown (suc k) c h =
      let p = puts_one ts d cs grown in
      let put : put_cell ts d ≡ ts ++ p.0 ∷ [] = put_tree ts d p.0 p.1 in
      let longer : length (put_cell ts d) ≡ length ts + 1 = ap length put ∙ length-append ts (p.0 ∷ []) in
      let place : length (put_cell ts d) + k ≡ length ts + suc k = omega arith in
      subst (λ j. StandsAt (fold put_cell ts (d ∷ cs)) j c) place (stand_after (put_cell ts d) cs (omega (arith, grown, longer)) k c h)

  -- each cell of a store stands for the tree at its place
  pub stands : (cs : List (Cell L)) → IsArena cs → (k : ℕ) (c : Cell L) → slice_get cs k ≡ Some c → StandsAt (trees cs) k c
  stands cs arena k c h = let place : length {A = Tree L} [] + k ≡ k = omega arith in
      subst (λ j. StandsAt (trees cs) j c) place (stand_after [] cs (omega (arith, arena.grown)) k c h)

  -- and each tree of a store has a cell
  pub cell_at : (cs : List (Cell L)) → IsArena cs → (k : ℕ) (t : Tree L) → slice_get (trees cs) k ≡ Some t
      → (c : Cell L) × (slice_get cs k ≡ Some c) × StandsAt (trees cs) k c × (tree_of (trees cs) c ≡ Some t)
  cell_at cs arena k t h =
      let within : k < length (trees cs) = slice_get_within (trees cs) k t h in
      let found = at_place cs k (omega (arith, within, arena.grown)) in
      let s = stands cs arena k found.0 found.1 in
      let same : s.tree ≡ t = cc (s.at, h) in
      (found.0, found.1, s, s.is ∙ ap Some same)

  -- the tree has at most one place
  abbrev pub HasOnePlace : List (Tree L) → Tree L → Type 0
  HasOnePlace ts t = (i j : ℕ) → slice_get ts i ≡ Some t → slice_get ts j ≡ Some t → i ≡ j

  -- a cell that stands for a leaf is that leaf
  leaf_of : (ts : List (Tree L)) (c : Cell L) (l : L) → tree_of ts c ≡ Some (Tip l) → c ≡ cell.Leaf l
  leaf_of ts (cell.Leaf m) l h = let e : m ≡ l = cc in ap cell.Leaf e
  leaf_of ts (cell.Branch b) l h = let s = sides_of ts b (Tip l) h in absurd cc

  -- branches that stand for one tree are one, where their sides and pasts have one place each
  branch_of : (ts : List (Tree L)) (c d : Cell L) (s : Test) (y n : Tree L) → HasOnePlace ts y → HasOnePlace ts n → HasOnePlace ts (past s n)
      → KnowsPast ts c → KnowsPast ts d → tree_of ts c ≡ Some (Fork s y n) → tree_of ts d ≡ Some (Fork s y n) → c ≡ d
  branch_of ts (cell.Leaf l) d s y n one_yes one_no behind knows knows_too h k = absurd cc
  branch_of ts (cell.Branch b) (cell.Leaf l) s y n one_yes one_no behind knows knows_too h k = absurd cc
  branch_of ts (cell.Branch b) (cell.Branch e) s y n one_yes one_no behind knows knows_too h k =
      let p = sides_of ts b (Fork s y n) h in
      let q = sides_of ts e (Fork s y n) k in
      let tests : b.test ≡ e.test = cc in
      let b_no : slice_get ts b.no ≡ Some n = cc in
      let e_no : slice_get ts e.no ≡ Some n = cc in
      let b_test : b.test ≡ s = cc in
      let e_test : e.test ≡ s = cc in
      let b_yes : slice_get ts b.yes ≡ Some y = cc in
      let e_yes : slice_get ts e.yes ≡ Some y = cc in
      let yes_same : b.yes ≡ e.yes = one_yes b.yes e.yes b_yes e_yes in
      let no_same : b.no ≡ e.no = one_no b.no e.no b_no e_no in
      let past_same : b.past ≡ e.past = behind b.past e.past
      (subst (λ t. slice_get ts b.past ≡ Some (past t n)) b_test (knows n b_no))
      (subst (λ t. slice_get ts e.past ≡ Some (past t n)) e_test (knows_too n e_no)) in
      λ i. cell.Branch (record { test = tests i; yes = yes_same i; no = no_same i; past = past_same i })

  -- what a tree says past a test has one place, where the tree and what is after its numbers do
  past_place : (ts : List (Tree L)) (s : Test) (t : Tree L) → HasOnePlace ts t → ((f : Field) → HasOnePlace ts (rest f t)) → HasOnePlace ts (past s t)
  past_place ts (Equal f v) t one behind = behind f
  past_place ts (Bit f i) t one behind = one

  -- what is after a field's numbers in a fork has one place, where the fork and what is after them in its no side do
  rest_place : (ts : List (Tree L)) (f : Field) (s : Test) (y n : Tree L) → HasOnePlace ts (Fork s y n) → HasOnePlace ts (rest f n)
      → HasOnePlace ts (rest f (Fork s y n))
  rest_place ts f (Equal g v) y n one behind = by (rank f == rank g)
    where
      by : (b : Bool) → HasOnePlace ts (if b then rest f n else Fork (Equal g v) y n)
      by true = behind
      by false = one
  rest_place ts f (Bit g i) y n one behind = one

  -- each tree of a store has one place, and so has what is after its numbers
  places : (cs : List (Cell L)) → IsArena cs → (t : Tree L) → HasOnePlace (trees cs) t × ((f : Field) → HasOnePlace (trees cs) (rest f t))
  places cs arena (Tip l) = (one, λ f. one)
    where
      one : HasOnePlace (trees cs) (Tip l)
      one i j at_i at_j =
          let c = cell_at cs arena i (Tip l) at_i in
          let d = cell_at cs arena j (Tip l) at_j in
          let same : c.0 ≡ d.0 = leaf_of (trees cs) c.0 l c.3 ∙ sym (leaf_of (trees cs) d.0 l d.3) in
          arena.distinct i j c.0 c.1 (d.1 ∙ ap Some (sym same))
  places cs arena (Fork s y n) =
      let y_places = places cs arena y in
      let n_places = places cs arena n in
      let own : HasOnePlace (trees cs) (Fork s y n) = one y_places.0 n_places.0 (past_place (trees cs) s n n_places.0 n_places.1) in
      (own, λ f. rest_place (trees cs) f s y n own (n_places.1 f))
    where
      one : HasOnePlace (trees cs) y → HasOnePlace (trees cs) n → HasOnePlace (trees cs) (past s n) → HasOnePlace (trees cs) (Fork s y n)
      one one_yes one_no behind i j at_i at_j =
          let c = cell_at cs arena i (Fork s y n) at_i in
          let d = cell_at cs arena j (Fork s y n) at_j in
          let same : c.0 ≡ d.0 = branch_of (trees cs) c.0 d.0 s y n one_yes one_no behind (arena.pasts i c.0 c.1) (arena.pasts j d.0 d.1) c.3 d.3 in
          arena.distinct i j c.0 c.1 (d.1 ∙ ap Some (sym same))

  -- a store has each tree at one place
  pub one_place : (cs : List (Cell L)) → IsArena cs → (t : Tree L) (i j : ℕ) → slice_get (trees cs) i ≡ Some t → slice_get (trees cs) j ≡ Some t → i ≡ j
  one_place cs arena t = (places cs arena t).0

  -- ids whose values are equal are equal
  pub is_canonical : (cs : List (Cell L)) → IsArena cs → IsCanonical (trees cs)
  is_canonical cs arena i j within_i within_j same =
      let t = at_place (trees cs) i within_i in
      let u = at_place (trees cs) j within_j in
      let equal : t.0 ≡ u.0 = one_diagram t.0 u.0 (arena.diagrams i t.0 t.1) (arena.diagrams j u.0 u.1) (values t.0 u.0 t.1 u.1) in
      one_place cs arena t.0 i j t.1 (u.1 ∙ ap Some (sym equal))
    where
      values : (t u : Tree L) → slice_get (trees cs) i ≡ Some t → slice_get (trees cs) j ≡ Some u → (x : Numbers) → Fit x → value t x ≡ value u x
      values t u t_is u_is x fit =
          let left : value_at (trees cs) i x ≡ Some (value t x) = λ k. option_map (λ w. value w x) (t_is k) in
          let right : value_at (trees cs) j x ≡ Some (value u x) = λ k. option_map (λ w. value w x) (u_is k) in
          let both = same x fit in
          cc

  -- one more cell puts its tree at the end
  pub grows : (cs : List (Cell L)) (c : Cell L) (t : Tree L) → tree_of (trees cs) c ≡ Some t → trees (cs ++ c ∷ []) ≡ trees cs ++ t ∷ []
  grows cs c t h = fold-append put_cell [] cs (c ∷ []) ∙ put_tree (trees cs) c t h

  -- a branch that knows what its no side says past its test knows it while trees are added
  knows_still : (ts us : List (Tree L)) (c : Cell L) (t : Tree L) → tree_of ts c ≡ Some t → Keeps ts us → KnowsPast ts c → KnowsPast us c
  knows_still ts us (cell.Leaf l) t is keeps knows = tt
  knows_still ts us (cell.Branch b) t is keeps knows = λ n no_is.
      let s = sides_of ts b t is in
      let kept : slice_get us b.no ≡ Some s.no_tree = keeps b.no s.no_tree s.no_is in
      let same : s.no_tree ≡ n = cc in
      subst (λ m. slice_get us b.past ≡ Some (past b.test m)) same (keeps b.past (past b.test s.no_tree) (knows s.no_tree s.no_is))

  -- a store stays one with a new cell that may be
  pub one_more : (cs : List (Cell L)) (c : Cell L) → IsArena cs → CanStand (trees cs) c → ((k : ℕ) → slice_get cs k ≡ Some c → ⊥) → IsArena (cs ++ c ∷ [])
  one_more cs c arena stand fresh = record {
    grown = ap length longer ∙ length-append (trees cs) (stand.tree ∷ []) ∙ ap (λ n. n + 1) arena.grown ∙ sym (length-append cs (c ∷ []));
    diagrams = λ k t h. diagram k t (subst (λ ts. slice_get ts k ≡ Some t) longer h);
    pasts = λ k d h. subst (λ ts. KnowsPast ts d) (sym longer) (knows k d h);
    distinct = distinct;
  }
    where
      longer : trees (cs ++ c ∷ []) ≡ trees cs ++ stand.tree ∷ []
      longer = grows cs c stand.tree stand.is

      keeps : Keeps (trees cs) (trees cs ++ stand.tree ∷ [])
      keeps = kept_places (trees cs) (stand.tree ∷ [])

      diagram : (k : ℕ) (t : Tree L) → slice_get (trees cs ++ stand.tree ∷ []) k ≡ Some t → IsDiagram t
      diagram k t h = elim (older_or_last (trees cs) stand.tree k t h) [
        | inl e ↦ arena.diagrams k t e
        | inr e ↦ subst IsDiagram (sym e.1) stand.diagram
      ]

      knows : (k : ℕ) (d : Cell L) → slice_get (cs ++ c ∷ []) k ≡ Some d → KnowsPast (trees cs ++ stand.tree ∷ []) d
      knows k d h = elim (older_or_last cs c k d h) [
        | inl e ↦ (let s = stands cs arena k d e in knows_still (trees cs) (trees cs ++ stand.tree ∷ []) d s.tree s.is keeps (arena.pasts k d e))
        | inr e ↦ subst (KnowsPast (trees cs ++ stand.tree ∷ [])) (sym e.1)
            (knows_still (trees cs) (trees cs ++ stand.tree ∷ []) c stand.tree stand.is keeps stand.past)
      ]

      distinct : (i j : ℕ) (d : Cell L) → slice_get (cs ++ c ∷ []) i ≡ Some d → slice_get (cs ++ c ∷ []) j ≡ Some d → i ≡ j
      distinct i j d at_i at_j = elim (older_or_last cs c i d at_i) [
        | inl e ↦ elim (older_or_last cs c j d at_j) [
          | inl f ↦ arena.distinct i j d e f
          | inr f ↦ absurd (fresh i (e ∙ ap Some f.1))
        ]
        | inr e ↦ elim (older_or_last cs c j d at_j) [
          | inl f ↦ absurd (fresh j (f ∙ ap Some e.1))
          | inr f ↦ e.0 ∙ sym f.0
        ]
      ]

  -- a cell that compares as equal to itself is found where it is
  found : (eq : Cell L → Cell L → Bool) (cs : List (Cell L)) (c : Cell L) (k : ℕ) → eq c c ≡ true → slice_get cs k ≡ Some c → list_any (eq c) cs ≡ true
  found eq cs c k itself h =
      list_any_at (eq c) cs k c (slice_get_within cs k c h) (ap (eq c) (get_or_from_slice_get cs k c c h) ∙ itself)

  -- what a store is after a cell is inserted: each tree has its place
  inserted : (eq : Cell L → Cell L → Bool) (cs : List (Cell L)) (c : Cell L) → eq c c ≡ true → IsArena cs → CanStand (trees cs) c
      → IsArena (insert_key eq cs c) × Keeps (trees cs) (trees (insert_key eq cs c))
  inserted eq cs c itself arena stand = by (list_any (eq c) cs) refl
    where
      by : (there : Bool) → list_any (eq c) cs ≡ there
          → IsArena (if there then cs else cs ++ c ∷ []) × Keeps (trees cs) (trees (if there then cs else cs ++ c ∷ []))
      by true is = (arena, λ k t h. h)
      by false is = (
        one_more cs c arena stand (λ k h. true≢false (sym (found eq cs c k itself h) ∙ is)),
        λ k t h. subst (λ ts. slice_get ts k ≡ Some t) (sym (grows cs c stand.tree stand.is)) (kept_places (trees cs) (stand.tree ∷ []) k t h),
      )

  -- so after a refusal too
  pub after_insert : {A E : Type 0} (r : Result A E) (eq : Cell L → Cell L → Bool) (cs new : List (Cell L)) (c : Cell L) → eq c c ≡ true
      → IsArena cs → CanStand (trees cs) c
      → IfOk r (λ p. new ≡ insert_key eq cs c) → OnErr r (new ≡ cs) → IsArena new × Keeps (trees cs) (trees new)
  after_insert (Ok p) eq cs new c itself arena stand ok err = subst (λ ds. IsArena ds × Keeps (trees cs) (trees ds)) (sym ok)
      (inserted eq cs c itself arena stand)
  after_insert (Err e) eq cs new c itself arena stand ok err = subst (λ ds. IsArena ds × Keeps (trees cs) (trees ds)) (sym err) (arena, λ k t h. h)

  -- and a cell that is the inserted one stands for its tree
  pub tree_at : (cs new : List (Cell L)) (c d : Cell L) (k : ℕ) → CanStand (trees cs) c → IsArena new → Keeps (trees cs) (trees new)
      → slice_get new k ≡ Some d → c ≡ d → slice_get (trees new) k ≡ tree_of (trees cs) c
  tree_at cs new c d k stand arena keeps at same =
      let s = stands new arena k c (at ∙ ap Some (sym same)) in
      s.at ∙ (sym s.is ∙ (kept_tree (trees cs) (trees new) c stand.tree keeps stand.is ∙ sym stand.is))
