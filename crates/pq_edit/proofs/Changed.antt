-- Lists of what is named, with one put or removed.
use Rattle.std.specs.Prelude.{◌≡◌, ℕ, suc, ◌≤◌, Bool, true, false, ◌||◌, if◌then◌else◌, List, [], ◌∷◌, ◌++◌, length, All, bytes_eq}
use Rattle.std.specs.List.{AllByRecursion, IsDistinct}
use Rattle.std.specs.Cmp.Lexicographic.{nat_list_eq_equiv}
use Rattle.std.proofs.Common.{arith, refl, sym, ap, ◌∙◌}
use Rattle.std.proofs.lemmas.Slice.Eq.{bytes_eq-Decides}
use Rattle.std.proofs.lemmas.List.Elements.{All-cons, All-head, All-tail}
use Rattle.std.proofs.lemmas.Map.Keys.{IsDistinct-head, IsDistinct-tail, IsDistinct-cons}
use Rattle.std.proofs.lemmas.Bool.{or_parts}
use Rattle.pq_compile.specs.Names.{Named}
use Rattle.pq_compile.specs.Lawful.{names_in}
use Rattle.pq_edit.specs.Edits.{put, without}
use Rattle.pq_edit.specs.Reading.{is_among}

-- one of two holds where the other doesn't
second : (a b : Bool) → (a || b) ≡ true → a ≡ false → b ≡ true
second true b either other = absurd cc
second false b either other = either

-- the same, seen from the other side
turned : (xs ys : List ℕ) (b : Bool) → bytes_eq xs ys ≡ b → bytes_eq ys xs ≡ b
turned xs ys b tells = nat_list_eq_equiv.symm ys xs ∙ tells

module _ {A : Type 0} where
  -- there are as many names
  pub names_long : (ns : List (Named A)) → length (names_in ns) ≡ length ns
  names_long [] = refl
  names_long (n ∷ ns) = let more = names_long ns in omega (arith, more)

  -- what is put in place of what has its name leaves the names
  pub names_kept : (p : Named A) (ns : List (Named A)) → is_among p.0 (names_in ns) ≡ true → names_in (put p ns) ≡ names_in ns
  names_kept p [] among = absurd cc
  names_kept p (n ∷ ns) among = by (bytes_eq n.0 p.0) refl (names_kept p ns)
    where
      by : (b : Bool) → bytes_eq n.0 p.0 ≡ b → (is_among p.0 (names_in ns) ≡ true → names_in (put p ns) ≡ names_in ns)
          → names_in (if b then p ∷ ns else n ∷ put p ns) ≡ n.0 ∷ names_in ns
      by true same more = ap (λ name. name ∷ names_in ns) (sym ((bytes_eq-Decides n.0 p.0).0 same))
      by false other more = ap (λ names. n.0 ∷ names) (more (second (bytes_eq p.0 n.0) (is_among p.0 (names_in ns)) among (turned n.0 p.0 false other)))

  -- and its name is the last one where nothing has it
  pub names_more : (p : Named A) (ns : List (Named A)) → is_among p.0 (names_in ns) ≡ false → names_in (put p ns) ≡ names_in ns ++ p.0 ∷ []
  names_more p [] among = refl
  names_more p (n ∷ ns) among = by (bytes_eq n.0 p.0) refl (names_more p ns)
    where
      by : (b : Bool) → bytes_eq n.0 p.0 ≡ b → (is_among p.0 (names_in ns) ≡ false → names_in (put p ns) ≡ names_in ns ++ p.0 ∷ [])
          → names_in (if b then p ∷ ns else n ∷ put p ns) ≡ n.0 ∷ (names_in ns ++ p.0 ∷ [])
      by true same more = let left = (or_parts (bytes_eq p.0 n.0) (is_among p.0 (names_in ns)) among).0 in let here = turned n.0 p.0 true same in absurd cc
      by false other more = ap (λ names. n.0 ∷ names) (more (or_parts (bytes_eq p.0 n.0) (is_among p.0 (names_in ns)) among).1)

  -- all that is named is so, with what is put
  pub all_put : (P : Named A → Type 0) (p : Named A) (ns : List (Named A)) → P p → All P ns → All P (put p ns)
  all_put P p [] here all = All-cons P p [] here all
  all_put P p (n ∷ ns) here all = by (bytes_eq n.0 p.0) (all_put P p ns here (All-tail P n ns all))
    where
      by : (b : Bool) → All P (put p ns) → All P (if b then p ∷ ns else n ∷ put p ns)
      by true more = All-cons P p ns here (All-tail P n ns all)
      by false more = All-cons P n (put p ns) (All-head P n ns all) more

  -- and without what is removed
  pub all_without : (P : Named A → Type 0) (name : List ℕ) (ns : List (Named A)) → All P ns → All P (without name ns)
  all_without P name [] all = all
  all_without P name (n ∷ ns) all = by (bytes_eq n.0 name) (all_without P name ns (All-tail P n ns all))
    where
      by : (b : Bool) → All P (without name ns) → All P (if b then ns else n ∷ without name ns)
      by true more = All-tail P n ns all
      by false more = All-cons P n (without name ns) (All-head P n ns all) more

  -- its names are some of them
  pub names_without : (P : List ℕ → Type 0) (name : List ℕ) (ns : List (Named A)) → AllByRecursion P (names_in ns)
      → AllByRecursion P (names_in (without name ns))
  names_without P name [] all = tt
  names_without P name (n ∷ ns) all = by (bytes_eq n.0 name) (names_without P name ns all.1)
    where
      by : (b : Bool) → AllByRecursion P (names_in (without name ns)) → AllByRecursion P (names_in (if b then ns else n ∷ without name ns))
      by true more = all.1
      by false more = (all.0, more)

  -- which differ
  pub differ_without : (name : List ℕ) (ns : List (Named A)) → IsDistinct bytes_eq (names_in ns) → IsDistinct bytes_eq (names_in (without name ns))
  differ_without name [] differ = differ
  differ_without name (n ∷ ns) differ = by (bytes_eq n.0 name) (differ_without name ns rest)
    where
      rest : IsDistinct bytes_eq (names_in ns)
      rest = IsDistinct-tail bytes_eq n.0 (names_in ns) differ

      by : (b : Bool) → IsDistinct bytes_eq (names_in (without name ns)) → IsDistinct bytes_eq (names_in (if b then ns else n ∷ without name ns))
      by true more = rest
      by false more = IsDistinct-cons bytes_eq n.0 (names_in (without name ns))
          (names_without (λ other. bytes_eq n.0 other ≡ false) name ns (IsDistinct-head bytes_eq n.0 (names_in ns) differ)) more

  -- there are no more than before
  pub without_few : (name : List ℕ) (ns : List (Named A)) → length (without name ns) ≤ length ns
  without_few name [] = omega arith
  without_few name (n ∷ ns) = by (bytes_eq n.0 name) (without_few name ns)
    where
      by : (b : Bool) → length (without name ns) ≤ length ns → length (if b then ns else n ∷ without name ns) ≤ suc (length ns)
      by true more = omega arith
      by false more = omega (arith, more)
