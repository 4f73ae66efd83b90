-- Units one after another.
use Rattle.std.specs.Prelude.{ℕ, ◌<◌, ◌↔◌, List, [], ◌∷◌, ◌++◌, All, length}
use Rattle.std.proofs.Common.{arith, sym, ap, ◌∙◌, append_assoc}
use Rattle.std.specs.List.{flat_map}
use Rattle.std.proofs.lemmas.List.{flat_map_more}
use Rattle.std.proofs.lemmas.List.Elements.{All-cons, All-tail}
use Rattle.pq_install.specs.declared.fault.Fault.{Fault}
use Rattle.pq_install.specs.declared.fault.Fault.TheVariants.{Damaged, Memory}
use Rattle.pq_install.specs.Front.{IsAtFront}
use Rattle.pq_install.specs.Units.{UnitFails, ListFails, Tells}

module _ {X : Type 0} (Rules : List X → Type 0) (spell : X → List ℕ) (bytes : List ℕ) (xs : List X) (rest : List ℕ)
    (front : IsAtFront Rules (flat_map spell) bytes xs rest) where
  -- a unit that may follow is read
  pub one_more_unit : (x : X) (after : List ℕ) → IsAtFront (λ y. Rules (xs ++ y ∷ [])) spell rest x after
      → IsAtFront Rules (flat_map spell) bytes (xs ++ x ∷ []) after
  one_more_unit x after next = (
    next.0,
    front.1 ∙ (ap (λ (more : List ℕ). flat_map spell xs ++ more) next.1
        ∙ (sym (append_assoc (flat_map spell xs) (spell x) after) ∙ ap (λ (more : List ℕ). more ++ after) (flat_map_more spell [] xs x))),
  )

  -- no unit that may follow is there, and one is wanted
  pub list_fails : (count : ℕ) (fault : Fault) → length xs < count → Tells (UnitFails (λ y. Rules (xs ++ y ∷ [])) spell rest) fault
      → Tells (ListFails Rules spell count bytes) fault
  list_fails count (Damaged left) wanted fails = (xs, rest, wanted, front, fails)
  list_fails count Memory wanted fails = tt

-- what holds of each and of one more
pub all_more : {X : Type 0} (P : X → Type 0) (xs : List X) (x : X) → All P (xs ++ x ∷ []) ↔ All P xs × P x
all_more P [] x = (λ all. (λ k d below. absurd (omega (arith, below)), all 0 x (omega arith)), λ all. All-cons P x [] all.1 all.0)
all_more P (y ∷ ys) x =
    let later = all_more P ys x in (
      λ all. let l = later.0 (All-tail P y (ys ++ x ∷ []) all) in (All-cons P y ys (all 0 y (omega arith)) l.0, l.1),
      λ all. All-cons P y (ys ++ x ∷ []) (all.0 0 y (omega arith)) (later.1 (All-tail P y ys all.0, all.1)),
    )
