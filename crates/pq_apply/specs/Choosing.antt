-- The steps to a choice between two diagrams.
use Rattle.std.specs.Prelude.{ℕ, ◌≡◌, ◌⊎◌, Bool, List, Some, slice_get}
use Rattle.pq_store.specs.declared.test.Test.{Test}
use Rattle.pq_store.specs.Test.{IsLawful}
use Rattle.pq_store.specs.Tree.{Tree}
use Rattle.pq_store.specs.Diagram.{IsDiagram}
use Rattle.pq_apply.specs.declared.choice.Step.{Step}
use Rattle.pq_apply.specs.declared.choice.Step.TheVariants.{Settled, First}
use Rattle.pq_apply.specs.Choice.{IsChoice}
use Rattle.pq_apply.specs.Split.{LeadsRoot, root_of}

module _ {L : Type 0} where
  -- the diagram chooses between two trees by a third
  pub record IsChosen (c : Tree Bool) (y n chosen : Tree L) : Type 0 where
    pub diagram : IsDiagram chosen
    pub choice : IsChoice c y n chosen

  -- it is at a place, and the three trees at places of theirs
  pub record IsChosenAt (cs : List (Tree Bool)) (k : ℕ) (ts : List (Tree L)) (i j id : ℕ) : Type 0 where
    pub condition : Tree Bool
    pub left : Tree L
    pub right : Tree L
    pub chosen : Tree L
    pub condition_is : slice_get cs k ≡ Some condition
    pub left_is : slice_get ts i ≡ Some left
    pub right_is : slice_get ts j ≡ Some right
    pub is : slice_get ts id ≡ Some chosen
    pub chooses : IsChosen condition left right chosen

  -- the test is the first of the roots at three places
  pub record IsFirstOfThree (cs : List (Tree Bool)) (k : ℕ) (ts : List (Tree L)) (i j : ℕ) (s : Test) : Type 0 where
    pub condition : Tree Bool
    pub left : Tree L
    pub right : Tree L
    pub condition_is : slice_get cs k ≡ Some condition
    pub left_is : slice_get ts i ≡ Some left
    pub right_is : slice_get ts j ≡ Some right
    pub lawful : IsLawful s
    pub leads_condition : LeadsRoot s (root_of condition)
    pub leads_left : LeadsRoot s (root_of left)
    pub leads_right : LeadsRoot s (root_of right)
    pub root : ((root_of condition ≡ Some s) ⊎ (root_of left ≡ Some s)) ⊎ (root_of right ≡ Some s)

  -- a choice that is made, or the first test of the three
  abbrev pub IsStepAt : List (Tree Bool) → ℕ → List (Tree L) → ℕ → ℕ → Step → Type 0
  IsStepAt cs k ts i j (Settled id) = IsChosenAt cs k ts i j id
  IsStepAt cs k ts i j (First s) = IsFirstOfThree cs k ts i j s
