-- The diagrams of examples that write.
use Rattle.std.specs.Prelude.{ℕ, List}
use Rattle.pq_fields.specs.Writes.{Written}
use Rattle.pq_store.specs.Tree.{Tree}
use Rattle.pq_store.specs.Store.{HasAt}
use Rattle.pq_apply.specs.Examples.{example_numbers}
use Rattle.pq_rewrite.specs.Rewriting.{Covers, IsIdleFree}

-- an idle-free tree that tests and writes only the numbers of examples
pub record IsExampleRewriting (t : Tree (List Written)) : Type 0 where
  pub idle_free : IsIdleFree t
  pub covers : Covers (λ f. example_numbers) t

abbrev pub IsExampleRewritingAt : List (Tree (List Written)) → ℕ → Type 0
IsExampleRewritingAt ts id = HasAt IsExampleRewriting ts id

-- such trees stay at their places
abbrev pub KeepsExamples : List (Tree (List Written)) → List (Tree (List Written)) → Type 0
KeepsExamples old new = (k : ℕ) → IsExampleRewritingAt old k → IsExampleRewritingAt new k
