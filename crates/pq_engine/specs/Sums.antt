-- Sums of parts of a document, before one of the parts is put or after one is taken out.
use Rattle.std.specs.Prelude.{◌≡◌, ℕ, ◌<◌, ◌≤◌, List, [], ◌∷◌, length}
use Rattle.pq_fields.specs.Writes.{Written}
use Rattle.pq_policy.specs.Policy.{PolicyTree}
use Rattle.pq_store.specs.Tree.{Tree}
use Rattle.pq_meaning.specs.Parts.{FitAsParts}
use Rattle.pq_sum.specs.Places.{IsSummed, Sum}
use Rattle.pq_sum.specs.Sum.{replaced}
use Rattle.pq_compile.specs.Documents.{DocumentTree}
use Rattle.pq_compile.specs.Prepared.{parts_in}

-- the sum is that of the document's parts before that of the place was put there
pub record AwaitsPart (d : DocumentTree) (forward : List (Tree (List Written))) (s : Sum) (place : ℕ) : Type 0 where
  pub before : List PolicyTree
  pub part : PolicyTree
  pub summed : IsSummed d.topology forward before s
  pub within : place ≤ length before
  pub put : parts_in d ≡ replaced place (part ∷ []) before

-- the sum is that of the document's parts before one was taken out of the place
pub record AwaitsRemoval (d : DocumentTree) (forward : List (Tree (List Written))) (s : Sum) (place : ℕ) : Type 0 where
  pub before : List PolicyTree
  pub summed : IsSummed d.topology forward before s
  pub within : place < length before
  pub fits : FitAsParts d.topology before
  pub removed : parts_in d ≡ replaced place [] before
