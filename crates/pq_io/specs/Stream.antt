-- What clauses see of a reader or a writer after an adapter.
use Rattle.std.specs.Prelude.{ℕ}

-- the inner object, and how many of the calls failed
pub record Stream (S : Type 0) : Type 0 where
  pub inner : S
  pub faults : ℕ
