-- Parts of an install one after another.
use Rattle.std.specs.Prelude.{◌≡◌, ℕ, List, ◌++◌}
use Rattle.std.proofs.Common.{inl, inr, sym, ap, ◌∙◌, append_assoc}
use Rattle.pq_install.specs.declared.fault.Fault.{Fault}
use Rattle.pq_install.specs.declared.fault.Fault.TheVariants.{Damaged, Memory}
use Rattle.pq_install.specs.Units.{Tells}
use Rattle.pq_install.specs.Damage.{FailsOrAfter}

module _ {X : Type 0} (Fails : List ℕ → ℕ → Type 0) (Reads : List ℕ → X → List ℕ → Type 0) (After : X → List ℕ → ℕ → Type 0) (bytes : List ℕ) where
  -- the first part fails
  pub tells_first : (fault : Fault) → Tells (Fails bytes) fault → Tells (FailsOrAfter Fails Reads After bytes) fault
  tells_first (Damaged left) fails = inl fails
  tells_first Memory fails = tt

  -- or what follows it
  pub tells_after : (x : X) (rest : List ℕ) (fault : Fault) → Reads bytes x rest → Tells (After x rest) fault
      → Tells (FailsOrAfter Fails Reads After bytes) fault
  tells_after x rest (Damaged left) reads fails = inr (x, rest, reads, fails)
  tells_after x rest Memory reads fails = tt

-- bytes of two parts
pub two_parts : (bytes first second after rest : List ℕ) → bytes ≡ first ++ after → after ≡ second ++ rest → bytes ≡ (first ++ second) ++ rest
two_parts bytes first second after rest front behind = front ∙ (ap (λ (more : List ℕ). first ++ more) behind ∙ sym (append_assoc first second rest))
