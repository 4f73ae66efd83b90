-- Tables of what has been made.
use Rattle.std.proofs.Common.{◌≡◌, ℕ, Bool, true, false, cond, ◌&&◌, ◌==◌, Some, refl, sym, ◌∙◌, subst, eqb-true}
use Rattle.std.proofs.lemmas.Bool.{and_parts}
use Rattle.indexmap.specs.IndexMap.{IndexMap, Updates, get}
use Rattle.pq_apply.specs.Memo.{Remembers, same_pair, same_triple}

-- pairs that compare as equal are one
pub pair_exact : (p q : ℕ × ℕ) → same_pair p q ≡ true → p ≡ q
pair_exact p q h =
    let parts = and_parts (p.0 == q.0) (p.1 == q.1) h in
    let first : p.0 ≡ q.0 = eqb-true p.0 q.0 parts.0 in
    let second : p.1 ≡ q.1 = eqb-true p.1 q.1 parts.1 in
    λ i. (first i, second i)

-- and so are triples
pub triple_exact : (p q : ℕ × ℕ × ℕ) → same_triple p q ≡ true → p ≡ q
triple_exact p q h =
    let parts = and_parts ((p.0 == q.0) && (p.1 == q.1)) (p.2 == q.2) h in
    let pair = and_parts (p.0 == q.0) (p.1 == q.1) parts.0 in
    let first : p.0 ≡ q.0 = eqb-true p.0 q.0 pair.0 in
    let second : p.1 ≡ q.1 = eqb-true p.1 q.1 pair.1 in
    let third : p.2 ≡ q.2 = eqb-true p.2 q.2 parts.1 in
    λ i. (first i, second i, third i)

module _ {K S : Type 0} (eq : K → K → Bool) where
  -- what is made stays remembered where it stays made
  pub remembers_still : (Made Still : K → ℕ → Type 0) (done : IndexMap K ℕ S) → ((key : K) (id : ℕ) → Made key id → Still key id)
      → Remembers eq Made done → Remembers eq Still done
  remembers_still Made Still done still remembers key id h = still key id (remembers key id h)

  -- and one more is remembered
  pub remembers_more : (Made : K → ℕ → Type 0) (old new : IndexMap K ℕ S) (key : K) (id : ℕ) → ((k q : K) → eq k q ≡ true → k ≡ q)
      → Remembers eq Made old → Made key id → Updates eq old new key (Some id) → Remembers eq Made new
  remembers_more Made old new key id exact remembers made updates q j h = by (eq key q) refl (sym (updates.0 q) ∙ h)
    where
      by : (b : Bool) → eq key q ≡ b → cond b (Some id) (get eq old q) ≡ Some j → Made q j
      by true is at = let same : id ≡ j = cc in subst (Made q) same (subst (λ k. Made k id) (exact key q is) made)
      by false is at = remembers q j at
