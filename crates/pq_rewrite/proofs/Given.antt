-- Lists of writes that give packets, and what is merged of two.
use Rattle.std.proofs.Common.{◌⊎◌, List, inl, inr}
use Rattle.std.specs.List.{All, Any, Contains}
use Rattle.std.proofs.lemmas.List.Elements.{All-contains, Contains-get_or}
use Rattle.pq_fields.specs.Packet.{Numbers}
use Rattle.pq_fields.specs.Writes.{Written, AllFit}
use Rattle.pq_rewrite.specs.Merged.{IsMerged}
use Rattle.pq_rewrite.specs.Rewriting.{ChangesAll, IsGiven, IsWrittenBy}

-- what holds of an element holds of some
pub any_of : {X : Type 0} (P : X → Type 0) (xs : List X) (x : X) → Contains xs x → P x → Any P xs
any_of P xs x (k, within, at) holds = (k, x, within, at, holds)

module _ {a b c : List Written} (merged : IsMerged a b c) where
  -- what holds of all writes of two sets holds of all that are merged of them
  pub all_merged : (P : Written → Type 0) → All P a → All P b → All P c
  all_merged P in_a in_b k d within = elim ((merged.each _).0 (Contains-get_or c k d within)) [
    | inl at ↦ All-contains P a _ in_a at
    | inr at ↦ All-contains P b _ in_b at
  ]

  -- what holds of some of these holds of some of one set or the other
  pub any_merged : (P : Written → Type 0) → Any P c → Any P a ⊎ Any P b
  any_merged P (k, w, within, at, holds) = elim ((merged.each w).0 (k, within, at)) [
    | inl in_a ↦ inl (any_of P a w in_a holds)
    | inr in_b ↦ inr (any_of P b w in_b holds)
  ]

  -- and what holds of some of one set or the other holds of some of these
  pub merged_any : (P : Written → Type 0) → Any P a ⊎ Any P b → Any P c
  merged_any P (inl (k, w, within, at, holds)) = any_of P c w ((merged.each w).1 (inl (k, within, at))) holds
  merged_any P (inr (k, w, within, at, holds)) = any_of P c w ((merged.each w).1 (inr (k, within, at))) holds

  -- where one list is given for these packets and one for those, what is merged of them is given for both
  pub given_merged : (x : Numbers) (P Q : Numbers → Type 0) → IsGiven x P a → IsGiven x Q b → IsGiven x (λ y. P y ⊎ Q y) c
  given_merged x P Q first second = record {
    ascend = merged.ascend;
    fit = all_merged AllFit first.fit second.fit;
    idle_free = all_merged (ChangesAll x) first.idle_free second.idle_free;
    gives = λ y. (into y, out y);
  }
    where
      into : (y : Numbers) → IsWrittenBy x c y → P y ⊎ Q y
      into y written = elim (any_merged _ written) [ inl in_a ↦ inl ((first.gives y).0 in_a) | inr in_b ↦ inr ((second.gives y).0 in_b) ]

      out : (y : Numbers) → P y ⊎ Q y → IsWrittenBy x c y
      out y (inl p) = merged_any _ (inl ((first.gives y).1 p))
      out y (inr q) = merged_any _ (inr ((second.gives y).1 q))
