-- Trees that give packets as they are where a condition holds.
use Rattle.std.proofs.Common.{ℕ, ◌≡◌, ◌∙◌, Bool, true, false, List, [], ◌∷◌, Some, if◌then◌else◌, inl, inr, refl, sym, subst}
use Rattle.std.specs.Prelude.{slice_get}
use Rattle.std.specs.List.{Any}
use Rattle.std.proofs.lemmas.Bool.{true≢false}
use Rattle.pq_fields.specs.declared.field.Field.{Field}
use Rattle.pq_fields.specs.Packet.{Numbers}
use Rattle.pq_fields.specs.Writes.{Written, AllFit, no_writes, on, written_in}
use Rattle.pq_store.specs.Tree.{Tree, value}
use Rattle.pq_store.specs.Tree.Tree.{Tip}
use Rattle.pq_apply.specs.Choice.{ChoosesAt, IsChoice}
use Rattle.pq_rewrite.specs.Calls.{IsKeeping, KeepsWhereAt}
use Rattle.pq_rewrite.specs.Rewriting.{ChangesAll, IsGiven, IsToWrite}
use Rattle.pq_rewrite.proofs.Diffs.{none_written, on_none}
use Rattle.pq_rewrite.proofs.Sets.{any_cases, any_none, given_none, given_one, given_same}

-- no number is to be written
none_fit : AllFit no_writes
none_fit = record { port = tt; eth_src = tt; eth_dst = tt; ipv4_src = tt; ipv4_dst = tt; tcp_src = tt; tcp_dst = tt; udp_src = tt; udp_dst = tt }

-- nor does it stay
none_changes : (x : Numbers) → ChangesAll x no_writes
none_changes x f n is = let none = none_written f in absurd cc

-- the packet alone is given by no writes
pub unchanged : (x : Numbers) → IsGiven x (λ y. y ≡ x) (no_writes ∷ [])
unchanged x =
    given_same x (λ y. y ≡ on no_writes x) (λ y. y ≡ x) (no_writes ∷ []) (λ y. (λ is. is ∙ on_none x, λ is. is ∙ sym (on_none x)))
    (given_one x no_writes none_fit (none_changes x))

-- no writes where a condition holds, and nothing elsewhere
abbrev pub kept_where : Bool → List Written
kept_where b = if b then no_writes ∷ [] else []

-- they give the packet where it holds
kept_given : (x : Numbers) (b : Bool) → IsGiven x (λ y. (b ≡ true) × (y ≡ x)) (kept_where b)
kept_given x true = given_same x (λ y. y ≡ x) (λ y. (true ≡ true) × (y ≡ x)) (no_writes ∷ []) (λ y. (λ is. (refl, is), λ both. both.1)) (unchanged x)
kept_given x false = given_none x (λ y. (false ≡ true) × (y ≡ x)) (λ y both. true≢false (sym both.0))

-- and write nothing
pub kept_unwritten : (f : Field) (n : ℕ) (b : Bool) → Any (λ w. written_in f w ≡ Some n) (kept_where b) → ⊥
kept_unwritten f n false written = any_none (λ w. written_in f w ≡ Some n) written
kept_unwritten f n true written = elim (any_cases (λ w. written_in f w ≡ Some n) no_writes [] written) [
  | inl is ↦ (let none = none_written f in absurd cc)
  | inr none ↦ any_none (λ w. written_in f w ≡ Some n) none
]

-- the choice between no writes and nothing gives the packet where the condition holds
is_keeping : (c : Tree Bool) (t : Tree (List Written)) → IsChoice c (Tip (no_writes ∷ [])) (Tip []) t → IsKeeping c t
is_keeping c t choice = record {
  giving = λ x fit. subst (IsGiven x (λ y. (value c x ≡ true) × (y ≡ x))) (sym (choice.gives x)) (kept_given x (value c x));
  tests = λ s tested. elim (choice.tests s tested) [ inl here ↦ here | inr leaf ↦ absurd (elim leaf [ inl none ↦ none | inr none ↦ none ]) ];
  writes = writes;
}
  where
    writes : (f : Field) (n : ℕ) → IsToWrite f n t → ⊥
    writes f n (x, fit, written) = kept_unwritten f n (value c x) (subst (Any (λ w. written_in f w ≡ Some n)) (choice.gives x) written)

-- so it does at its place
pub keeps_where : (cs : List (Tree Bool)) (old new : List (Tree (List Written))) (k i j id : ℕ)
    → slice_get old i ≡ Some (Tip (no_writes ∷ [])) → slice_get old j ≡ Some (Tip [])
    → ChoosesAt cs k old i j new id → KeepsWhereAt cs k new id
keeps_where cs old new k i j id yes_is no_is chooses c c_is =
    let chosen = chooses c (Tip (no_writes ∷ [])) (Tip []) c_is yes_is no_is in
    (chosen.0, chosen.1, is_keeping c chosen.0 chosen.2)
