-- How states of one expression compare: by their rests and parities.
use Rattle.std.specs.Prelude.{◌≡◌, ℕ, Bool, true, List, nat_eq}
use mathlib.Core.Path.{sym, ap}
use Rattle.std.specs.Hash as fed
use Rattle.std.specs.Ordering.{on, eq_of_both}
use Rattle.std.specs.Cmp.{IsPartialEquivalence, IsEquivalence, and_per, and_equiv, on_per, on_equiv, first_so, partial_equiv_from_equiv}
use Rattle.std.specs.Cmp.Lexicographic.{pointwise, nat_list_eq_equiv, same_text}
use Rattle.std.specs.contracts.prelude.BoolPartialEq.TheImpl as bools
use Rattle.std.specs.contracts.prelude.BoolEq.TheImpl as whole
use Rattle.pq_deriv.specs.State.{StateValue}

-- whether two states have one rest and one parity
abbrev pub met_eq : StateValue × Bool → StateValue × Bool → Bool
met_eq = eq_of_both (on (λ k. k.0.rest) (pointwise nat_eq)) (on (λ k. k.1) (bools.ghosts).eq)

-- what `hash` writes of a state
abbrev pub met_hash : StateValue × Bool → List (List ℕ)
met_hash k = fed.slice fed.u64 k.0.rest

-- the laws of equality
pub met_per : IsPartialEquivalence met_eq
met_per = and_per (on_per (λ k. k.0.rest) (partial_equiv_from_equiv nat_list_eq_equiv)) (on_per (λ k. k.1) bools.Laws.laws-law)

pub met_equiv : IsEquivalence met_eq
met_equiv = and_equiv (on_equiv (λ k. k.0.rest) nat_list_eq_equiv) (on_equiv (λ k. k.1) whole.Laws.laws-law)

-- equal states write the same
pub met_hashes : (k m : StateValue × Bool) → met_eq k m ≡ true → met_hash k ≡ met_hash m
met_hashes k m same =
    ap (fed.slice fed.u64)
    (same_text k.0.rest m.0.rest (sym (first_so (pointwise nat_eq k.0.rest m.0.rest) ((bools.ghosts).eq k.1 m.1) same)))
