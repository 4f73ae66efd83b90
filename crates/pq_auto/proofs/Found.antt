-- The steps of the search over stored states.
use Rattle.std.proofs.Common.{◌≡◌, ℕ, Bool, ◌<◌, ◌≤◌, inl, inr, List, [], ◌∷◌, ◌++◌, length, Some, Vec, Global, sym, ap, subst, ◌∙◌, arith}
use Rattle.std.specs.List.{slice_get}
use Rattle.std.proofs.Math.ListN.{get_or}
use Rattle.std.proofs.lemmas.List.{map-append, length-map}
use Rattle.std.proofs.lemmas.Option.{slice_get-get_or}
use Rattle.pq_auto.specs.Search.{IsNumber, AreNumbers, targets}
use Rattle.pq_auto.specs.Searched.{IsSearched}
use Rattle.pq_auto.specs.Tables.{lists}
use Rattle.pq_deriv.specs.State.{StateValue}
use Rattle.pq_auto.specs.Rests.{Rest, rest_of, rests}
use Rattle.pq_auto.proofs.Keys.{stored_at}
use Rattle.pq_lists.proofs.Places.{at_place}
use Rattle.pq_auto.proofs.Searching.{begun, expanded}

-- the first key of all
first_key : {K : Type 0} (old new : List K) (k : K) (n : ℕ) → old ≡ [] → IsNumber old k n new → new ≡ k ∷ []
first_key [] new k n none (inl old) = absurd (nothing old.1)
  where
    nothing : slice_get [] n ≡ Some k → ⊥
    nothing at = cc
first_key [] new k n none (inr own) = own.0
first_key (x ∷ old) new k n none h = absurd cc

module _ {K : Type 0} (goes : K → ℕ → K) (begin : K) (letters : ℕ) where
  -- the search begins
  pub found_first : (old new : List K) (k : K) (n : ℕ) (rows : List (List ℕ)) → old ≡ [] → k ≡ begin → IsNumber old k n new → rows ≡ []
      → IsSearched goes begin letters new rows
  found_first old new k n rows none is number no_row =
      subst (λ rs. IsSearched goes begin letters new rs) (sym no_row)
      (subst (λ ks. IsSearched goes begin letters ks []) (sym (first_key old new k n none number ∙ ap (λ x. x ∷ []) is)) (begun goes begin letters))

  -- the search goes on
  pub found_next : (keys new : List K) (rows more : List (Vec ℕ Global)) (row : Vec ℕ Global) (k : K)
      → IsSearched goes begin letters keys (lists rows) → slice_get keys (length rows) ≡ Some k
      → AreNumbers keys (targets goes k 0 letters) row.items new → more ≡ rows ++ row ∷ [] → IsSearched goes begin letters new (lists more)
  found_next keys new rows more row k searched at numbers grown =
      let count : length (lists rows) ≡ length rows = length-map rows (λ v. v.items) in
      subst (λ rs. IsSearched goes begin letters new rs) (sym (ap lists grown ∙ map-append (λ v. v.items) rows (row ∷ [])))
      (expanded goes begin letters keys new (lists rows) k row.items searched (ap (slice_get keys) count ∙ at) numbers)

-- the search goes on at a stored state
pub found_more : (goes : List ℕ → ℕ → List ℕ) (begin : List ℕ) (letters : ℕ) (states : List (Vec ℕ Global)) (new : List (List ℕ))
    (rows more : List (Vec ℕ Global)) (row at : Vec ℕ Global) (state : List ℕ) → IsSearched goes begin letters (lists states) (lists rows)
    → length rows < length states → at ≡ get_or states (length rows) at → state ≡ at.items
    → AreNumbers (lists states) (targets goes state 0 letters) row.items new → more ≡ rows ++ row ∷ []
    → IsSearched goes begin letters new (lists more)
found_more goes begin letters states new rows more row at state searched h is same numbers grown =
    let stored : slice_get states (length rows) ≡ Some at = slice_get-get_or states (length rows) at h ∙ ap Some (sym is) in
    found_next goes begin letters (lists states) new rows more row state searched (stored_at states (length rows) at stored ∙ ap Some (sym same)) numbers grown

-- as many rows as keys
pub all_rows : (keys rows : List (Vec ℕ Global)) → length keys ≤ length rows → length (lists keys) ≤ length (lists rows)
all_rows keys rows h = omega (arith, h, length-map keys (λ v. v.items), length-map rows (λ v. v.items))

-- as many rows as states of one expression
pub all_rests : (keys : List (StateValue × Bool)) (rows : List (Vec ℕ Global)) → length keys ≤ length rows → length (rests keys) ≤ length (lists rows)
all_rests keys rows h = omega (arith, h, length-map keys rest_of, length-map rows (λ v. v.items))

-- the next state to be expanded
pub next_rest : (keys : List (StateValue × Bool)) (i : ℕ) → i < length keys → (r : Rest) × (slice_get (rests keys) i ≡ Some r)
next_rest keys i h = at_place (rests keys) i (omega (arith, h, length-map keys rest_of))
