-- The automaton that a search finds, and that of automata side by side.
use Rattle.std.proofs.Common.{◌≡◌, ℕ, zero, suc, ◌<◌, ◌≤◌, Bool, true, List, [], ◌∷◌, length, map, Some, ap, ◌∙◌, arith}
use Rattle.std.specs.List.{slice_get}
use Rattle.std.proofs.Math.ListN.{get_or}
use Rattle.std.proofs.lemmas.List.{length-map}
use Rattle.std.proofs.lemmas.Option.{slice_get_within}
use Rattle.pq_auto.specs.Machine.{Machine, IsMachine, AllBelow, reached, is_even_at, accepted_at, has_even_length}
use Rattle.pq_auto.specs.Search.{run}
use Rattle.pq_auto.specs.Tables.{steps, begin, is_even_key, accepting}
use Rattle.pq_auto.specs.Searched.{IsSearched}
use Rattle.pq_auto.proofs.Searched.{key_at, key_reached, some_state, rows_long, rows_within}
use Rattle.pq_auto.proofs.Products.{parity_of}

-- what is in a changed list
pub changed_at : {A B : Type 0} (f : A → B) (xs : List A) (i : ℕ) (x : A) (d : B) → slice_get xs i ≡ Some x → get_or (map f xs) i d ≡ f x
changed_at f [] i x d at = absurd cc
changed_at f (y ∷ xs) zero x d at = let same : y ≡ x = cc in ap f same
changed_at f (y ∷ xs) (suc i) x d at = changed_at f xs i x d at

-- numbers that are all below another are no more than that
no_more : (n m : ℕ) → ((s : ℕ) → s < n → s < m) → n ≤ m
no_more zero m h = omega arith
no_more (suc n) m h = let last : n < m = h n (omega arith) in omega (arith, last)

module _ {K : Type 0} (goes : K → ℕ → K) (begin : K) (a : Machine) (keys : List K) (searched : IsSearched goes begin a.letters keys a.rows)
    (all : length keys ≤ length a.rows) where
  -- there are as many states as keys
  pub same_count : length keys ≡ length a.rows
  same_count =
      let few = no_more (length a.rows) (length keys) (λ s h.
      let k = key_at goes begin a keys searched all s h in
      slice_get_within keys s k.0 k.1) in
      omega (arith, few, all)

  module _ (even : K → Bool) (accepted : K → List ℕ) (evens : a.even ≡ map even keys) (accepts : a.accepted ≡ map accepted keys) where
    pub is_machine : IsMachine a
    is_machine = record {
      some = some_state goes begin a keys searched all;
      even = ap length evens ∙ length-map keys even ∙ same_count;
      accepted = ap length accepts ∙ length-map keys accepted ∙ same_count;
      long = rows_long goes begin a keys searched all;
      within = rows_within goes begin a keys searched all;
    }

    -- the parity of the state that a word leads to
    pub even_reached : (w : List ℕ) → AllBelow a.letters w → is_even_at a (reached a w) ≡ even (run goes begin w)
    even_reached w below = ap (λ es. get_or es (reached a w) true) evens
        ∙ changed_at even keys (reached a w) (run goes begin w) true (key_reached goes begin a keys searched all w below)

    -- what it accepts
    pub accepted_reached : (w : List ℕ) → AllBelow a.letters w → accepted_at a (reached a w) ≡ accepted (run goes begin w)
    accepted_reached w below = ap (λ ps. get_or ps (reached a w) []) accepts
        ∙ changed_at accepted keys (reached a w) (run goes begin w) [] (key_reached goes begin a keys searched all w below)

module _ (tables : List Machine) (a : Machine) (keys : List (List ℕ))
    (searched : IsSearched (steps tables) (begin tables) a.letters keys a.rows) (all : length keys ≤ length a.rows)
    (evens : a.even ≡ map is_even_key keys) (accepts : a.accepted ≡ map (accepting tables) keys) where
  pub says_parity : (w : List ℕ) → AllBelow a.letters w → is_even_at a (reached a w) ≡ has_even_length w
  says_parity w below = even_reached (steps tables) (begin tables) a keys searched all is_even_key (accepting tables) evens accepts w below ∙ parity_of tables w

  pub says_accepting : (w : List ℕ) → AllBelow a.letters w → accepted_at a (reached a w) ≡ accepting tables (run (steps tables) (begin tables) w)
  says_accepting w below = accepted_reached (steps tables) (begin tables) a keys searched all is_even_key (accepting tables) evens accepts w below
