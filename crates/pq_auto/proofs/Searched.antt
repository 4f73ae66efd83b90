-- An automaton found by a search: each state has a key, and is numbered by its least word.
use Rattle.std.proofs.Common.{◌≡◌, ℕ, suc, ◌<◌, ◌≤◌, ◌⊎◌, inl, inr, List, [], ◌∷◌, ◌++◌, length, Some, refl, sym, ap, subst, ◌∙◌, arith}
use Rattle.std.proofs.Common.{append-nil, append_assoc}
use Rattle.std.specs.List.{slice_get}
use Rattle.std.proofs.Math.ListN.{get_or}
use Rattle.std.proofs.lemmas.Option.{slice_get_within, get_or_from_slice_get, same_Some}
use Rattle.pq_auto.specs.Machine.{Machine, AllBelow, follow, reached}
use Rattle.pq_auto.specs.Numbering.{IsBefore, IsLeastTo, IsNumbered}
use Rattle.pq_auto.specs.Search.{run, IsOnce}
use Rattle.pq_auto.specs.Searched.{IsAtMost, IsEntry, IsRow, IsSearched}
use Rattle.pq_auto.proofs.Order.{most_trans, most_more}
use Rattle.pq_lists.proofs.Places.{at_place}
use Rattle.pq_auto.proofs.Searching.{key_of}

-- what is said of each number says that all are below
pub each_below : (n : ℕ) (row : List ℕ) → ((l : ℕ) → l < length row → get_or row l 0 < n) → AllBelow n row
each_below n [] each = tt
each_below n (x ∷ row) each = (each 0 (omega arith), each_below n row (λ l h. each (suc l) (omega (arith, h))))

module _ {K : Type 0} (goes : K → ℕ → K) (begin : K) (a : Machine) (keys : List K) (searched : IsSearched goes begin a.letters keys a.rows)
    (all : length keys ≤ length a.rows) where
  -- the row of a key
  pub row_at : (s : ℕ) (k : K) → slice_get keys s ≡ Some k → IsRow goes begin a.letters keys searched.words s (get_or a.rows s [])
  row_at s k at =
      let row = at_place a.rows s (omega (arith, all, slice_get_within keys s k at)) in
      searched.each s (get_or a.rows s []) (row.1 ∙ ap Some (sym (get_or_from_slice_get a.rows s row.0 [] row.1)))

  -- the letter's entry in the row of a key
  pub entry_at : (s : ℕ) (k : K) (w : List ℕ) (l : ℕ) → slice_get keys s ≡ Some k → slice_get searched.words s ≡ Some w → l < a.letters
      → IsEntry goes begin a.letters keys searched.words k w l (get_or (get_or a.rows s []) l 0)
  entry_at s k w l at at_w h =
      let row = row_at s k at in
      let same_key : row.key ≡ k = same_Some row.key k (sym row.key_at ∙ at) in
      let same_word : row.word ≡ w = same_Some row.word w (sym row.word_at ∙ at_w) in
      subst (λ x. IsEntry goes begin a.letters keys searched.words x w l (get_or (get_or a.rows s []) l 0)) same_key
      (subst (λ x. IsEntry goes begin a.letters keys searched.words row.key x l (get_or (get_or a.rows s []) l 0)) same_word (row.entries l h))

  -- the key of a state that a word leads to
  pub followed : (w : List ℕ) (s : ℕ) (k : K) → slice_get keys s ≡ Some k → AllBelow a.letters w → slice_get keys (follow a.rows s w) ≡ Some (run goes k w)
  followed [] s k at below = at
  followed (l ∷ w) s k at below =
      let row = row_at s k at in
      followed w (get_or (get_or a.rows s []) l 0) (goes k l) (entry_at s k row.word l at row.word_at below.0).key below.1

  -- the least word of the state that a word leads to is at most that word
  pub least : (v u : List ℕ) (s : ℕ) (w : List ℕ) → slice_get searched.words s ≡ Some w → IsAtMost w u → AllBelow a.letters v
      → (x : List ℕ) × (slice_get searched.words (follow a.rows s v) ≡ Some x) × IsAtMost x (u ++ v)
  least [] u s w at most below = (w, at, subst (IsAtMost w) (sym (append-nil u)) most)
  least (l ∷ v) u s w at most below =
      let key = key_of goes begin a.letters searched.words s w at in
      let entry = entry_at s (run goes begin w) w l (ap (λ ks. slice_get ks s) (sym searched.have.lead) ∙ key) at below.0 in
      let rest = least v (u ++ l ∷ []) (get_or (get_or a.rows s []) l 0) entry.word entry.at
      (most_trans entry.word (w ++ l ∷ []) (u ++ l ∷ []) entry.most (most_more w u l most)) below.1 in
      (rest.0, rest.1, subst (IsAtMost rest.0) (append_assoc u (l ∷ []) v) rest.2)

  -- the first key
  pub begins : slice_get keys 0 ≡ Some begin
  begins = ap (λ ks. slice_get ks 0) (sym searched.have.lead) ∙ key_of goes begin a.letters searched.words 0 [] searched.have.first

  -- there is a state
  pub some_state : 0 < length a.rows
  some_state = omega (arith, all, slice_get_within keys 0 begin begins)

  -- the key of the state that a word leads to
  pub key_reached : (w : List ℕ) → AllBelow a.letters w → slice_get keys (reached a w) ≡ Some (run goes begin w)
  key_reached w below = followed w 0 begin begins below

  -- each state has a key
  pub key_at : (s : ℕ) → s < length a.rows → (k : K) × (slice_get keys s ≡ Some k)
  key_at s h = let row = at_place a.rows s h in let is = searched.each s row.0 row.1 in (is.key, is.key_at)

  -- rows are long enough
  pub rows_long : (s : ℕ) → s < length a.rows → length (get_or a.rows s []) ≡ a.letters
  rows_long s h = let k = key_at s h in (row_at s k.0 k.1).long

  -- rows lead to states
  pub rows_within : (s : ℕ) → s < length a.rows → AllBelow (length a.rows) (get_or a.rows s [])
  rows_within s h =
      let k = key_at s h in
      let row = row_at s k.0 k.1 in
      each_below (length a.rows) (get_or a.rows s [])
      (λ l few. omega (
        arith,
        all,
        slice_get_within keys (get_or (get_or a.rows s []) l 0) (goes row.key l)
            (row.entries l (omega (arith, few, row.long))).key,
      ))

  module _ (once : IsOnce keys) where
    -- the word of a state is the least that leads there
    least_to : (s : ℕ) (w : List ℕ) → slice_get searched.words s ≡ Some w → IsLeastTo a s w
    least_to s w at =
        let below = searched.have.below s w at in
        let key : slice_get keys s ≡ Some (run goes begin w) = ap (λ ks. slice_get ks s) (sym searched.have.lead)
        ∙ key_of goes begin a.letters searched.words s w at in
        record {
          word = below;
          leads = once (reached a w) s (run goes begin w) (key_reached w below) key;
          least = λ v all_below leads.
              let found = least v [] 0 [] searched.have.first (inl refl) all_below in
              let same : found.0 ≡ w = same_Some found.0 w (sym found.1 ∙ ap (slice_get searched.words) leads ∙ at) in
              turned v w (subst (λ x. IsAtMost x v) same found.2);
        }
      where
        turned : (v w : List ℕ) → IsAtMost w v → (v ≡ w) ⊎ IsBefore w v
        turned v w (inl h) = inl (sym h)
        turned v w (inr h) = inr h

    -- the word of a state
    word_at : (s : ℕ) → s < length a.rows → slice_get searched.words s ≡ Some (get_or searched.words s [])
    word_at s h =
        let k = key_at s h in
        let row = row_at s k.0 k.1 in
        row.word_at ∙ ap Some (sym (get_or_from_slice_get searched.words s row.word [] row.word_at))

    -- states are numbered by their least words
    pub is_numbered : IsNumbered a
    is_numbered = (
      searched.words,
      record {
        each = λ s h. least_to s (get_or searched.words s []) (word_at s h);
        ascend = λ s t order h. searched.have.ascend s t (get_or searched.words s []) (get_or searched.words t []) order
            (word_at s (omega (arith, order, h))) (word_at t h);
      },
    )
