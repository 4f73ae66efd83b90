-- A search breadth first, letters ascending: each key has its least word, and keys ascend by it.
use Rattle.std.proofs.Common.{◌≡◌, ℕ, zero, suc, ◌+◌, ◌<◌, ◌≤◌, inl, inr, List, [], ◌∷◌, ◌++◌, length, map, Some, refl, sym, ap, subst, ◌∙◌}
use Rattle.std.proofs.Common.{arith, length-append}
use Rattle.std.specs.List.{slice_get}
use Rattle.std.proofs.Math.ListN.{get_or}
use Rattle.std.proofs.lemmas.List.{map-append, length-map}
use Rattle.std.proofs.lemmas.Option.{slice_get_within}
use Rattle.pq_auto.specs.Machine.{AllBelow}
use Rattle.pq_auto.specs.Numbering.{IsBefore}
use Rattle.pq_auto.specs.Search.{IsNumber, AreNumbers, targets, run}
use Rattle.pq_auto.specs.Searched.{AreBefore, HaveWords, IsEntry, IsRow, IsSearched}
use Rattle.pq_auto.proofs.Order.{before_trans, before_last, before_more}
use Rattle.pq_lists.proofs.Places.{kept_places, last_place, older_or_last}

-- all elements keep their places
abbrev pub Extends : {X : Type 0} → List X → List X → Type 0
Extends {X} old new = (i : ℕ) (x : X) → slice_get old i ≡ Some x → slice_get new i ≡ Some x

-- a word of letters with a letter more
pub below_more : (n : ℕ) (w : List ℕ) (l : ℕ) → AllBelow n w → l < n → AllBelow n (w ++ l ∷ [])
below_more n [] l all h = (h, tt)
below_more n (m ∷ w) l all h = (all.0, below_more n w l all.1 h)

module _ {K : Type 0} (goes : K → ℕ → K) (begin : K) (letters : ℕ) where
  -- where a word with a letter more leads
  pub run_more : (k : K) (w : List ℕ) (l : ℕ) → run goes k (w ++ l ∷ []) ≡ goes (run goes k w) l
  run_more k [] l = refl
  run_more k (m ∷ w) l = run_more (goes k m) w l

  -- the word of a key leads there
  pub word_of : (words : List (List ℕ)) (n : ℕ) (k : K) → slice_get (map (run goes begin) words) n ≡ Some k
      → (w : List ℕ) × (slice_get words n ≡ Some w) × (run goes begin w ≡ k)
  word_of [] n k h = absurd cc
  word_of (w ∷ words) zero k h = (w, refl, cc)
  word_of (w ∷ words) (suc n) k h = word_of words n k h

  -- the key of a word
  pub key_of : (words : List (List ℕ)) (n : ℕ) (w : List ℕ) → slice_get words n ≡ Some w → slice_get (map (run goes begin) words) n ≡ Some (run goes begin w)
  key_of [] n w h = absurd cc
  key_of (v ∷ words) zero w h = cc
  key_of (v ∷ words) (suc n) w h = key_of words n w h

  -- what numbering one key does
  record Numbered (keys mid : List K) (words : List (List ℕ)) (k : K) (u : List ℕ) (l n : ℕ) : Type 0 where
    more : List (List ℕ)
    have : HaveWords goes begin letters mid more
    older : Extends keys mid
    words_older : Extends words more
    before : AreBefore more (u ++ suc l ∷ [])
    entry : IsEntry goes begin letters mid more k u l n

  -- a key that was there
  found : (keys mid : List K) (words : List (List ℕ)) (k : K) (u : List ℕ) (l n : ℕ) → HaveWords goes begin letters keys words
      → AreBefore words (u ++ l ∷ []) → mid ≡ keys → slice_get keys n ≡ Some (goes k l) → Numbered keys mid words k u l n
  found keys mid words k u l n have before same at =
      let word = word_of words n (goes k l) (ap (λ ks. slice_get ks n) have.lead ∙ at) in
      record {
        more = words;
        have = subst (λ ks. HaveWords goes begin letters ks words) (sym same) have;
        older = λ i x h. ap (λ ks. slice_get ks i) same ∙ h;
        words_older = λ i x h. h;
        before = λ s w h. before_trans w (u ++ l ∷ []) (u ++ suc l ∷ []) (before s w h) (before_last u l (suc l) (omega arith));
        entry = record { key = ap (λ ks. slice_get ks n) same ∙ at; word = word.0; at = word.1; most = inr (before n word.0 word.1) };
      }

  -- words with one more, before which all are
  more_words : (keys : List K) (words : List (List ℕ)) (k : K) (u : List ℕ) (l : ℕ) → HaveWords goes begin letters keys words
      → AllBelow letters u → l < letters → run goes begin u ≡ k → AreBefore words (u ++ l ∷ [])
      → HaveWords goes begin letters (keys ++ goes k l ∷ []) (words ++ (u ++ l ∷ []) ∷ [])
  more_words keys words k u l have all h leads before = record {
    lead = map-append (run goes begin) words ((u ++ l ∷ []) ∷ []) ∙ ap (λ ks. ks ++ run goes begin (u ++ l ∷ []) ∷ []) have.lead
        ∙ ap (λ x. keys ++ x ∷ []) (run_more begin u l ∙ ap (λ x. goes x l) leads);
    first = kept_places words ((u ++ l ∷ []) ∷ []) 0 [] have.first;
    below = λ s w at. elim (older_or_last words (u ++ l ∷ []) s w at) [
      | inl old ↦ have.below s w old
      | inr new ↦ subst (AllBelow letters) (sym new.1) (below_more letters u l all h)
    ];
    ascend = λ s t v w order at_s at_t. elim (older_or_last words (u ++ l ∷ []) s v at_s) [
      | inl old_s ↦ elim (older_or_last words (u ++ l ∷ []) t w at_t) [
        | inl old_t ↦ have.ascend s t v w order old_s old_t
        | inr new_t ↦ subst (IsBefore v) (sym new_t.1) (before s v old_s)
      ]
      | inr new_s ↦ absurd (omega (arith, order, new_s.0, slice_get_within (words ++ (u ++ l ∷ []) ∷ []) t w at_t, length-append words ((u ++ l ∷ []) ∷ [])))
    ];
  }

  -- a new key
  added : (keys mid : List K) (words : List (List ℕ)) (k : K) (u : List ℕ) (l n : ℕ) → HaveWords goes begin letters keys words
      → AllBelow letters u → l < letters → run goes begin u ≡ k → AreBefore words (u ++ l ∷ []) → mid ≡ keys ++ goes k l ∷ []
      → n ≡ length keys → Numbered keys mid words k u l n
  added keys mid words k u l n have all h leads before grown last =
      let same_long : length words ≡ length keys = sym (length-map words (run goes begin)) ∙ ap length have.lead in
      record {
        more = words ++ (u ++ l ∷ []) ∷ [];
        have = subst (λ ks. HaveWords goes begin letters ks (words ++ (u ++ l ∷ []) ∷ [])) (sym grown) (more_words keys words k u l have all h leads before);
        older = λ i x at. ap (λ ks. slice_get ks i) grown ∙ kept_places keys (goes k l ∷ []) i x at;
        words_older = λ i x at. kept_places words ((u ++ l ∷ []) ∷ []) i x at;
        before = λ s w at. elim (older_or_last words (u ++ l ∷ []) s w at) [
          | inl old ↦ before_trans w (u ++ l ∷ []) (u ++ suc l ∷ []) (before s w old) (before_last u l (suc l) (omega arith))
          | inr new ↦ subst (λ v. IsBefore v (u ++ suc l ∷ [])) (sym new.1) (before_last u l (suc l) (omega arith))
        ];
        entry = record {
          key = ap (λ ks. slice_get ks n) grown ∙ ap (slice_get (keys ++ goes k l ∷ [])) last ∙ last_place keys (goes k l);
          word = u ++ l ∷ [];
          at = ap (slice_get (words ++ (u ++ l ∷ []) ∷ [])) (last ∙ sym same_long) ∙ last_place words (u ++ l ∷ []);
          most = inl refl;
        };
      }

  numbered : (keys mid : List K) (words : List (List ℕ)) (k : K) (u : List ℕ) (l n : ℕ) → HaveWords goes begin letters keys words
      → AllBelow letters u → l < letters → run goes begin u ≡ k → AreBefore words (u ++ l ∷ []) → IsNumber keys (goes k l) n mid
      → Numbered keys mid words k u l n
  numbered keys mid words k u l n have all h leads before (inl old) = found keys mid words k u l n have before old.0 old.1
  numbered keys mid words k u l n have all h leads before (inr new) = added keys mid words k u l n have all h leads before new.0 new.1

  -- entries stay
  pub entry_stays : (keys mid : List K) (words more : List (List ℕ)) (k : K) (u : List ℕ) (l n : ℕ) → Extends keys mid → Extends words more
      → IsEntry goes begin letters keys words k u l n → IsEntry goes begin letters mid more k u l n
  entry_stays keys mid words more k u l n older words_older e = record {
    key = older n (goes k l) e.key;
    word = e.word;
    at = words_older n e.word e.at;
    most = e.most;
  }

  -- what numbering the keys after one key does
  pub record AllNumbered (keys new : List K) (words : List (List ℕ)) (k : K) (u : List ℕ) (l count : ℕ) (row : List ℕ) : Type 0 where
    pub more : List (List ℕ)
    pub have : HaveWords goes begin letters new more
    pub older : Extends keys new
    pub words_older : Extends words more
    pub before : AreBefore more (u ++ (l + count) ∷ [])
    pub long : length row ≡ count
    pub entries : (m : ℕ) → m < count → IsEntry goes begin letters new more k u (l + m) (get_or row m 0)

  pub all_numbered : (count l : ℕ) (keys new : List K) (words : List (List ℕ)) (k : K) (u row : List ℕ)
      → HaveWords goes begin letters keys words → AllBelow letters u → l + count ≤ letters → run goes begin u ≡ k
      → AreBefore words (u ++ l ∷ []) → AreNumbers keys (targets goes k l count) row new → AllNumbered keys new words k u l count row
  all_numbered zero l keys new words k u row have all h leads before numbers = record {
    more = words;
    have = subst (λ ks. HaveWords goes begin letters ks words) (sym numbers.1) have;
    older = λ i x at. ap (λ ks. slice_get ks i) numbers.1 ∙ at;
    words_older = λ i x at. at;
    before = subst (λ m. AreBefore words (u ++ m ∷ [])) (omega arith) before;
    long = ap length numbers.0;
    entries = λ m few. absurd (omega (arith, few));
  }
  all_numbered (suc count) l keys new words k u row have all h leads before numbers =
      let step = numbered keys numbers.2 words k u l numbers.0 have all (omega (arith, h)) leads before numbers.4 in
      let rest = all_numbered count (suc l) numbers.2 new step.more k u numbers.1 step.have all (omega (arith, h)) leads step.before numbers.5 in
      record {
        more = rest.more;
        have = rest.have;
        older = λ i x at. rest.older i x (step.older i x at);
        words_older = λ i x at. rest.words_older i x (step.words_older i x at);
        before = subst (λ m. AreBefore rest.more (u ++ m ∷ [])) (omega arith) rest.before;
        long = ap length numbers.3 ∙ ap suc rest.long;
        entries = λ m few. subst (λ r. IsEntry goes begin letters new rest.more k u (l + m) (get_or r m 0)) (sym numbers.3) (
            by rest.more (entry_stays numbers.2 new step.more rest.more k u l numbers.0 rest.older rest.words_older step.entry) rest.entries m few);
      }
    where
      by : (ws : List (List ℕ)) → IsEntry goes begin letters new ws k u l numbers.0
          → ((m : ℕ) → m < count → IsEntry goes begin letters new ws k u (suc l + m) (get_or numbers.1 m 0)) → (m : ℕ) → m < suc count
          → IsEntry goes begin letters new ws k u (l + m) (get_or (numbers.0 ∷ numbers.1) m 0)
      by ws own later zero few = subst (λ x. IsEntry goes begin letters new ws k u x numbers.0) (omega arith) own
      by ws own later (suc m) few = subst (λ x. IsEntry goes begin letters new ws k u x (get_or numbers.1 m 0)) (omega arith) (later m (omega (arith, few)))

  -- the search begins with one key and no row
  pub begun : IsSearched goes begin letters (begin ∷ []) []
  begun = record {
    words = [] ∷ [];
    have = record { lead = refl; first = refl; below = below; ascend = ascend };
    each = λ s row at. absurd (none s row at);
    ahead = ahead;
  }
    where
      one : (s : ℕ) (w : List ℕ) → slice_get ([] ∷ []) s ≡ Some w → (s ≡ 0) × ([] ≡ w)
      one zero w at = (refl, cc)
      one (suc s) w at = absurd cc

      none : (s : ℕ) (row : List ℕ) → slice_get [] s ≡ Some row → ⊥
      none s row at = absurd cc

      below : (s : ℕ) (w : List ℕ) → slice_get ([] ∷ []) s ≡ Some w → AllBelow letters w
      below s w at = subst (AllBelow letters) (one s w at).1 tt

      ascend : (s t : ℕ) (v w : List ℕ) → s < t → slice_get ([] ∷ []) s ≡ Some v → slice_get ([] ∷ []) t ≡ Some w → IsBefore v w
      ascend s t v w order at_s at_t = absurd (omega (arith, order, (one t w at_t).0))

      ahead : (w : List ℕ) → slice_get ([] ∷ []) 0 ≡ Some w → AreBefore ([] ∷ []) (w ++ 0 ∷ [])
      ahead w at s v at_s = subst (λ x. IsBefore x (w ++ 0 ∷ [])) (one s v at_s).1 (inl (omega (arith, length-append w (0 ∷ []))))

  -- rows stay
  row_stays : (keys new : List K) (words more : List (List ℕ)) (s : ℕ) (row : List ℕ) → Extends keys new → Extends words more
      → IsRow goes begin letters keys words s row → IsRow goes begin letters new more s row
  row_stays keys new words more s row older words_older r = record {
    key = r.key;
    word = r.word;
    key_at = older s r.key r.key_at;
    word_at = words_older s r.word r.word_at;
    long = r.long;
    entries = λ l h. entry_stays keys new words more r.key r.word l (get_or row l 0) older words_older (r.entries l h);
  }

  -- the search goes on by the row of the next key
  pub expanded : (keys new : List K) (rows : List (List ℕ)) (k : K) (row : List ℕ) → IsSearched goes begin letters keys rows
      → slice_get keys (length rows) ≡ Some k → AreNumbers keys (targets goes k 0 letters) row new
      → IsSearched goes begin letters new (rows ++ row ∷ [])
  expanded keys new rows k row searched at numbers =
      let words = searched.words in
      let word = word_of words (length rows) k (ap (λ ks. slice_get ks (length rows)) searched.have.lead ∙ at) in
      let step = all_numbered letters 0 keys new words k word.0 row searched.have (searched.have.below (length rows) word.0 word.1)
      (omega arith) word.2 (searched.ahead word.0 word.1) numbers in
      record {
        words = step.more;
        have = step.have;
        each = λ s r at_s. elim (older_or_last rows row s r at_s) [
          | inl old ↦ row_stays keys new words step.more s r step.older step.words_older (searched.each s r old)
          | inr own ↦ subst (IsRow goes begin letters new step.more s) (sym own.1) (record {
            key = k;
            word = word.0;
            key_at = ap (slice_get new) own.0 ∙ step.older (length rows) k at;
            word_at = ap (slice_get step.more) own.0 ∙ step.words_older (length rows) word.0 word.1;
            long = step.long;
            entries = λ l h. subst (λ x. IsEntry goes begin letters new step.more k word.0 x (get_or row l 0)) (zero_more l) (step.entries l h);
          })
        ];
        ahead = λ w at_w s v at_v.
            let past : IsBefore word.0 w = step.have.ascend (length rows) (length (rows ++ row ∷ [])) word.0 w
            (omega (arith, length-append rows (row ∷ []))) (step.words_older (length rows) word.0 word.1) at_w in
            before_trans v (word.0 ++ letters ∷ []) (w ++ 0 ∷ [])
            (subst (λ x. IsBefore v (word.0 ++ x ∷ [])) (zero_more letters) (step.before s v at_v))
            (before_more word.0 w letters 0 past);
      }
    where
      zero_more : (n : ℕ) → 0 + n ≡ n
      zero_more n = omega arith
