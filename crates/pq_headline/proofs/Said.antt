-- What the trees of a switch say by the words of their keys.
use Rattle.std.proofs.Common.{◌≡◌, ◌≢◌, ◌∙◌, ◌≤◌, ℕ, Bool, true, false, not, ◌==◌, if◌then◌else◌, List, [], ◌∷◌, map, refl, sym, ap, subst, inl, inr, arith}
use Rattle.std.specs.Prelude.{is_some, is_none}
use Rattle.std.specs.List.{AllZip}
use Rattle.std.specs.declared.option.Option.{Option}
use Rattle.std.specs.declared.option.Option.TheVariants.{None, Some}
use Rattle.std.proofs.lemmas.Bool.{and_parts, true≢false}
use Rattle.std.proofs.lemmas.Bool.Decides.{nat_tests}
use Rattle.pq_fields.specs.Packet.{Numbers, Fit}
use Rattle.pq_model.specs.Topology.{Topology, is_edge, is_linked, is_port, peer}
use Rattle.pq_rewrite.specs.declared.trees.Arrive.{Arrive}
use Rattle.pq_rewrite.specs.declared.trees.Key.{Key}
use Rattle.pq_rewrite.specs.declared.trees.Key.TheVariants.{Plain, Tag}
use Rattle.pq_store.specs.Tree.{Tree, value}
use Rattle.pq_layout.specs.Actions.{key_word, tag_word}
use Rattle.pq_layout.specs.Emission.{AreTrees}
use Rattle.pq_layout.specs.Leaves.{Departures, arrival, arrive, leaving}
use Rattle.pq_layout.specs.Messages.{ArrivingTrees, LeavingTrees}
use Rattle.pq_layout.specs.Sending.{said_by}
use Rattle.pq_layout.specs.Tagging.{Tagging, even_tags, odd_tags, up_to}
use Rattle.pq_layout.specs.Trees.{IsArriving, IsLeaving, keys_of}
use Rattle.pq_headline.proofs.Members.{StandsIn}
use Rattle.pq_headline.proofs.Rows.{among_filter, among_up_to}

-- keys have different words
words_differ : (j k : Key) → key_word j ≡ key_word k → j ≡ k
words_differ Plain Plain same = refl
words_differ Plain (Tag t) same = absurd (omega arith)
words_differ (Tag s) Plain same = absurd (omega arith)
words_differ (Tag s) (Tag t) same = let is : s ≡ t = omega arith in ap Tag is

tag_words_differ : (s t : ℕ) → tag_word s ≡ tag_word t → s ≡ t
tag_words_differ s t same = omega arith

among_map : {A B : Type 0} (f : A → B) (z : A) (xs : List A) → StandsIn z xs → StandsIn (f z) (map f xs)
among_map f z [] there = absurd there
among_map f z (x ∷ xs) (inl is) = inl (ap f is)
among_map f z (x ∷ xs) (inr there) = inr (among_map f z xs there)

module _ {K L : Type 0} (word : K → ℕ) (differ : (j k : K) → word j ≡ word k → j ≡ k) (R : K → Tree L → Type 0) where
  -- trees of these keys, each with the word of its key
  abbrev AreKeyed : List K → List (ℕ × Tree L) → Type 0
  AreKeyed ks ps = AllZip (λ k p. (p.0 ≡ word k) × R k p.1) ks ps

  -- by the word of a key its tree speaks
  said_by_key : (ks : List K) (ps : List (ℕ × Tree L)) → AreKeyed ks ps → (k : K) → StandsIn k ks → (default : L) (x : Numbers)
      → (t : Tree L) × R k t × (said_by ps default (word k) x ≡ value t x)
  said_by_key [] ps keyed k there default x = absurd there
  said_by_key (j ∷ ks) [] keyed k there default x = absurd keyed
  said_by_key (j ∷ ks) (p ∷ ps) keyed k there default x = by (p.0 == word k) refl there (said_by_key ks ps keyed.1 k)
    where
      by : (b : Bool) → (p.0 == word k) ≡ b → StandsIn k (j ∷ ks)
          → (StandsIn k ks → (default : L) (x : Numbers) → (t : Tree L) × R k t × (said_by ps default (word k) x ≡ value t x))
          → (t : Tree L) × R k t × ((if b then value p.1 x else said_by ps default (word k) x) ≡ value t x)
      by true same there more =
          let is : p.0 ≡ word k = grind (arith, nat_tests) in
          let own : j ≡ k = differ j k (sym keyed.0.0 ∙ is) in
          (p.1, subst (λ i. R i p.1) own keyed.0.1, refl)
      by false same (inl is) more =
          let apart : p.0 ≢ word k = grind (arith, nat_tests) in
          absurd (apart (keyed.0.0 ∙ ap word (sym is)))
      by false same (inr there) more = more there default x

  -- where each tree of this word says the default, so do all together
  said_default : (ks : List K) (ps : List (ℕ × Tree L)) → AreKeyed ks ps → (n : ℕ) (default : L) (x : Numbers)
      → ((k : K) (t : Tree L) → word k ≡ n → R k t → value t x ≡ default) → said_by ps default n x ≡ default
  said_default ks [] keyed n default x each = refl
  said_default [] (p ∷ ps) keyed n default x each = absurd keyed
  said_default (k ∷ ks) (p ∷ ps) keyed n default x each = by (p.0 == n) refl (said_default ks ps keyed.1 n default x each)
    where
      by : (b : Bool) → (p.0 == n) ≡ b → said_by ps default n x ≡ default → (if b then value p.1 x else said_by ps default n x) ≡ default
      by true same more = let is : p.0 ≡ n = grind (arith, nat_tests) in each k p.1 (sym keyed.0.0 ∙ is) keyed.0.1
      by false same more = more

-- an edge port is in no link
pub edge_unlinked : (T : Topology) (d p : ℕ) → is_edge T d p ≡ true → is_linked T d p ≡ false
edge_unlinked T d p edge = by (peer T d p) (and_parts (is_port T d p) (is_none (peer T d p)) edge).1
  where
    by : (o : Option (ℕ × ℕ)) → is_none o ≡ true → is_some o ≡ false
    by None e = refl
    by (Some f) e = absurd (true≢false (sym e))

-- at a switch, its trees say what the layout states
module _ (T : Topology) (g : Tagging) (writes : Departures) (first : ArrivingTrees) (second : LeavingTrees) (x : Numbers) (fit : Fit x)
    (are : AreTrees T g writes x.switch first second) where
  arriving_says : (k : Key) → StandsIn k (keys_of g) → said_by first None (key_word k) x ≡ arrival T g k x
  arriving_says k there =
      let told = said_by_key key_word words_differ (IsArriving T g x.switch) (keys_of g) first are.arriving k there None x in
      told.2 ∙ told.1.gives x fit

  pub plain_says : said_by first None 0 x ≡ arrival T g Plain x
  plain_says = arriving_says Plain (inl refl)

  pub tag_says : (t : ℕ) → 1 ≤ t → t ≤ g.count → g.is_even t ≡ true → said_by first None (tag_word t) x ≡ arrival T g (Tag t) x
  tag_says t low high even =
      arriving_says (Tag t)
      (inr (among_map Tag t (even_tags g) (among_filter g.is_even t (up_to g.count) even (among_up_to g.count t low high))))

  pub leaving_says : (a : ℕ) → 1 ≤ a → a ≤ g.count → g.is_even a ≡ false → said_by second [] (tag_word a) x ≡ leaving T g writes a x
  leaving_says a low high odd =
      let there : StandsIn a (odd_tags g) = among_filter (λ t. not (g.is_even t)) a (up_to g.count) (ap not odd) (among_up_to g.count a low high) in
      let told = said_by_key tag_word tag_words_differ (IsLeaving T g writes x.switch) (odd_tags g) second are.leaving a there [] x in
      told.2 ∙ told.1.gives x fit

  nothing_for : is_edge T x.switch x.port ≡ true → (word : ℕ) → word ≢ 0 → (k : Key) (t : Tree (Option Arrive)) → key_word k ≡ word
      → IsArriving T g x.switch k t → value t x ≡ None
  nothing_for edge word other Plain t same is = absurd (other (sym same))
  nothing_for edge word other (Tag s) t same is = is.gives x fit
      ∙ ap (λ b. if b then Some (arrive g (g.after s x)) else None) (edge_unlinked T x.switch x.port edge)

  -- of a packet at an edge port that has a header they say nothing
  pub strange_says : is_edge T x.switch x.port ≡ true → (word : ℕ) → word ≢ 0 → said_by first None word x ≡ None
  strange_says edge word other = said_default key_word words_differ (IsArriving T g x.switch) (keys_of g) first are.arriving word None x
      (nothing_for edge word other)
