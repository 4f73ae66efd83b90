-- Policies that are read are lawful.
use Rattle.std.specs.Prelude.{◌≡◌, ◌≢◌, ℕ, Bool, true, false, not, if◌then◌else◌, List, [], ◌∷◌, Ok}
use Rattle.std.specs.List.{AllByRecursion}
use Rattle.std.proofs.Common.{subst}
use Rattle.std.proofs.lemmas.Bool.{not-false}
use Rattle.pq_term.specs.declared.token.Token.{Token}
use Rattle.pq_term.specs.Numbers.{number_of}
use Rattle.pq_grammar.specs.declared.class.Class.TheVariants.{IdentityWord, DropWord, FloodWord, FilterWord, ModWord, FwdWord, IfWord, Plus, Then}
use Rattle.pq_grammar.specs.Tables.{is_class}
use Rattle.pq_tree.specs.Trees.{Forest, nothing, grown, Tree}
use Rattle.pq_tree.specs.Texts.{text_in, class_in_text}
use Rattle.pq_fields.specs.declared.field.Field.{Field}
use Rattle.pq_fields.specs.Pred.{PredTree, IsPredOver}
use Rattle.pq_model.specs.Topology.{Topology}
use Rattle.pq_topo.specs.declared.fault.NameKind.TheVariants.{BadValue, NotWritable}
use Rattle.pq_topo.specs.Naming.{Reading, faulty, unless, named, next, gathered}
use Rattle.pq_topo.proofs.Readings.{next_ok, unless_ok}
use Rattle.pq_pred.specs.Values.{field_at, value_of, within}
use Rattle.pq_pred.specs.Predicates.{pred_of}
use Rattle.pq_policy.specs.Policy.{PolicyTop, Pass, Discard, Spread, Only, Write, Forward, Choose, Either, InTurn, Policies, none}
use Rattle.pq_policy.specs.Policy.{PolicyTree, leaf, policies, is_writable, IsTopOver, ArePoliciesOver, IsPolicyOver}
use Rattle.pq_policy.specs.Resolved.{filter_of, writable_at, write_at, write_of, forward_of, choice_of, joined, policy_step, policy_readings, policy_of}
use Rattle.pq_compile.proofs.Fits.{ReadsOver, within_bounds}
use Rattle.pq_compile.proofs.LawfulPreds.{named_ok, all_gathered, pred_over}

-- a list of such policies
all_over : (V : Field → ℕ → Type 0) (ps : List PolicyTree) → AllByRecursion (IsPolicyOver V) ps → ArePoliciesOver V (policies ps)
all_over V [] all = tt
all_over V (p ∷ ps) all = (all.0.0, all.0.1, all_over V ps all.1)

some_below : (p : PolicyTree) (ps : List PolicyTree) → policies (p ∷ ps) ≢ none
some_below p ps e = absurd cc

joined_over : (V : Field → ℕ → Type 0) (head : Token) (top : PolicyTop) (ps : List PolicyTree) (p : PolicyTree)
    → ((below : Policies) → below ≢ none → IsTopOver V top below) → AllByRecursion (IsPolicyOver V) ps → joined head top ps ≡ Ok p
    → IsPolicyOver V p
joined_over V head top [] p here all e = absurd cc
joined_over V head top (q ∷ qs) p here all e = let same : record { top = top; below = policies (q ∷ qs) } ≡ p = cc in
    subst (IsPolicyOver V) same (here (policies (q ∷ qs)) (some_below q qs), all_over V (q ∷ qs) all, tt)

-- a choice between lawful policies
chosen : (V : Field → ℕ → Type 0) (q : PredTree) (a b p : PolicyTree) → IsPredOver V q → IsPolicyOver V a → IsPolicyOver V b
    → record { top = Choose q; below = policies (a ∷ b ∷ []) } ≡ p → IsPolicyOver V p
chosen V q a b p test one two same = subst (IsPolicyOver V) same (test, all_over V (a ∷ b ∷ []) (one, (two, tt)), tt)

module _ (T : Topology) (V : Field → ℕ → Type 0) (over : ReadsOver T V) (bytes : List ℕ) where
  abbrev IsReadOver : Reading PolicyTree → Type 0
  IsReadOver r = (p : PolicyTree) → r ≡ Ok p → IsPolicyOver V p

  filter_over : (head : Token) (below : Forest) → IsReadOver (filter_of T bytes head below)
  filter_over head nothing p e = absurd cc
  filter_over head (grown t below rest) p e =
      let tree : Tree = record { head = t; below = below } in
      let told = next_ok (pred_of T bytes tree) (λ q. Ok (leaf (Only q))) p e in
      let same : leaf (Only told.0) ≡ p = cc in
      subst (IsPolicyOver V) same (pred_over T V over bytes tree told.0 told.1, tt, tt)

  write_over : (field value : Token) → IsReadOver (write_at T bytes field value)
  write_over field value p e =
      let writable = next_ok (writable_at bytes field) (λ f. next (named value (value_of T f (text_in bytes value))) (λ n. Ok (leaf (Write f n)))) p e in
      let f = writable.0 in
      let found = next_ok (field_at bytes field) (λ f. unless field ((not (is_writable f), NotWritable) ∷ []) f) f writable.1 in
      let rules = unless_ok field ((not (is_writable found.0), NotWritable) ∷ []) found.0 f found.2 in
      let may : is_writable f ≡ true = subst (λ f. is_writable f ≡ true) rules.1 (not-false (is_writable found.0) rules.0.0) in
      let valued = next_ok (named value (value_of T f (text_in bytes value))) (λ n. Ok (leaf (Write f n))) p writable.2 in
      let same : leaf (Write f valued.0) ≡ p = cc in
      subst (IsPolicyOver V) same (
        (may, over.values f (text_in bytes value) valued.0 (named_ok value (value_of T f (text_in bytes value)) valued.0 valued.1)),
        tt,
        tt,
      )

  writes_over : (head : Token) (below : Forest) → IsReadOver (write_of T bytes head below)
  writes_over head nothing p e = absurd cc
  writes_over head (grown field nothing rest) p e = absurd cc
  writes_over head (grown field (grown value x y) rest) p e = write_over field value p e

  forward_over : (head : Token) (below : Forest) → IsReadOver (forward_of bytes head below)
  forward_over head nothing p e = absurd cc
  forward_over head (grown port x y) p e =
      let number = within 1 4294967040 (number_of (text_in bytes port)) in
      let told = next_ok (named port number) (λ n. Ok (leaf (Forward n))) p e in
      let same : leaf (Forward told.0) ≡ p = cc in
      subst (IsPolicyOver V) same (within_bounds 1 4294967040 (number_of (text_in bytes port)) told.0 (named_ok port number told.0 told.1), tt, tt)

  choice_over : (head : Token) (below : Forest) (rs : List (Reading PolicyTree)) → AllByRecursion IsReadOver rs → IsReadOver (choice_of T bytes head below rs)
  choice_over head nothing rs all p e = absurd cc
  choice_over head (grown t below rest) [] all p e = absurd cc
  choice_over head (grown t below rest) (x ∷ []) all p e = absurd cc
  choice_over head (grown t below rest) (x ∷ a ∷ []) all p e = absurd cc
  choice_over head (grown t below rest) (x ∷ a ∷ b ∷ c ∷ more) all p e = absurd cc
  choice_over head (grown t below rest) (x ∷ a ∷ b ∷ []) all p e =
      let tree : Tree = record { head = t; below = below } in
      let tested = next_ok (pred_of T bytes tree) (λ q. next a (λ a. next b (λ b. Ok (record { top = Choose q; below = policies (a ∷ b ∷ []) })))) p e in
      let one = next_ok a (λ a. next b (λ b. Ok (record { top = Choose tested.0; below = policies (a ∷ b ∷ []) }))) p tested.2 in
      let two = next_ok b (λ b. Ok (record { top = Choose tested.0; below = policies (one.0 ∷ b ∷ []) })) p one.2 in
      let same : record { top = Choose tested.0; below = policies (one.0 ∷ two.0 ∷ []) } ≡ p = cc in
      chosen V tested.0 one.0 two.0 p (pred_over T V over bytes tree tested.0 tested.1) (all.1.0 one.0 one.1) (all.1.1.0 two.0 two.1) same

  operands_over : (head : Token) (top : PolicyTop) (rs : List (Reading PolicyTree))
      → ((below : Policies) → below ≢ none → IsTopOver V top below) → AllByRecursion IsReadOver rs
      → IsReadOver (next (gathered rs) (joined head top))
  operands_over head top rs here all p e =
      let told = next_ok (gathered rs) (joined head top) p e in
      joined_over V head top told.0 p here (all_gathered (IsPolicyOver V) rs told.0 all told.1) told.2

  step_over : (head : Token) (below : Forest) (rs : List (Reading PolicyTree)) → AllByRecursion IsReadOver rs → IsReadOver (policy_step T bytes head below rs)
  step_over head below rs all p e =
      let class = class_in_text bytes head in
      by (is_class class IdentityWord) (is_class class DropWord) (is_class class FloodWord) (is_class class FilterWord)
      (is_class class ModWord) (is_class class FwdWord) (is_class class IfWord) (is_class class Plus) (is_class class Then) e
    where
      by : (a b c d f g h i j : Bool)
          → (if a then Ok (leaf Pass) else if b then Ok (leaf Discard) else if c then Ok
          (leaf Spread) else if d then filter_of T bytes head below else if f then write_of T bytes head below else if g then forward_of
          bytes head below else if h then choice_of T bytes head below rs else if i then next (gathered rs)
          (joined head Either) else if j then next (gathered rs) (joined head InTurn) else faulty head BadValue) ≡ Ok p → IsPolicyOver V p
      by true b c d f g h i j e = let same : leaf Pass ≡ p = cc in subst (IsPolicyOver V) same (tt, tt, tt)
      by false true c d f g h i j e = let same : leaf Discard ≡ p = cc in subst (IsPolicyOver V) same (tt, tt, tt)
      by false false true d f g h i j e = let same : leaf Spread ≡ p = cc in subst (IsPolicyOver V) same (tt, tt, tt)
      by false false false true f g h i j e = filter_over head below p e
      by false false false false true g h i j e = writes_over head below p e
      by false false false false false true h i j e = forward_over head below p e
      by false false false false false false true i j e = choice_over head below rs all p e
      by false false false false false false false true j e = operands_over head Either rs (λ below some. some) all p e
      by false false false false false false false false true e = operands_over head InTurn rs (λ below some. some) all p e
      by false false false false false false false false false e = absurd cc

  readings_over : (f : Forest) → AllByRecursion IsReadOver (policy_readings T bytes f)
  readings_over nothing = tt
  readings_over (grown head below rest) = (step_over head below (policy_readings T bytes below) (readings_over below), readings_over rest)

  pub policy_over : (t : Tree) (p : PolicyTree) → policy_of T bytes t ≡ Ok p → IsPolicyOver V p
  policy_over t p e = step_over t.head t.below (policy_readings T bytes t.below) (readings_over t.below) p e
