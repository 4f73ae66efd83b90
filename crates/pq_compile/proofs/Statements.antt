-- One turn of a loop over the statements of a document.
use Rattle.std.specs.Prelude.{◌≡◌, ℕ, ◌+◌, ◌<◌, ◌≤◌, Bool, true, false, if◌then◌else◌, List, [], ◌∷◌, ◌++◌, map, length, get_or, drop, Ok, Err}
use Rattle.std.proofs.Common.{arith, refl, ap, sym, subst, ◌∙◌}
use Rattle.std.proofs.lemmas.List.{map_push}
use Rattle.pq_term.specs.declared.token.Token.{Token}
use Rattle.pq_grammar.specs.declared.class.Class.{Class}
use Rattle.pq_tree.specs.declared.term.Term.{Term}
use Rattle.pq_tree.specs.declared.term.Term.TheViews.{out-Term}
use Rattle.pq_tree.specs.Trees.{Tree, tree, trees}
use Rattle.pq_tree.proofs.Folds.{tree_out}
use Rattle.pq_topo.specs.declared.fault.NameFault.{NameFault}
use Rattle.pq_topo.specs.declared.fault.NameKind.TheVariants.{BadValue}
use Rattle.pq_topo.specs.Naming.{Reading, IsAnswer, faulty, next}
use Rattle.pq_topo.specs.Statements.{begins_with}
use Rattle.pq_topo.proofs.Passed.{passed, handed}
use Rattle.pq_topo.proofs.Terms.{trees_left}
use Rattle.pq_compile.specs.Names.{Named, named_from, named_of, named_after}

-- the names of statements
abbrev pub names_of : {A : Type 0} → List (Named A) → List (List ℕ)
names_of earlier = map (λ s. s.0) earlier

-- the names of one statement more
pub one_name_more : {A V : Type 0} (view : V → Named A) (vs new : List V) (v : V) (names more : List (List ℕ))
    → names ≡ names_of (map view vs) → more ≡ names ++ (view v).0 ∷ [] → new ≡ vs ++ v ∷ []
    → more ≡ names_of (map view new)
one_name_more view vs new v names more same kept last =
    kept ∙ ap (λ ns. ns ++ (view v).0 ∷ []) same ∙ sym (map_push (λ s. s.0) (map view vs) (view v))
    ∙ ap names_of (sym (map_push view vs v) ∙ ap (map view) (sym last))

module _ {A V : Type 0} (view : V → Named A) (bytes : List ℕ) (class : Class) (most : ℕ) (read : Tree → Reading A) (vs : List V)
    (names : List (List ℕ)) (same : names ≡ names_of (map view vs)) (ts : List Term) (i : ℕ) (d : Term) (below : i < length ts)
    (whole : Reading (List (Named A))) (left : named_after bytes class most read (map view vs) (trees (drop i ts)) ≡ whole) where
  abbrev after_it : Named A → Reading (List (Named A))
  after_it s = named_after bytes class most read (map view vs ++ s ∷ []) (trees (drop (i + 1) ts))

  abbrev this : List (List ℕ) → Reading (Named A)
  this names = named_of bytes most read names (out-Term (get_or ts i d)).head (trees (out-Term (get_or ts i d)).children.now)

  turned : (b : Bool) → begins_with bytes class (out-Term (get_or ts i d)).head ≡ b
      → (if b then next (this names) after_it else named_after bytes class most read (map view vs) (trees (drop (i + 1) ts))) ≡ whole
  turned b begins =
      ap (λ c. if c then next (this names) after_it else named_after bytes class most read (map view vs) (trees (drop (i + 1) ts))) (sym begins)
      ∙ ap (λ ns. if begins_with bytes class (out-Term (get_or ts i d)).head then next
      (this ns) after_it else named_after bytes class most read (map view vs) (trees (drop (i + 1) ts))) same
      ∙ sym (ap (named_after bytes class most read (map view vs)) (trees_left ts i d below)) ∙ left

  -- a statement is read
  pub one_is_read : (v : V) (new : List V) → begins_with bytes class (out-Term (get_or ts i d)).head ≡ true
      → IsAnswer view (Ok v) (this names) → new ≡ vs ++ v ∷ []
      → named_after bytes class most read (map view new) (trees (drop (i + 1) ts)) ≡ whole
  one_is_read v new begins answer more =
      ap (λ ss. named_after bytes class most read ss (trees (drop (i + 1) ts))) (ap (map view) more ∙ map_push view vs v)
      ∙ sym (handed view v (this names) after_it answer) ∙ turned true begins

  -- a statement is refused
  pub one_is_refused : {C : Type 0} (w : C → List (Named A)) (fault : NameFault)
      → begins_with bytes class (out-Term (get_or ts i d)).head ≡ true → IsAnswer view (Err fault) (this names)
      → IsAnswer w (Err fault) whole
  one_is_refused w fault begins answer = subst (IsAnswer w (Err fault)) (turned true begins) (passed view w fault (this names) after_it answer)

  -- the statement is of another sort
  pub none_is_read : begins_with bytes class (out-Term (get_or ts i d)).head ≡ false
      → named_after bytes class most read (map view vs) (trees (drop (i + 1) ts)) ≡ whole
  none_is_read begins = turned false begins

-- two children are a name and a body
pub named_two : {A : Type 0} (bytes : List ℕ) (most : ℕ) (read : Tree → Reading A) (names : List (List ℕ)) (keyword : Token)
    (ts : List Term) (d : Term) → 2 ≤ length ts
    → named_of bytes most read names keyword (trees ts) ≡ named_from bytes most read names keyword (out-Term (get_or ts 0 d)).head (tree (get_or ts 1 d))
named_two bytes most read names keyword [] d long = absurd (omega (arith, long))
named_two bytes most read names keyword (x ∷ []) d long = absurd (omega (arith, long))
named_two bytes most read names keyword (x ∷ y ∷ zs) d long = ap (λ (t : Tree). named_from bytes most read names keyword t.head (tree y)) (tree_out x)

-- fewer children are none
pub named_few : {A : Type 0} (bytes : List ℕ) (most : ℕ) (read : Tree → Reading A) (names : List (List ℕ)) (keyword : Token) (ts : List Term) → length ts < 2
    → named_of bytes most read names keyword (trees ts) ≡ faulty keyword BadValue
named_few bytes most read names keyword [] short = refl
named_few bytes most read names keyword (x ∷ []) short = refl
named_few bytes most read names keyword (x ∷ y ∷ zs) short = absurd (omega (arith, short))
