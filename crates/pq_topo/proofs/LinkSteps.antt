-- One turn of the loop over the statements of links, and the parts of such a statement.
use Rattle.std.specs.Prelude.{◌≡◌, ℕ, ◌+◌, ◌<◌, ◌≤◌, Bool, true, false, if◌then◌else◌, List, [], ◌∷◌, ◌++◌, length, get_or, Result, Ok, Err}
use Rattle.std.proofs.Common.{arith, drop, ap, sym, subst, refl, ◌∙◌, append_assoc}
use Rattle.std.proofs.lemmas.List.Concat.{flat_map-append}
use Rattle.pq_term.specs.declared.token.Token.{Token}
use Rattle.pq_tree.specs.declared.term.Term.{Term}
use Rattle.pq_tree.specs.declared.term.Term.TheViews.{out-Term}
use Rattle.pq_tree.specs.Trees.{Forest, grown, trees}
use Rattle.pq_grammar.specs.declared.class.Class.TheVariants.{LinkWord}
use Rattle.pq_model.specs.Topology.{Switch, Link}
use Rattle.pq_model.specs.Install.{ends_of}
use Rattle.pq_topo.specs.declared.fault.NameFault.{NameFault}
use Rattle.pq_topo.specs.declared.fault.NameFault.TheVariants.{Name}
use Rattle.pq_topo.specs.declared.fault.NameKind.TheVariants.{BadValue}
use Rattle.pq_topo.specs.Naming.{Reading, IsAnswer, faulty, next}
use Rattle.pq_topo.specs.Statements.{begins_with, link_from, link_of, links_after}
use Rattle.pq_topo.proofs.Passed.{passed, handed}
use Rattle.pq_topo.proofs.Terms.{trees_first, trees_left}

-- two ends, one after the other
pub two_more : (ends one two : List (ℕ × ℕ)) (d e : ℕ × ℕ) → one ≡ ends ++ d ∷ [] → two ≡ one ++ e ∷ [] → two ≡ ends ++ d ∷ e ∷ []
two_more ends one two d e first second = second ∙ ap (λ es. es ++ e ∷ []) first ∙ append_assoc ends (d ∷ []) (e ∷ [])

-- the ends of one more link
pub ends_read : (ls new : List Link) (l : Link) (ends more : List (ℕ × ℕ)) → ends ≡ ends_of ls → more ≡ ends ++ l.first ∷ l.second ∷ []
    → new ≡ ls ++ l ∷ [] → more ≡ ends_of new
ends_read ls new l ends more is adds is_new =
    adds ∙ ap (λ es. es ++ l.first ∷ l.second ∷ []) is ∙ sym (flat_map-append (λ k. k.first ∷ k.second ∷ []) ls (l ∷ [])) ∙ sym (ap ends_of is_new)

-- a term's head, and the trees below it
abbrev head : Term → Token
head t = (out-Term t).head

abbrev below : Term → Forest
below t = trees (out-Term t).children.now

four : (a b c d : Term) (rest : List Term)
    → trees (a ∷ b ∷ c ∷ d ∷ rest)
    ≡ grown (head a) (below a) (grown (head b) (below b) (grown (head c) (below c) (grown (head d) (below d) (trees rest))))
four a b c d rest = trees_first a (b ∷ c ∷ d ∷ rest)
    ∙ ap (grown (head a) (below a)) (trees_first b (c ∷ d ∷ rest)
    ∙ ap (grown (head b) (below b)) (trees_first c (d ∷ rest) ∙ ap (grown (head c) (below c)) (trees_first d rest)))

module _ (bytes : List ℕ) (switches : List Switch) (ends : List (ℕ × ℕ)) (keyword : Token) where
  abbrev of : Forest → Result Link NameFault → Type 0
  of f r = IsAnswer (λ link. link) r (link_of bytes switches ends keyword f)

  refused : (fault : NameFault) → fault ≡ Name keyword.at BadValue → IsAnswer (λ (link : Link). link) (Err fault) (faulty keyword BadValue)
  refused fault e = rw e refl

  -- fewer than four parts
  pub too_few_parts : (ts : List Term) → length ts < 4 → (fault : NameFault) → fault ≡ Name keyword.at BadValue → of (trees ts) (Err fault)
  too_few_parts [] few fault e = refused fault e
  too_few_parts (a ∷ []) few fault e = refused fault e
  too_few_parts (a ∷ b ∷ []) few fault e = refused fault e
  too_few_parts (a ∷ b ∷ c ∷ []) few fault e = refused fault e
  too_few_parts (a ∷ b ∷ c ∷ d ∷ rest) few fault e = let no : ⊥ = omega (arith, few) in absurd no

  -- four parts or more
  pub four_parts : (ts : List Term) (h i j k : Term) → 4 ≤ length ts → (r : Result Link NameFault)
      → IsAnswer (λ link. link) r (link_from bytes switches ends (head (get_or ts 0 h)) (head (get_or ts 1 i)) (head (get_or ts 2 j))
      (head (get_or ts 3 k))) → of (trees ts) r
  four_parts [] h i j k long r answer = let no : ⊥ = omega (arith, long) in absurd no
  four_parts (a ∷ []) h i j k long r answer = let no : ⊥ = omega (arith, long) in absurd no
  four_parts (a ∷ b ∷ []) h i j k long r answer = let no : ⊥ = omega (arith, long) in absurd no
  four_parts (a ∷ b ∷ c ∷ []) h i j k long r answer = let no : ⊥ = omega (arith, long) in absurd no
  four_parts (a ∷ b ∷ c ∷ d ∷ rest) h i j k long r answer = subst (λ f. of f r) (sym (four a b c d rest)) answer

module _ (bytes : List ℕ) (switches : List Switch) (earlier : List Link) (ends : List (ℕ × ℕ)) (are : ends ≡ ends_of earlier)
    (ts : List Term) (i : ℕ) (d : Term) (within : i < length ts) (whole : Reading (List Link))
    (left : links_after bytes switches earlier (trees (drop i ts)) ≡ whole) where
  abbrev after_it : Link → Reading (List Link)
  after_it l = links_after bytes switches (earlier ++ l ∷ []) (trees (drop (i + 1) ts))

  abbrev this : List (ℕ × ℕ) → Reading Link
  this es = link_of bytes switches es (head (get_or ts i d)) (below (get_or ts i d))

  turned : (b : Bool) → begins_with bytes LinkWord (head (get_or ts i d)) ≡ b
      → (if b then next (this ends) after_it else links_after bytes switches earlier (trees (drop (i + 1) ts))) ≡ whole
  turned b begins =
      ap (λ es. if b then next (this es) after_it else links_after bytes switches earlier (trees (drop (i + 1) ts))) are
      ∙ ap (λ c. if c then next (this (ends_of earlier)) after_it else links_after bytes switches earlier (trees (drop (i + 1) ts))) (sym begins)
      ∙ sym (ap (links_after bytes switches earlier) (trees_left ts i d within)) ∙ left

  -- a link is read
  pub link_is_read : (l : Link) (new : List Link) → begins_with bytes LinkWord (head (get_or ts i d)) ≡ true
      → IsAnswer (λ link. link) (Ok l) (this ends) → new ≡ earlier ++ l ∷ []
      → links_after bytes switches new (trees (drop (i + 1) ts)) ≡ whole
  link_is_read l new begins answer more = ap (λ ls. links_after bytes switches ls (trees (drop (i + 1) ts))) more
      ∙ sym (handed (λ link. link) l (this ends) after_it answer) ∙ turned true begins

  -- a link is refused
  pub link_is_refused : {C : Type 0} (w : C → List Link) (fault : NameFault) → begins_with bytes LinkWord (head (get_or ts i d)) ≡ true
      → IsAnswer (λ (link : Link). link) (Err fault) (this ends) → IsAnswer w (Err fault) whole
  link_is_refused w fault begins answer =
      subst (IsAnswer w (Err fault)) (turned true begins) (passed (λ (link : Link). link) w fault (this ends) after_it answer)

  -- the statement is none of a link
  pub no_link : begins_with bytes LinkWord (head (get_or ts i d)) ≡ false → links_after bytes switches earlier (trees (drop (i + 1) ts)) ≡ whole
  no_link begins = turned false begins
