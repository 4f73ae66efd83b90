-- The marks of a sentence make trees: each leading head comes after a tree of its own level, and each head has its end.
use Rattle.std.proofs.Common.{◌≡◌, ℕ, zero, suc, ◌+◌, ◌-◌, ◌⊎◌, List, [], ◌∷◌, ◌++◌, refl, sym, ◌∙◌, ap, subst, inl, inr}
use Rattle.std.proofs.lemmas.List.{append_assoc, append-nil}
use Rattle.pq_grammar.specs.declared.sort.Sort.{Sort}
use Rattle.pq_grammar.specs.declared.sort.Sort.TheVariants.{Document, Switches, PortsMore, LimitOption, Links, Parts, Queries, Edit}
use Rattle.pq_grammar.specs.declared.sort.Sort.TheVariants.{Removed, Pred, PredTail, PredMore, Conj, ConjTail, ConjMore, Literal, Test}
use Rattle.pq_grammar.specs.declared.sort.Sort.TheVariants.{Field, Value, Policy, PolicyTail, PolicyMore, Steps, StepsTail, StepsMore, Step}
use Rattle.pq_grammar.specs.declared.sort.Sort.TheVariants.{Paths, PathsTail, PathsMore, Both, BothTail, BothMore, Chain, ChainTail}
use Rattle.pq_grammar.specs.declared.sort.Sort.TheVariants.{ChainMore, Negation, StarOption, Atom, Groups, GroupsOption, GroupsMore, Group}
use Rattle.pq_grammar.specs.declared.sort.Sort.TheVariants.{ValuesOption, ValuesMore}
use Rattle.pq_grammar.specs.declared.symbol.Role.{Role}
use Rattle.pq_grammar.specs.declared.symbol.Role.TheVariants.{Leaf, Spelled, Head, Lead}
use Rattle.pq_grammar.specs.declared.symbol.Symbol.{Symbol}
use Rattle.pq_grammar.specs.declared.symbol.Symbol.TheVariants.{Token, Opening, Leave, Close, Part}
use Rattle.pq_grammar.specs.declared.mark.Lexeme.{Lexeme}
use Rattle.pq_grammar.specs.declared.mark.Mark.{Mark}
use Rattle.pq_grammar.specs.declared.mark.Mark.TheVariants.{Token as TokenMark, Close as CloseMark}
use Rattle.pq_grammar.specs.Grammar.{alternatives}
use Rattle.pq_grammar.specs.Sentences.{IsOneOf, Derives, Completes}
use Rattle.pq_tree.specs.Trees.{Tree}
use Rattle.pq_tree.specs.Shapes.{Makes, none, leaf, spelled, head, lead, tree_over, MakesSome}

-- Levels: what is known before a symbol.

-- how many heads are open, and whether a tree is known to come after the last one of them; or that something is wrong
pub data Level : Type 0 where
  wrong : Level
  empty : ℕ → Level
  filled : ℕ → Level

-- what a phrase does: it gives a tree; it comes after a tree; it may give none; or it opens a head
pub data Effect : Type 0 where
  gives : Effect
  follows : Effect
  keeps : Effect
  opens : Effect

-- the level after it
abbrev pub with_effect : Level → Effect → Level
with_effect wrong e = wrong
with_effect (empty k) gives = filled k
with_effect (empty k) follows = wrong
with_effect (empty k) keeps = empty k
with_effect (empty k) opens = empty (suc k)
with_effect (filled k) gives = filled k
with_effect (filled k) follows = filled k
with_effect (filled k) keeps = filled k
with_effect (filled k) opens = empty (suc k)

-- the level after a token of the role
abbrev pub with_role : Level → Role → Level
with_role v Leaf = with_effect v gives
with_role v Spelled = with_effect v keeps
with_role v Head = with_effect v opens
with_role v Lead = with_effect (with_effect v follows) opens

-- the level after the end of a tree
abbrev pub with_close : Level → Level
with_close wrong = wrong
with_close (empty zero) = wrong
with_close (empty (suc k)) = filled k
with_close (filled zero) = wrong
with_close (filled (suc k)) = filled k

-- what a phrase of the sort does
abbrev pub effect : Sort → Effect
effect Document = keeps
effect Switches = keeps
effect PortsMore = follows
effect LimitOption = follows
effect Links = keeps
effect Parts = keeps
effect Queries = keeps
effect Edit = gives
effect Removed = gives
effect Pred = gives
effect PredTail = follows
effect PredMore = follows
effect Conj = gives
effect ConjTail = follows
effect ConjMore = follows
effect Literal = gives
effect Test = gives
effect Field = opens
effect Value = gives
effect Policy = gives
effect PolicyTail = follows
effect PolicyMore = follows
effect Steps = gives
effect StepsTail = follows
effect StepsMore = follows
effect Step = gives
effect Paths = gives
effect PathsTail = follows
effect PathsMore = follows
effect Both = gives
effect BothTail = follows
effect BothMore = follows
effect Chain = gives
effect ChainTail = follows
effect ChainMore = follows
effect Negation = gives
effect StarOption = follows
effect Atom = gives
effect Groups = gives
effect GroupsOption = keeps
effect GroupsMore = follows
effect Group = gives
effect ValuesOption = keeps
effect ValuesMore = follows

-- the level after a symbol
abbrev pub after : Symbol → Level → Level
after (Token role class) v = with_role v role
after (Opening role class) v = with_role v role
after Leave v = v
after Close v = with_close v
after (Part sort) v = with_effect v (effect sort)

-- the level after symbols
abbrev pub run : List Symbol → Level → Level
run [] v = v
run (s ∷ ss) v = run ss (after s v)

-- symbols after others
run_append : (ss ts : List Symbol) (v : Level) → run (ss ++ ts) v ≡ run ts (run ss v)
run_append [] ts v = refl
run_append (s ∷ ss) ts v = run_append ss ts (after s v)

-- no head is open
abbrev pub IsDone : Level → Type 0
IsDone wrong = ⊥
IsDone (empty k) = k ≡ 0
IsDone (filled k) = k ≡ 0

-- all that is known at the second level is known at the first one
abbrev IsAtLeast : Level → Level → Type 0
IsAtLeast v wrong = Unit {0}
IsAtLeast wrong (empty k) = ⊥
IsAtLeast (empty j) (empty k) = j ≡ k
IsAtLeast (filled j) (empty k) = j ≡ k
IsAtLeast wrong (filled k) = ⊥
IsAtLeast (empty j) (filled k) = ⊥
IsAtLeast (filled j) (filled k) = j ≡ k

-- a level is at least itself
at_least_itself : (v : Level) → IsAtLeast v v
at_least_itself wrong = tt
at_least_itself (empty k) = refl
at_least_itself (filled k) = refl

-- a tree more does no harm
effect_filled : (e : Effect) (k : ℕ) → IsAtLeast (with_effect (filled k) e) (with_effect (empty k) e)
effect_filled gives k = refl
effect_filled follows k = tt
effect_filled keeps k = refl
effect_filled opens k = refl

-- nor with a token
role_filled : (role : Role) (k : ℕ) → IsAtLeast (with_role (filled k) role) (with_role (empty k) role)
role_filled Leaf k = refl
role_filled Spelled k = refl
role_filled Head k = refl
role_filled Lead k = tt

-- nor with the end of a tree
close_filled : (k : ℕ) → IsAtLeast (with_close (filled k)) (with_close (empty k))
close_filled zero = tt
close_filled (suc k) = refl

-- nor with any symbol
after_filled : (s : Symbol) (k : ℕ) → IsAtLeast (after s (filled k)) (after s (empty k))
after_filled (Token role class) k = role_filled role k
after_filled (Opening role class) k = role_filled role k
after_filled Leave k = refl
after_filled Close k = close_filled k
after_filled (Part sort) k = effect_filled (effect sort) k

-- what is wrong stays so
role_wrong : (role : Role) → with_role wrong role ≡ wrong
role_wrong Leaf = refl
role_wrong Spelled = refl
role_wrong Head = refl
role_wrong Lead = refl

-- after any symbol
after_wrong : (s : Symbol) → after s wrong ≡ wrong
after_wrong (Token role class) = role_wrong role
after_wrong (Opening role class) = role_wrong role
after_wrong Leave = refl
after_wrong Close = refl
after_wrong (Part sort) = refl

-- what is known before a symbol serves after it
after_more : (s : Symbol) (v w : Level) → IsAtLeast v w → IsAtLeast (after s v) (after s w)
after_more s v wrong more = subst (IsAtLeast (after s v)) (sym (after_wrong s)) tt
after_more s wrong (empty k) more = absurd more
after_more s (empty j) (empty k) more = subst (λ i. IsAtLeast (after s (empty j)) (after s (empty i))) more (at_least_itself (after s (empty j)))
after_more s (filled j) (empty k) more = subst (λ i. IsAtLeast (after s (filled j)) (after s (empty i))) more (after_filled s j)
after_more s wrong (filled k) more = absurd more
after_more s (empty j) (filled k) more = absurd more
after_more s (filled j) (filled k) more = subst (λ i. IsAtLeast (after s (filled j)) (after s (filled i))) more (at_least_itself (after s (filled j)))

-- and after symbols
done_more : (ss : List Symbol) (v w : Level) → IsAtLeast v w → IsDone (run ss w) → IsDone (run ss v)
done_more [] v wrong more done = absurd done
done_more [] wrong (empty k) more done = absurd more
done_more [] (empty j) (empty k) more done = more ∙ done
done_more [] (filled j) (empty k) more done = more ∙ done
done_more [] wrong (filled k) more done = absurd more
done_more [] (empty j) (filled k) more done = absurd more
done_more [] (filled j) (filled k) more done = more ∙ done
done_more (s ∷ ss) v w more done = done_more ss (after s v) (after s w) (after_more s v w more) done

-- Sorts: each alternative does what a phrase of its sort does.

-- at least that is known after the alternative
abbrev IsEven : Sort → List Symbol → Type 0
IsEven sort a = (k : ℕ) → IsAtLeast (run a (filled k)) (with_effect (filled k) (effect sort))
    × IsAtLeast (run a (empty k)) (with_effect (empty k) (effect sort))

-- so it is with each one
abbrev AllEven : Sort → List (List Symbol) → Type 0
AllEven sort [] = Unit {0}
AllEven sort (a ∷ others) = IsEven sort a × AllEven sort others

-- and with those of every sort
even : (sort : Sort) → AllEven sort (alternatives sort)
even Document = (λ k. (refl, refl), tt)
even Switches = (λ k. (refl, refl), (λ k. (refl, refl), tt))
even PortsMore = (λ k. (refl, tt), (λ k. (refl, tt), tt))
even LimitOption = (λ k. (refl, tt), (λ k. (refl, tt), tt))
even Links = (λ k. (refl, refl), (λ k. (refl, refl), tt))
even Parts = (λ k. (refl, refl), (λ k. (refl, refl), tt))
even Queries = (λ k. (refl, refl), (λ k. (refl, refl), tt))
even Edit = (λ k. (refl, refl), (λ k. (refl, refl), (λ k. (refl, refl), tt)))
even Removed = (λ k. (refl, refl), (λ k. (refl, refl), tt))
even Pred = (λ k. (refl, refl), tt)
even PredTail = (λ k. (refl, tt), (λ k. (refl, tt), tt))
even PredMore = (λ k. (refl, tt), (λ k. (refl, tt), tt))
even Conj = (λ k. (refl, refl), tt)
even ConjTail = (λ k. (refl, tt), (λ k. (refl, tt), tt))
even ConjMore = (λ k. (refl, tt), (λ k. (refl, tt), tt))
even Literal = (λ k. (refl, refl), (λ k. (refl, refl), (λ k. (refl, refl), (λ k. (refl, refl), (λ k. (refl, refl), tt)))))
even Test = (λ k. (refl, refl), tt)
even Field = (λ k. (refl, refl), (λ k. (refl, refl), tt))
even Value = (λ k. (refl, refl), (λ k. (refl, refl), (λ k. (refl, refl), (λ k. (refl, refl), (λ k. (refl, refl), (λ k. (refl, refl), tt))))))
even Policy = (λ k. (refl, refl), tt)
even PolicyTail = (λ k. (refl, tt), (λ k. (refl, tt), tt))
even PolicyMore = (λ k. (refl, tt), (λ k. (refl, tt), tt))
even Steps = (λ k. (refl, refl), tt)
even StepsTail = (λ k. (refl, tt), (λ k. (refl, tt), tt))
even StepsMore = (λ k. (refl, tt), (λ k. (refl, tt), tt))
even Step = (
  λ k. (refl, refl),
  (
    λ k. (refl, refl),
    (
      λ k. (refl, refl),
      (
        λ k. (refl, refl),
        (λ k. (refl, refl), (λ k. (refl, refl), (λ k. (refl, refl), (λ k. (refl, refl), tt)))),
      ),
    ),
  ),
)
even Paths = (λ k. (refl, refl), tt)
even PathsTail = (λ k. (refl, tt), (λ k. (refl, tt), tt))
even PathsMore = (λ k. (refl, tt), (λ k. (refl, tt), tt))
even Both = (λ k. (refl, refl), tt)
even BothTail = (λ k. (refl, tt), (λ k. (refl, tt), tt))
even BothMore = (λ k. (refl, tt), (λ k. (refl, tt), tt))
even Chain = (λ k. (refl, refl), tt)
even ChainTail = (λ k. (refl, tt), (λ k. (refl, tt), tt))
even ChainMore = (λ k. (refl, tt), (λ k. (refl, tt), tt))
even Negation = (λ k. (refl, refl), (λ k. (refl, refl), (λ k. (refl, refl), tt)))
even StarOption = (λ k. (refl, tt), (λ k. (refl, tt), tt))
even Atom = (
  λ k. (refl, refl),
  (
    λ k. (refl, refl),
    (
      λ k. (refl, refl),
      (
        λ k. (refl, refl),
        (λ k. (refl, refl), (λ k. (refl, refl), (λ k. (refl, refl), tt))),
      ),
    ),
  ),
)
even Groups = (λ k. (refl, refl), tt)
even GroupsOption = (λ k. (refl, refl), (λ k. (refl, refl), tt))
even GroupsMore = (λ k. (refl, tt), (λ k. (refl, tt), tt))
even Group = (λ k. (refl, refl), tt)
even ValuesOption = (λ k. (refl, refl), (λ k. (refl, refl), tt))
even ValuesMore = (λ k. (refl, tt), (λ k. (refl, tt), tt))

-- one of them
even_one : (sort : Sort) (all : List (List Symbol)) (a : List Symbol) → AllEven sort all → IsOneOf a all → IsEven sort a
even_one sort [] a each among = absurd among
even_one sort (b ∷ others) a each (inl same) = subst (IsEven sort) (sym same) each.0
even_one sort (b ∷ others) a each (inr more) = even_one sort others a each.1 more

-- from any level
even_from : (sort : Sort) (a : List Symbol) (v : Level) → IsEven sort a → IsAtLeast (run a v) (with_effect v (effect sort))
even_from sort a wrong is = tt
even_from sort a (empty k) is = (is k).1
even_from sort a (filled k) is = (is k).0

-- Marks: what they have made at a level.

-- the marks make trees, at least one
abbrev pub MakesLast : List Mark → Type 0
MakesLast ms = (ts : List Tree) × (t : Tree) × Makes ms (ts ++ t ∷ [])

-- so they make some
makes_some : (ms : List Mark) → MakesLast ms → MakesSome ms
makes_some ms (ts, t, made) = (ts ++ t ∷ [], made)

-- whatever the marks below the head make, it becomes a tree after these marks
abbrev pub CanEnd : List Mark → Mark → Type 0
CanEnd ms m = (below : List Mark) → MakesSome below → MakesLast (ms ++ m ∷ below ++ CloseMark ∷ [])

-- the marks up to the last one of this many open heads
abbrev pub Opens : ℕ → List Mark → Type 0
Opens zero os = os ≡ []
Opens (suc k) os = (earlier : List Mark) × (ms : List Mark) × (m : Mark) × (os ≡ earlier ++ ms ++ m ∷ []) × Opens k earlier × CanEnd ms m

-- the marks have come to the level
abbrev pub Stands : Level → List Mark → Type 0
Stands wrong ns = Unit {0}
Stands (empty k) ns = (os : List Mark) × (ms : List Mark) × (ns ≡ os ++ ms) × Opens k os × MakesSome ms
Stands (filled k) ns = (os : List Mark) × (ms : List Mark) × (ns ≡ os ++ ms) × Opens k os × MakesLast ms

-- where a tree is known, none needs to be
stands_less : (k : ℕ) (ns : List Mark) → Stands (filled k) ns → Stands (empty k) ns
stands_less k ns (os, ms, is, heads, made) = (os, ms, is, heads, makes_some ms made)

-- a mark after them
mark_more : (ns os ms : List Mark) (m : Mark) → ns ≡ os ++ ms → ns ++ m ∷ [] ≡ os ++ (ms ++ m ∷ [])
mark_more ns os ms m is = ap (λ all. all ++ m ∷ []) is ∙ append_assoc os ms (m ∷ [])

-- a leaf
stands_leaf : (x : Lexeme) (depth k : ℕ) (ns : List Mark) → Stands (empty k) ns → Stands (filled k) (ns ++ TokenMark Leaf x depth ∷ [])
stands_leaf x depth k ns (os, ms, is, heads, (ts, made)) = (
  os,
  ms ++ TokenMark Leaf x depth ∷ [],
  mark_more ns os ms (TokenMark Leaf x depth) is,
  heads,
  (ts, tree_over x [], leaf ms ts x depth made),
)

-- a head whose end will make a tree
stands_open : (m : Mark) (k : ℕ) (ns os ms : List Mark) → ns ≡ os ++ ms → Opens k os → CanEnd ms m → Stands (empty (suc k)) (ns ++ m ∷ [])
stands_open m k ns os ms is heads ends = (
  os ++ ms ++ m ∷ [],
  [],
  ap (λ all. all ++ m ∷ []) is ∙ sym (append-nil (os ++ ms ++ m ∷ [])),
  (os, ms, m, refl, heads, ends),
  ([], none),
)

-- one that takes no tree before it
stands_head : (x : Lexeme) (depth k : ℕ) (ns : List Mark) → Stands (empty k) ns → Stands (empty (suc k)) (ns ++ TokenMark Head x depth ∷ [])
stands_head x depth k ns (os, ms, is, heads, (ts, made)) =
    stands_open (TokenMark Head x depth) k ns os ms is heads
    (λ below inner. (ts, tree_over x inner.0, head ms below ts inner.0 x depth made inner.1))

-- a token
stands_token : (role : Role) (x : Lexeme) (depth : ℕ) (v : Level) (ns : List Mark) → Stands v ns
    → Stands (with_role v role) (ns ++ TokenMark role x depth ∷ [])
stands_token Leaf x depth wrong ns stands = tt
stands_token Spelled x depth wrong ns stands = tt
stands_token Head x depth wrong ns stands = tt
stands_token Lead x depth wrong ns stands = tt
stands_token Leaf x depth (empty k) ns stands = stands_leaf x depth k ns stands
stands_token Leaf x depth (filled k) ns stands = stands_leaf x depth k ns (stands_less k ns stands)
stands_token Spelled x depth (empty k) ns (os, ms, is, heads, (ts, made)) = (
  os,
  ms ++ TokenMark Spelled x depth ∷ [],
  mark_more ns os ms (TokenMark Spelled x depth) is,
  heads,
  (ts, spelled ms ts x depth made),
)
stands_token Spelled x depth (filled k) ns (os, ms, is, heads, (ts, t, made)) = (
  os,
  ms ++ TokenMark Spelled x depth ∷ [],
  mark_more ns os ms (TokenMark Spelled x depth) is,
  heads,
  (ts, t, spelled ms (ts ++ t ∷ []) x depth made),
)
stands_token Head x depth (empty k) ns stands = stands_head x depth k ns stands
stands_token Head x depth (filled k) ns stands = stands_head x depth k ns (stands_less k ns stands)
stands_token Lead x depth (empty k) ns stands = tt
stands_token Lead x depth (filled k) ns (os, ms, is, heads, (ts, t, made)) =
    stands_open (TokenMark Lead x depth) k ns os ms is heads
    (λ below inner. (ts, tree_over x (t ∷ inner.0), lead ms below ts inner.0 t x depth made inner.1))

-- the end of a tree
stands_end : (k : ℕ) (ns : List Mark) → Stands (empty (suc k)) ns → Stands (filled k) (ns ++ CloseMark ∷ [])
stands_end k ns (os, ms, is, (earlier, outer, m, opened, heads, ends), made) = (
  earlier,
  outer ++ m ∷ ms ++ CloseMark ∷ [],
  ap (λ all. all ++ CloseMark ∷ [])
      (is ∙ ap (λ all. all ++ ms) opened ∙ append_assoc (earlier ++ outer) (m ∷ []) ms ∙ append_assoc earlier outer (m ∷ ms))
      ∙ append_assoc earlier (outer ++ m ∷ ms) (CloseMark ∷ []),
  heads,
  ends ms made,
)

-- where one is open
stands_close : (v : Level) (ns : List Mark) → Stands v ns → Stands (with_close v) (ns ++ CloseMark ∷ [])
stands_close wrong ns stands = tt
stands_close (empty zero) ns stands = tt
stands_close (empty (suc k)) ns stands = stands_end k ns stands
stands_close (filled zero) ns stands = tt
stands_close (filled (suc k)) ns stands = stands_end k ns (stands_less (suc k) ns stands)

-- where no head is open, all that there is was made
made_all : (ns os ms : List Mark) (k : ℕ) → ns ≡ os ++ ms → Opens k os → k ≡ 0 → MakesSome ms → MakesSome ns
made_all ns os ms k is heads done made =
    subst MakesSome (sym (is ∙ ap (λ front. front ++ ms) (subst (λ n. Opens n os) done heads))) made

-- so it is at a level with no open head
done_made : (v : Level) (ns : List Mark) → IsDone v → Stands v ns → MakesSome ns
done_made wrong ns done stands = absurd done
done_made (empty k) ns done (os, ms, is, heads, made) = made_all ns os ms k is heads done made
done_made (filled k) ns done (os, ms, is, heads, made) = made_all ns os ms k is heads done (makes_some ms made)

-- what symbols derive after marks that have come to a level from which they leave no head open
pub derived_made : (n : ℕ) (ss : List Symbol) (v : Level) (depth : ℕ) (ns ms : List Mark) → Derives n ss depth ms → IsDone (run ss v) → Stands v ns
    → MakesSome (ns ++ ms)
derived_made n [] v depth ns ms derived done stands =
    subst MakesSome (sym (ap (λ all. ns ++ all) derived ∙ append-nil ns)) (done_made v ns done stands)
derived_made zero (s ∷ ss) v depth ns ms derived done stands = absurd derived
derived_made (suc n) (Token role class ∷ ss) v depth ns ms (x, rest, is, has_class, derived) done stands =
    subst MakesSome (append_assoc ns (TokenMark role x depth ∷ []) rest ∙ sym (ap (λ all. ns ++ all) is))
    (derived_made n ss (with_role v role) depth (ns ++ TokenMark role x depth ∷ []) rest derived done (stands_token role x depth v ns stands))
derived_made (suc n) (Opening role class ∷ ss) v depth ns ms (x, rest, is, has_class, derived) done stands =
    subst MakesSome (append_assoc ns (TokenMark role x (depth + 1) ∷ []) rest ∙ sym (ap (λ all. ns ++ all) is))
    (derived_made n ss (with_role v role) (depth + 1) (ns ++ TokenMark role x (depth + 1) ∷ []) rest derived done
    (stands_token role x (depth + 1) v ns stands))
derived_made (suc n) (Leave ∷ ss) v depth ns ms derived done stands = derived_made n ss v (depth - 1) ns ms derived done stands
derived_made (suc n) (Close ∷ ss) v depth ns ms (rest, is, derived) done stands =
    subst MakesSome (append_assoc ns (CloseMark ∷ []) rest ∙ sym (ap (λ all. ns ++ all) is))
    (derived_made n ss (with_close v) depth (ns ++ CloseMark ∷ []) rest derived done (stands_close v ns stands))
derived_made (suc n) (Part sort ∷ ss) v depth ns ms (a, among, derived) done stands =
    let least = even_from sort a v (even_one sort (alternatives sort) a (even sort) among) in
    derived_made n (a ++ ss) v depth ns ms derived
    (subst IsDone (sym (run_append a ss v)) (done_more ss (run a v) (with_effect v (effect sort)) least done)) stands

-- symbols that may begin with no tree before them and leave no head open
abbrev pub AreWhole : List Symbol → Type 0
AreWhole ss = IsDone (run ss (empty 0))

-- make trees
pub whole_made : (n : ℕ) (ss : List Symbol) (depth : ℕ) (ms : List Mark) → Derives n ss depth ms → AreWhole ss → MakesSome ms
whole_made n ss depth ms derived whole = derived_made n ss (empty 0) depth [] ms derived whole ([], [], refl, refl, ([], none))

-- so do the marks of a document, and those of an edit
pub sentence_made : (start : Sort) (ms : List Mark) → (start ≡ Document) ⊎ (start ≡ Edit) → Completes start ms → MakesSome ms
sentence_made start ms (inl is) (n, derived) = whole_made n (Part start ∷ []) 0 ms derived (subst (λ s. AreWhole (Part s ∷ [])) (sym is) refl)
sentence_made start ms (inr is) (n, derived) = whole_made n (Part start ∷ []) 0 ms derived (subst (λ s. AreWhole (Part s ∷ [])) (sym is) refl)
