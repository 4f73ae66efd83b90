-- What the code keeps grows to exactly the trees that the marks make.
use Rattle.std.proofs.Common.{◌≡◌, ℕ, ◌-◌, ◌≤◌, List, [], ◌∷◌, ◌++◌, length, take, drop, refl, sym, ◌∙◌, ap, subst, arith}
use Rattle.std.proofs.lemmas.List.{append_assoc, append-nil, length-append, drop_all}
use Rattle.std.proofs.Math.Seq.{take-append_seam, drop-append_seam}
use Rattle.pq_grammar.specs.declared.symbol.Role.TheVariants.{Leaf, Spelled, Head, Lead}
use Rattle.pq_grammar.specs.declared.mark.Mark.{Mark}
use Rattle.pq_grammar.specs.declared.mark.Mark.TheVariants.{Token, Close}
use Rattle.pq_tree.specs.declared.growth.Opened.{Opened}
use Rattle.pq_tree.specs.Trees.{Tree, forest}
use Rattle.pq_tree.specs.Shapes.{Makes, none, leaf, spelled, head, lead, tree_over, MakesSome}
use Rattle.pq_tree.specs.Growth.{Growth, bare, gathered, step}

-- one mark after another
abbrev pub grow : List Mark → Growth → Growth
grow [] g = g
grow (m ∷ ms) g = grow ms (step m g)

-- these trees have grown, and these heads are open
abbrev pub kept : List Tree → List Opened → Growth
kept finished opened = record { finished = finished; opened = opened }

-- a tree that was opened after these trees ends
gathered_after : (o : Opened) (ts us : List Tree) → o.before ≡ length ts
    → gathered o (ts ++ us) ≡ ts ++ record { head = o.head; below = forest us } ∷ []
gathered_after o ts us is =
    ap (λ n. take n (ts ++ us) ++ record { head = o.head; below = forest (drop n (ts ++ us)) } ∷ []) is
    ∙ ap (λ vs. vs ++ record { head = o.head; below = forest (drop (length ts) (ts ++ us)) } ∷ []) (take-append_seam ts us)
    ∙ ap (λ vs. ts ++ record { head = o.head; below = forest vs } ∷ []) (drop-append_seam ts us)

-- marks after others
grow_append : (ms ns : List Mark) (g : Growth) → grow (ms ++ ns) g ≡ grow ns (grow ms g)
grow_append [] ns g = refl
grow_append (m ∷ ms) ns g = grow_append ms ns (step m g)

-- a head, the marks below it and its end, after others
grow_below : (ms below : List Mark) (m : Mark) (g : Growth)
    → grow (ms ++ m ∷ below ++ Close ∷ []) g ≡ step Close (grow below (step m (grow ms g)))
grow_below ms below m g = grow_append (ms ++ m ∷ below) (Close ∷ []) g ∙ ap (step Close) (grow_append ms (m ∷ below) g)

-- the trees before the last one
before_last : (ts : List Tree) (t : Tree) → length (ts ++ t ∷ []) - 1 ≡ length ts
before_last ts t = let all = length-append ts (t ∷ []) in omega (arith, all)

-- the trees that marks make grow after those that there are, whatever is open
grows : {ms : List Mark} {ts : List Tree} → Makes ms ts → (fs : List Tree) (os : List Opened) → grow ms (kept fs os) ≡ kept (fs ++ ts) os
grows none fs os = ap (λ all. kept all os) (sym (append-nil fs))
grows (leaf ms ts x depth made) fs os =
    grow_append ms (Token Leaf x depth ∷ []) (kept fs os) ∙ ap (step (Token Leaf x depth)) (grows made fs os)
    ∙ ap (λ all. kept all os) (append_assoc fs ts (tree_over x [] ∷ []))
grows (spelled ms ts x depth made) fs os =
    grow_append ms (Token Spelled x depth ∷ []) (kept fs os) ∙ ap (step (Token Spelled x depth)) (grows made fs os)
grows (head ms below ts us x depth made inner) fs os =
    let o : Opened = record { head = x.token; before = length (fs ++ ts) } in
    grow_below ms below (Token Head x depth) (kept fs os)
    ∙ ap (λ g. step Close (grow below (step (Token Head x depth) g))) (grows made fs os)
    ∙ ap (step Close) (grows inner (fs ++ ts) (o ∷ os))
    ∙ ap (λ all. kept all os) (gathered_after o (fs ++ ts) us refl ∙ append_assoc fs ts (tree_over x us ∷ []))
grows (lead ms below ts us t x depth made inner) fs os =
    let o : Opened = record { head = x.token; before = length (fs ++ ts ++ t ∷ []) - 1 } in
    grow_below ms below (Token Lead x depth) (kept fs os)
    ∙ ap (λ g. step Close (grow below (step (Token Lead x depth) g)))
    (grows made fs os ∙ ap (λ all. kept all os) (sym (append_assoc fs ts (t ∷ []))))
    ∙ ap (step Close) (grows inner (fs ++ ts ++ t ∷ []) (o ∷ os))
    ∙ ap (λ all. kept (gathered o all) os) (append_assoc (fs ++ ts) (t ∷ []) us)
    ∙ ap (λ all. kept all os) (gathered_after o (fs ++ ts) (t ∷ us) (before_last (fs ++ ts) t) ∙ append_assoc fs ts (tree_over x (t ∷ us) ∷ []))

-- marks make one list of trees
pub one_making : (ms : List Mark) (ts us : List Tree) → Makes ms ts → Makes ms us → ts ≡ us
one_making ms ts us first second = ap (λ g. g.finished) (sym (grows first [] []) ∙ grows second [] [])

-- what has grown, with no mark left, is what they make
pub makes_grown : (ms : List Mark) (n : ℕ) (g : Growth) → MakesSome ms → length ms ≤ n → grow (drop n ms) g ≡ grow ms bare → Makes ms g.finished
makes_grown ms n g (ts, made) past is =
    let all : g ≡ kept ts [] = sym (ap (λ left. grow left g) (drop_all n ms past)) ∙ is ∙ grows made [] [] in
    subst (Makes ms) (sym (ap (λ g. g.finished) all)) made
