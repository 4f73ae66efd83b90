-- A tree ends.
use Rattle.std.proofs.Common.{◌≡◌, List, [], ◌∷◌, ◌++◌, map, take, drop, reverse, sym, ◌∙◌, ap, Bor}
use Rattle.std.proofs.lemmas.List.{reverse-append, map-append, take-map, drop-map}
use Rattle.pq_term.specs.declared.token.Token.{Token}
use Rattle.pq_tree.specs.declared.term.Term.{Term}
use Rattle.pq_tree.specs.declared.term.Term.TheViews.{roll-Term}
use Rattle.pq_tree.specs.declared.growth.Opened.{Opened}
use Rattle.pq_tree.specs.Trees.{Forest, Tree, forest, tree, trees}
use Rattle.pq_tree.specs.Growth.{gathered, closed}
use Rattle.pq_tree.proofs.Folds.{tree_roll}
use Rattle.pq_tree.proofs.Machine.{kept}

-- a tree with this head and these trees below it
abbrev rooted : Token → Forest → Tree
rooted head below = record { head = head; below = below }

-- the terms from this many on became the children of one
terms_gathered : (o : Opened) (old new : List Term) (children : Bor (List Term)) → children.now ≡ drop o.before old
    → new ≡ take o.before old ++ roll-Term (record { head = o.head; children = children }) ∷ [] → map tree new ≡ gathered o (map tree old)
terms_gathered o old new children are is =
    let last : Term = roll-Term (record { head = o.head; children = children }) in
    let front : map tree (take o.before old) ≡ take o.before (map tree old) = sym (take-map tree o.before old) in
    let below : trees children.now ≡ forest (drop o.before (map tree old)) = ap trees are ∙ ap forest (sym (drop-map tree o.before old)) in
    let whole : tree last ≡ rooted o.head (forest (drop o.before (map tree old))) = tree_roll _ ∙ ap (rooted o.head) below in
    ap (map tree) is ∙ map-append tree (take o.before old) (last ∷ []) ∙ ap (λ ts. ts ++ tree last ∷ []) front
    ∙ ap (λ t. take o.before (map tree old) ++ t ∷ []) whole

-- the head that was opened last was taken, and its tree put after those that are not below it
pub closes : (o : Opened) (opened rest : List Opened) (old left new : List Term) (children : Bor (List Term)) → opened ≡ rest ++ o ∷ []
    → children.now ≡ drop o.before old → left ≡ take o.before old
    → new ≡ left ++ roll-Term (record { head = o.head; children = children }) ∷ []
    → kept (map tree new) (reverse rest) ≡ closed (reverse opened) (map tree old)
closes o opened rest old left new children last are cut is =
    let put : new ≡ take o.before old ++ roll-Term (record { head = o.head; children = children }) ∷ [] = is
    ∙ ap (λ ts. ts ++ roll-Term (record { head = o.head; children = children }) ∷ []) cut in
    ap (λ ts. kept ts (reverse rest)) (terms_gathered o old new children are put)
    ∙ sym (ap (λ os. closed os (map tree old)) (ap reverse last ∙ reverse-append rest (o ∷ [])))
