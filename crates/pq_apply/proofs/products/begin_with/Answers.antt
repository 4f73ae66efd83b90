use Rattle.pq_store.specs.Tree.Tree.{Fork}
use Rattle.pq_apply.proofs.Pairs.{first_by_leaf, first_of_node}
use Rattle.pq_apply.proofs.Places.{lawful_at}
use Rattle.pq_apply.proofs.products.begin_with.Goals as goal

pub earlier-requires-clause-first : goal.earlier-requires-clause-first
earlier-requires-clause-first g c =
    let shows = c.in-Node.ensures.shows in
    (c.view.ensures.diagrams c.args.x (Fork c.in-Node.test shows.yes_tree shows.no_tree) shows.is).lawful.0

pub earlier-requires-clause-other : goal.earlier-requires-clause-other
earlier-requires-clause-other g c = lawful_at c.args.right.now c.args.y c.root.result c.root.ensures.diagrams c.requires.y c.root.ensures.root

pub returns-in-Node-clause-top : goal.returns-in-Node-clause-top
returns-in-Node-clause-top g c =
    first_of_node c.args.left.now c.args.x c.args.right.now c.args.y c.in-Node.test c.in-Node.field-1 c.in-Node.field-2 c.root.result c.earlier.result
    c.view.ensures.diagrams c.root.ensures.diagrams c.in-Node.ensures.shows c.requires.y c.root.ensures.root c.earlier.ensures

pub returns-in-Node-view-clause-top : goal.returns-in-Node-view-clause-top
returns-in-Node-view-clause-top g c =
    first_by_leaf c.args.left.now c.args.x c.args.right.now c.args.y c.in-Leaf.a.now c.in-Node-view.test c.in-Node-view.field-1 c.in-Node-view.field-2
    c.view-in-Leaf.ensures.diagrams c.in-Leaf.ensures.shows c.in-Node-view.ensures.shows
