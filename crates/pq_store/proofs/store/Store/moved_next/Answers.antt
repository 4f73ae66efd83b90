use Rattle.std.proofs.Common.{◌≡◌, ◌∙◌, length, Some, sym, ap}
use Rattle.std.specs.Prelude.{slice_get}
use Rattle.std.proofs.lemmas.Option.{slice_get_within}
use Rattle.pq_store.specs.Tree.Tree.{Tip, Fork}
use Rattle.pq_store.proofs.Moving.{moves_one, joinable_moved, joined_again}
use Rattle.pq_store.proofs.store.Store.moved_next.Goals as goal

pub node-requires-clause-yes : goal.node-requires-clause-yes
node-requires-clause-yes g c =
    slice_get_within c.args.compact.now c.moved_to.result c.in-Node.ensures.shows.yes_tree
    (c.requires.moves.same c.in-Node.yes c.moved_to.result c.moved_to.ensures ∙ c.in-Node.ensures.shows.yes_is)

pub node-requires-clause-no : goal.node-requires-clause-no
node-requires-clause-no g c =
    slice_get_within c.args.compact.now c.moved_to-in-Node.result c.in-Node.ensures.shows.no_tree
    (c.requires.moves.same c.in-Node.no c.moved_to-in-Node.result c.moved_to-in-Node.ensures ∙ c.in-Node.ensures.shows.no_is)

pub node-requires-clause-sides : goal.node-requires-clause-sides
node-requires-clause-sides g c =
    joinable_moved c.args.compact.now c.in-Node.test c.moved_to.result c.moved_to-in-Node.result c.in-Node.ensures.shows.yes_tree
    c.in-Node.ensures.shows.no_tree
    (c.in-Node.ensures.diagrams (length c.args.moved.now)
    (Fork c.in-Node.test c.in-Node.ensures.shows.yes_tree c.in-Node.ensures.shows.no_tree) c.in-Node.ensures.shows.is)
    (c.requires.moves.same c.in-Node.yes c.moved_to.result c.moved_to.ensures ∙ c.in-Node.ensures.shows.yes_is)
    (c.requires.moves.same c.in-Node.no c.moved_to-in-Node.result c.moved_to-in-Node.ensures ∙ c.in-Node.ensures.shows.no_is)

pub returns-in_ok-id-in-Leaf : goal.returns-in_ok-id-in-Leaf
returns-in_ok-id-in-Leaf g c =
    let clone : c.in_ok-clone-in-Leaf.field-0 ≡ c.in-Leaf.leaf.now =
    c.requires.clones c.in-Leaf.leaf.now c.in_ok-clone-in-Leaf.field-0 c.in_ok-clone-in-Leaf.ensures.cases in
    moves_one c.args.self.now c.args.kept.now c.args.moved.now c.args.compact.now c.leaf.new.self c.in_ok-id-in-Leaf.id
    c.if-not-kept-place.false c.requires.next
    (c.in_ok-id-in-Leaf.ensures.leaf ∙ ap (λ (l : g.row.L.Denot). Some (Tip l)) clone ∙ sym c.in-Leaf.ensures.shows)
    c.in_ok-id-in-Leaf.ensures.keeps c.in_ok-id-in-Leaf.ensures.adds c.requires.moves

pub returns-in_ok-id-in-Node : goal.returns-in_ok-id-in-Node
returns-in_ok-id-in-Node g c =
    let joined : slice_get c.node.new.self c.in_ok-id-in-Node.id ≡ Some (Fork c.in-Node.test c.in-Node.ensures.shows.yes_tree c.in-Node.ensures.shows.no_tree) =
    joined_again c.args.compact.now c.node.new.self c.in-Node.test c.moved_to.result c.moved_to-in-Node.result c.in_ok-id-in-Node.id
    c.in-Node.ensures.shows.yes_tree c.in-Node.ensures.shows.no_tree
    (c.in-Node.ensures.diagrams (length c.args.moved.now)
    (Fork c.in-Node.test c.in-Node.ensures.shows.yes_tree c.in-Node.ensures.shows.no_tree) c.in-Node.ensures.shows.is)
    (c.requires.moves.same c.in-Node.yes c.moved_to.result c.moved_to.ensures ∙ c.in-Node.ensures.shows.yes_is)
    (c.requires.moves.same c.in-Node.no c.moved_to-in-Node.result c.moved_to-in-Node.ensures ∙ c.in-Node.ensures.shows.no_is)
    c.in_ok-id-in-Node.ensures.tree in
    moves_one c.args.self.now c.args.kept.now c.args.moved.now c.args.compact.now c.node.new.self c.in_ok-id-in-Node.id
    c.if-not-kept-place.false c.requires.next
    (joined ∙ sym c.in-Node.ensures.shows.is)
    c.in_ok-id-in-Node.ensures.keeps c.in_ok-id-in-Node.ensures.adds c.requires.moves
