use Rattle.std.proofs.Common.{◌≡◌, List, [], ◌∷◌, ◌++◌, sym, ◌∙◌}
use Rattle.pq_model.specs.Topology.{Link}
use Rattle.pq_topo.proofs.LinkSteps.{link_is_read, link_is_refused, no_link, ends_read}
use Rattle.pq_topo.proofs.resolve.links.read_links.Goals as goal
use Rattle.pq_topo.proofs.resolve.links.read_links.Goals.{then-begins_with+in-Ok+in-Ok-push, else-begins_with}

-- a link is refused
pub returns-in-Err : goal.returns-in-Err
returns-in-Err c =
    link_is_refused c.args.bytes.now c.args.topology.now.switches c.loop-term.links.items c.loop-term.ends.keys c.loop-term.invariant.ends
    c.args.terms.now c.loop-term.term-index _ c.loop-term-test.true _ c.loop-term.invariant.left {C = List Link}
    (λ ls. ls) c.in-Err.fault (sym c.begins_with.ensures ∙ c.if-begins_with.true) c.in-Err.ensures.link

-- a link is read, or the statement is none of a link
pub loop-term-preserved : goal.loop-term-preserved
loop-term-preserved c = elim c.if-begins_with.branch [
  | then-begins_with+in-Ok+in-Ok-push w ↦ (
      let new : c.if-begins_with.links.items ≡ c.loop-term.links.items ++ w.in-Ok.link ∷ [] = rw w.links-is w.in-Ok-push.ensures.items in
      record {
        left = link_is_read c.args.bytes.now c.args.topology.now.switches c.loop-term.links.items c.loop-term.ends.keys
            c.loop-term.invariant.ends c.args.terms.now c.loop-term.term-index _ c.loop-term-test.true _ c.loop-term.invariant.left
            w.in-Ok.link c.if-begins_with.links.items (sym c.begins_with.ensures ∙ w.if-begins_with.true) w.in-Ok.ensures.link new;
        ends = ends_read c.loop-term.links.items c.if-begins_with.links.items w.in-Ok.link c.loop-term.ends.keys c.if-begins_with.ends.keys
            c.loop-term.invariant.ends (rw w.ends-is w.in-Ok.ensures.kept) new;
      })
  | else-begins_with w ↦ record {
    left = rw w.links-is (no_link c.args.bytes.now c.args.topology.now.switches c.loop-term.links.items c.loop-term.ends.keys
        c.loop-term.invariant.ends c.args.terms.now c.loop-term.term-index _ c.loop-term-test.true _ c.loop-term.invariant.left
        (sym c.begins_with.ensures ∙ w.if-begins_with.false));
    ends = rw (w.ends-is, w.links-is) c.loop-term.invariant.ends;
  }
]
