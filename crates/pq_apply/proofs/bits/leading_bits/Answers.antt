use Rattle.std.proofs.Common.{◌≡◌, ◌∙◌, ◌-◌, suc, Some, false, sym, ap, subst, arith}
use Rattle.std.proofs.lemmas.Option.{slice_get_within}
use Rattle.pq_store.specs.Tree.Tree.{Tip}
use Rattle.pq_apply.specs.Atoms.{bit_fork, bits_tree, IsOfBits}
use Rattle.pq_apply.proofs.Kept.{keeps_on}
use Rattle.pq_apply.proofs.AtomTrees.{bits_tests, no_bits, more_bits}
use Rattle.pq_apply.proofs.bits.leading_bits.Goals as goal

pub loop-place-init : goal.loop-place-init
loop-place-init c = record {
  within = omega arith;
  no_is = c.leaf-2.ensures.keeps c.in_ok-no.no (Tip false) c.in_ok-no.ensures.leaf;
  node_is = c.in_ok-node.ensures.leaf ∙ ap Some (sym (no_bits c.args.field c.args.value c.args.len (c.args.len - c.args.len) (omega arith)));
  keeps = keeps_on c.args.store.now c.leaf.new.self c.leaf-2.new.self c.leaf.ensures.keeps c.leaf-2.ensures.keeps;
}

pub with_bit-requires-clause-behind : goal.with_bit-requires-clause-behind
with_bit-requires-clause-behind c =
    let place = c.loop-place.place in
    let tree = bits_tree c.args.field c.args.value place (c.args.len - place) in (
      slice_get_within c.loop-place.store c.loop-place.node tree c.loop-place.invariant.node_is,
      λ t is.
          let e : tree ≡ t = cc (c.loop-place.invariant.node_is) in
          let next : place ≡ suc (place - 1) = omega arith in
          subst (λ k. IsOfBits c.args.field k t) next (subst (IsOfBits c.args.field place) e (bits_tests c.args.field c.args.value place (c.args.len - place))),
    )

pub loop-place-preserved : goal.loop-place-preserved
loop-place-preserved c =
    let place = c.loop-place.place in
    let behind = bits_tree c.args.field c.args.value place (c.args.len - place) in
    record {
      within = omega arith;
      no_is = c.with_bit.ensures.keeps c.in_ok-no.no (Tip false) c.loop-place.invariant.no_is;
      node_is =
          c.in_ok-node-2.ensures.makes behind c.loop-place.invariant.node_is
          ∙ (ap (λ b. Some (bit_fork b c.args.field (place - 1) behind)) c.bit.ensures
          ∙ ap Some (sym (more_bits c.args.field c.args.value (place - 1) place (c.args.len - (place - 1)) (c.args.len - place) (omega arith) (omega arith))));
      keeps = keeps_on c.args.store.now c.loop-place.store c.with_bit.new.store c.loop-place.invariant.keeps c.with_bit.ensures.keeps;
    }
