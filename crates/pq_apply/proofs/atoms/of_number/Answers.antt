use Rattle.std.proofs.Common.{◌∙◌, Some, true, false, refl, sym, ap, inl, inr, arith}
use Rattle.std.proofs.lemmas.Option.{slice_get_within}
use Rattle.pq_store.specs.Tree.Tree.{Tip}
use Rattle.pq_apply.specs.Atoms.{number_tree}
use Rattle.pq_store.specs.declared.test.Test.TheVariants.{Equal}
use Rattle.pq_apply.proofs.Kept.{sides_join}
use Rattle.pq_apply.proofs.AtomTrees.{forked}
use Rattle.pq_apply.proofs.SingleTests.{not_address, whole_number, whole_joins}
use Rattle.pq_apply.proofs.atoms.of_number.Goals as goal

pub leading_bits-requires-clause-address : goal.leading_bits-requires-clause-address
leading_bits-requires-clause-address c = elim c.in-Ipv4Src.is [ inl e ↦ rw e refl | inr e ↦ rw e refl ]

pub leading_bits-requires-clause-len : goal.leading_bits-requires-clause-len
leading_bits-requires-clause-len c = elim c.in-Ipv4Src.is [ inl e ↦ rw e (omega arith) | inr e ↦ rw e (omega arith) ]

pub returns-in-Ipv4Src-clause-tree : goal.returns-in-Ipv4Src-clause-tree
unfolding number_tree
returns-in-Ipv4Src-clause-tree c = elim c.in-Ipv4Src.is [
  | inl e ↦ rw e (rw (c.from.ensures, e) at c.leading_bits.ensures.tree)
  | inr e ↦ rw e (rw (c.from.ensures, e) at c.leading_bits.ensures.tree)
]

pub returns-in-Ipv6Src-clause-tree : goal.returns-in-Ipv6Src-clause-tree
unfolding number_tree
returns-in-Ipv6Src-clause-tree c = elim c.in-Ipv6Src.is [
  | inl e ↦ rw e (rw (c.from-in-Ipv6Src.ensures, e) at c.leading_bits-in-Ipv6Src.ensures.tree)
  | inr e ↦ rw e (rw (c.from-in-Ipv6Src.ensures, e) at c.leading_bits-in-Ipv6Src.ensures.tree)
]

pub node-requires : goal.node-requires
node-requires c =
    let yes_is = c.leaf-in_default.ensures.keeps c.in_ok-yes-in_default.yes (Tip true) c.in_ok-yes-in_default.ensures.leaf in
    let no_is = c.in_ok-no-in_default.ensures.leaf in
    record {
      yes = slice_get_within c.leaf-in_default.new.self c.in_ok-yes-in_default.yes (Tip true) yes_is;
      no = slice_get_within c.leaf-in_default.new.self c.in_ok-no-in_default.no (Tip false) no_is;
      sides = sides_join c.leaf-in_default.new.self (Equal c.args.field c.args.value) c.in_ok-yes-in_default.yes c.in_ok-no-in_default.no
          (Tip true) (Tip false) yes_is no_is
          (whole_joins c.args.field c.args.value
          (not_address c.args.field c.in_default.not-Ipv4Src c.in_default.not-Ipv4Dst c.in_default.not-Ipv6Src c.in_default.not-Ipv6Dst)
          c.requires.fits);
    }

pub returns-in_ok-id-in_default : goal.returns-in_ok-id-in_default
returns-in_ok-id-in_default c =
    let yes_is = c.leaf-in_default.ensures.keeps c.in_ok-yes-in_default.yes (Tip true) c.in_ok-yes-in_default.ensures.leaf in
    let fork = forked c.leaf-in_default.new.self c.node.new.self
    (Equal c.args.field c.args.value) c.in_ok-yes-in_default.yes c.in_ok-no-in_default.no c.in_ok-id-in_default.id
    (Tip true) (Tip false) c.in_ok-id-in_default.ensures.tree yes_is c.in_ok-no-in_default.ensures.leaf (λ e. absurd cc) in
    record {
      tree = fork ∙ ap Some
          (sym (whole_number c.args.field c.args.value
          (not_address c.args.field c.in_default.not-Ipv4Src c.in_default.not-Ipv4Dst c.in_default.not-Ipv6Src c.in_default.not-Ipv6Dst)));
      keeps = λ k t is. c.node.ensures.keeps k t (c.leaf-in_default.ensures.keeps k t (c.leaf.ensures.keeps k t is));
    }
