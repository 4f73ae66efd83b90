use Rattle.std.proofs.Common.{map, length, arith, ap, sym, subst}
use Rattle.std.proofs.lemmas.List.{length-map}
use Rattle.pq_expr.specs.Expr.{expr_tree}
use Rattle.pq_auto.specs.Telling.{TellEach}
use Rattle.pq_auto.proofs.Tellings.{explores_ok, few_ok, one_each}
use Rattle.pq_auto.proofs.exploration.explore.Goals as goal

pub product-requires : goal.product-requires
product-requires g c =
    omega (
      arith,
      c.requires.exprs,
      one_each (map (λ v. v.items) c.args.alphabet.now) c.in_ok-tables.tables.items
          (map expr_tree c.args.exprs.now) c.in_ok-tables.ensures.tables,
      length-map c.args.exprs.now expr_tree,
      ap length c.deref.ensures.value,
    )

pub returns-clause-explored : goal.returns-clause-explored
returns-clause-explored g c =
    let alphabet = map (λ v. v.items) c.args.alphabet.now in
    let exprs = map expr_tree c.args.exprs.now in
    let tell = subst (λ ts. TellEach alphabet ts exprs) (sym c.deref.ensures.value) c.in_ok-tables.ensures.tables in
    explores_ok alphabet (length c.args.alphabet.now) c.deref.result.now exprs c.product.result tell
    (sym (length-map c.args.alphabet.now (λ v. v.items))) c.product.ensures.letters c.product.ensures.even c.product.ensures.accepted

pub returns-clause-few : goal.returns-clause-few
returns-clause-few g c =
    let alphabet = map (λ v. v.items) c.args.alphabet.now in
    let exprs = map expr_tree c.args.exprs.now in
    let tell = subst (λ ts. TellEach alphabet ts exprs) (sym c.deref.ensures.value) c.in_ok-tables.ensures.tables in
    few_ok alphabet (length c.args.alphabet.now) c.deref.result.now exprs c.product.result tell
    (sym (length-map c.args.alphabet.now (λ v. v.items))) c.product.ensures.few
