use Rattle.std.proofs.Common.{◌≡◌, ◌∙◌, [], ◌∷◌, Some, ap}
use Rattle.std.specs.Prelude.{slice_get}
use Rattle.pq_fields.specs.Writes.{no_writes}
use Rattle.pq_store.specs.Tree.Tree.{Tip}
use Rattle.pq_apply.proofs.Junctions.{leaves_fit}
use Rattle.pq_rewrite.proofs.Unchanged.{keeps_where}
use Rattle.pq_rewrite.proofs.keeping.keep.Goals as goal
use Rattle.pq_rewrite.proofs.keeping.keep.Goals.{In_ok-no}

-- one leaf is that of no writes
unchanged_is : (c : In_ok-no) → slice_get c.leaf-2.new.self c.in_ok-yes.yes ≡ Some (Tip (no_writes ∷ []))
unchanged_is c =
    c.in_ok-no.ensures.keeps c.in_ok-yes.yes (Tip c.of.result) c.in_ok-yes.ensures.leaf
    ∙ ap (λ ws. Some (Tip ws)) (c.of.ensures ∙ (c.in_ok-unchanged.ensures.items ∙ ap (λ w. w ∷ []) c.none.ensures))

-- the other is empty
nothing_is : (c : In_ok-no) → slice_get c.leaf-2.new.self c.in_ok-no.no ≡ Some (Tip [])
nothing_is c = c.in_ok-no.ensures.leaf ∙ ap (λ ws. Some (Tip ws)) (c.of-2.ensures ∙ c.new.ensures.items)

pub ite-requires-clause-fit : goal.ite-requires-clause-fit
ite-requires-clause-fit c =
    let at = (goal.at.ite-requires-clause-fit c).In_ok-no in
    leaves_fit c.args.tests.now c.leaf-2.new.self c.args.cond c.in_ok-yes.yes c.in_ok-no.no (no_writes ∷ []) [] c.requires.fits
    (unchanged_is at) (nothing_is at)

pub returns-clause-keeps_where : goal.returns-clause-keeps_where
returns-clause-keeps_where c =
    let at = (goal.at.returns-clause-keeps_where c).In_ok-no in
    keeps_where c.args.tests.now c.leaf-2.new.self c.ite.new.store c.args.cond c.in_ok-yes.yes c.in_ok-no.no c.in_ok-id.id (unchanged_is at)
    (nothing_is at) c.in_ok-id.ensures.chooses
