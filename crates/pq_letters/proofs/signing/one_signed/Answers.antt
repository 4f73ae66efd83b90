use Rattle.std.proofs.Common.{◌≡◌, ◌∙◌, true, false, [], ◌∷◌, Some, slice_get, ap}
use Rattle.pq_store.specs.Tree.Tree.{Tip}
use Rattle.pq_apply.proofs.Junctions.{leaves_fit}
use Rattle.pq_letters.proofs.Signed.{one_says}
use Rattle.pq_letters.proofs.signing.one_signed.Goals as goal
use Rattle.pq_letters.proofs.signing.one_signed.Goals.{In_ok-no}

-- the two leaves have the signatures of one predicate
leaves : (c : In_ok-no) → (slice_get c.leaf-2.new.self c.in_ok-yes.yes ≡ Some (Tip (true ∷ [])))
    × (slice_get c.leaf-2.new.self c.in_ok-no.no ≡ Some (Tip (false ∷ [])))
leaves c = (
  c.leaf-2.ensures.keeps c.in_ok-yes.yes (Tip (true ∷ [])) (c.in_ok-yes.ensures.leaf
      ∙ ap (λ s. Some (Tip s)) (c.signature.ensures ∙ c.in_ok-vec.ensures.items)),
  c.in_ok-no.ensures.leaf ∙ ap (λ s. Some (Tip s)) (c.signature-2.ensures ∙ c.in_ok-vec-2.ensures.items),
)

pub ite-requires-clause-fit : goal.ite-requires-clause-fit
ite-requires-clause-fit c =
    let two = leaves (goal.at.ite-requires-clause-fit c).In_ok-no in
    leaves_fit c.args.store.now c.leaf-2.new.self c.args.pred c.in_ok-yes.yes c.in_ok-no.no (true ∷ []) (false ∷ []) c.requires.fits two.0 two.1

pub returns-clause-signed : goal.returns-clause-signed
returns-clause-signed c =
    let two = leaves (goal.at.returns-clause-signed c).In_ok-no in
    one_says c.args.store.now c.leaf-2.new.self c.ite.new.store c.args.pred c.in_ok-yes.yes c.in_ok-no.no c.in_ok-id.id two.0 two.1 c.in_ok-id.ensures.chooses
