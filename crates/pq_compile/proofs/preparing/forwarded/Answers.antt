use Rattle.std.proofs.Common.{sym, subst}
use Rattle.std.specs.Prelude.{All}
use Rattle.pq_policy.specs.Policy.{IsLawfulPolicy}
use Rattle.pq_store.specs.Store.{HasAt}
use Rattle.pq_store.proofs.RoomLemmas.{room_for}
use Rattle.pq_meaning.specs.Parts.{FitAsParts, IsUnionOfParts}
use Rattle.pq_compile.specs.Documents.{document_tree}
use Rattle.pq_compile.proofs.Values.{lawful_parts, parts_are, room}
use Rattle.pq_compile.proofs.preparing.forwarded.Goals as goal

pub parts_forward-requires-clause-lawful : goal.parts_forward-requires-clause-lawful
parts_forward-requires-clause-lawful g c =
    subst (All IsLawfulPolicy) (sym (parts_are c.args.document.now c.deref.result.now c.deref.ensures.value))
    (lawful_parts (document_tree c.args.document.now) c.requires.compilable)

pub parts_forward-requires-clause-fit : goal.parts_forward-requires-clause-fit
parts_forward-requires-clause-fit g c =
    subst (FitAsParts c.args.document.now.topology) (sym (parts_are c.args.document.now c.deref.result.now c.deref.ensures.value))
    (room_for (λ ns within. (within.topology, within.policies)) (room (document_tree c.args.document.now) c.requires.compilable c.requires.values))

pub returns : goal.returns
returns g c = record {
  policy = subst (λ ps. HasAt (IsUnionOfParts c.args.document.now.topology ps) c.parts_forward.new.store c.in_ok-id.id)
      (parts_are c.args.document.now c.deref.result.now c.deref.ensures.value) c.in_ok-id.ensures.forwards;
}
