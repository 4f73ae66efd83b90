use Rattle.std.proofs.Common.{sym, ◌∙◌}
use Rattle.pq_letters.proofs.Places.{place_found, place_missing}
use Rattle.pq_letters.proofs.numbering.place.Goals as goal

pub returns-in-Some : goal.returns-in-Some
returns-in-Some c = place_found c.args.signatures.now.keys c.args.signature.now c.in-Some.place c.in-Some.ensures.index

pub returns-in-None : goal.returns-in-None
returns-in-None c =
    c.len.ensures.len ∙ place_missing c.args.signatures.now.keys c.args.signature.now (sym c.in-None.is ∙ c.get_index_of.ensures.index)
