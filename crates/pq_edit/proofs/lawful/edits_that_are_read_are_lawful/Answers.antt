use Rattle.pq_edit.proofs.LawfulEdits.{edit_lawful}
use Rattle.pq_edit.proofs.lawful.edits_that_are_read_are_lawful.Goals as goal

-- what is put was read for the document's network
pub returns : goal.returns
returns c = λ bytes d e lawful spells short.
    edit_lawful (record {
      policy = c.policies_that_are_read_are_lawful.ensures.lawful;
      named_policy = c.policies_that_are_read_are_lawful.ensures.named;
      query = c.queries_that_are_read_are_lawful.ensures.lawful;
      named_query = c.queries_that_are_read_are_lawful.ensures.named;
    }) d lawful bytes spells.statement e spells.sentence short spells.named
