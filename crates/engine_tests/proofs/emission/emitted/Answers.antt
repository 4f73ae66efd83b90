use Rattle.std.proofs.Common.{sym, subst}
use Rattle.std.specs.Prelude.{bytes_eq}
use Rattle.std.specs.List.{IsDistinct}
use Rattle.std.proofs.lemmas.Option.{slice_get_within}
use Rattle.pq_meaning.specs.Parts.{IsUnionOfParts}
use Rattle.pq_compile.specs.Documents.{document_tree}
use Rattle.pq_compile.specs.Prepared.{parts_in}
use Rattle.pq_compile.proofs.InstallLemmas.{held_below}
use Rattle.pq_compile.proofs.Joined.{fits_as_switch, idle_free_at, letter_ports, of_at, policy_ports}
use Rattle.pq_compile.proofs.Values.{lawful_parts}
use Rattle.engine_tests.proofs.EmissionLemmas.{are_instances, names_few}
use Rattle.engine_tests.proofs.emission.emitted.Goals as goal

pub emit-requires-clause-names : goal.emit-requires-clause-names
emit-requires-clause-names c = names_few (document_tree c.args.document.now) c.requires.compilable c.args.names.now c.requires.names

pub emit-requires-clause-names_differ : goal.emit-requires-clause-names_differ
emit-requires-clause-names_differ c = subst (IsDistinct bytes_eq) (sym c.requires.names) c.requires.compilable.lawful.query_names.differ

pub emit-requires-clause-classes : goal.emit-requires-clause-classes
emit-requires-clause-classes c = c.requires.classified.tags

pub emit-requires-clause-letters : goal.emit-requires-clause-letters
emit-requires-clause-letters c = c.requires.classified.told.classes.letters

pub emit-requires-clause-instances : goal.emit-requires-clause-instances
emit-requires-clause-instances c =
    are_instances c.parts_depart.ensures.departures c.classes_tag.ensures c.meaning_exists.ensures c.meanings_are_laid_out.ensures
    (document_tree c.args.document.now) c.requires.compilable c.args.forward.now c.args.total c.requires.total
    c.args.instances.now c.args.letters.now c.args.classes.now c.requires.classified c.args.names.now c.requires.names

pub emit-requires-clause-held : goal.emit-requires-clause-held
emit-requires-clause-held c =
    let told = c.requires.classified.told in
    held_below (document_tree c.args.document.now) c.args.instances.now c.args.letters.now c.args.classes.now told.instances told.classes

pub emit-requires-clause-policy : goal.emit-requires-clause-policy
emit-requires-clause-policy c = slice_get_within c.args.forward.now c.args.total c.requires.total.0 c.requires.total.1

pub emit-requires-clause-idle_free : goal.emit-requires-clause-idle_free
emit-requires-clause-idle_free c =
    idle_free_at c.parts_depart.ensures.idle_free (document_tree c.args.document.now) c.args.forward.now c.args.total c.requires.total

pub emit-requires-clause-fits : goal.emit-requires-clause-fits
emit-requires-clause-fits c =
    fits_as_switch (document_tree c.args.document.now) c.requires.compilable c.requires.within.within.values c.args.forward.now c.args.total c.args.letters.now
    c.requires.total c.requires.classified.told.tests

pub emit-requires-clause-policy_ignores : goal.emit-requires-clause-policy_ignores
emit-requires-clause-policy_ignores c p at =
    let d = document_tree c.args.document.now in
    c.parts_ignore_lacking.ensures d.topology (parts_in d) p (lawful_parts d c.requires.compilable)
    (of_at (IsUnionOfParts d.topology (parts_in d)) c.args.forward.now c.args.total p at c.requires.total)

pub emit-requires-clause-letters_ignore : goal.emit-requires-clause-letters_ignore
emit-requires-clause-letters_ignore c = c.requires.classified.told.ignores

pub emit-requires-clause-policy_ports : goal.emit-requires-clause-policy_ports
emit-requires-clause-policy_ports c p at =
    let d = document_tree c.args.document.now in
    policy_ports d c.requires.compilable p (of_at (IsUnionOfParts d.topology (parts_in d)) c.args.forward.now c.args.total p at c.requires.total)

pub emit-requires-clause-letter_ports : goal.emit-requires-clause-letter_ports
emit-requires-clause-letter_ports c = letter_ports (document_tree c.args.document.now) c.requires.compilable c.args.letters.now c.requires.classified.told.tests
