use Rattle.std.proofs.Common.{refl, rules}
use Rattle.pq_switch.specs.Namings.{AreNoted}
use Rattle.pq_switch.proofs.Noted.{grown-indexed, put_in-indexed}
use Rattle.pq_switch.proofs.entries.put_in.Goals as goal

pub returns-in_err-note-clause-indexed : goal.returns-in_err-note-clause-indexed
returns-in_err-note-clause-indexed c =
    let es = c.args.slots.now.entries in
    grown-indexed c.args.index.now.keys c.note.new.index.keys es es c.requires c.note.ensures.kept refl

pub returns-in_err-insert-clause-indexed : goal.returns-in_err-insert-clause-indexed
returns-in_err-insert-clause-indexed c =
    grown-indexed c.args.index.now.keys c.note.new.index.keys c.args.slots.now.entries c.insert.new.self.entries c.requires c.note.ensures.kept
    c.in_err-insert.ensures.err

pub returns-clause-indexed : goal.returns-clause-indexed
returns-clause-indexed c =
    let noted : AreNoted c.note.new.index.keys c.args.place c.args.slot.entry.actions = search rules in
    put_in-indexed c.args.index.now.keys c.note.new.index.keys c.args.place c.args.slot c.args.slots.now.entries c.insert.new.self.entries c.requires
    c.note.ensures.kept noted c.in_ok-insert.ensures.entries c.insert.ensures.ordered
