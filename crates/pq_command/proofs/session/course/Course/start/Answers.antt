use Rattle.std.proofs.Common.{[], refl, subst, sym}
use Rattle.std.specs.Io.KnownBytes.{Appends}
use Rattle.std.proofs.KnownBytes.{Appends-nil, Consumes-nil}
use Rattle.pq_model.specs.Install.{IsLawfulInstall}
use Rattle.pq_compile.specs.Documents.{Spells}
use Rattle.pq_command.specs.Answers.{streams}
use Rattle.pq_command.specs.Compiles.{HasNoInstall}
use Rattle.pq_command.specs.Frames.{install_frame}
use Rattle.pq_command.specs.Sessions.{IsCut, IsSessionAnswer, current_of}
use Rattle.pq_command.proofs.Courses.{first_cut, first_put, first_refused, first_unread, memory_answer}
use Rattle.pq_command.proofs.Parted.{none_parted}
use Rattle.pq_command.proofs.session.course.Course.start.Goals as goal

pub returns-in_default-clause-err : goal.returns-in_default-clause-err
returns-in_default-clause-err g c =
    let left = g.S.Source.left c.args.source.now in
    let put = g.K.Sink.put c.args.sink.now in
    memory_answer left left left put put [] [] [] [] (none_parted left) refl (Appends-nil put) (Consumes-nil left)

pub returns-in-Err-clause-err : goal.returns-in-Err-clause-err
returns-in-Err-clause-err g c =
    let left = g.S.Source.left c.args.source.now in
    let now = g.S.Source.left c.next_piece.new.source in
    let put = g.K.Sink.put c.args.sink.now in
    subst (λ o. IsSessionAnswer o (streams left now put put)) (sym c.outcome_of.ensures)
    (first_unread left now put c.in-Ok.pieces.pending c.in-Err.unread c.in-Ok.ensures.pending c.in-Err.ensures.unread)

pub returns-in-Err-engine_of-clause-err : goal.returns-in-Err-engine_of-clause-err
returns-in-Err-engine_of-clause-err g c =
    let told = subst (HasNoInstall c.in-Err-engine_of.outcome) c.deref.ensures.value c.in-Err-engine_of.ensures.err in
    first_refused (g.S.Source.left c.args.source.now) (g.S.Source.left c.next_piece.new.source)
    (g.K.Sink.put c.args.sink.now) c.in-Ok.pieces.pending c.next_piece.new.self.pending
    c.in-Ok-next_piece.piece c.in-Err-engine_of.outcome c.in-Ok.ensures.pending c.in-Ok-next_piece.ensures.next
    c.in-Ok-next_piece.ensures.few told c.in-Err-engine_of.ensures.of_text

pub put_install-requires : goal.put_install-requires
put_install-requires g c = subst IsLawfulInstall (sym c.install.ensures.install) c.install.ensures.installed.lawful

pub returns-in-Err-put_install-clause-err : goal.returns-in-Err-put_install-clause-err
returns-in-Err-put_install-clause-err g c =
    let before = g.K.Sink.put c.args.sink.now in
    let after = g.K.Sink.put c.put_install.new.sink in
    let engine = c.in-Ok-engine_of.engine in
    let spelled = subst (λ t. Spells t engine.document) c.deref.ensures.value c.in-Ok-engine_of.ensures.spelled in
    let cut = subst (λ i. IsCut c.in-Err-put_install.outcome before after (install_frame i)) c.install.ensures.install c.in-Err-put_install.ensures.cut in
    first_cut (g.S.Source.left c.args.source.now) (g.S.Source.left c.next_piece.new.source) before after c.in-Ok.pieces.pending c.next_piece.new.self.pending
    c.in-Ok-next_piece.piece (current_of engine) c.in-Err-put_install.outcome c.in-Ok.ensures.pending c.in-Ok-next_piece.ensures.next
    c.in-Ok-next_piece.ensures.few
    spelled c.install.ensures.installed cut

pub returns-clause-going_on : goal.returns-clause-going_on
returns-clause-going_on g c =
    let before = g.K.Sink.put c.args.sink.now in
    let after = g.K.Sink.put c.put_install.new.sink in
    let engine = c.in-Ok-engine_of.engine in
    let spelled = subst (λ t. Spells t engine.document) c.deref.ensures.value c.in-Ok-engine_of.ensures.spelled in
    let put = subst (λ i. Appends before after (install_frame i)) c.install.ensures.install c.in-Ok-put_install.ensures.whole in
    first_put (g.S.Source.left c.args.source.now) (g.S.Source.left c.next_piece.new.source) before after c.in-Ok.pieces.pending c.next_piece.new.self.pending
    c.in-Ok-next_piece.piece (current_of engine) c.in-Ok.ensures.pending c.in-Ok-next_piece.ensures.next spelled c.install.ensures.installed put
