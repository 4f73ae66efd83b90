use Rattle.std.proofs.Common.{subst}
use Rattle.pq_command.specs.Frames.{install_frame}
use Rattle.pq_command.specs.Sessions.{IsCut, current_of}
use Rattle.pq_command.proofs.Courses.{end_cut}
use Rattle.pq_command.proofs.session.course.Course.finish.Goals as goal

pub returns-in-Err-clause-answer : goal.returns-in-Err-clause-answer
returns-in-Err-clause-answer g c left rest before n going few =
    let put = g.K.Sink.put in
    let cut = subst (λ i. IsCut c.in-Err.outcome (put c.args.sink.now) (put c.put_install.new.sink) (install_frame i))
    c.install.ensures.install c.in-Err.ensures.cut in
    end_cut left rest before (put c.args.sink.now) (put c.put_install.new.sink) c.args.self.now.pieces.pending
    (current_of c.args.self.now.engine) n c.in-Err.outcome going few cut
