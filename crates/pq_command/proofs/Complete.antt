-- What is read whole of a known input, and when a command is done.
use Rattle.std.proofs.Common.{◌≡◌, ℕ, ◌≤◌, List, length, ap, sym, subst, arith, length-append, Option, Some, None, inl, inr}
use Rattle.std.proofs.lemmas.Option.{same_Some}
use Rattle.std.specs.Io.KnownBytes.{Consumes}
use Rattle.pq_inspect.proofs.Unspoiled.{not_spoiled}
use Rattle.pq_install.specs.declared.fault.InstallFault.TheVariants as install
use Rattle.pq_replay.specs.declared.fault.ReplayFault.TheVariants as replay
use Rattle.pq_replay.proofs.Replayable.{not_damaged, no_syntax_fault, not_too_many}
use Rattle.pq_command.specs.declared.words.Command.{Command}
use Rattle.pq_command.specs.declared.words.Command.TheVariants.{Compile, Session, Replay, Inspect, Summary, SummaryOf, Generate, Speak}
use Rattle.pq_command.specs.declared.outcome.Outcome.{Outcome}
use Rattle.pq_command.specs.declared.outcome.Outcome.TheVariants.{Done, Words, ReadFault, TooLong, Lex, Syntax, Name, ValuesFull}
use Rattle.pq_command.specs.declared.outcome.Outcome.TheVariants.{InstancesFull, TagWidth, TableFull, GroupFull, Damaged, NoSwitch}
use Rattle.pq_command.specs.declared.outcome.Outcome.TheVariants.{NoBarrier, Speaking, SessionFull, ScheduleFull, WriteFault, Memory}
use Rattle.pq_command.specs.Answers.{Completes, HasNoFault, HasReadFaults, HasWriteFaults, IsAnswer, IsAnswerOn, IsDoneOrMemory, ReadsMore}
use Rattle.pq_command.specs.Answers.{ReadsWhole, StopsReading, Streams, Task, streams}
use Rattle.pq_generate.specs.Generated.{generated_text}
use Rattle.pq_command.specs.Tasks.{CompletesAs, IsAnswerTo, compile_task, generate_task, inspect_task, replay_task, summary_task}
use Rattle.pq_command.proofs.SessionCompletes.{document_completes, memory, sat_through}
use Rattle.pq_command.proofs.SpeakCompletes.{spoken, whole_text}

-- what was read is no longer than the known bytes
no_longer : (bytes text : List ℕ) (now : Option (List ℕ)) → Consumes (Some bytes) now text → length text ≤ length bytes
no_longer bytes text None taken = absurd taken
no_longer bytes text (Some rest) taken = let same = ap length taken in omega (arith, length-append text rest, same)

-- where all was read, the property is one of the known bytes
of_whole : (bytes : List ℕ) (now before after : Option (List ℕ)) (limit : ℕ) (P : List ℕ → Type 0)
    → ReadsWhole (record { left = Some bytes; rest = now; before = before; after = after }) limit P → P bytes
of_whole bytes now before after limit P (text, taken, (end, short, holds)) = subst P (sym (whole_text bytes text now taken end)) holds

-- no more is read than there is
not_more : (bytes : List ℕ) (now before after : Option (List ℕ)) (limit : ℕ)
    → ReadsMore (record { left = Some bytes; rest = now; before = before; after = after }) limit → length bytes ≤ limit → ⊥
not_more bytes now before after limit (text, taken, (long, short)) fits = let most = no_longer bytes text now taken in absurd (omega arith)

-- what a command accepts is refused because memory runs out alone
abbrev Completing : Task → Type 0
Completing task = (o : Outcome) (text : List ℕ) → task.Accepts text → task.Refuses o text → IsDoneOrMemory o

-- then the command is done on such a text, where no write failed
on_done : (task : Task) (s : Streams) (text : List ℕ) (writes written : ℕ) → Completing task → task.Accepts text → HasNoFault writes written
    → (o : Outcome) → IsAnswerOn task text o s → HasWriteFaults o writes written → IsDoneOrMemory o
on_done task s text writes written completes accepted none Done answer faults = tt
on_done task s text writes written completes accepted none Memory answer faults = tt
on_done task s text writes written completes accepted none Words answer faults = absurd answer
on_done task s text writes written completes accepted none ReadFault answer faults = absurd answer
on_done task s text writes written completes accepted none TooLong answer faults = absurd answer
on_done task s text writes written completes accepted none WriteFault answer faults = none faults
on_done task s text writes written completes accepted none (Lex at) answer faults = completes (Lex at) text accepted answer
on_done task s text writes written completes accepted none (Syntax at) answer faults = completes (Syntax at) text accepted answer
on_done task s text writes written completes accepted none (Name at kind) answer faults = completes (Name at kind) text accepted answer
on_done task s text writes written completes accepted none (ValuesFull f n) answer faults = completes (ValuesFull f n) text accepted answer
on_done task s text writes written completes accepted none (InstancesFull n) answer faults = completes (InstancesFull n) text accepted answer
on_done task s text writes written completes accepted none (TagWidth n) answer faults = completes (TagWidth n) text accepted answer
on_done task s text writes written completes accepted none (TableFull d t n) answer faults = completes (TableFull d t n) text accepted answer
on_done task s text writes written completes accepted none (GroupFull d n) answer faults = completes (GroupFull d n) text accepted answer
on_done task s text writes written completes accepted none (Damaged at) answer faults = completes (Damaged at) text accepted answer
on_done task s text writes written completes accepted none NoSwitch answer faults = completes NoSwitch text accepted answer
on_done task s text writes written completes accepted none NoBarrier answer faults = completes NoBarrier text accepted answer
on_done task s text writes written completes accepted none (Speaking t) answer faults = completes (Speaking t) text accepted answer
on_done task s text writes written completes accepted none SessionFull answer faults = completes SessionFull text accepted answer
on_done task s text writes written completes accepted none ScheduleFull answer faults = completes ScheduleFull text accepted answer

-- where no read failed and there isn't more to read, reading stops because memory runs out alone
stopped : (task : Task) (s : Streams) (reads read : ℕ) → (ReadsMore s task.limit → ⊥) → HasNoFault reads read
    → (o : Outcome) → StopsReading task o s → HasReadFaults o reads read → IsDoneOrMemory o
stopped task s reads read no_more none TooLong more faults = no_more more
stopped task s reads read no_more none ReadFault part faults = none faults
stopped task s reads read no_more none Memory stops faults = tt
stopped task s reads read no_more none Done stops faults = absurd stops
stopped task s reads read no_more none Words stops faults = absurd stops
stopped task s reads read no_more none WriteFault stops faults = absurd stops
stopped task s reads read no_more none (Lex at) stops faults = absurd stops
stopped task s reads read no_more none (Syntax at) stops faults = absurd stops
stopped task s reads read no_more none (Name at kind) stops faults = absurd stops
stopped task s reads read no_more none (ValuesFull f n) stops faults = absurd stops
stopped task s reads read no_more none (InstancesFull n) stops faults = absurd stops
stopped task s reads read no_more none (TagWidth n) stops faults = absurd stops
stopped task s reads read no_more none (TableFull d t n) stops faults = absurd stops
stopped task s reads read no_more none (GroupFull d n) stops faults = absurd stops
stopped task s reads read no_more none (Damaged at) stops faults = absurd stops
stopped task s reads read no_more none NoSwitch stops faults = absurd stops
stopped task s reads read no_more none NoBarrier stops faults = absurd stops
stopped task s reads read no_more none (Speaking t) stops faults = absurd stops
stopped task s reads read no_more none SessionFull stops faults = absurd stops
stopped task s reads read no_more none ScheduleFull stops faults = absurd stops

-- and so the command is done, where no read and no write failed
is_done : (task : Task) (given left now before after : Option (List ℕ)) (reads read writes written : ℕ) → Completing task
    → HasNoFault reads read → HasNoFault writes written
    → (o : Outcome) → IsAnswer task given o (streams left now before after) → HasReadFaults o reads read → HasWriteFaults o writes written
    → Completes task given left o
is_done task (Some text) left now before after reads read writes written completes no_read no_write o answer read_faults write_faults =
    λ accepted. on_done task (streams left now before after) text writes written completes accepted no_write o answer write_faults
is_done task None None now before after reads read writes written completes no_read no_write o answer read_faults write_faults = tt
is_done task None (Some bytes) now before after reads read writes written completes no_read no_write o (inl whole) read_faults write_faults =
    let s : Streams = streams (Some bytes) now before after in
    λ short accepted. on_done task s bytes writes written completes accepted no_write o
    (of_whole bytes now before after task.limit (λ text. IsAnswerOn task text o s) whole) write_faults
is_done task None (Some bytes) now before after reads read writes written completes no_read no_write o (inr stops) read_faults write_faults =
    λ short accepted. stopped task (streams (Some bytes) now before after) reads read
    (λ more. not_more bytes now before after task.limit more short) no_read o stops read_faults

-- each command completes
replay_completes : Completing replay_task
replay_completes o text accepted (replay.Damaged at, is, fault) = absurd (not_damaged text at accepted fault)
replay_completes o text accepted (replay.Syntax at, is, fault) = absurd (no_syntax_fault text at accepted fault)
replay_completes o text accepted (replay.Full, is, fault) = absurd (not_too_many text accepted fault)
replay_completes o text accepted (replay.Memory, is, fault) = memory o is

inspect_completes : Completing inspect_task
inspect_completes o text accepted (install.Damaged at, is, fault) = absurd (not_spoiled text at accepted fault)
inspect_completes o text accepted (install.Memory, is, fault) = memory o is

-- so a command is done, where no read and no write failed
finished : (command : Command) (left now before after : Option (List ℕ)) (reads read writes written : ℕ)
    → HasNoFault reads read → HasNoFault writes written → (o : Outcome) → IsAnswerTo command o (streams left now before after)
    → HasReadFaults o reads read → HasWriteFaults o writes written → CompletesAs command left o
finished Compile left now before after reads read writes written no_read no_write o answer read_faults write_faults =
    is_done compile_task None left now before after reads read writes written document_completes no_read no_write o answer read_faults write_faults
finished Session None now before after reads read writes written no_read no_write o answer read_faults write_faults = tt
finished Session (Some bytes) now before after reads read writes written no_read no_write o answer read_faults write_faults =
    sat_through bytes now before after reads read writes written no_read no_write o answer read_faults write_faults
finished Replay left now before after reads read writes written no_read no_write o answer read_faults write_faults =
    is_done replay_task None left now before after reads read writes written replay_completes no_read no_write o answer read_faults write_faults
finished Inspect left now before after reads read writes written no_read no_write o answer read_faults write_faults =
    is_done inspect_task None left now before after reads read writes written inspect_completes no_read no_write o answer read_faults write_faults
finished Summary left now before after reads read writes written no_read no_write o answer read_faults write_faults =
    is_done summary_task None left now before after reads read writes written document_completes no_read no_write o answer read_faults write_faults
finished (SummaryOf n) left now before after reads read writes written no_read no_write o answer read_faults write_faults =
    is_done summary_task (Some (generated_text n)) left now before after reads read writes written document_completes no_read no_write o
    answer read_faults write_faults
finished (Generate n) left now before after reads read writes written no_read no_write o answer read_faults write_faults =
    is_done generate_task (Some (generated_text n)) left now before after reads read writes written (λ o text accepted refused. absurd refused)
    no_read no_write o answer read_faults write_faults
finished (Speak d) None now before after reads read writes written no_read no_write o answer read_faults write_faults = tt
finished (Speak d) (Some bytes) now before after reads read writes written no_read no_write o answer read_faults write_faults =
    spoken d bytes now before after reads read writes written no_read no_write o answer read_faults write_faults

-- a command that was asked for
pub completed : (asked command : Command) → Some asked ≡ Some command → (left now before after : Option (List ℕ)) (reads read writes written : ℕ)
    → HasNoFault reads read → HasNoFault writes written → (o : Outcome) → IsAnswerTo asked o (streams left now before after)
    → HasReadFaults o reads read → HasWriteFaults o writes written → CompletesAs command left o
completed asked command same left now before after reads read writes written no_read no_write o answer read_faults write_faults =
    subst (λ (k : Command). CompletesAs k left o) (same_Some asked command same)
    (finished asked left now before after reads read writes written no_read no_write o answer read_faults write_faults)
