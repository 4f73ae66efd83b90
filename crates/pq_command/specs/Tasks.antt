-- What each command does.
use Rattle.std.specs.Prelude.{◌≡◌, ◌≤◌, ℕ, List, length, Option, Some, None, IfSome}
use Rattle.pq_model.specs.Classes.{HasClasses}
use Rattle.pq_model.specs.Install.{Install}
use Rattle.pq_compile.specs.Compiled.{IsInstalled}
use Rattle.pq_compile.specs.Documents.{DocumentTree, Spells}
use Rattle.pq_compile.specs.Prepared.{languages_in, queries_in}
use Rattle.pq_generate.specs.Generated.{generated_text}
use Rattle.pq_query.specs.Instances.{label_sum}
use Rattle.pq_summary.specs.declared.summary.Counts.{Counts}
use Rattle.pq_summary.specs.Summary.{summary_of, summary_text}
use Rattle.pq_install.specs.declared.fault.InstallFault.{InstallFault}
use Rattle.pq_install.specs.declared.fault.InstallFault.TheVariants as install
use Rattle.pq_inspect.specs.Inspected.{IsInspectFault, IsInspected, IsWholeInstall}
use Rattle.pq_replay.specs.declared.fault.ReplayFault.{ReplayFault}
use Rattle.pq_replay.specs.declared.fault.ReplayFault.TheVariants as replay
use Rattle.pq_replay.specs.Replay.{IsReplay, IsReplayFault, IsReplayable}
use Rattle.pq_command.specs.declared.words.Command.{Command}
use Rattle.pq_command.specs.declared.words.Command.TheVariants.{Compile, Session, Replay, Inspect, Summary, SummaryOf, Generate, Speak}
use Rattle.pq_command.specs.declared.outcome.Outcome.{Outcome}
use Rattle.pq_command.specs.declared.outcome.Outcome.TheVariants.{Syntax, Damaged, ScheduleFull, Memory}
use Rattle.pq_command.specs.declared.answer.Output.{Output}
use Rattle.pq_command.specs.declared.answer.Output.TheVariants as output
use Rattle.pq_command.specs.Answers.{Completes, IsAnswer, IsDoneOrMemory, OnRefusal, OnRefusalInSession, OnRefusalInTurns, Streams, Task}
use Rattle.pq_command.specs.Compiles.{HasNoInstall, IsInstallOf, IsWithinDocument}
use Rattle.pq_command.specs.Reading.{document_limit, install_limit}
use Rattle.pq_command.specs.Sessions.{IsSessionAnswer, IsWithinSession}
use Rattle.pq_command.specs.Speaks.{IsSpeakAnswer, IsSpokenThrough}

-- Replay.

-- the outcome of a fault of an install and a schedule
abbrev pub replay_outcome : ReplayFault → Outcome
replay_outcome (replay.Damaged at) = Damaged at
replay_outcome (replay.Syntax at) = Syntax at
replay_outcome replay.Full = ScheduleFull
replay_outcome replay.Memory = Memory

-- Inspect.

-- the outcome of a fault of an install
abbrev pub install_outcome : InstallFault → Outcome
install_outcome (install.Damaged at) = Damaged at
install_outcome install.Memory = Memory

-- Summary.

-- what is counted of a document, with this many classes of words
abbrev pub counts_of : DocumentTree → ℕ → Counts
counts_of d classes = record {
  parts = length d.parts;
  queries = length d.queries;
  instances = label_sum d.topology (queries_in d);
  classes = classes;
}

-- these bytes are the summary of the document, of its install and of the number of its classes
abbrev pub IsSummarized : DocumentTree → List ℕ → Type 0
IsSummarized d written =
    (i : Install) × (classes : ℕ) × IsInstalled d i × HasClasses (languages_in d) classes × (written ≡ summary_text (summary_of (counts_of d classes) i))

-- the text is a document, and these bytes are its summary
abbrev pub IsSummaryOf : List ℕ → List ℕ → Type 0
IsSummaryOf text written = (d : DocumentTree) × Spells text d × IsSummarized d written

-- What is written of whole texts.

abbrev pub compile_task : Task
compile_task = record { limit = document_limit; Accepts = IsWithinDocument; Writes = IsInstallOf; Refuses = HasNoInstall }

abbrev pub replay_task : Task
replay_task = record {
  limit = install_limit;
  Accepts = IsReplayable;
  Writes = IsReplay;
  Refuses = λ outcome text. (f : ReplayFault) × (outcome ≡ replay_outcome f) × IsReplayFault text f;
}

abbrev pub inspect_task : Task
inspect_task = record {
  limit = install_limit;
  Accepts = IsWholeInstall;
  Writes = IsInspected;
  Refuses = λ outcome text. (f : InstallFault) × (outcome ≡ install_outcome f) × IsInspectFault text f;
}

-- a document that `compile` refuses is refused alike
abbrev pub summary_task : Task
summary_task = record { limit = document_limit; Accepts = IsWithinDocument; Writes = IsSummaryOf; Refuses = HasNoInstall }

-- a generated document is written as it is
abbrev pub generate_task : Task
generate_task = record { limit = document_limit; Accepts = λ text. Unit {0}; Writes = λ text written. written ≡ text; Refuses = λ outcome text. ⊥ }

abbrev pub task_of : Output → Task
task_of output.Install = compile_task
task_of output.State = replay_task
task_of output.Inspection = inspect_task
task_of output.Summary = summary_task
task_of output.Text = generate_task

-- Commands.

-- a fact for each command that reads nothing; words that name none read nothing either
abbrev pub OnUnread : Option Command → Type 0 → Type 0
OnUnread None fact = fact
OnUnread (Some (SummaryOf n)) fact = fact
OnUnread (Some (Generate n)) fact = fact
OnUnread (Some command) fact = Unit {0}

-- the number of switches, where a command states one
abbrev pub HasSize : Command → Type 0
HasSize (SummaryOf n) = (2 ≤ n) × (n ≤ 64)
HasSize (Generate n) = (2 ≤ n) × (n ≤ 64)
HasSize command = Unit {0}

-- what the outcome of a command says
abbrev pub IsAnswerTo : Command → Outcome → Streams → Type 0
IsAnswerTo Compile outcome s = IsAnswer compile_task None outcome s
IsAnswerTo Session outcome s = IsSessionAnswer outcome s
IsAnswerTo Replay outcome s = IsAnswer replay_task None outcome s
IsAnswerTo Inspect outcome s = IsAnswer inspect_task None outcome s
IsAnswerTo Summary outcome s = IsAnswer summary_task None outcome s
IsAnswerTo (SummaryOf n) outcome s = IsAnswer summary_task (Some (generated_text n)) outcome s
IsAnswerTo (Generate n) outcome s = IsAnswer generate_task (Some (generated_text n)) outcome s
IsAnswerTo (Speak datapath) outcome s = IsSpeakAnswer datapath outcome s

-- a fact for each outcome that leaves the sink as it was; words that name no command do
abbrev pub OnRefusalTo : Option Command → Outcome → Type 0 → Type 0
OnRefusalTo (Some Session) outcome fact = OnRefusalInSession outcome fact
OnRefusalTo (Some (Speak datapath)) outcome fact = OnRefusalInTurns outcome fact
OnRefusalTo command outcome fact = OnRefusal outcome fact

-- the command is done, or memory ran out, where it accepts its text
abbrev pub CompletesAs : Command → Option (List ℕ) → Outcome → Type 0
CompletesAs Compile left outcome = Completes compile_task None left outcome
CompletesAs Session left outcome = IfSome left (λ bytes. IsWithinSession bytes → IsDoneOrMemory outcome)
CompletesAs Replay left outcome = Completes replay_task None left outcome
CompletesAs Inspect left outcome = Completes inspect_task None left outcome
CompletesAs Summary left outcome = Completes summary_task None left outcome
CompletesAs (SummaryOf n) left outcome = Completes summary_task (Some (generated_text n)) left outcome
CompletesAs (Generate n) left outcome = Completes generate_task (Some (generated_text n)) left outcome
CompletesAs (Speak datapath) left outcome = IfSome left (λ bytes. length bytes ≤ install_limit → IsSpokenThrough datapath bytes → IsDoneOrMemory outcome)
