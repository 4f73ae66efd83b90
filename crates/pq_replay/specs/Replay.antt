-- What replaying an install and a schedule gives.
use Rattle.std.specs.Prelude.{◌≡◌, ℕ, ◌+◌, ◌⊎◌, List, drop, take}
use Rattle.pq_model.specs.declared.event.Event.{Event}
use Rattle.pq_model.specs.TablesMachine.{TablesState, nothing_sent, run_sending}
use Rattle.pq_model.specs.Install.{Install, IsSpelled, IsSpelledOld}
use Rattle.pq_install.specs.Damage.{IsDamagedAt}
use Rattle.pq_install.specs.Reading.{IsInstallIn}
use Rattle.pq_net.specs.Network.{installed_sender}
use Rattle.pq_schedule.specs.Schedules.{IsScheduleText, FirstFault, IsTooLong}
use Rattle.pq_schedule.specs.States.{output}
use Rattle.pq_replay.specs.declared.fault.ReplayFault.{ReplayFault}
use Rattle.pq_replay.specs.declared.fault.ReplayFault.TheVariants.{Damaged, Syntax, Full, Memory}

-- what a schedule leaves of the network that an install makes
abbrev pub replayed : Install → List Event → TablesState
replayed i events = run_sending i.topology i.report (installed_sender i) nothing_sent events

-- the bytes begin with the spelling or the old spelling of an install, of this length, and go on with this text
pub record BeginsWith (bytes : List ℕ) (i : Install) (size : ℕ) (text : List ℕ) : Type 0 where
  pub read : IsInstallIn bytes i size
  pub rest : text ≡ drop size bytes

-- the bytes are an install and a schedule, and this is the state that it leaves
pub record IsReplay (bytes written : List ℕ) : Type 0 where
  pub install : Install
  pub size : ℕ
  pub text : List ℕ
  pub begins : BeginsWith bytes install size text
  pub events : List Event
  pub scheduled : IsScheduleText text events
  pub state : written ≡ output install.queries (replayed install events)

-- after an install the first line that is not an event begins at the place, after at most 100,000 events
pub record HasSyntaxFault (bytes : List ℕ) (at : ℕ) : Type 0 where
  pub install : Install
  pub size : ℕ
  pub text : List ℕ
  pub begins : BeginsWith bytes install size text
  pub place : ℕ
  pub fault : FirstFault text place
  pub counted : at ≡ size + place

-- after an install the first lines are more events than a schedule has
pub record HasTooManyEvents (bytes : List ℕ) : Type 0 where
  pub install : Install
  pub size : ℕ
  pub text : List ℕ
  pub begins : BeginsWith bytes install size text
  pub many : IsTooLong text

-- what a fault tells is true of the bytes; running out of memory has no cause
abbrev pub IsReplayFault : List ℕ → ReplayFault → Type 0
IsReplayFault bytes (Damaged at) = IsDamagedAt bytes at
IsReplayFault bytes (Syntax at) = HasSyntaxFault bytes at
IsReplayFault bytes Full = HasTooManyEvents bytes
IsReplayFault bytes Memory = Unit {0}

-- the bytes are an install's spelling, or its old one, and at once after it a schedule
pub record IsReplayable (bytes : List ℕ) : Type 0 where
  pub install : Install
  pub size : ℕ
  pub spelled : IsSpelled install (take size bytes) ⊎ IsSpelledOld install (take size bytes)
  pub events : List Event
  pub scheduled : IsScheduleText (drop size bytes) events
