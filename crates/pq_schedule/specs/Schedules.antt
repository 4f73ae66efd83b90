-- Schedules: lines that are events, each ended by a line feed.
use Rattle.std.specs.Prelude.{◌≡◌, ◌≢◌, ℕ, ◌+◌, ◌≤◌, List, [], ◌∷◌, length, Some}
use Rattle.std.specs.Str.{byte}
use Rattle.pq_term.specs.Groups.{before_separator, behind_separator}
use Rattle.pq_model.specs.declared.event.Event.{Event}
use Rattle.pq_schedule.specs.declared.schedule.ScheduleFault.{ScheduleFault}
use Rattle.pq_schedule.specs.declared.schedule.ScheduleFault.TheVariants.{Syntax, Full, Memory}
use Rattle.pq_schedule.specs.Lines.{event_of}

-- the most events that a schedule has
abbrev pub event_limit : ℕ
event_limit = 100000

-- the event is the line that the text begins with, and the rest is after its line feed
abbrev pub BeginsWith : List ℕ → Event → List ℕ → Type 0
BeginsWith text event rest = (event_of (before_separator (byte "\n") text) ≡ Some event) × (behind_separator (byte "\n") text ≡ Some rest)

-- the text is these events, one a line, and then the rest
abbrev pub AreEvents : List ℕ → List Event → List ℕ → Type 0
AreEvents text [] rest = text ≡ rest
AreEvents text (e ∷ es) rest = (left : List ℕ) × BeginsWith text e left × AreEvents left es rest

-- the whole text is these events
abbrev pub IsScheduleText : List ℕ → List Event → Type 0
IsScheduleText text events = AreEvents text events [] × (length events ≤ event_limit)

-- at the place begins the first line that is not an event, after at most as many events as a schedule has
pub record FirstFault (text : List ℕ) (place : ℕ) : Type 0 where
  pub events : List Event
  pub rest : List ℕ
  pub before : AreEvents text events rest
  pub few : length events ≤ event_limit
  pub begins : place + length rest ≡ length text
  pub more : rest ≢ []
  pub fault : (e : Event) (left : List ℕ) → BeginsWith rest e left → ⊥

-- the first lines of the text are more events than a schedule has
pub record IsTooLong (text : List ℕ) : Type 0 where
  pub events : List Event
  pub rest : List ℕ
  pub before : AreEvents text events rest
  pub many : length events ≡ event_limit + 1

-- why a text is refused
abbrev pub IsScheduleFault : List ℕ → ScheduleFault → Type 0
IsScheduleFault text (Syntax at) = FirstFault text at
IsScheduleFault text Full = IsTooLong text
IsScheduleFault text Memory = Unit {0}
