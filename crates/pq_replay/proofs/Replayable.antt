-- What is an install and a schedule is replayed, unless memory runs out.
use Rattle.std.proofs.Common.{ℕ, List, ◌∙◌, subst, drop}
use Rattle.pq_install.specs.Damage.{IsDamagedAt}
use Rattle.pq_install.proofs.OneSpelling.{same_rest}
use Rattle.pq_install.proofs.Renamed.{spelled_stands}
use Rattle.pq_schedule.specs.Schedules.{FirstFault, IsTooLong}
use Rattle.pq_schedule.proofs.Readings.{schedule_or_fault, schedule_or_full}
use Rattle.pq_replay.specs.Replay.{IsReplayable, HasSyntaxFault, HasTooManyEvents}

pub not_damaged : (bytes : List ℕ) (at : ℕ) → IsReplayable bytes → IsDamagedAt bytes at → ⊥
not_damaged bytes at r damaged = spelled_stands bytes at r.size r.install damaged r.spelled

pub no_syntax_fault : (bytes : List ℕ) (at : ℕ) → IsReplayable bytes → HasSyntaxFault bytes at → ⊥
no_syntax_fault bytes at r f =
    let P : List ℕ → Type 0 = λ text. FirstFault text f.place in
    let fault = subst P (f.begins.rest ∙ same_rest bytes r.install f.install r.size f.size r.spelled f.begins.read.spelled) f.fault in
    schedule_or_fault (drop r.size bytes) r.events f.place r.scheduled fault

pub not_too_many : (bytes : List ℕ) → IsReplayable bytes → HasTooManyEvents bytes → ⊥
not_too_many bytes r f =
    let P : List ℕ → Type 0 = IsTooLong in
    let many = subst P (f.begins.rest ∙ same_rest bytes r.install f.install r.size f.size r.spelled f.begins.read.spelled) f.many in
    schedule_or_full (drop r.size bytes) r.events r.scheduled many
