use Rattle.std.proofs.Common.{◌≡◌, ◌≤◌, ◌-◌, [], length, drop}
use Rattle.pq_speaker.specs.Hearing.{passed}
use Rattle.pq_speaker.proofs.session.Session.hear_messages.Given as goal

-- what is heard of the bytes that are left, after what was sent, is what is heard of all
abbrev pub invariant-loop-size : goal.invariant-loop-size
invariant-loop-size l = (l.used ≤ length l.bytes) × (passed l.self l.sent.items l.talk (drop l.used l.bytes) ≡ passed l.self [] l.initial.talk l.bytes)

abbrev pub decreases-loop-size : goal.decreases-loop-size
decreases-loop-size l = length l.bytes - l.used
