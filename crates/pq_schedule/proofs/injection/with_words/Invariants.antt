use Rattle.std.proofs.Common.{◌≡◌, length}
use Rattle.std.specs.Prelude.{option_copied}
use Rattle.std.specs.Str.{byte}
use Rattle.pq_term.specs.Groups.{parts_in}
use Rattle.pq_schedule.specs.Stated.{stated_all}
use Rattle.pq_schedule.proofs.injection.with_words.Given as goal

-- the words left complete the packet
abbrev pub invariant-loop-left : goal.invariant-loop-left
invariant-loop-left l = stated_all l.stated (parts_in (byte " ") (option_copied l.left))
    ≡ stated_all (record { packet = l.fn.packet; next = 0 }) (parts_in (byte " ") (option_copied l.fn.words))

abbrev pub decreases-loop-left : goal.decreases-loop-left
decreases-loop-left l = length (parts_in (byte " ") (option_copied l.left))
