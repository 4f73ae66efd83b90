use Rattle.std.proofs.Common.{◌≡◌, sym, subst, length, drop}
use Rattle.pq_model.specs.Lawful.{IsLawfulMessage}
use Rattle.pq_model.specs.Spelling.{message_bytes}
use Rattle.pq_oxm.specs.Standing.{StandsAt}
use Rattle.pq_oxm.proofs.Places.{followed}
use Rattle.pq_flowmod.proofs.reading.message_in.Goals as goal

-- what is spelled there would be read
pub returns-in_default : goal.returns-in_default
returns-in_default c = λ m law there.
    let said = c.in_ok-message.ensures.said m (drop (length (message_bytes m)) c.args.bytes.now) law (followed c.args.bytes.now 0 (message_bytes m) there) in
    let none = c.in_default.is in
    absurd cc

-- what is spelled there would be this
pub returns-in_default-2 : goal.returns-in_default-2
returns-in_default-2 c = λ m law there.
    let said = c.in_ok-message.ensures.said m (drop (length (message_bytes m)) c.args.bytes.now) law (followed c.args.bytes.now 0 (message_bytes m) there) in
    let some = c.in-Some.is in
    let same : c.in-Some.message ≡ m = cc in
    let other = rw c.in_default-2.is at c.in_ok-length.ensures in
    other (subst IsLawfulMessage (sym same) law) (subst (λ x. StandsAt c.args.bytes.now 0 (message_bytes x)) (sym same) there)
