use Rattle.std.proofs.Common.{◌∙◌, ℕ, List, ap, length, subst, sym}
use Rattle.pq_speaker.specs.Speaking.{EndsWithOwnBarrier}
use Rattle.pq_command.specs.Speaks.{IsDamagedFor, IsSpelling}
use Rattle.pq_command.proofs.Openings.{damaged, no-barrier, no-switch, opens}
use Rattle.pq_command.proofs.speak.opening.opening_of.Goals as goal

pub returns-in-Err-clause-err : goal.returns-in-Err-clause-err
returns-in-Err-clause-err c =
    damaged c.args.datapath c.args.text.now c.in-Some.heading.at c.in-Some.heading.size c.in-Err.outcome c.in-Some.ensures.stated
    (subst (λ (bytes : List ℕ). IsDamagedFor c.in-Some.heading.size bytes c.in-Err.outcome) c.install_bytes.ensures.bytes c.in-Err.ensures.err)

pub returns-in_default-messages_to-clause-err : goal.returns-in_default-messages_to-clause-err
returns-in_default-messages_to-clause-err c =
    no-switch c.args.datapath c.args.text.now c.in-Some.heading.at c.in-Some.heading.size c.in-Ok.install c.in-Some.ensures.stated
    (ap (λ (bytes : List ℕ). length bytes) (sym c.install_bytes.ensures.bytes) ∙ c.in-Ok.ensures.whole)
    (subst (IsSpelling c.in-Ok.install) c.install_bytes.ensures.bytes c.in-Ok.ensures.install)
    c.in_default-messages_to.ensures.messages

pub returns-then-not-ends_with_own_barrier-clause-err : goal.returns-then-not-ends_with_own_barrier-clause-err
returns-then-not-ends_with_own_barrier-clause-err c =
    no-barrier c.args.datapath c.args.text.now c.in-Some.heading.at c.in-Some.heading.size c.in-Ok.install c.in-Some-messages_to.messages.items
    c.in-Some.ensures.stated
    (ap (λ (bytes : List ℕ). length bytes) (sym c.install_bytes.ensures.bytes) ∙ c.in-Ok.ensures.whole)
    (subst (IsSpelling c.in-Ok.install) c.install_bytes.ensures.bytes c.in-Ok.ensures.install)
    c.in-Some-messages_to.ensures.messages.0
    c.in-Some-messages_to.ensures.messages.1
    (λ ended. c.if-not-ends_with_own_barrier.ensures (subst EndsWithOwnBarrier (sym c.deref.ensures.value) ended))

pub returns-clause-opened : goal.returns-clause-opened
returns-clause-opened c =
    opens c.args.datapath c.args.text.now c.in-Some.heading.at c.in-Some.heading.size c.in-Ok.install c.in-Some-messages_to.messages.items
    c.in-Some.ensures.stated
    (ap (λ (bytes : List ℕ). length bytes) (sym c.install_bytes.ensures.bytes) ∙ c.in-Ok.ensures.whole)
    (subst (IsSpelling c.in-Ok.install) c.install_bytes.ensures.bytes c.in-Ok.ensures.install)
    c.in-Some-messages_to.ensures.messages.0
    c.in-Some-messages_to.ensures.messages.1
    (subst EndsWithOwnBarrier c.deref.ensures.value c.if-not-ends_with_own_barrier.ensures)
