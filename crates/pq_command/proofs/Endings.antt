-- What the outcomes of a session leave in the source and the sink.
use Rattle.std.proofs.Common.{◌≡◌, ℕ, List, Option}
use Rattle.std.specs.Prelude.{Err}
use Rattle.pq_pieces.specs.declared.piece.Piece.{Piece}
use Rattle.pq_pieces.specs.declared.unread.Unread.{Unread}
use Rattle.pq_pieces.specs.declared.unread.Unread.TheVariants as unread
use Rattle.pq_pieces.specs.Reading.{HasReadCause}
use Rattle.pq_command.specs.declared.outcome.Outcome.{Outcome}
use Rattle.pq_command.specs.declared.outcome.Outcome.TheVariants.{Done, Words, ReadFault, TooLong, Lex, Syntax, Name, ValuesFull}
use Rattle.pq_command.specs.declared.outcome.Outcome.TheVariants.{InstancesFull, TagWidth, TableFull, GroupFull, Damaged, NoSwitch}
use Rattle.pq_command.specs.declared.outcome.Outcome.TheVariants.{NoBarrier, Speaking, SessionFull, ScheduleFull, WriteFault, Memory}
use Rattle.pq_command.specs.Answers.{HasReadFaults, HasWriteFaults, OnRefusalInSession}
use Rattle.pq_command.specs.Sessions.{IsCut, unread_outcome}

-- a piece that was not read
pub unread_reads : (u : Unread) (before now : ℕ) → HasReadCause {T = Piece} (Err u) before now → HasReadFaults (unread_outcome u) before now
unread_reads unread.Failed before now cause = cause
unread_reads unread.TooLong before now cause = cause
unread_reads unread.Memory before now cause = cause

pub unread_writes : (u : Unread) (before now : ℕ) → now ≡ before → HasWriteFaults (unread_outcome u) before now
unread_writes unread.Failed before now same = same
unread_writes unread.TooLong before now same = same
unread_writes unread.Memory before now same = same

pub unread_refuses : (u : Unread) (fact : Type 0) → OnRefusalInSession (unread_outcome u) fact
unread_refuses unread.Failed fact = tt
unread_refuses unread.TooLong fact = tt
unread_refuses unread.Memory fact = tt

-- bytes that were not put as a whole
pub cut_reads : (o : Outcome) (put after : Option (List ℕ)) (bytes : List ℕ) (before now : ℕ) → IsCut o put after bytes → now ≡ before
    → HasReadFaults o before now
cut_reads WriteFault put after bytes before now cut same = same
cut_reads Memory put after bytes before now cut same = same
cut_reads Done put after bytes before now cut same = absurd cut
cut_reads Words put after bytes before now cut same = absurd cut
cut_reads ReadFault put after bytes before now cut same = absurd cut
cut_reads TooLong put after bytes before now cut same = absurd cut
cut_reads (Lex at) put after bytes before now cut same = absurd cut
cut_reads (Syntax at) put after bytes before now cut same = absurd cut
cut_reads (Name at kind) put after bytes before now cut same = absurd cut
cut_reads (ValuesFull f n) put after bytes before now cut same = absurd cut
cut_reads (InstancesFull n) put after bytes before now cut same = absurd cut
cut_reads (TagWidth n) put after bytes before now cut same = absurd cut
cut_reads (TableFull d t n) put after bytes before now cut same = absurd cut
cut_reads (GroupFull d n) put after bytes before now cut same = absurd cut
cut_reads (Damaged at) put after bytes before now cut same = absurd cut
cut_reads NoSwitch put after bytes before now cut same = absurd cut
cut_reads NoBarrier put after bytes before now cut same = absurd cut
cut_reads (Speaking t) put after bytes before now cut same = absurd cut
cut_reads SessionFull put after bytes before now cut same = absurd cut
cut_reads ScheduleFull put after bytes before now cut same = absurd cut

pub cut_refuses : (o : Outcome) (put after : Option (List ℕ)) (bytes : List ℕ) (fact : Type 0) → IsCut o put after bytes → OnRefusalInSession o fact
cut_refuses WriteFault put after bytes fact cut = tt
cut_refuses Memory put after bytes fact cut = tt
cut_refuses Done put after bytes fact cut = absurd cut
cut_refuses Words put after bytes fact cut = absurd cut
cut_refuses ReadFault put after bytes fact cut = absurd cut
cut_refuses TooLong put after bytes fact cut = absurd cut
cut_refuses (Lex at) put after bytes fact cut = absurd cut
cut_refuses (Syntax at) put after bytes fact cut = absurd cut
cut_refuses (Name at kind) put after bytes fact cut = absurd cut
cut_refuses (ValuesFull f n) put after bytes fact cut = absurd cut
cut_refuses (InstancesFull n) put after bytes fact cut = absurd cut
cut_refuses (TagWidth n) put after bytes fact cut = absurd cut
cut_refuses (TableFull d t n) put after bytes fact cut = absurd cut
cut_refuses (GroupFull d n) put after bytes fact cut = absurd cut
cut_refuses (Damaged at) put after bytes fact cut = absurd cut
cut_refuses NoSwitch put after bytes fact cut = absurd cut
cut_refuses NoBarrier put after bytes fact cut = absurd cut
cut_refuses (Speaking t) put after bytes fact cut = absurd cut
cut_refuses SessionFull put after bytes fact cut = absurd cut
cut_refuses ScheduleFull put after bytes fact cut = absurd cut

-- what is left where no refusal leaves the sink as it was
pub no_refusal : (o : Outcome) (fact : Type 0) → OnRefusalInSession o ⊥ → OnRefusalInSession o fact
no_refusal Done fact refused = tt
no_refusal ReadFault fact refused = tt
no_refusal TooLong fact refused = tt
no_refusal (Speaking t) fact refused = tt
no_refusal SessionFull fact refused = tt
no_refusal WriteFault fact refused = tt
no_refusal Memory fact refused = tt
no_refusal Words fact refused = absurd refused
no_refusal (Lex at) fact refused = absurd refused
no_refusal (Syntax at) fact refused = absurd refused
no_refusal (Name at kind) fact refused = absurd refused
no_refusal (ValuesFull f n) fact refused = absurd refused
no_refusal (InstancesFull n) fact refused = absurd refused
no_refusal (TagWidth n) fact refused = absurd refused
no_refusal (TableFull d t n) fact refused = absurd refused
no_refusal (GroupFull d n) fact refused = absurd refused
no_refusal (Damaged at) fact refused = absurd refused
no_refusal NoSwitch fact refused = absurd refused
no_refusal NoBarrier fact refused = absurd refused
no_refusal ScheduleFull fact refused = absurd refused
