-- A session within all limits is done, where no read and no write failed.
use Rattle.std.proofs.Common.{◌≡◌, ℕ, ◌≤◌, Bool, true, false, List, [], ◌∷◌, ◌++◌, length, All, get_or, refl, sym, ap, ◌∙◌, subst, arith}
use Rattle.std.proofs.Common.{length-append, Option, Some, None, inl, inr}
use Rattle.std.specs.Prelude.{◌==◌, IfSome}
use Rattle.std.proofs.Math.Seq.{get_or-append_seam}
use Rattle.pq_pieces.specs.Pieces.{BeginsLong, is_separator, pieces_from, pieces_of}
use Rattle.pq_compile.proofs.OneDocument.{no_document_fault, one_document}
use Rattle.pq_compile.proofs.OneFault.{no_compile_fault}
use Rattle.pq_compile.specs.Compiled.{IsWithinLimits}
use Rattle.pq_command.specs.declared.outcome.Outcome.{Outcome}
use Rattle.pq_command.specs.declared.outcome.Outcome.TheVariants.{Done, Words, ReadFault, TooLong, Lex, Syntax, Name, ValuesFull}
use Rattle.pq_command.specs.declared.outcome.Outcome.TheVariants.{InstancesFull, TagWidth, TableFull, GroupFull, Damaged, NoSwitch}
use Rattle.pq_command.specs.declared.outcome.Outcome.TheVariants.{NoBarrier, Speaking, SessionFull, ScheduleFull, WriteFault, Memory}
use Rattle.pq_command.specs.Answers.{HasNoFault, HasReadFaults, HasWriteFaults, IsDoneOrMemory, streams}
use Rattle.pq_command.specs.Compiles.{HasNoInstall, IsWithinDocument, compile_outcome, document_outcome}
use Rattle.pq_command.specs.Reading.{document_limit}
use Rattle.pq_command.specs.Sessions.{HasFirst, HasParted, IsSessionAnswer, IsWithinSession, pieces_limit}

-- an outcome that is Memory
pub memory : (o : Outcome) → o ≡ Memory → IsDoneOrMemory o
memory o is = subst IsDoneOrMemory (sym is) tt

-- a document within all limits is refused because memory runs out alone
pub document_completes : (o : Outcome) (text : List ℕ) → IsWithinDocument text → HasNoInstall o text → IsDoneOrMemory o
document_completes o text (d, spells, within) (inl (f, is, fault)) = memory o (is ∙ ap document_outcome (no_document_fault text d f spells fault))
document_completes o text (d, spells, within) (inr (e, spelt, (f, is, fault))) =
    memory o (is ∙ ap compile_outcome (no_compile_fault e f (subst IsWithinLimits (one_document text d e spells spelt) within) fault))

-- a text has a piece at least
some_piece : (lines line text : List ℕ) → 1 ≤ length (pieces_from lines line text)
some_piece lines line [] = by (is_separator line) refl
  where
    by : (w : Bool) → is_separator line ≡ w → 1 ≤ length (pieces_from lines line [])
    by true e = rw e (omega arith)
    by false e = rw e (omega arith)
some_piece lines line (b ∷ bs) = by (b == 10) (is_separator line) refl refl (some_piece (lines ++ (line ++ 10 ∷ [])) [] bs)
    (some_piece lines (line ++ b ∷ []) bs)
  where
    by : (w v : Bool) → (b == 10) ≡ w → is_separator line ≡ v → 1 ≤ length (pieces_from (lines ++ (line ++ 10 ∷ [])) [] bs)
        → 1 ≤ length (pieces_from lines (line ++ b ∷ []) bs)
        → 1 ≤ length (pieces_from lines line (b ∷ bs))
    by true true e f next longer = rw (e, f) (omega arith)
    by true false e f next longer = rw (e, f) next
    by false true e f next longer = rw e longer
    by false false e f next longer = rw e longer

-- a piece among short ones is short
short_piece : (all before others : List (List ℕ)) (piece : List ℕ) (limit : ℕ) → All (λ p. length p ≤ limit) all
    → all ≡ before ++ piece ∷ others → length piece ≤ limit
short_piece all before others piece limit short is =
    let there : get_or all (length before) [] ≡ piece = ap (λ (ps : List (List ℕ)). get_or ps (length before) []) is
    ∙ get_or-append_seam before piece others [] in
    subst (λ p. length p ≤ limit) there (short (length before) [] (omega (arith, ap length is, length-append before (piece ∷ others))))

-- what was parted of known bytes
parted : (bytes : List ℕ) (now before after : Option (List ℕ)) (pieces : List (List ℕ)) (pending : List ℕ)
    → HasParted (streams (Some bytes) now before after) pieces pending
    → (rest : List ℕ) × (now ≡ Some rest) × (pieces_of bytes ≡ pieces ++ pieces_of (pending ++ rest))
parted bytes None before after pieces pending (text, taken, is) = absurd taken
parted bytes (Some rest) before after pieces pending (text, taken, is) = (rest, refl, is)

-- the first piece of known bytes
first_of : (bytes : List ℕ) (now before after : Option (List ℕ)) (first : List ℕ) → HasFirst (streams (Some bytes) now before after) first
    → (others : List (List ℕ)) × (pieces_of bytes ≡ first ∷ others)
first_of bytes now before after first (inl (text, taken, (ended, is))) = ([], is)
first_of bytes now before after first (inr (pending, is, short)) =
    let known = parted bytes now before after (first ∷ []) pending is in (pieces_of (pending ++ known.0), known.2)

pub sat_through : (bytes : List ℕ) (now before after : Option (List ℕ)) (reads read writes written : ℕ) → HasNoFault reads read → HasNoFault writes written
    → (o : Outcome) → IsSessionAnswer o (streams (Some bytes) now before after) → HasReadFaults o reads read → HasWriteFaults o writes written
    → IsWithinSession bytes → IsDoneOrMemory o
sat_through bytes now before after reads read writes written no_read no_write o answer read_faults write_faults within = by o answer read_faults write_faults
  where
    refused : (o : Outcome) (first : List ℕ) → HasFirst (streams (Some bytes) now before after) first → HasNoInstall o first → IsDoneOrMemory o
    refused o first is told =
        let found = first_of bytes now before after first is in
        let pieces = sym within.pieces ∙ found.1 in
        let same : within.first ≡ first = cc in
        document_completes o first (subst IsWithinDocument same within.document) told

    long : (rest : List ℕ) (pieces : List (List ℕ)) (pending : List ℕ) → pieces_of bytes ≡ pieces ++ pieces_of (pending ++ rest)
        → BeginsLong document_limit (pieces_of (pending ++ rest)) → ⊥
    long rest pieces pending is begins =
        let all = sym within.pieces ∙ is ∙ ap (λ (ps : List (List ℕ)). pieces ++ ps) begins.is in
        let short = short_piece (within.first ∷ within.others) pieces begins.others begins.first document_limit within.short all in
        absurd (omega (arith, short, begins.long))

    many : (rest : List ℕ) (pieces : List (List ℕ)) (pending : List ℕ) → pieces_of bytes ≡ pieces ++ pieces_of (pending ++ rest)
        → length pieces ≡ pieces_limit → ⊥
    many rest pieces pending is all =
        let count = ap length (sym within.pieces ∙ is) in
        absurd (omega (arith, count, length-append pieces (pieces_of (pending ++ rest)), some_piece [] [] (pending ++ rest), all, within.few))

    by : (o : Outcome) → IsSessionAnswer o (streams (Some bytes) now before after) → HasReadFaults o reads read
        → HasWriteFaults o writes written → IsDoneOrMemory o
    by Done answer read_faults write_faults = tt
    by Memory answer read_faults write_faults = tt
    by ReadFault answer read_faults write_faults = no_read read_faults
    by WriteFault answer read_faults write_faults = no_write write_faults
    by TooLong answer read_faults write_faults =
        let known = parted bytes now before after answer.pieces answer.pending answer.read in
        absurd (long known.0 answer.pieces answer.pending known.2
        (subst (λ (left : Option (List ℕ)). IfSome left (λ rest. BeginsLong document_limit (pieces_of (answer.pending ++ rest))))
        known.1 answer.why))
    by SessionFull answer read_faults write_faults =
        let known = parted bytes now before after answer.pieces answer.pending answer.read in
        absurd (many known.0 answer.pieces answer.pending known.2 answer.why.0)
    by Words answer read_faults write_faults = absurd answer
    by (Lex at) (first, is, told) read_faults write_faults = refused (Lex at) first is told
    by (Syntax at) (first, is, told) read_faults write_faults = refused (Syntax at) first is told
    by (Name at kind) (first, is, told) read_faults write_faults = refused (Name at kind) first is told
    by (ValuesFull f n) (first, is, told) read_faults write_faults = refused (ValuesFull f n) first is told
    by (InstancesFull n) (first, is, told) read_faults write_faults = refused (InstancesFull n) first is told
    by (TagWidth n) (first, is, told) read_faults write_faults = refused (TagWidth n) first is told
    by (TableFull d t n) (first, is, told) read_faults write_faults = refused (TableFull d t n) first is told
    by (GroupFull d n) (first, is, told) read_faults write_faults = refused (GroupFull d n) first is told
    by (Damaged at) (first, is, told) read_faults write_faults = refused (Damaged at) first is told
    by NoSwitch (first, is, told) read_faults write_faults = refused NoSwitch first is told
    by NoBarrier (first, is, told) read_faults write_faults = refused NoBarrier first is told
    by (Speaking t) (first, is, told) read_faults write_faults = refused (Speaking t) first is told
    by ScheduleFull (first, is, told) read_faults write_faults = refused ScheduleFull first is told
