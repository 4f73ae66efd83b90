-- The course of a session: what each piece adds, and how the session ends.
use Rattle.std.proofs.Common.{◌≡◌, ℕ, ◌+◌, ◌<◌, ◌≤◌, Bool, true, false, List, [], ◌∷◌, ◌++◌, length, min, take, refl, sym, ap, ◌∙◌, subst}
use Rattle.std.proofs.Common.{arith, append_assoc, append-nil, length-append, take_all, Option, ◌⊎◌, inl, inr}
use Rattle.std.specs.Prelude.{MatchBool}
use Rattle.std.specs.Io.KnownBytes.{Appends, Consumes}
use Rattle.std.proofs.KnownBytes.{Appends-nil, Appends-trans}
use Rattle.std.proofs.Math.Seq.{take-append-add}
use Rattle.std.proofs.lemmas.List.{take-append-le, take_min}
use Rattle.pq_io.specs.Pieces.{AppendsPart}
use Rattle.pq_pieces.specs.declared.piece.Piece.{Piece}
use Rattle.pq_pieces.specs.declared.unread.Unread.{Unread}
use Rattle.pq_pieces.specs.declared.unread.Unread.TheVariants as unread
use Rattle.pq_pieces.specs.Reading.{IsNext, IsUnread, Reads, chunk_size}
use Rattle.pq_compile.specs.Compiled.{IsInstalled}
use Rattle.pq_compile.specs.Documents.{Spells}
use Rattle.pq_command.specs.declared.outcome.Outcome.{Outcome}
use Rattle.pq_command.specs.declared.outcome.Outcome.TheVariants.{Done, Words, ReadFault, TooLong, Lex, Syntax, Name, ValuesFull}
use Rattle.pq_command.specs.declared.outcome.Outcome.TheVariants.{InstancesFull, TagWidth, TableFull, GroupFull, Damaged, NoSwitch}
use Rattle.pq_command.specs.declared.outcome.Outcome.TheVariants.{NoBarrier, Speaking, SessionFull, ScheduleFull, WriteFault, Memory}
use Rattle.pq_command.specs.Answers.{IsOfText, streams}
use Rattle.pq_command.specs.Compiles.{HasNoInstall}
use Rattle.pq_command.specs.Frames.{install_frame}
use Rattle.pq_command.specs.Reading.{document_limit}
use Rattle.pq_command.specs.Sessions.{AreFrames, AreFramesTo, AreSteps, Current, HasFirst, IsCut, IsEnded, IsGoingOn, IsSessionAnswer}
use Rattle.pq_command.specs.Sessions.{IsStep, pieces_limit, unread_outcome}
use Rattle.pq_command.proofs.Parted.{Parted, Whole, comes, none_parted, read_on}

-- Bytes that are put.

-- all of them are a part of them
pub part_of_all : (before after : Option (List ℕ)) (bytes : List ℕ) → Appends before after bytes → AppendsPart before after bytes
part_of_all before after bytes put = (length bytes, subst (Appends before after) (sym (take_all (length bytes) bytes (omega arith))) put)

-- a part after all others
part_after : (before middle after : Option (List ℕ)) (first next : List ℕ) → Appends before middle first → AppendsPart middle after next
    → AppendsPart before after (first ++ next)
part_after before middle after first next put (n, part) =
    (length first + n, subst (Appends before after) (sym (take-append-add first next n)) (Appends-trans before middle after first (take n next) put part))

-- a part of the first is a part of all
part_of_more : (before after : Option (List ℕ)) (first next : List ℕ) → AppendsPart before after first → AppendsPart before after (first ++ next)
part_of_more before after first next (n, part) = (
  min n (length first),
  subst (Appends before after) (sym (take-append-le (min n (length first)) first next (omega arith) ∙ take_min n first)) part,
)

-- what is cut is a part of it, after a failing write or because memory runs out
cut_is : (o : Outcome) (before after : Option (List ℕ)) (bytes : List ℕ) → IsCut o before after bytes
    → AppendsPart before after bytes × ((o ≡ WriteFault) ⊎ (o ≡ Memory))
cut_is WriteFault before after bytes part = (part, inl refl)
cut_is Memory before after bytes part = (part, inr refl)
cut_is Done before after bytes part = absurd part
cut_is Words before after bytes part = absurd part
cut_is ReadFault before after bytes part = absurd part
cut_is TooLong before after bytes part = absurd part
cut_is (Lex at) before after bytes part = absurd part
cut_is (Syntax at) before after bytes part = absurd part
cut_is (Name at kind) before after bytes part = absurd part
cut_is (ValuesFull f n) before after bytes part = absurd part
cut_is (InstancesFull n) before after bytes part = absurd part
cut_is (TagWidth n) before after bytes part = absurd part
cut_is (TableFull d t n) before after bytes part = absurd part
cut_is (GroupFull d n) before after bytes part = absurd part
cut_is (Damaged at) before after bytes part = absurd part
cut_is NoSwitch before after bytes part = absurd part
cut_is NoBarrier before after bytes part = absurd part
cut_is (Speaking t) before after bytes part = absurd part
cut_is SessionFull before after bytes part = absurd part
cut_is ScheduleFull before after bytes part = absurd part

-- Frames.

-- one piece more
steps_more : (c mid next : Current) (pieces : List (List ℕ)) (bytes piece frame : List ℕ) → AreSteps c pieces bytes mid → IsStep mid piece frame next
    → AreSteps c (pieces ++ piece ∷ []) (bytes ++ frame) next
steps_more c mid next [] bytes piece frame (nothing, same) step =
    (frame, [], next, subst (λ k. IsStep k piece frame next) same step, (refl, refl), ap (λ (b : List ℕ). b ++ frame) nothing ∙ sym (append-nil frame))
steps_more c mid next (p ∷ pieces) bytes piece frame (first, rest, after, one, others, is) step = (
  first,
  rest ++ frame,
  after,
  one,
  steps_more after mid next pieces rest piece frame others step,
  ap (λ (b : List ℕ). b ++ frame) is ∙ append_assoc first rest frame,
)

frames_more : (first : List ℕ) (others : List (List ℕ)) (frames : List ℕ) (mid next : Current) (piece frame : List ℕ)
    → AreFramesTo first others frames mid → IsStep mid piece frame next
    → AreFramesTo first (others ++ piece ∷ []) (frames ++ frame) next
frames_more first others frames mid next piece frame are step = record {
  start = are.start;
  rest = are.rest ++ frame;
  spelled = are.spelled;
  installed = are.installed;
  steps = steps_more are.start mid next others are.rest piece frame are.steps step;
  framed = ap (λ (b : List ℕ). b ++ frame) are.framed ∙ append_assoc (install_frame are.start.install) are.rest frame;
}

-- the frame of the first piece
pub first_frame : (first : List ℕ) (c : Current) → Spells first c.document → IsInstalled c.document c.install → AreFramesTo first [] (install_frame c.install) c
first_frame first c spelled installed =
    record { start = c; rest = []; spelled = spelled; installed = installed; steps = (refl, refl); framed = sym (append-nil (install_frame c.install)) }

-- What keeps a piece from being read or judged.

-- no piece was read
pub unread_answer : (left mid now before after : Option (List ℕ)) (pieces : List (List ℕ)) (pending frames : List ℕ) (u : Unread)
    → Parted left mid pieces pending → AreFrames pieces frames → Appends before after frames
    → Reads mid now (λ read. IsUnread u document_limit (pending ++ read) now) → IsSessionAnswer (unread_outcome u) (streams left now before after)
unread_answer left mid now before after pieces pending frames unread.Failed parted framed put (read, took, why) =
    record {
      pieces = pieces;
      pending = pending ++ read;
      frames = frames;
      read = read_on left mid now pieces pending read parted took;
      why =
          why;
      framed = framed;
      put = put;
    }
unread_answer left mid now before after pieces pending frames unread.TooLong parted framed put (read, took, why) =
    record {
      pieces = pieces;
      pending = pending ++ read;
      frames = frames;
      read = read_on left mid now pieces pending read parted took;
      why =
          why;
      framed = framed;
      put = put;
    }
unread_answer left mid now before after pieces pending frames unread.Memory parted framed put (read, took, why) =
    inl (record {
      pieces = pieces;
      pending = pending ++ read;
      frames = frames;
      read = read_on left mid now pieces pending read parted took;
      why = tt;
      framed = framed;
      put = part_of_all before after frames put;
    })

-- memory ran out, after bytes were read
pub memory_answer : (left mid now before after : Option (List ℕ)) (pieces : List (List ℕ)) (pending frames read : List ℕ)
    → Parted left mid pieces pending → AreFrames pieces frames → Appends before after frames → Consumes mid now read
    → IsSessionAnswer Memory (streams left now before after)
memory_answer left mid now before after pieces pending frames read parted framed put took =
    inl (record {
      pieces = pieces;
      pending = pending ++ read;
      frames = frames;
      read = read_on left mid now pieces pending read parted took;
      why = tt;
      framed = framed;
      put = part_of_all before after frames put;
    })

-- The last frame is cut.

cut_answer : (left now before after : Option (List ℕ)) (first : List ℕ) (others : List (List ℕ)) (frames new : List ℕ) (next : Current)
    (last : Bool) (o : Outcome)
    → MatchBool last (Whole left now (first ∷ others)) (Parted left now (first ∷ others) new) → AreFramesTo first others frames next
    → AppendsPart before after frames → length new ≤ chunk_size → length others < pieces_limit → (o ≡ WriteFault) ⊎ (o ≡ Memory)
    → IsSessionAnswer o (streams left now before after)
cut_answer left now before after first others frames new next true o read framed put short few why = by o why
  where
    ended : IsEnded (streams left now before after) AppendsPart
    ended = record {
      first = first;
      others = others;
      frames = frames;
      last = next;
      read = read;
      few = few;
      framed = framed;
      put = part_of_more before after frames (install_frame next.install) put;
    }

    by : (o : Outcome) → (o ≡ WriteFault) ⊎ (o ≡ Memory) → IsSessionAnswer o (streams left now before after)
    by o (inl is) = subst (λ o. IsSessionAnswer o (streams left now before after)) (sym is) (inr ended)
    by o (inr is) = subst (λ o. IsSessionAnswer o (streams left now before after)) (sym is) (inr ended)
cut_answer left now before after first others frames new next false o read framed put short few why = by o why
  where
    by : (o : Outcome) → (o ≡ WriteFault) ⊎ (o ≡ Memory) → IsSessionAnswer o (streams left now before after)
    by o (inl is) =
        subst (λ o. IsSessionAnswer o (streams left now before after)) (sym is)
        (inl (record { pieces = first ∷ others; pending = new; frames = frames; read = read; why = short; framed = (next, framed); put = put }))
    by o (inr is) =
        subst (λ o. IsSessionAnswer o (streams left now before after)) (sym is)
        (inl (record { pieces = first ∷ others; pending = new; frames = frames; read = read; why = tt; framed = (next, framed); put = put }))

-- The first piece.

-- it is judged
pub first_read : (left now : Option (List ℕ)) (pending new : List ℕ) (p : Piece) → pending ≡ [] → Reads left now (λ read. IsNext (pending ++ read) now new p)
    → MatchBool p.is_last (Whole left now (p.text.items ∷ [])) (Parted left now (p.text.items ∷ []) new)
first_read left now pending new p empty read = comes left left now [] pending new p (subst (Parted left left []) (sym empty) (none_parted left)) read

-- it was not read
pub first_unread : (left now put : Option (List ℕ)) (pending : List ℕ) (u : Unread) → pending ≡ []
    → Reads left now (λ read. IsUnread u document_limit (pending ++ read) now)
    → IsSessionAnswer (unread_outcome u) (streams left now put put)
first_unread left now put pending u empty read =
    unread_answer left left now put put [] pending [] u (subst (Parted left left []) (sym empty) (none_parted left)) refl (Appends-nil put) read

-- it is not a document within all limits
pub first_refused : (left now put : Option (List ℕ)) (pending new : List ℕ) (p : Piece) (o : Outcome) → pending ≡ []
    → Reads left now (λ read. IsNext (pending ++ read) now new p)
    → length new ≤ chunk_size → HasNoInstall o p.text.items → IsOfText o → IsSessionAnswer o (streams left now put put)
first_refused left now put pending new p o empty read short told of_text = by o told of_text
  where
    first : (last : Bool) → MatchBool last (Whole left now (p.text.items ∷ [])) (Parted left now (p.text.items ∷ []) new)
        → HasFirst (streams left now put put) p.text.items
    first true is = inl is
    first false is = inr (new, is, short)

    judged : HasFirst (streams left now put put) p.text.items
    judged = first p.is_last (first_read left now pending new p empty read)

    by : (o : Outcome) → HasNoInstall o p.text.items → IsOfText o → IsSessionAnswer o (streams left now put put)
    by Memory told of_text =
        memory_answer left left now put put [] pending [] read.0 (subst (Parted left left []) (sym empty) (none_parted left)) refl (Appends-nil put) read.1
    by Done told of_text = absurd of_text
    by Words told of_text = absurd of_text
    by ReadFault told of_text = absurd of_text
    by TooLong told of_text = absurd of_text
    by SessionFull told of_text = absurd of_text
    by WriteFault told of_text = absurd of_text
    by (Lex at) told of_text = (p.text.items, judged, told)
    by (Syntax at) told of_text = (p.text.items, judged, told)
    by (Name at kind) told of_text = (p.text.items, judged, told)
    by (ValuesFull f n) told of_text = (p.text.items, judged, told)
    by (InstancesFull n) told of_text = (p.text.items, judged, told)
    by (TagWidth n) told of_text = (p.text.items, judged, told)
    by (TableFull d t n) told of_text = (p.text.items, judged, told)
    by (GroupFull d n) told of_text = (p.text.items, judged, told)
    by (Damaged at) told of_text = (p.text.items, judged, told)
    by NoSwitch told of_text = (p.text.items, judged, told)
    by NoBarrier told of_text = (p.text.items, judged, told)
    by (Speaking t) told of_text = (p.text.items, judged, told)
    by ScheduleFull told of_text = (p.text.items, judged, told)

-- its frame is put
pub first_put : (left now before after : Option (List ℕ)) (pending new : List ℕ) (p : Piece) (c : Current) → pending ≡ []
    → Reads left now (λ read. IsNext (pending ++ read) now new p)
    → Spells p.text.items c.document → IsInstalled c.document c.install → Appends before after (install_frame c.install)
    → IsGoingOn (streams left now before after) new p.is_last c 0
first_put left now before after pending new p c empty read spelled installed put = record {
  first = p.text.items;
  others = [];
  frames = install_frame c.install;
  read = first_read left now pending new p empty read;
  count = refl;
  framed = first_frame p.text.items c spelled installed;
  put = put;
}

-- or cut
pub first_cut : (left now before after : Option (List ℕ)) (pending new : List ℕ) (p : Piece) (c : Current) (o : Outcome) → pending ≡ []
    → Reads left now (λ read. IsNext (pending ++ read) now new p)
    → length new ≤ chunk_size → Spells p.text.items c.document → IsInstalled c.document c.install → IsCut o before after (install_frame c.install)
    → IsSessionAnswer o (streams left now before after)
first_cut left now before after pending new p c o empty read short spelled installed cut =
    let is = cut_is o before after (install_frame c.install) cut in
    cut_answer left now before after p.text.items [] (install_frame c.install) new c p.is_last o (first_read left now pending new p empty read)
    (first_frame p.text.items c spelled installed) is.0 short (omega arith) is.1

-- The later pieces.

-- one was not read
pub later_unread : (left mid now before after : Option (List ℕ)) (pending : List ℕ) (c : Current) (n : ℕ) (u : Unread)
    → IsGoingOn (streams left mid before after) pending false c n
    → Reads mid now (λ read. IsUnread u document_limit (pending ++ read) now) → IsSessionAnswer (unread_outcome u) (streams left now before after)
later_unread left mid now before after pending c n u is read =
    unread_answer left mid now before after (is.first ∷ is.others) pending is.frames u is.read (c, is.framed) is.put read

-- memory ran out while it was judged
pub later_memory : (left mid now before after : Option (List ℕ)) (pending new : List ℕ) (c : Current) (n : ℕ) (p : Piece)
    → IsGoingOn (streams left mid before after) pending false c n
    → Reads mid now (λ read. IsNext (pending ++ read) now new p) → IsSessionAnswer Memory (streams left now before after)
later_memory left mid now before after pending new c n p is read =
    memory_answer left mid now before after (is.first ∷ is.others) pending is.frames read.0 is.read (c, is.framed) is.put read.1

one_more : (others : List (List ℕ)) (piece : List ℕ) (n : ℕ) → length others ≡ n → length (others ++ piece ∷ []) ≡ n + 1
one_more others piece n is = omega (arith, length-append others (piece ∷ []), is)

-- its frame is put
pub later_put : (left mid now before middle after : Option (List ℕ)) (pending new frame : List ℕ) (c next : Current) (n : ℕ) (p : Piece)
    → IsGoingOn (streams left mid before middle) pending false c n → Reads mid now (λ read. IsNext (pending ++ read) now new p)
    → IsStep c p.text.items frame next → Appends middle after frame → IsGoingOn (streams left now before after) new p.is_last next (n + 1)
later_put left mid now before middle after pending new frame c next n p is read step put = record {
  first = is.first;
  others = is.others ++ p.text.items ∷ [];
  frames = is.frames ++ frame;
  read = comes left mid now (is.first ∷ is.others) pending new p is.read read;
  count = one_more is.others p.text.items n is.count;
  framed = frames_more is.first is.others is.frames c next p.text.items frame is.framed step;
  put = Appends-trans before middle after is.frames frame is.put put;
}

-- or cut
pub later_cut : (left mid now before middle after : Option (List ℕ)) (pending new frame : List ℕ) (c next : Current) (n : ℕ) (p : Piece) (o : Outcome)
    → IsGoingOn (streams left mid before middle) pending false c n → Reads mid now (λ read. IsNext (pending ++ read) now new p)
    → IsStep c p.text.items frame next → IsCut o middle after frame → length new ≤ chunk_size → n + 1 < pieces_limit
    → IsSessionAnswer o (streams left now before after)
later_cut left mid now before middle after pending new frame c next n p o is read step cut short few =
    let parts = cut_is o middle after frame cut in
    let count = one_more is.others p.text.items n is.count in
    cut_answer left now before after is.first (is.others ++ p.text.items ∷ []) (is.frames ++ frame) new next p.is_last o
    (comes left mid now (is.first ∷ is.others) pending new p is.read read)
    (frames_more is.first is.others is.frames c next p.text.items frame is.framed step)
    (part_after before middle after is.frames frame is.put parts.0) short (omega (arith, count, few)) parts.1

-- The end.

-- the last install is put
pub end_put : (left rest before middle after : Option (List ℕ)) (pending : List ℕ) (c : Current) (n : ℕ)
    → IsGoingOn (streams left rest before middle) pending true c n → n < pieces_limit
    → Appends middle after (install_frame c.install) → IsSessionAnswer Done (streams left rest before after)
end_put left rest before middle after pending c n is few put = record {
  first = is.first;
  others = is.others;
  frames = is.frames;
  last = c;
  read = is.read;
  few = omega (arith, few, is.count);
  framed = is.framed;
  put = Appends-trans before middle after is.frames (install_frame c.install) is.put put;
}

-- or cut
pub end_cut : (left rest before middle after : Option (List ℕ)) (pending : List ℕ) (c : Current) (n : ℕ) (o : Outcome)
    → IsGoingOn (streams left rest before middle) pending true c n
    → n < pieces_limit → IsCut o middle after (install_frame c.install) → IsSessionAnswer o (streams left rest before after)
end_cut left rest before middle after pending c n o is few cut = by o parts.1
  where
    parts : AppendsPart middle after (install_frame c.install) × ((o ≡ WriteFault) ⊎ (o ≡ Memory))
    parts = cut_is o middle after (install_frame c.install) cut

    ended : IsEnded (streams left rest before after) AppendsPart
    ended = record {
      first = is.first;
      others = is.others;
      frames = is.frames;
      last = c;
      read = is.read;
      few = omega (arith, few, is.count);
      framed = is.framed;
      put = part_after before middle after is.frames (install_frame c.install) is.put parts.0;
    }

    by : (o : Outcome) → (o ≡ WriteFault) ⊎ (o ≡ Memory) → IsSessionAnswer o (streams left rest before after)
    by o (inl same) = subst (λ o. IsSessionAnswer o (streams left rest before after)) (sym same) (inr ended)
    by o (inr same) = subst (λ o. IsSessionAnswer o (streams left rest before after)) (sym same) (inr ended)

-- another piece begins after the last one that may come
pub full : (left rest before after : Option (List ℕ)) (pending : List ℕ) (c : Current) (n : ℕ)
    → IsGoingOn (streams left rest before after) pending false c n → n + 1 ≡ pieces_limit
    → length pending ≤ chunk_size → IsSessionAnswer SessionFull (streams left rest before after)
full left rest before after pending c n is all short = record {
  pieces = is.first ∷ is.others;
  pending = pending;
  frames = is.frames;
  read = is.read;
  why = (omega (arith, is.count, all), short);
  framed = (c, is.framed);
  put = is.put;
}
