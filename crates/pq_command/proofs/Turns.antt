-- What each turn of a session adds, and how a session ends.
use Rattle.std.proofs.Common.{◌≡◌, ◌≢◌, ℕ, zero, suc, ◌+◌, ◌<◌, ◌≤◌, true, false, List, [], ◌∷◌, ◌++◌, length, take, drop, refl, sym, ap}
use Rattle.std.proofs.Common.{◌∙◌, subst, arith, append_assoc, append-nil, length-append, take_all, Option, inl, inr, true≢false}
use Rattle.std.specs.Io.KnownBytes.{Appends, Consumes, IsAtEnd, Keeps}
use Rattle.std.proofs.KnownBytes.{Appends-nil, Appends-trans, Consumes-kept, Consumes-trans}
use Rattle.std.proofs.Math.Seq.{take-append-add}
use Rattle.std.proofs.lemmas.Grind.{flat_map-append}
use Rattle.pq_io.specs.Pieces.{AppendsPart}
use Rattle.pq_model.specs.declared.message.Message.{Message}
use Rattle.pq_speaker.specs.declared.talk.Talk.{Talk}
use Rattle.pq_speaker.specs.declared.talk.Talk.TheVariants.{Greeting, Asking, Installing, Installed, Failed}
use Rattle.pq_speaker.specs.Rules.{Session, has_failed, replies_bytes, reply_bytes}
use Rattle.pq_speaker.specs.Speaking.{Heard, State, heard, hello_bytes, opened}
use Rattle.pq_speaker.proofs.Pieces.{heard-append}
use Rattle.pq_command.specs.declared.outcome.Outcome.{Outcome}
use Rattle.pq_command.specs.declared.outcome.Outcome.TheVariants.{Done, Words, ReadFault, TooLong, Lex, Syntax, Name, ValuesFull}
use Rattle.pq_command.specs.declared.outcome.Outcome.TheVariants.{InstancesFull, TagWidth, TableFull, GroupFull, Damaged, NoSwitch}
use Rattle.pq_command.specs.declared.outcome.Outcome.TheVariants.{NoBarrier, Speaking, SessionFull, ScheduleFull, WriteFault, Memory}
use Rattle.pq_command.specs.declared.reading.Unread.{Unread}
use Rattle.pq_command.specs.declared.reading.Unread.TheVariants as unread
use Rattle.pq_command.specs.Answers.{OnRefusalInTurns, Streams, streams}
use Rattle.pq_command.specs.Reading.{install_limit, piece_size}
use Rattle.pq_command.specs.Speaks.{Bars, Hears, IsOpened, IsReadEnough, IsSpeakAnswer, IsTurnEnd, IsUnderWay, IsUnread, SaysPart}
use Rattle.pq_command.specs.Speaks.{end_outcome, said, sends, session_of, state_after, stated, talk_after, unread_outcome}
use Rattle.pq_command.proofs.Headings.{few-follow}
use Rattle.pq_command.proofs.Openings.{opened-append}

-- what comes later is heard in the state that what came before leaves
pub state-append : (session : Session) (came more : List ℕ) → state_after session (came ++ more) ≡ (heard (state_after session came) more).state
state-append session came more = ap (λ (h : Heard). h.state) (heard-append (opened session) came more)

-- and answered after what was said before
pub said-append : (session : Session) (came more : List ℕ) → said session (came ++ more) ≡ said session came ++ sends (state_after session came) more
said-append session came more =
    let first = (heard (opened session) came).replies in
    let second = (heard (state_after session came) more).replies in
    let joined : sends (opened session) (came ++ more) ≡ sends (opened session) came ++ sends (state_after session came) more =
    ap (λ (h : Heard). replies_bytes session.messages h.replies) (heard-append (opened session) came more)
    ∙ flat_map-append (reply_bytes session.messages) first second in
    ap (λ (rest : List ℕ). hello_bytes ++ rest) joined ∙ sym (append_assoc hello_bytes _ _)

-- A turn.

-- after a piece that is answered the session is under way still
pub goes-on : (datapath : ℕ) (left mid now before middle after : Option (List ℕ)) (speaker next : State) (text piece : List ℕ)
    → IsUnderWay datapath (streams left mid before middle) speaker text → Consumes mid now piece → next ≡ (heard speaker piece).state
    → Appends middle after (sends speaker piece) → has_failed next.talk ≡ false → IsUnderWay datapath (streams left now before after) next (text ++ piece)
goes-on datapath left mid now before middle after speaker next text piece is read state put going = record {
  session = is.session;
  came = is.came ++ piece;
  read = Consumes-trans left mid now text piece is.read read;
  opened = opened-append datapath text piece is.session is.came is.opened;
  state = state ∙ ap (λ (s : State). (heard s piece).state) is.state ∙ sym (state-append is.session is.came piece);
  put = subst (Appends before after) (sym (said-append is.session is.came piece))
      (Appends-trans before middle after _ _ is.put (subst (λ (s : State). Appends middle after (sends s piece)) is.state put));
  going = going;
}

-- it hasn't failed
still-going : (datapath : ℕ) (s : Streams) (speaker : State) (text : List ℕ) (is : IsUnderWay datapath s speaker text)
    → has_failed (talk_after is.session is.came) ≡ false
still-going datapath s speaker text is = subst (λ (t : State). has_failed t.talk ≡ false) is.state is.going

-- a read that fails
pub read-fails : (datapath : ℕ) (left mid now before after : Option (List ℕ)) (speaker : State) (text : List ℕ)
    → IsUnderWay datapath (streams left mid before after) speaker text → Keeps mid now → length text ≤ install_limit
    → IsSpeakAnswer datapath ReadFault (streams left now before after)
read-fails datapath left mid now before after speaker text is kept short =
    (text, Consumes-kept left mid now text is.read kept, (short, inr (is.session, is.came, is.opened, still-going datapath _ speaker text is, is.put)))

-- more bytes than may be read
pub too-long : (datapath : ℕ) (left mid now before after : Option (List ℕ)) (speaker : State) (text piece : List ℕ)
    → IsUnderWay datapath (streams left mid before after) speaker text → Consumes mid now piece → length text ≤ install_limit
    → install_limit < length text + length piece → length piece ≤ piece_size → IsSpeakAnswer datapath TooLong (streams left now before after)
too-long datapath left mid now before after speaker text piece is read short more room = (
  text ++ piece,
  Consumes-trans left mid now text piece is.read read,
  (
    omega (arith, more, length-append text piece),
    (text, piece, refl, room, (short, inr (is.session, is.came, is.opened, still-going datapath _ speaker text is, is.put))),
  ),
)

-- the end of input
pub ends : (datapath : ℕ) (left mid now before after : Option (List ℕ)) (speaker : State) (text : List ℕ)
    → IsUnderWay datapath (streams left mid before after) speaker text → Consumes mid now [] → IsAtEnd now → length text ≤ install_limit
    → IsSpeakAnswer datapath (end_outcome speaker.talk) (streams left now before after)
ends datapath left mid now before after speaker text is read end short = by speaker.talk refl
  where
    all : Consumes left now text
    all = subst (Consumes left now) (append-nil text) (Consumes-trans left mid now text [] is.read read)

    talk : speaker.talk ≡ talk_after is.session is.came
    talk = ap (λ (s : State). s.talk) is.state

    stopped : (t : Talk) → speaker.talk ≡ t → (t ≢ Installed) → IsSpeakAnswer datapath (Speaking t) (streams left now before after)
    stopped t e other =
        (text, all, (short, is.session, is.came, is.opened, (inl (end, still-going datapath _ speaker text is), sym e ∙ talk, other, is.put)))

    by : (t : Talk) → speaker.talk ≡ t → IsSpeakAnswer datapath (end_outcome t) (streams left now before after)
    by Installed e = (text, all, (short, is.session, is.came, is.opened, (end, sym talk ∙ e, is.put)))
    by Greeting e = stopped Greeting e (λ same. cc)
    by Asking e = stopped Asking e (λ same. cc)
    by Installing e = stopped Installing e (λ same. cc)
    by (Failed r) e = stopped (Failed r) e (λ same. cc)

-- running out of memory between two pieces
pub no-memory : (datapath : ℕ) (left now before after : Option (List ℕ)) (speaker : State) (text : List ℕ)
    → IsUnderWay datapath (streams left now before after) speaker text → length text ≤ install_limit
    → IsSpeakAnswer datapath Memory (streams left now before after)
no-memory datapath left now before after speaker text is short =
    inr (
      text,
      is.read,
      (
        short,
        is.session,
        is.came,
        is.opened,
        record {
          before = is.came;
          last = [];
          count = length (said is.session is.came);
          pieces = sym (append-nil is.came);
          short = omega arith;
          put = subst (Appends before after) (sym (take_all _ (said is.session is.came) (omega arith))) is.put;
          answered = inr (omega arith);
        },
      ),
    )

-- a part of the answer to the last piece
part : (session : Session) (came piece : List ℕ) (left now before middle after : Option (List ℕ)) (n : ℕ) → length piece ≤ piece_size
    → Appends before middle (said session came)
    → Appends middle after (take n (sends (state_after session came) piece)) → SaysPart (streams left now before after) session (came ++ piece)
part session came piece left now before middle after n room first next =
    let whole : take (length (said session came) + n) (said session (came ++ piece)) ≡ said session came ++ take n (sends (state_after session came) piece) =
    ap (take (length (said session came) + n)) (said-append session came piece) ∙ take-append-add (said session came) _ n in
    record {
      before = came;
      last = piece;
      count = length (said session came) + n;
      pieces = refl;
      short = room;
      put = subst (Appends before after) (sym whole) (Appends-trans before middle after _ _ first next);
      answered = inr (omega arith);
    }

-- a failed session
installed-goes : (t : Talk) → has_failed t ≡ true → t ≢ Installed
installed-goes (Failed r) failed = λ same. cc
installed-goes Greeting failed = λ same. cc
installed-goes Asking failed = λ same. cc
installed-goes Installing failed = λ same. cc
installed-goes Installed failed = λ same. true≢false (sym failed)

-- a piece that ends the session
pub turn-ends : (datapath : ℕ) (left mid now before middle after : Option (List ℕ)) (speaker : State) (text piece : List ℕ) (o : Outcome)
    → IsUnderWay datapath (streams left mid before middle) speaker text → Consumes mid now piece
    → length text + length piece ≤ install_limit → length piece ≤ piece_size
    → IsTurnEnd (heard speaker piece).state.talk (sends speaker piece) o middle after → IsSpeakAnswer datapath o (streams left now before after)
turn-ends datapath left mid now before middle after speaker text piece o is read fits room end = by o end
  where
    all : Consumes left now (text ++ piece)
    all = Consumes-trans left mid now text piece is.read read

    short : length (text ++ piece) ≤ install_limit
    short = omega (arith, fits, length-append text piece)

    opened-now : IsOpened datapath (text ++ piece) is.session (is.came ++ piece)
    opened-now = opened-append datapath text piece is.session is.came is.opened

    cut : (n : ℕ) → Appends middle after (take n (sends speaker piece))
        → Hears datapath (streams left now before after) (SaysPart (streams left now before after))
    cut n put = (
      text ++ piece,
      all,
      (
        short,
        is.session,
        is.came ++ piece,
        opened-now,
        part is.session is.came piece left now before middle after n room is.put
            (subst (λ (s : State). Appends middle after (take n (sends s piece))) is.state put),
      ),
    )

    by : (o : Outcome) → IsTurnEnd (heard speaker piece).state.talk (sends speaker piece) o middle after
        → IsSpeakAnswer datapath o (streams left now before after)
    by WriteFault (n, put) = cut n put
    by Memory (n, put) = inr (cut n put)
    by (Speaking t) (is-talk, failed, put) =
        let talk : t ≡ talk_after is.session (is.came ++ piece) =
        is-talk ∙ ap (λ (s : State). (heard s piece).state.talk) is.state ∙ ap (λ (s : State). s.talk) (sym (state-append is.session is.came piece)) in (
          text ++ piece,
          all,
          (
            short,
            is.session,
            is.came ++ piece,
            opened-now,
            (
              inr (subst (λ (u : Talk). has_failed u ≡ true) talk failed, (is.came, piece, refl, room, still-going datapath _ speaker text is)),
              talk,
              installed-goes t failed,
              subst (Appends before after) (sym (said-append is.session is.came piece))
                  (Appends-trans before middle after _ _ is.put (subst (λ (s : State). Appends middle after (sends s piece)) is.state put)),
            ),
          ),
        )
    by Done end = absurd end
    by Words end = absurd end
    by ReadFault end = absurd end
    by TooLong end = absurd end
    by (Lex at) end = absurd end
    by (Syntax at) end = absurd end
    by (Name at kind) end = absurd end
    by (ValuesFull f n) end = absurd end
    by (InstancesFull n) end = absurd end
    by (TagWidth n) end = absurd end
    by (TableFull d t n) end = absurd end
    by (GroupFull d n) end = absurd end
    by (Damaged at) end = absurd end
    by NoSwitch end = absurd end
    by NoBarrier end = absurd end
    by SessionFull end = absurd end
    by ScheduleFull end = absurd end

-- The beginning.

-- a part of bytes in front of others is a part of all
part-of : (n : ℕ) (xs ys : List ℕ) → (m : ℕ) × (take m (xs ++ ys) ≡ take n xs)
part-of zero xs ys = (0, refl)
part-of (suc n) [] ys = (0, refl)
part-of (suc n) (x ∷ xs) ys = let more = part-of n xs ys in (suc more.0, ap (λ (zs : List ℕ). x ∷ zs) more.1)

-- the HELLO, and what is said for the first bytes
pub first-said : (session : Session) (speaker : State) (first hello : List ℕ) (before middle after : Option (List ℕ)) → hello ≡ hello_bytes
    → speaker ≡ opened session
    → Appends before middle hello → Appends middle after (sends speaker first) → Appends before after (said session first)
first-said session speaker first hello before middle after is state put next =
    Appends-trans before middle after hello_bytes (sends (opened session) first) (subst (Appends before middle) is put)
    (subst (λ (s : State). Appends middle after (sends s first)) state next)

-- a HELLO that isn't written
pub hello-fails : (session : Session) (t : Talk) (first hello : List ℕ) (before after : Option (List ℕ)) (o : Outcome) → hello ≡ hello_bytes → o ≡ WriteFault
    → AppendsPart before after hello → IsTurnEnd t (said session first) o before after
hello-fails session t first hello before after o is fault (n, put) =
    let some = part-of n hello_bytes (sends (opened session) first) in
    subst (λ (p : Outcome). IsTurnEnd t (said session first) p before after) (sym fault)
    (some.0, subst (Appends before after) (ap (take n) is ∙ sym some.1) put)

-- first bytes that end the session
pub first-ends : (session : Session) (speaker : State) (first hello : List ℕ) (before middle after : Option (List ℕ)) (o : Outcome) → hello ≡ hello_bytes
    → speaker ≡ opened session → Appends before middle hello → IsTurnEnd (heard speaker first).state.talk (sends speaker first) o middle after
    → IsTurnEnd (talk_after session first) (said session first) o before after
first-ends session speaker first hello before middle after o is state put end =
    by o (subst (λ (s : State). IsTurnEnd (heard s first).state.talk (sends s first) o middle after) state end)
  where
    greeted : Appends before middle hello_bytes
    greeted = subst (Appends before middle) is put

    cut : (n : ℕ) → Appends middle after (take n (sends (opened session) first)) → AppendsPart before after (said session first)
    cut n next = (
      length hello_bytes + n,
      subst (Appends before after) (sym (take-append-add hello_bytes (sends (opened session) first) n))
          (Appends-trans before middle after _ _ greeted next),
    )

    by : (o : Outcome) → IsTurnEnd (talk_after session first) (sends (opened session) first) o middle after
        → IsTurnEnd (talk_after session first) (said session first) o before after
    by WriteFault (n, next) = cut n next
    by Memory (n, next) = cut n next
    by (Speaking t) (talk, failed, next) = (talk, failed, Appends-trans before middle after _ _ greeted next)
    by Done end = absurd end
    by Words end = absurd end
    by ReadFault end = absurd end
    by TooLong end = absurd end
    by (Lex at) end = absurd end
    by (Syntax at) end = absurd end
    by (Name at kind) end = absurd end
    by (ValuesFull f n) end = absurd end
    by (InstancesFull n) end = absurd end
    by (TagWidth n) end = absurd end
    by (TableFull d t n) end = absurd end
    by (GroupFull d n) end = absurd end
    by (Damaged at) end = absurd end
    by NoSwitch end = absurd end
    by NoBarrier end = absurd end
    by SessionFull end = absurd end
    by ScheduleFull end = absurd end

-- a session that was opened is under way
pub begun : (datapath : ℕ) (left now before after : Option (List ℕ)) (text first : List ℕ) (at : ℕ) (messages : List Message)
    (speaker : State) → Consumes left now text
    → IsOpened datapath text (session_of datapath messages) (drop at text) → first ≡ drop at text → speaker ≡ state_after (session_of datapath messages) first
    → Appends before after (said (session_of datapath messages) first) → has_failed speaker.talk ≡ false
    → IsUnderWay datapath (streams left now before after) speaker text
begun datapath left now before after text first at messages speaker read is same state put going = record {
  session = session_of datapath messages;
  came = drop at text;
  read = read;
  opened = is;
  state = state ∙ ap (state_after (session_of datapath messages)) same;
  put = subst (λ (came : List ℕ). Appends before after (said (session_of datapath messages) came)) same put;
  going = going;
}

-- what is read with the install is a piece at the most
pub first-short : (datapath : ℕ) (rest : Option (List ℕ)) (text : List ℕ) (session : Session) (came : List ℕ)
    → IsReadEnough rest text → IsOpened datapath text session came → length came ≤ piece_size
first-short datapath rest text session came enough is =
    let needed = enough.needed in
    let few = few-follow needed.0 needed.1 _ needed.4 (ap stated (sym needed.2) ∙ is.line) in
    omega (arith, few, needed.3, length-append is.bytes came)

-- how the first bytes of the switch end the session
pub start-ends : (datapath : ℕ) (left now before after : Option (List ℕ)) (text : List ℕ) (session : Session) (came : List ℕ) (o : Outcome)
    → Consumes left now text → length text ≤ install_limit → IsReadEnough now text → IsOpened datapath text session came
    → IsTurnEnd (talk_after session came) (said session came) o before after → IsSpeakAnswer datapath o (streams left now before after)
start-ends datapath left now before after text session came o read short enough is end = by o end
  where
    room : length came ≤ piece_size
    room = first-short datapath now text session came enough is

    cut : (n : ℕ) → Appends before after (take n (said session came))
        → Hears datapath (streams left now before after) (SaysPart (streams left now before after))
    cut n put =
        (text, read, (short, session, came, is, record { before = []; last = came; count = n; pieces = refl; short = room; put = put; answered = inl refl }))

    by : (o : Outcome) → IsTurnEnd (talk_after session came) (said session came) o before after → IsSpeakAnswer datapath o (streams left now before after)
    by WriteFault (n, put) = cut n put
    by Memory (n, put) = inr (cut n put)
    by (Speaking t) (talk, failed, put) = (
      text,
      read,
      (
        short,
        session,
        came,
        is,
        (
          inr (subst (λ (u : Talk). has_failed u ≡ true) talk failed, ([], came, refl, room, refl)),
          talk,
          installed-goes t failed,
          put,
        ),
      ),
    )
    by Done end = absurd end
    by Words end = absurd end
    by ReadFault end = absurd end
    by TooLong end = absurd end
    by (Lex at) end = absurd end
    by (Syntax at) end = absurd end
    by (Name at kind) end = absurd end
    by (ValuesFull f n) end = absurd end
    by (InstancesFull n) end = absurd end
    by (TagWidth n) end = absurd end
    by (TableFull d t n) end = absurd end
    by (GroupFull d n) end = absurd end
    by (Damaged at) end = absurd end
    by NoSwitch end = absurd end
    by NoBarrier end = absurd end
    by SessionFull end = absurd end
    by ScheduleFull end = absurd end

-- why nothing is installed for what was read
pub start-bars : (datapath : ℕ) (left now before : Option (List ℕ)) (text : List ℕ) (o : Outcome)
    → Consumes left now text → length text ≤ install_limit → IsReadEnough now text → Bars datapath o text
    → IsSpeakAnswer datapath o (streams left now before before)
start-bars datapath left now before text o read short enough bars = by o bars
  where
    by : (o : Outcome) → Bars datapath o text → IsSpeakAnswer datapath o (streams left now before before)
    by Memory bars = inl (text, read, (omega (arith, short), Appends-nil before))
    by (Syntax at) bars = (text, read, (short, enough, bars))
    by (Damaged at) bars = (text, read, (short, enough, bars))
    by NoSwitch bars = (text, read, (short, enough, bars))
    by NoBarrier bars = (text, read, (short, enough, bars))
    by Done bars = absurd bars
    by Words bars = absurd bars
    by ReadFault bars = absurd bars
    by TooLong bars = absurd bars
    by (Lex at) bars = absurd bars
    by (Name at kind) bars = absurd bars
    by (ValuesFull f n) bars = absurd bars
    by (InstancesFull n) bars = absurd bars
    by (TagWidth n) bars = absurd bars
    by (TableFull d t n) bars = absurd bars
    by (GroupFull d n) bars = absurd bars
    by (Speaking t) bars = absurd bars
    by SessionFull bars = absurd bars
    by ScheduleFull bars = absurd bars
    by WriteFault bars = absurd bars

-- an input that wasn't read as far as its install
pub unread-stops : (datapath : ℕ) (left now before : Option (List ℕ)) (text : List ℕ) (u : Unread)
    → Consumes left now text → IsUnread u text → IsSpeakAnswer datapath (unread_outcome u) (streams left now before before)
unread-stops datapath left now before text unread.Failed read (short, needs) = (text, read, (short, inl (needs, Appends-nil before)))
unread-stops datapath left now before text unread.TooLong read (long, (front, last, is, room, (short, needs))) =
    (text, read, (long, (front, last, is, room, (short, inl (needs, Appends-nil before)))))
unread-stops datapath left now before text unread.Memory read short = inl (text, read, (short, Appends-nil before))

-- Outcomes of a session under way.

-- where no outcome that leaves the sink as it was comes, any fact holds of them
pub no-refusal : (o : Outcome) (fact : Type 0) → OnRefusalInTurns o ⊥ → OnRefusalInTurns o fact
no-refusal Done fact none = tt
no-refusal WriteFault fact none = tt
no-refusal ReadFault fact none = tt
no-refusal TooLong fact none = tt
no-refusal (Speaking t) fact none = tt
no-refusal Memory fact none = tt
no-refusal Words fact none = absurd none
no-refusal (Lex at) fact none = absurd none
no-refusal (Syntax at) fact none = absurd none
no-refusal (Name at kind) fact none = absurd none
no-refusal (ValuesFull f n) fact none = absurd none
no-refusal (InstancesFull n) fact none = absurd none
no-refusal (TagWidth n) fact none = absurd none
no-refusal (TableFull d t n) fact none = absurd none
no-refusal (GroupFull d n) fact none = absurd none
no-refusal (Damaged at) fact none = absurd none
no-refusal NoSwitch fact none = absurd none
no-refusal NoBarrier fact none = absurd none
no-refusal SessionFull fact none = absurd none
no-refusal ScheduleFull fact none = absurd none

-- the end of a turn is not a refusal
pub turn-is-none : (t : Talk) (sent : List ℕ) (o : Outcome) (before after : Option (List ℕ)) → IsTurnEnd t sent o before after → OnRefusalInTurns o ⊥
turn-is-none t sent WriteFault before after end = tt
turn-is-none t sent Memory before after end = tt
turn-is-none t sent (Speaking u) before after end = tt
turn-is-none t sent Done before after end = tt
turn-is-none t sent ReadFault before after end = tt
turn-is-none t sent TooLong before after end = tt
turn-is-none t sent Words before after end = end
turn-is-none t sent (Lex at) before after end = end
turn-is-none t sent (Syntax at) before after end = end
turn-is-none t sent (Name at kind) before after end = end
turn-is-none t sent (ValuesFull f n) before after end = end
turn-is-none t sent (InstancesFull n) before after end = end
turn-is-none t sent (TagWidth n) before after end = end
turn-is-none t sent (TableFull d u n) before after end = end
turn-is-none t sent (GroupFull d n) before after end = end
turn-is-none t sent (Damaged at) before after end = end
turn-is-none t sent NoSwitch before after end = end
turn-is-none t sent NoBarrier before after end = end
turn-is-none t sent SessionFull before after end = end
turn-is-none t sent ScheduleFull before after end = end

-- nor is that of the input
pub end-is-none : (t : Talk) → OnRefusalInTurns (end_outcome t) ⊥
end-is-none Installed = tt
end-is-none Greeting = tt
end-is-none Asking = tt
end-is-none Installing = tt
end-is-none (Failed r) = tt
