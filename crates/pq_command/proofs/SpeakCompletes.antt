-- What `speak` accepts is spoken through, where no read and no write failed.
use Rattle.std.proofs.Common.{◌≡◌, ℕ, ◌<◌, ◌≤◌, ◌⊎◌, true, false, ltb, List, [], ◌++◌, length, take, refl, sym, ap, ◌∙◌, subst, arith}
use Rattle.std.proofs.Common.{append-nil, length-append, take_all, Option, Some, None, inl, inr, true≢false}
use Rattle.std.specs.Io.KnownBytes.{Consumes, IsAtEnd}
use Rattle.std.proofs.Math.Seq.{take-append_seam}
use Rattle.std.proofs.lemmas.Bool.{ltb-false}
use Rattle.std.proofs.lemmas.List.{take-append-le}
use Rattle.std.proofs.lemmas.Option.{same_Some}
use Rattle.pq_model.specs.Install.{Install, messages_of}
use Rattle.pq_install.proofs.OneSpelling.{same_length}
use Rattle.pq_install.proofs.Renamed.{spelled_stands}
use Rattle.pq_speaker.specs.declared.talk.Talk.{Talk}
use Rattle.pq_speaker.specs.declared.talk.Talk.TheVariants.{Installed}
use Rattle.pq_speaker.specs.Rules.{Session, has_failed}
use Rattle.pq_speaker.specs.Speaking.{EndsWithOwnBarrier, Heard, IsState, State, heard, kept}
use Rattle.pq_speaker.proofs.Pieces.{failed-heard}
use Rattle.pq_command.specs.declared.outcome.Outcome.{Outcome}
use Rattle.pq_command.specs.declared.outcome.Outcome.TheVariants.{Done, Words, ReadFault, TooLong, Lex, Syntax, Name, ValuesFull}
use Rattle.pq_command.specs.declared.outcome.Outcome.TheVariants.{InstancesFull, TagWidth, TableFull, GroupFull, Damaged, NoSwitch}
use Rattle.pq_command.specs.declared.outcome.Outcome.TheVariants.{NoBarrier, Speaking, SessionFull, ScheduleFull, WriteFault, Memory}
use Rattle.pq_command.specs.Answers.{HasNoFault, HasReadFaults, HasWriteFaults, IsDoneOrMemory, Streams, streams}
use Rattle.pq_command.specs.Reading.{install_limit}
use Rattle.pq_command.specs.Speaks.{Bars, BeginsInstall, IsDamagedIn, IsLast, IsOpened, IsReadEnough, IsSpeakAnswer, IsSpelling}
use Rattle.pq_command.specs.Speaks.{IsSpokenThrough, Stated, has_switch, is_cut, needs_more, state_after, stated, talk_after}
use Rattle.pq_command.proofs.Headings.{followed, none-append, stated-append}
use Rattle.pq_command.proofs.Openings.{one-list, one-session, one-switch, opened-append}
use Rattle.pq_command.proofs.Turns.{state-append}

-- known bytes that were read to their end are what was read
pub whole_text : (bytes text : List ℕ) (now : Option (List ℕ)) → Consumes (Some bytes) now text → IsAtEnd now → bytes ≡ text
whole_text bytes text None taken end = absurd taken
whole_text bytes text (Some rest) taken end = taken ∙ ap (λ r. text ++ r) end ∙ append-nil text

-- known bytes begin with what was read
rest-of : (bytes text : List ℕ) (now : Option (List ℕ)) → Consumes (Some bytes) now text → (rest : List ℕ) × (now ≡ Some rest) × (bytes ≡ text ++ rest)
rest-of bytes text None taken = absurd taken
rest-of bytes text (Some rest) taken = (rest, refl, taken)

-- A session that has failed.

kept-none : (t : Talk) (rest : List ℕ) → has_failed t ≡ true → kept t rest ≡ []
kept-none t rest failed = rw failed refl

-- stays so
failed-append : (session : Session) (came more : List ℕ) → has_failed (talk_after session came) ≡ true → has_failed (talk_after session (came ++ more)) ≡ true
failed-append session came more failed =
    let waits : (state_after session came).waiting ≡ [] = kept-none (talk_after session came) _ failed in
    let is : IsState (state_after session came) = record { cut = rw waits refl; failed = λ e. waits } in
    let same : (heard (state_after session came) more).state ≡ state_after session came =
    ap (λ (h : Heard). h.state) (failed-heard (state_after session came) more failed is) in
    ap (λ (s : State). has_failed s.talk) (state-append session came more ∙ same) ∙ failed

-- The text that is accepted.

-- what was read begins the text, so it opens the same session with a part of what came
shared : (d : ℕ) (bytes text rest : List ℕ) (session other : Session) (came part : List ℕ) → bytes ≡ text ++ rest → IsOpened d bytes session came
    → IsOpened d text other part → (other ≡ session) × (part ++ rest ≡ came)
shared d bytes text rest session other came part is opened begun =
    one-session d bytes other session (part ++ rest) came
    (subst (λ (b : List ℕ). IsOpened d b other (part ++ rest)) (sym is) (opened-append d text rest other part begun)) opened

-- a session doesn't end in another state
not-stopped : (d : ℕ) (bytes : List ℕ) (t : Talk) (s : Streams) (session : Session) (came : List ℕ) → s.left ≡ Some bytes → IsOpened d bytes session came
    → talk_after session came ≡ Installed → IsSpeakAnswer d (Speaking t) s → ⊥
not-stopped d bytes t s session came known opened installed (text, read, (short, other, part, begun, (last, is, going, put))) =
    by (subst (λ (l : Option (List ℕ)). Consumes l s.rest text) known read) last
  where
    by : Consumes (Some bytes) s.rest text → IsLast s.rest other part → ⊥
    by taken (inl (end, going-on)) =
        let same = shared d bytes text [] session other came part (whole_text bytes text s.rest taken end ∙ sym (append-nil text)) opened begun in
        going (is ∙ ap (λ (k : Session). talk_after k part) same.0 ∙ ap (talk_after session) (sym (append-nil part) ∙ same.1) ∙ installed)
    by taken (inr (failed, piece)) =
        let rest = rest-of bytes text s.rest taken in
        let same = shared d bytes text rest.0 session other came part rest.2 opened begun in
        let later : has_failed (talk_after session came) ≡ true =
        ap (λ (c : List ℕ). has_failed (talk_after session c)) (sym same.1)
        ∙ failed-append session part rest.0 (ap (λ (k : Session). has_failed (talk_after k part)) (sym same.0) ∙ failed) in
        true≢false (sym later ∙ ap has_failed installed)

-- The line and the install.

-- a line is there
not-none : (bytes text : List ℕ) (now : Option (List ℕ)) (s : Stated) → Consumes (Some bytes) now text → IsReadEnough now text
    → stated bytes ≡ Some s → stated text ≡ None → ⊥
not-none bytes text now s taken enough is none = by enough.enough
  where
    by : (needs_more text ≡ false) ⊎ IsAtEnd now → ⊥
    by (inl whole) =
        let rest = rest-of bytes text now taken in
        let nothing : stated bytes ≡ None = ap stated rest.2 ∙ none-append text rest.0 none whole in
        let clash : None ≡ Some s = sym nothing ∙ is in
        cc
    by (inr end) =
        let clash : None ≡ Some s = sym none ∙ ap stated (sym (whole_text bytes text now taken end)) ∙ is in
        cc

-- the bytes that were judged are those of the install
same-bytes : (bytes text : List ℕ) (now : Option (List ℕ)) (t : Stated) (install came : List ℕ) → Consumes (Some bytes) now text → IsReadEnough now text
    → stated bytes ≡ Some (record { size = length install; rest = install ++ came }) → stated text ≡ Some t
    → (t.size ≡ length install) × (take t.size t.rest ≡ install)
same-bytes bytes text now t install came taken enough is stated-now = by enough.enough
  where
    here : (rest : List ℕ) → bytes ≡ text ++ rest → (t.size ≡ length install) × (t.rest ++ rest ≡ install ++ came)
    here rest split =
        let same : followed rest t ≡ record { size = length install; rest = install ++ came } =
        same_Some _ _ (sym (stated-append text rest t stated-now) ∙ ap stated (sym split) ∙ is) in
        (ap (λ (s : Stated). s.size) same, ap (λ (s : Stated). s.rest) same)

    front : take (length install) (install ++ came) ≡ install
    front = take-append_seam install came

    by : (needs_more text ≡ false) ⊎ IsAtEnd now → (t.size ≡ length install) × (take t.size t.rest ≡ install)
    by (inl whole) =
        let rest = rest-of bytes text now taken in
        let both = here rest.0 rest.2 in
        let full : ltb (length t.rest) t.size ≡ false = sym (ap (is_cut text) stated-now) ∙ whole in (
          both.0,
          sym (take-append-le t.size t.rest rest.0 (ltb-false (length t.rest) t.size full))
              ∙ ap (take t.size) both.1 ∙ ap (λ (n : ℕ). take n (install ++ came)) both.0 ∙ front,
        )
    by (inr end) =
        let both = here [] (whole_text bytes text now taken end ∙ sym (append-nil text)) in (
          both.0,
          ap (take t.size) (sym (append-nil t.rest) ∙ both.1) ∙ ap (λ (n : ℕ). take n (install ++ came)) both.0 ∙ front,
        )

-- the install isn't damaged
not-damaged : (install : List ℕ) (i : Install) (size at : ℕ) → IsSpelling i install → size ≡ length install → IsDamagedIn size install at → ⊥
not-damaged install i size at spelled whole (inl damaged) =
    spelled_stands install at (length install) i damaged (subst (IsSpelling i) (sym (take_all (length install) install (omega arith))) spelled)
not-damaged install i size at spelled whole (inr (j, read, less)) =
    let same = same_length install i j (length install) at (omega arith) read.within
    (subst (IsSpelling i) (sym (take_all (length install) install (omega arith))) spelled) read.spelled in
    absurd (omega (arith, same, less, whole))

-- nothing bars the session
not-barred : (d : ℕ) (bytes text : List ℕ) (now : Option (List ℕ)) (session : Session) (came : List ℕ) (o : Outcome) → IsOpened d bytes session came
    → Consumes (Some bytes) now text → IsReadEnough now text → Bars d o text → IsDoneOrMemory o
not-barred d bytes text now session came o is taken enough bars = by o bars
  where
    installed : (P : Install → Type 0) → BeginsInstall text P → (i : Install) × IsSpelling i is.bytes × P i
    installed P (t, line, (whole, i, spelled, holds)) =
        let same = same-bytes bytes text now t is.bytes came taken enough is.line line in
        (i, subst (IsSpelling i) same.1 spelled, holds)

    by : (o : Outcome) → Bars d o text → IsDoneOrMemory o
    by (Syntax at) (zero, none) = absurd (not-none bytes text now _ taken enough is.line none)
    by (Damaged at) (t, line, damaged) =
        let same = same-bytes bytes text now t is.bytes came taken enough is.line line in
        absurd (not-damaged is.bytes is.install t.size at is.spelled same.0 (subst (λ (b : List ℕ). IsDamagedIn t.size b at) same.1 damaged))
    by NoSwitch begins =
        let found = installed (λ i. has_switch d i ≡ false) begins in
        absurd (true≢false (sym is.named ∙ one-switch is.install found.0 is.bytes d is.spelled found.1 ∙ found.2))
    by NoBarrier begins =
        let found = installed (λ i. (has_switch d i ≡ true) × (EndsWithOwnBarrier (messages_of i d) → ⊥)) begins in
        absurd (found.2.1 (subst EndsWithOwnBarrier (ap (λ (k : Session). k.messages) is.messages
        ∙ one-list is.install found.0 is.bytes d is.spelled found.1) is.ended))
    by Memory bars = tt
    by Done bars = tt
    by Words bars = absurd bars
    by ReadFault bars = absurd bars
    by TooLong bars = absurd bars
    by (Lex at) bars = absurd bars
    by (Name at kind) bars = absurd bars
    by (ValuesFull f n) bars = absurd bars
    by (InstancesFull n) bars = absurd bars
    by (TagWidth n) bars = absurd bars
    by (TableFull e t n) bars = absurd bars
    by (GroupFull e n) bars = absurd bars
    by (Speaking t) bars = absurd bars
    by SessionFull bars = absurd bars
    by ScheduleFull bars = absurd bars
    by WriteFault bars = absurd bars

-- What is accepted is done.

judged : (d : ℕ) (bytes : List ℕ) (now : Option (List ℕ)) (session : Session) (came : List ℕ) (o : Outcome) → IsOpened d bytes session came
    → ((text : List ℕ) × Consumes (Some bytes) now text × ((length text ≤ install_limit) × IsReadEnough now text × Bars d o text)) → IsDoneOrMemory o
judged d bytes now session came o is (text, taken, (short, enough, bars)) = not-barred d bytes text now session came o is taken enough bars

-- no more is read than there is
not-long : (bytes : List ℕ) (now : Option (List ℕ)) → length bytes ≤ install_limit
    → (text : List ℕ) → Consumes (Some bytes) now text → install_limit < length text → ⊥
not-long bytes now fits text taken long =
    let rest = rest-of bytes text now taken in
    absurd (omega (arith, ap length rest.2, length-append text rest.0, long, fits))

pub spoken : (d : ℕ) (bytes : List ℕ) (now before after : Option (List ℕ)) (reads read writes written : ℕ) → HasNoFault reads read → HasNoFault writes written
    → (o : Outcome) → IsSpeakAnswer d o (streams (Some bytes) now before after) → HasReadFaults o reads read → HasWriteFaults o writes written
    → length bytes ≤ install_limit → IsSpokenThrough d bytes → IsDoneOrMemory o
spoken d bytes now before after reads read writes written no_read no_write o answer read_faults write_faults fits (session, came, is, installed) =
    by o answer read_faults write_faults
  where
    by : (o : Outcome) → IsSpeakAnswer d o (streams (Some bytes) now before after) → HasReadFaults o reads read
        → HasWriteFaults o writes written → IsDoneOrMemory o
    by Done answer read_faults write_faults = tt
    by Memory answer read_faults write_faults = tt
    by ReadFault answer read_faults write_faults = no_read read_faults
    by WriteFault answer read_faults write_faults = no_write write_faults
    by TooLong answer read_faults write_faults = not-long bytes now fits answer.0 answer.1 answer.2.0
    by (Speaking t) answer read_faults write_faults = not-stopped d bytes t (streams (Some bytes) now before after) session came refl is installed answer
    by (Syntax at) answer read_faults write_faults = judged d bytes now session came (Syntax at) is answer
    by (Damaged at) answer read_faults write_faults = judged d bytes now session came (Damaged at) is answer
    by NoSwitch answer read_faults write_faults = judged d bytes now session came NoSwitch is answer
    by NoBarrier answer read_faults write_faults = judged d bytes now session came NoBarrier is answer
    by Words answer read_faults write_faults = judged d bytes now session came Words is answer
    by (Lex at) answer read_faults write_faults = judged d bytes now session came (Lex at) is answer
    by (Name at kind) answer read_faults write_faults = judged d bytes now session came (Name at kind) is answer
    by (ValuesFull f n) answer read_faults write_faults = judged d bytes now session came (ValuesFull f n) is answer
    by (InstancesFull n) answer read_faults write_faults = judged d bytes now session came (InstancesFull n) is answer
    by (TagWidth n) answer read_faults write_faults = judged d bytes now session came (TagWidth n) is answer
    by (TableFull e t n) answer read_faults write_faults = judged d bytes now session came (TableFull e t n) is answer
    by (GroupFull e n) answer read_faults write_faults = judged d bytes now session came (GroupFull e n) is answer
    by SessionFull answer read_faults write_faults = judged d bytes now session came SessionFull is answer
    by ScheduleFull answer read_faults write_faults = judged d bytes now session came ScheduleFull is answer
