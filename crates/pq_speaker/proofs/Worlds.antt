-- A speaker and its switch: what each event keeps, and what Installed means.
use Rattle.std.proofs.Common.{◌≡◌, ◌⊎◌, ℕ, ◌<◌, ◌^◌, Bool, true, false, not, ◌&&◌, ◌||◌, List, [], ◌∷◌, ◌++◌, length, take, drop, leb, refl}
use Rattle.std.proofs.Common.{sym, ap, subst, ◌∙◌, inl, inr, append_assoc, append-nil}
use Rattle.std.specs.Prelude.{◌==◌}
use Rattle.std.specs.List.{AllByRecursion}
use Rattle.std.specs.declared.option.Option.{Option}
use Rattle.std.specs.declared.option.Option.TheVariants.{None, Some}
use Rattle.std.proofs.lemmas.Bool.{and_parts, and_left, and_right, both_ways, cases_Bool, not-true}
use Rattle.std.proofs.lemmas.List.{take-append-drop}
use Rattle.std.proofs.lemmas.List.Folds.{list_any-append}
use Rattle.std.proofs.lemmas.Nat.{from_be_bytes-to_be_bytes_4}
use Rattle.pq_model.specs.declared.message.Message.{Message}
use Rattle.pq_model.specs.declared.message.Message.TheVariants.{Flow, Group, Barrier}
use Rattle.pq_model.specs.Orders.{AreSame, IsLawfulOrder}
use Rattle.pq_model.specs.Spelling.{with_header}
use Rattle.pq_model.specs.SwitchMachine.{Tables, applies, applies_all, no_tables}
use Rattle.pq_model.proofs.Renewals.{applies_all-append, renewal-leaves, renewal-same}
use Rattle.pq_model.proofs.Reorderings.{all-at, all-rest}
use Rattle.pq_speaker.specs.declared.talk.Talk.{Talk}
use Rattle.pq_speaker.specs.declared.talk.Talk.TheVariants.{Greeting, Asking, Installing, Installed, Failed}
use Rattle.pq_speaker.specs.Division.{Division, divided, header_of, is_whole, uncut, with_first}
use Rattle.pq_speaker.specs.Rules.{Session, Effect, barrier_reply, has_bad_length, has_failed}
use Rattle.pq_speaker.specs.Speaking.{effects, foreseen, kept}
use Rattle.pq_speaker.specs.World.{Event, InstalledMeansProcessed, RenewalsAreInstalled, Taken, World, answer_to, hears, is_barrier, is_own}
use Rattle.pq_speaker.specs.World.{message_taken, next, processed, processed_in, processes, run, sends_own, start, taken_at, Take, Send}
use Rattle.pq_speaker.specs.World.{Hear}
use Rattle.pq_speaker.proofs.Dividing.{divided-append, divided-whole, joined}
use Rattle.pq_speaker.proofs.Effects.{installs}
use Rattle.pq_speaker.proofs.Pieces.{effects-failed}
use Rattle.pq_speaker.proofs.Stages.{After, IsComing, IsOrdered, IsOther, IsSession, Quiet, Stage, is_reply, session-of, steps}
use Rattle.pq_speaker.proofs.Taking.{IsCut, split-last, taken-cut, taken-order}

-- the messages of the switch that weren't heard, and those that wait with them
abbrev pipe : World → Division
pipe w = divided w.speaker.waiting w.unheard

-- what each event keeps, where these messages were processed
record Holds (s : Session) (last : ℕ) (before : Tables) (w : World) (done : List Message) : Type 0 where
  session : w.speaker.session ≡ s
  whole : has_failed w.speaker.talk ≡ false → (pipe w).rest ≡ []
  stage : Stage s last w.speaker.talk w.coming done (pipe w).messages
  tables : w.tables ≡ applies_all before done

-- More messages of the switch.

pipe-more : (waiting bytes m : List ℕ) → (divided waiting bytes).rest ≡ [] → is_whole m ≡ true →
    ((divided waiting (bytes ++ m)).messages ≡ (divided waiting bytes).messages ++ m ∷ []) × ((divided waiting (bytes ++ m)).rest ≡ [])
pipe-more waiting bytes m none whole =
    let d = divided waiting bytes in
    let one : divided [] m ≡ with_first m (uncut []) = ap (divided []) (sym (append-nil m)) ∙ divided-whole m [] whole in
    let all : divided waiting (bytes ++ m) ≡ joined d (with_first m (uncut [])) =
    divided-append waiting bytes m ∙ ap (λ r. joined d (divided r m)) none ∙ ap (joined d) one in
    (ap (λ (x : Division). x.messages) all, ap (λ (x : Division). x.rest) all)

quiet-more : (last : ℕ) (ms ns : List (List ℕ)) → Quiet last ms → Quiet last ns → Quiet last (ms ++ ns)
quiet-more last ms ns q r = list_any-append (is_reply last) ms ns ∙ (λ i. q i || r i)

-- messages that don't answer the last barrier change nothing
stage-more : (s : Session) (last : ℕ) (talk : Talk) (coming done : List Message) (ms ns all : List (List ℕ))
    → Stage s last talk coming done ms → Quiet last ns →
    (has_failed talk ≡ false → all ≡ ms ++ ns) → Stage s last talk coming done all
stage-more s last Greeting coming done ms ns all (c, d, q) r e = (c, d, subst (Quiet last) (sym (e refl)) (quiet-more last ms ns q r))
stage-more s last Asking coming done ms ns all (c, d, q) r e = (c, d, subst (Quiet last) (sym (e refl)) (quiet-more last ms ns q r))
stage-more s last Installing coming done ms ns all (o, inl none) r e = (o, inl none)
stage-more s last Installing coming done ms ns all (o, inr c) r e =
    (o, inr (record { others = c.others; is = c.is; each = c.each; quiet = subst (Quiet last) (sym (e refl)) (quiet-more last ms ns c.quiet r) }))
stage-more s last Installed coming done ms ns all h r e = h
stage-more s last (Failed x) coming done ms ns all h r e = tt

-- Send.

own-quiet : (last : ℕ) (m : List ℕ) → ((header_of m).kind == barrier_reply) ≡ false → Quiet last (m ∷ [])
own-quiet last m e = rw (and_left ((header_of m).kind == barrier_reply) ((header_of m).xid == last) e) refl

holds-send : (s : Session) (last : ℕ) (before : Tables) (w : World) (done : List Message) (m : List ℕ) → Holds s last before w done
    → Holds s last before (sends_own w m) done
holds-send s last before w done m h = by (is_own m) refl
  where
    more : is_own m ≡ true → Holds s last before (record w { unheard = w.unheard ++ m }) done
    more own =
        let parts = and_parts (is_whole m) (not ((header_of m).kind == barrier_reply)) own in
        let quiet = own-quiet last m (not-true ((header_of m).kind == barrier_reply) parts.1) in
        record {
          session = h.session;
          whole = λ on. (pipe-more w.speaker.waiting w.unheard m (h.whole on) parts.0).1;
          stage = stage-more s last w.speaker.talk w.coming done (pipe w).messages (m ∷ []) _ h.stage quiet
              (λ on. (pipe-more w.speaker.waiting w.unheard m (h.whole on) parts.0).0);
          tables = h.tables;
        }

    by : (b : Bool) → is_own m ≡ b → Holds s last before (sends_own w m) done
    by true e = rw e (more e)
    by false e = rw e h

-- Hear.

still-failed : (s : Session) (talk : Talk) (ms : List (List ℕ)) → has_failed talk ≡ true → has_failed (effects s talk ms).talk ≡ true
still-failed s (Failed r) ms e = ap (λ (x : Effect). has_failed x.talk) (effects-failed s r ms)
still-failed s Greeting ms e = cc
still-failed s Asking ms e = cc
still-failed s Installing ms e = cc
still-failed s Installed ms e = cc

-- a header may tell at once that the session fails
seen : (s : Session) (last : ℕ) (talk : Talk) (coming done : List Message) (rest bytes : List ℕ) →
    Stage s last talk coming done (divided rest bytes).messages → (has_failed talk ≡ false → (divided rest bytes).rest ≡ []) →
    Stage s last (foreseen talk rest) coming done (divided (kept (foreseen talk rest) rest) bytes).messages
    × (has_failed (foreseen talk rest) ≡ false → (divided (kept (foreseen talk rest) rest) bytes).rest ≡ [])
seen s last talk coming done rest bytes stage whole = by (not (has_failed talk) && leb 8 (length rest) && has_bad_length talk (header_of rest)) refl
  where
    going : (t : Talk) → Stage s last t coming done (divided rest bytes).messages → (has_failed t ≡ false → (divided rest bytes).rest ≡ []) →
        Stage s last t coming done (divided (kept t rest) bytes).messages × (has_failed t ≡ false → (divided (kept t rest) bytes).rest ≡ [])
    going Greeting h k = (h, k)
    going Asking h k = (h, k)
    going Installing h k = (h, k)
    going Installed h k = (h, k)
    going (Failed r) h k = (tt, λ e. cc)

    by : (b : Bool) → (not (has_failed talk) && leb 8 (length rest) && has_bad_length talk (header_of rest)) ≡ b →
        Stage s last (foreseen talk rest) coming done (divided (kept (foreseen talk rest) rest) bytes).messages
        × (has_failed (foreseen talk rest) ≡ false → (divided (kept (foreseen talk rest) rest) bytes).rest ≡ [])
    by true e = rw e (tt, λ x. cc)
    by false e = rw e (going talk stage whole)

holds-hear : (s : Session) (last : ℕ) (before : Tables) (w : World) (done : List Message) (count : ℕ) →
    IsSession s last → Holds s last before w done → Holds s last before (hears w count) done
holds-hear s last before w done count of h =
    subst (λ t. Holds s last before (record {
      speaker = record { session = t; talk = last_talk t; waiting = kept (last_talk t) d.rest };
      tables = w.tables;
      coming = w.coming ++ installs t (effects t w.speaker.talk d.messages);
      unheard = second;
    }) done) (sym h.session)
    (record { session = refl; whole = after.1; stage = after.0; tables = h.tables })
  where
    first : List ℕ
    first = take count w.unheard

    second : List ℕ
    second = drop count w.unheard

    d : Division
    d = divided w.speaker.waiting first

    last_talk : Session → Talk
    last_talk t = foreseen (effects t w.speaker.talk d.messages).talk d.rest

    all : divided w.speaker.waiting w.unheard ≡ joined d (divided d.rest second)
    all = ap (divided w.speaker.waiting) (sym (take-append-drop count w.unheard)) ∙ divided-append w.speaker.waiting first second

    e : Effect
    e = effects s w.speaker.talk d.messages

    whole : has_failed e.talk ≡ false → (divided d.rest second).rest ≡ []
    whole on = elim (cases_Bool (has_failed w.speaker.talk)) [
      | inl failed ↦ absurd (both_ways (has_failed e.talk) on (still-failed s w.speaker.talk d.messages failed))
      | inr going ↦ sym (ap (λ (x : Division). x.rest) all) ∙ h.whole going
    ]

    after : Stage s last (foreseen e.talk d.rest) (w.coming ++ installs s e) done (divided (kept (foreseen e.talk d.rest) d.rest) second).messages
        × (has_failed (foreseen e.talk d.rest) ≡ false → (divided (kept (foreseen e.talk d.rest) d.rest) second).rest ≡ [])
    after = seen s last e.talk (w.coming ++ installs s e) done d.rest second
        (steps s last w.speaker.talk w.coming done d.messages (divided d.rest second).messages of
        (subst (λ (x : Division). Stage s last w.speaker.talk w.coming done x.messages) all h.stage))
        whole

-- Take.

-- the messages of the switch that a message makes
abbrev answers : Message → List (List ℕ)
answers (Flow f) = []
answers (Group g) = []
answers (Barrier x) = with_header barrier_reply x [] ∷ []

reply-whole : (x : ℕ) → is_whole (with_header barrier_reply x []) ≡ true
unfolding with_header
reply-whole x = refl

reply-kind : (x : ℕ) → (header_of (with_header barrier_reply x [])).kind ≡ barrier_reply
unfolding with_header
reply-kind x = refl

reply-xid : (x : ℕ) → x < 2 ^ 32 → (header_of (with_header barrier_reply x [])).xid ≡ x
unfolding with_header
reply-xid x fits = from_be_bytes-to_be_bytes_4 x fits

answers-quiet : (last : ℕ) (m : Message) → IsOther last m → Quiet last (answers m)
answers-quiet last (Flow f) h = refl
answers-quiet last (Group g) h = refl
answers-quiet last (Barrier x) (other, fits) =
    let xid : ((header_of (with_header barrier_reply x [])).xid == last) ≡ false = ap (λ n. n == last) (reply-xid x fits) ∙ other in
    rw (and_right ((header_of (with_header barrier_reply x [])).kind == barrier_reply) ((header_of (with_header barrier_reply x [])).xid == last) xid) refl

unanswered : (waiting bytes : List ℕ) → (divided waiting bytes).rest ≡ [] →
    ((divided waiting (bytes ++ [])).messages ≡ (divided waiting bytes).messages ++ []) × ((divided waiting (bytes ++ [])).rest ≡ [])
unanswered waiting bytes none = (
  ap (λ l. (divided waiting l).messages) (append-nil bytes) ∙ sym (append-nil (divided waiting bytes).messages),
  ap (λ l. (divided waiting l).rest) (append-nil bytes) ∙ none,
)

answered : (waiting bytes : List ℕ) (m : Message) → (divided waiting bytes).rest ≡ [] →
    ((divided waiting (bytes ++ answer_to m)).messages ≡ (divided waiting bytes).messages ++ answers m) × ((divided waiting (bytes ++ answer_to m)).rest ≡ [])
answered waiting bytes (Flow f) none = unanswered waiting bytes none
answered waiting bytes (Group g) none = unanswered waiting bytes none
answered waiting bytes (Barrier x) none = pipe-more waiting bytes (with_header barrier_reply x []) none (reply-whole x)

nothing-taken : (coming : List Message) (t : Taken) → coming ≡ [] → IsCut coming t → ⊥
nothing-taken coming t none cut = by cut.front (sym none ∙ cut.all)
  where
    by : (front : List Message) → [] ≡ front ++ t.message ∷ cut.back → ⊥
    by [] e = cc
    by (f ∷ front) e = cc

taken-ordered : (s : Session) (coming done : List Message) (t : Taken) → IsCut coming t → IsOrdered s coming done
    → IsOrdered s t.others (done ++ t.message ∷ [])
taken-ordered s coming done t cut ordered order lawful =
    subst (IsLawfulOrder s.messages) (sym (append_assoc done (t.message ∷ []) order))
    (ordered (t.message ∷ order)
    (subst (λ l. IsLawfulOrder l (t.message ∷ order)) (sym cut.all)
    (taken-order t.message cut.front cut.back order cut.free cut.first (subst (λ l. IsLawfulOrder l order) cut.others lawful))))

taken-coming : (last : ℕ) (coming : List Message) (ms all : List (List ℕ)) (t : Taken) → IsCut coming t → IsComing last coming ms
    → all ≡ ms ++ answers t.message →
    (t.others ≡ []) ⊎ IsComing last t.others all
taken-coming last coming ms all t cut c e =
    elim (split-last cut.front cut.back c.others t.message (Barrier last) (sym cut.all ∙ c.is)) [
      | inl h ↦ inl (cut.others ∙ (λ i. cut.first (ap is_barrier h.0) i ++ h.2 i))
      | inr h ↦
          let each : AllByRecursion (IsOther last) (cut.front ++ t.message ∷ h.0) = subst (AllByRecursion (IsOther last)) h.1 c.each in
          inr (record {
            others = cut.front ++ h.0;
            is = cut.others ∙ ap (λ l. cut.front ++ l) h.2 ∙ sym (append_assoc cut.front h.0 (Barrier last ∷ []));
            each = all-rest (IsOther last) t.message cut.front h.0 each;
            quiet = subst (Quiet last) (sym e)
                (quiet-more last ms (answers t.message) c.quiet
                (answers-quiet last t.message (all-at (IsOther last) t.message cut.front h.0 each)));
          })
    ]

taken-stage : (s : Session) (last : ℕ) (talk : Talk) (coming done : List Message) (ms all : List (List ℕ)) (t : Taken) → IsCut coming t
    → Stage s last talk coming done ms →
    (has_failed talk ≡ false → all ≡ ms ++ answers t.message) → Stage s last talk t.others (done ++ t.message ∷ []) all
taken-stage s last Greeting coming done ms all t cut (none, d, q) e = absurd (nothing-taken coming t none cut)
taken-stage s last Asking coming done ms all t cut (none, d, q) e = absurd (nothing-taken coming t none cut)
taken-stage s last Installing coming done ms all t cut (o, inl none) e = absurd (nothing-taken coming t none cut)
taken-stage s last Installing coming done ms all t cut (o, inr c) e = (taken-ordered s coming done t cut o, taken-coming last coming ms all t cut c (e refl))
taken-stage s last Installed coming done ms all t cut (o, none) e = absurd (nothing-taken coming t none cut)
taken-stage s last (Failed r) coming done ms all t cut h e = tt

holds-taken : (s : Session) (last : ℕ) (before : Tables) (w : World) (done : List Message) (t : Taken) → IsCut w.coming t → Holds s last before w done →
    Holds s last before (processes w (Some t)) (done ++ t.message ∷ [])
holds-taken s last before w done t cut h = record {
  session = h.session;
  whole = λ on. (answered w.speaker.waiting w.unheard t.message (h.whole on)).1;
  stage = taken-stage s last w.speaker.talk w.coming done (pipe w).messages _ t cut h.stage
      (λ on. (answered w.speaker.waiting w.unheard t.message (h.whole on)).0);
  tables = ap (λ x. applies x t.message) h.tables ∙ sym (applies_all-append before done (t.message ∷ []));
}

holds-take : (s : Session) (last : ℕ) (before : Tables) (w : World) (done : List Message) (place : ℕ) → Holds s last before w done →
    Holds s last before (processes w (taken_at place w.coming)) (done ++ message_taken (taken_at place w.coming))
holds-take s last before w done place h = by (taken_at place w.coming) refl
  where
    by : (o : Option Taken) → taken_at place w.coming ≡ o → Holds s last before (processes w o) (done ++ message_taken o)
    by None e = subst (Holds s last before w) (sym (append-nil done)) h
    by (Some t) e = holds-taken s last before w done t (taken-cut place w.coming t e) h

-- Runs.

holds-next : (s : Session) (last : ℕ) (before : Tables) (w : World) (done : List Message) (e : Event) → IsSession s last → Holds s last before w done →
    Holds s last before (next w e) (done ++ processed_in w e)
holds-next s last before w done (Take place) of h = holds-take s last before w done place h
holds-next s last before w done (Send m) of h = subst (Holds s last before (sends_own w m)) (sym (append-nil done)) (holds-send s last before w done m h)
holds-next s last before w done (Hear count) of h = subst (Holds s last before (hears w count)) (sym (append-nil done))
    (holds-hear s last before w done count of h)

holds-run : (s : Session) (last : ℕ) (before : Tables) (w : World) (done : List Message) (events : List Event) → IsSession s last → Holds s last before w done →
    Holds s last before (run w events) (done ++ processed w events)
holds-run s last before w done [] of h = subst (Holds s last before w) (sym (append-nil done)) h
holds-run s last before w done (e ∷ es) of h =
    subst (Holds s last before (run (next w e) es)) (append_assoc done (processed_in w e) (processed (next w e) es))
    (holds-run s last before (next w e) (done ++ processed_in w e) es of (holds-next s last before w done e of h))

holds-start : (s : Session) (last : ℕ) (before : Tables) → Holds s last before (start s before) []
holds-start s last before = record { session = refl; whole = λ on. refl; stage = (refl, refl, refl); tables = refl }

pub installed : InstalledMeansProcessed
installed s lawful ends before events is =
    let h = holds-run s ends.xid before (start s before) [] events (session-of s lawful ends) (holds-start s ends.xid before) in
    let end = run (start s before) events in
    let done = processed (start s before) events in
    let after : After s end.coming done = subst (λ t. Stage s ends.xid t end.coming done (pipe end).messages) is h.stage in
    (subst (IsLawfulOrder s.messages) (append-nil done) (after.0 [] (subst (λ l. IsLawfulOrder l []) (sym after.1) refl)), h.tables)

-- the messages leave what the renewal adds, in empty tables too
pub renewals : RenewalsAreInstalled
renewals s r lawful ends renewal renewing before events is =
    let done = installed s lawful ends before events is in
    let order = processed (start s before) events in
    subst (λ x. AreSame (applies_all no_tables s.messages) x) (sym done.1)
    (subst (λ x. AreSame x (applies_all before order)) (sym (ap (applies_all no_tables) renewal ∙ renewal-leaves r renewing no_tables))
    (renewal-same r renewing before order (subst (λ l. IsLawfulOrder l order) renewal done.0)))
