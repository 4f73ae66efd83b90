-- Texts that open a session: with more bytes after them, and that each opens one session.
use Rattle.std.proofs.Common.{◌≡◌, ℕ, ◌+◌, Bool, true, false, ◌||◌, List, [], ◌∷◌, ◌++◌, length, take, drop, drop-drop, take-append-drop}
use Rattle.std.proofs.Common.{refl, sym, ap, ◌∙◌, subst, append_assoc, append-nil, Option, Some, inl, inr, if◌then◌else◌}
use Rattle.std.specs.Prelude.{◌==◌}
use Rattle.std.specs.List.{list_any}
use Rattle.std.proofs.lemmas.Option.{same_Some}
use Rattle.pq_model.specs.declared.message.Message.{Message}
use Rattle.pq_model.specs.Install.{Install, messages_in, messages_of}
use Rattle.pq_model.specs.Topology.{Switch}
use Rattle.pq_install.specs.Reading.{IsInstallAtFront}
use Rattle.pq_install.proofs.Exclusion.{one_install}
use Rattle.pq_install.proofs.Renamed.{all_as_read, install_as_read, spelled_at_front, spelled_old_at_front}
use Rattle.pq_install.proofs.Front.{same_fronts}
use Rattle.pq_speaker.specs.Rules.{Session}
use Rattle.pq_speaker.specs.Speaking.{EndsWithOwnBarrier}
use Rattle.pq_command.specs.declared.outcome.Outcome.{Outcome}
use Rattle.pq_command.specs.declared.outcome.Outcome.TheVariants.{Done, Words, ReadFault, TooLong, Lex, Syntax, Name, ValuesFull}
use Rattle.pq_command.specs.declared.outcome.Outcome.TheVariants.{InstancesFull, TagWidth, TableFull, GroupFull, Damaged, NoSwitch}
use Rattle.pq_command.specs.declared.outcome.Outcome.TheVariants.{NoBarrier, Speaking, SessionFull, ScheduleFull, WriteFault, Memory}
use Rattle.pq_command.specs.Speaks.{Bars, IsDamagedFor, IsOpened, IsSpelling, Stated, has_switch, session_of, stated}
use Rattle.pq_command.proofs.Headings.{stated-append}

-- what comes later belongs to the same session
pub opened-append : (datapath : ℕ) (text more : List ℕ) (session : Session) (came : List ℕ)
    → IsOpened datapath text session came → IsOpened datapath (text ++ more) session (came ++ more)
opened-append datapath text more session came is = record {
  install = is.install;
  bytes = is.bytes;
  line =
      stated-append text more _ is.line
      ∙ ap (λ (rest : List ℕ). Some (record { size = length is.bytes; rest = rest })) (append_assoc is.bytes came more);
  spelled = is.spelled;
  named = is.named;
  messages = is.messages;
  ended = is.ended;
}

-- One install.

messages-as-read : (ss : List Switch) (lists : List (List Message)) (d : ℕ) → messages_in (all_as_read ss) lists d ≡ messages_in ss lists d
messages-as-read [] lists d = refl
messages-as-read (s ∷ ss) [] d = refl
messages-as-read (s ∷ ss) (ms ∷ lists) d = ap (λ (others : List Message). if s.datapath == d then ms else others) (messages-as-read ss lists d)

named-as-read : (ss : List Switch) (d : ℕ) → list_any (λ s. s.datapath == d) (all_as_read ss) ≡ list_any (λ s. s.datapath == d) ss
named-as-read [] d = refl
named-as-read (s ∷ ss) d = ap (λ (others : Bool). (s.datapath == d) || others) (named-as-read ss d)

at-front : (i : Install) (bytes : List ℕ) → IsSpelling i bytes → IsInstallAtFront bytes (install_as_read i) []
at-front i bytes (inl new) = spelled_at_front bytes i [] new.lawful (new.spelled ∙ sym (append-nil _))
at-front i bytes (inr old) = spelled_old_at_front bytes i [] old.lawful old.old (old.spelled ∙ sym (append-nil _))

one-as-read : (i j : Install) (bytes : List ℕ) → IsSpelling i bytes → IsSpelling j bytes → install_as_read i ≡ install_as_read j
one-as-read i j bytes first second =
    (one_install bytes (install_as_read i) (install_as_read j) [] [] (at-front i bytes first) (at-front j bytes second)).0

-- installs with one spelling have the same messages for each switch, and the same switches
pub one-list : (i j : Install) (bytes : List ℕ) (d : ℕ) → IsSpelling i bytes → IsSpelling j bytes → messages_of i d ≡ messages_of j d
one-list i j bytes d first second =
    sym (messages-as-read i.topology.switches i.messages d)
    ∙ ap (λ (k : Install). messages_of k d) (one-as-read i j bytes first second)
    ∙ messages-as-read j.topology.switches j.messages d

pub one-switch : (i j : Install) (bytes : List ℕ) (d : ℕ) → IsSpelling i bytes → IsSpelling j bytes → has_switch d i ≡ has_switch d j
one-switch i j bytes d first second =
    sym (named-as-read i.topology.switches d)
    ∙ ap (has_switch d) (one-as-read i j bytes first second)
    ∙ named-as-read j.topology.switches d

-- One session.

-- a text opens one session at the most
pub one-session : (datapath : ℕ) (text : List ℕ) (session other : Session) (came more : List ℕ)
    → IsOpened datapath text session came → IsOpened datapath text other more → (session ≡ other) × (came ≡ more)
one-session datapath text session other came more first second =
    let same : (record { size = length first.bytes; rest = first.bytes ++ came }) ≡ (record { size = length second.bytes; rest = second.bytes ++ more }) =
    same_Some _ _ (sym first.line ∙ second.line) in
    let parts = same_fronts first.bytes second.bytes came more (ap (λ (s : Stated). s.size) same) (ap (λ (s : Stated). s.rest) same) in
    let spelled : IsSpelling second.install first.bytes = subst (IsSpelling second.install) (sym parts.0) second.spelled in (
      first.messages ∙ ap (session_of datapath) (one-list first.install second.install first.bytes datapath first.spelled spelled) ∙ sym second.messages,
      parts.1,
    )

-- What was judged.

-- what the line states, with what follows it
abbrev pub stating : ℕ → List ℕ → Option Stated
stating size rest = Some (record { size = size; rest = rest })

-- an install of the stated length, with the messages to the switch
pub opens : (d : ℕ) (text : List ℕ) (at size : ℕ) (i : Install) (ms : List Message) → stated text ≡ stating size (drop at text)
    → length (take size (drop at text)) ≡ size → IsSpelling i (take size (drop at text)) → has_switch d i ≡ true → ms ≡ messages_of i d → EndsWithOwnBarrier ms
    → IsOpened d text (session_of d ms) (drop (at + size) text)
opens d text at size i ms line whole spelled named messages ended = record {
  install = i;
  bytes = take size (drop at text);
  line =
      line
      ∙ ap (stating size) (sym (take-append-drop size (drop at text)) ∙ ap (λ (rest : List ℕ). take size (drop at text) ++ rest) (drop-drop size at text))
      ∙ ap (λ (n : ℕ). stating n (take size (drop at text) ++ drop (at + size) text)) (sym whole);
  spelled = spelled;
  named = named;
  messages = ap (session_of d) messages;
  ended = ended;
}

pub no-switch : (d : ℕ) (text : List ℕ) (at size : ℕ) (i : Install) → stated text ≡ stating size (drop at text)
    → length (take size (drop at text)) ≡ size → IsSpelling i (take size (drop at text)) → has_switch d i ≡ false → Bars d NoSwitch text
no-switch d text at size i line whole spelled unnamed = (record { size = size; rest = drop at text }, line, (whole, i, spelled, unnamed))

pub no-barrier : (d : ℕ) (text : List ℕ) (at size : ℕ) (i : Install) (ms : List Message) → stated text ≡ stating size (drop at text)
    → length (take size (drop at text)) ≡ size → IsSpelling i (take size (drop at text)) → has_switch d i ≡ true → ms ≡ messages_of i d
    → (EndsWithOwnBarrier ms → ⊥)
    → Bars d NoBarrier text
no-barrier d text at size i ms line whole spelled named messages unended =
    (record { size = size; rest = drop at text }, line, (whole, i, spelled, (named, λ ended. unended (subst EndsWithOwnBarrier (sym messages) ended))))

pub damaged : (d : ℕ) (text : List ℕ) (at size : ℕ) (o : Outcome) → stated text ≡ stating size (drop at text)
    → IsDamagedFor size (take size (drop at text)) o → Bars d o text
damaged d text at size o line fault = by o fault
  where
    by : (o : Outcome) → IsDamagedFor size (take size (drop at text)) o → Bars d o text
    by (Damaged place) fault = (record { size = size; rest = drop at text }, line, fault)
    by Memory fault = tt
    by Done fault = absurd fault
    by Words fault = absurd fault
    by ReadFault fault = absurd fault
    by TooLong fault = absurd fault
    by (Lex at) fault = absurd fault
    by (Syntax at) fault = absurd fault
    by (Name at kind) fault = absurd fault
    by (ValuesFull f n) fault = absurd fault
    by (InstancesFull n) fault = absurd fault
    by (TagWidth n) fault = absurd fault
    by (TableFull d t n) fault = absurd fault
    by (GroupFull d n) fault = absurd fault
    by NoSwitch fault = absurd fault
    by NoBarrier fault = absurd fault
    by (Speaking t) fault = absurd fault
    by SessionFull fault = absurd fault
    by ScheduleFull fault = absurd fault
    by WriteFault fault = absurd fault
