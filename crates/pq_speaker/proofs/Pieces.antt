-- Pieces are heard as one.
use Rattle.std.proofs.Common.{◌≡◌, ℕ, ◌≤◌, Bool, true, false, leb, ◌&&◌, List, [], ◌∷◌, ◌++◌, length, refl, sym, ap, ◌∙◌, append_assoc, length-append, arith}
use Rattle.std.proofs.lemmas.Bool.{leb-true, and_parts, le-leb}
use Rattle.pq_speaker.specs.declared.header.Header.{Header}
use Rattle.pq_speaker.specs.declared.talk.Talk.{Talk}
use Rattle.pq_speaker.specs.declared.talk.Talk.TheVariants.{Greeting, Asking, Installing, Installed, Failed}
use Rattle.pq_speaker.specs.declared.talk.Reason.{Reason}
use Rattle.pq_speaker.specs.declared.talk.Reason.TheVariants.{BadLength}
use Rattle.pq_speaker.specs.Division.{Division, divided, header_of, is_whole, uncut}
use Rattle.pq_speaker.specs.Rules.{Session, Effect, Reply, effect, fails, has_bad_length, has_failed, leads_to}
use Rattle.pq_speaker.specs.Speaking.{Heard, IsState, State, effects, foreseen, heard, heard_of, kept}
use Rattle.pq_speaker.proofs.Dividing.{divided-append, divided-waiting, header-more}

-- one effect after another
abbrev pub then : Effect → Effect → Effect
then e f = record { talk = f.talk; replies = e.replies ++ f.replies }

pub effects-append : (s : Session) (talk : Talk) (ms ns : List (List ℕ)) →
    effects s talk (ms ++ ns) ≡ then (effects s talk ms) (effects s (effects s talk ms).talk ns)
effects-append s talk [] ns = refl
effects-append s talk (m ∷ ms) ns =
    let first = effect s talk m in
    let others = effects s first.talk ms in
    let last = effects s others.talk ns in
    ap (then first) (effects-append s first.talk ms ns)
    ∙ (λ i. record { talk = last.talk; replies = sym (append_assoc first.replies others.replies last.replies) i })

-- what was sent before what is heard
abbrev pub preceded : List Reply → Heard → Heard
preceded replies h = record { state = h.state; replies = replies ++ h.replies }

-- a session that has failed
abbrev over : Session → Reason → Heard
over s r = record { state = record { session = s; talk = Failed r; waiting = [] }; replies = [] }

pub effects-failed : (s : Session) (r : Reason) (ms : List (List ℕ)) → effects s (Failed r) ms ≡ leads_to (Failed r)
effects-failed s r [] = refl
effects-failed s r (m ∷ ms) = ap (then (leads_to (Failed r))) (effects-failed s r ms)

failed-hears : (s : Session) (r : Reason) (d : Division) → heard_of s (Failed r) d ≡ over s r
failed-hears s r d = rw (effects-failed s r d.messages) refl

-- a length that is bad is bad when its message is whole, too
bad : (s : Session) (talk : Talk) (rest bytes : List ℕ) → has_failed talk ≡ false → 8 ≤ length rest → has_bad_length talk (header_of rest) ≡ true →
    heard_of s talk (divided rest bytes) ≡ over s (BadLength (header_of rest).length)
bad s talk rest [] going long wrong = rw (going, le-leb 8 (length rest) long, wrong) refl
bad s talk rest (b ∷ bytes) going long wrong =
    by (is_whole (rest ++ b ∷ [])) refl (bad s talk (rest ++ b ∷ []) bytes going (omega (arith, long, length-append rest (b ∷ []))))
  where
    same : header_of (rest ++ b ∷ []) ≡ header_of rest
    same = header-more rest (b ∷ []) long

    again : has_bad_length talk (header_of (rest ++ b ∷ [])) ≡ true
    again = ap (has_bad_length talk) same ∙ wrong

    first : effect s talk (rest ++ b ∷ []) ≡ fails (BadLength (header_of rest).length)
    first = rw (going, again) (ap (λ (h : Header). fails (BadLength h.length)) same)

    by : (w : Bool) → is_whole (rest ++ b ∷ []) ≡ w
        → (has_bad_length talk (header_of (rest ++ b ∷ [])) ≡ true
        → heard_of s talk (divided (rest ++ b ∷ []) bytes) ≡ over s (BadLength (header_of (rest ++ b ∷ [])).length))
        → heard_of s talk (divided rest (b ∷ bytes)) ≡ over s (BadLength (header_of rest).length)
    by true e later =
        rw e (ap (λ (x : Effect). preceded x.replies (heard_of s x.talk (divided [] bytes))) first
        ∙ failed-hears s (BadLength (header_of rest).length) (divided [] bytes))
    by false e later = rw e (later again ∙ ap (λ (h : Header). over s (BadLength h.length)) same)

going : (s : Session) (talk : Talk) (rest bytes : List ℕ) → has_failed talk ≡ false →
    heard_of s talk (divided rest bytes) ≡ heard_of s (foreseen talk rest) (divided (kept (foreseen talk rest) rest) bytes)
going s talk rest bytes on = by (leb 8 (length rest) && has_bad_length talk (header_of rest)) refl
  where
    by : (w : Bool) → (leb 8 (length rest) && has_bad_length talk (header_of rest)) ≡ w
        → heard_of s talk (divided rest bytes) ≡ heard_of s (foreseen talk rest) (divided (kept (foreseen talk rest) rest) bytes)
    by true e =
        let parts = and_parts (leb 8 (length rest)) (has_bad_length talk (header_of rest)) e in
        let sees : foreseen talk rest ≡ Failed (BadLength (header_of rest).length) = rw (on, e) refl in
        rw sees (bad s talk rest bytes on (leb-true 8 (length rest) parts.0) parts.1
        ∙ sym (failed-hears s (BadLength (header_of rest).length) (divided [] bytes)))
    by false e = rw (on, e, on) refl

-- what waits is heard as if its header hadn't been looked at
foreseen-hears : (s : Session) (talk : Talk) (rest bytes : List ℕ) →
    heard_of s talk (divided rest bytes) ≡ heard_of s (foreseen talk rest) (divided (kept (foreseen talk rest) rest) bytes)
foreseen-hears s (Failed r) rest bytes = failed-hears s r (divided rest bytes) ∙ sym (failed-hears s r (divided [] bytes))
foreseen-hears s Greeting rest bytes = going s Greeting rest bytes refl
foreseen-hears s Asking rest bytes = going s Asking rest bytes refl
foreseen-hears s Installing rest bytes = going s Installing rest bytes refl
foreseen-hears s Installed rest bytes = going s Installed rest bytes refl

pub heard-append : (s : State) (first second : List ℕ) → heard s (first ++ second) ≡ preceded (heard s first).replies (heard (heard s first).state second)
heard-append s first second =
    let d = divided s.waiting first in
    let e = divided d.rest second in
    let one = effects s.session s.talk d.messages in
    ap (heard_of s.session s.talk) (divided-append s.waiting first second)
    ∙ (λ i. record {
      state = record {
        session = s.session;
        talk = foreseen (effects-append s.session s.talk d.messages e.messages i).talk e.rest;
        waiting = kept (foreseen (effects-append s.session s.talk d.messages e.messages i).talk e.rest) e.rest;
      };
      replies = (effects-append s.session s.talk d.messages e.messages i).replies;
    })
    ∙ ap (preceded one.replies) (foreseen-hears s.session one.talk d.rest second)

-- after a failure nothing changes
failed-stays : (s : Session) (talk : Talk) (waiting bytes : List ℕ) → has_failed talk ≡ true → waiting ≡ [] →
    heard_of s talk (divided waiting bytes) ≡ record { state = record { session = s; talk = talk; waiting = waiting }; replies = [] }
failed-stays s (Failed r) waiting bytes failed none =
    failed-hears s r (divided waiting bytes) ∙ (λ i. record { state = record { session = s; talk = Failed r; waiting = sym none i }; replies = [] })
failed-stays s Greeting waiting bytes failed none = cc
failed-stays s Asking waiting bytes failed none = cc
failed-stays s Installing waiting bytes failed none = cc
failed-stays s Installed waiting bytes failed none = cc

pub failed-heard : (s : State) (bytes : List ℕ) → has_failed s.talk ≡ true → IsState s → heard s bytes ≡ record { state = s; replies = [] }
failed-heard s bytes failed is = failed-stays s.session s.talk s.waiting bytes failed (is.failed failed)

-- what is heard leaves a state
pub heard-is : (s : Session) (talk : Talk) (d : Division) → divided [] d.rest ≡ uncut d.rest → IsState (heard_of s talk d).state
heard-is s talk d none = by (foreseen (effects s talk d.messages).talk d.rest)
  where
    by : (last : Talk) → IsState (record { session = s; talk = last; waiting = kept last d.rest })
    by (Failed r) = record { cut = refl; failed = λ e. refl }
    by Greeting = record { cut = none; failed = λ e. cc }
    by Asking = record { cut = none; failed = λ e. cc }
    by Installing = record { cut = none; failed = λ e. cc }
    by Installed = record { cut = none; failed = λ e. cc }

-- what waits is heard with what comes
pub heard-waiting : (s : State) (bytes : List ℕ) → IsState s → heard_of s.session s.talk (divided [] (s.waiting ++ bytes)) ≡ heard s bytes
heard-waiting s bytes is = ap (heard_of s.session s.talk) (divided-waiting s.waiting bytes is.cut)
