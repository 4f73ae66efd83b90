-- How far a session is, and what is on its way then: an answer to the last barrier means that nothing is left to process.
use Rattle.std.proofs.Common.{◌≡◌, ◌⊎◌, ℕ, suc, ◌<◌, ◌^◌, Bool, true, false, ◌&&◌, List, [], ◌∷◌, ◌++◌, sym, ap, subst, ◌∙◌, inl, inr}
use Rattle.std.proofs.Common.{append_assoc, append-nil, arith}
use Rattle.std.specs.Prelude.{All, ◌==◌}
use Rattle.std.specs.List.{AllByRecursion, list_any}
use Rattle.std.proofs.lemmas.Bool.{and_from, both_ways, eq-eqb, or_parts}
use Rattle.std.proofs.lemmas.List.Concat.{flat_map-append}
use Rattle.pq_model.specs.declared.message.Message.{Message}
use Rattle.pq_model.specs.declared.message.Message.TheVariants.{Flow, Group, Barrier}
use Rattle.pq_model.specs.Lawful.{IsLawfulMessage}
use Rattle.pq_model.specs.Orders.{IsLawfulOrder}
use Rattle.pq_speaker.specs.declared.talk.Talk.{Talk}
use Rattle.pq_speaker.specs.declared.talk.Talk.TheVariants.{Greeting, Asking, Installing, Installed, Failed}
use Rattle.pq_speaker.specs.Division.{header_of}
use Rattle.pq_speaker.specs.Rules.{Session, Effect, barrier_reply, effect, ends_with_barrier, has_failed, is_asking, is_greeting, is_installing}
use Rattle.pq_speaker.specs.Speaking.{EndsWithOwnBarrier, effects, has_xid, xid_of}
use Rattle.pq_speaker.specs.World.{installed_by}
use Rattle.pq_speaker.proofs.Effects.{Does, does, ends-with, installs}

-- How far a session is.

-- an answer to the barrier with this xid
abbrev pub is_reply : ℕ → List ℕ → Bool
is_reply last m = ((header_of m).kind == barrier_reply) && ((header_of m).xid == last)

abbrev pub Quiet : ℕ → List (List ℕ) → Type 0
Quiet last pipe = list_any (is_reply last) pipe ≡ false

-- a message that isn't the last barrier
abbrev pub IsOther : ℕ → Message → Type 0
IsOther last m = (has_xid last m ≡ false) × (xid_of m < 2 ^ 32)

-- with what is coming in a lawful order, all messages are processed in one
abbrev pub IsOrdered : Session → List Message → List Message → Type 0
IsOrdered s coming done = (order : List Message) → IsLawfulOrder coming order → IsLawfulOrder s.messages (done ++ order)

-- the last barrier is coming, and isn't answered
pub record IsComing (last : ℕ) (coming : List Message) (pipe : List (List ℕ)) : Type 0 where
  pub others : List Message
  pub is : coming ≡ others ++ Barrier last ∷ []
  pub each : AllByRecursion (IsOther last) others
  pub quiet : Quiet last pipe

abbrev pub Before : ℕ → List Message → List Message → List (List ℕ) → Type 0
Before last coming done pipe = (coming ≡ []) × (done ≡ []) × Quiet last pipe

abbrev pub During : Session → ℕ → List Message → List Message → List (List ℕ) → Type 0
During s last coming done pipe = IsOrdered s coming done × ((coming ≡ []) ⊎ IsComing last coming pipe)

abbrev pub After : Session → List Message → List Message → Type 0
After s coming done = IsOrdered s coming done × (coming ≡ [])

-- what is coming, what was processed, and the messages of the switch on their way, by how far the session is
abbrev pub Stage : Session → ℕ → Talk → List Message → List Message → List (List ℕ) → Type 0
Stage s last Greeting coming done pipe = Before last coming done pipe
Stage s last Asking coming done pipe = Before last coming done pipe
Stage s last Installing coming done pipe = During s last coming done pipe
Stage s last Installed coming done pipe = After s coming done
Stage s last (Failed r) coming done pipe = Unit {0}

quiet-fewer : (last : ℕ) (m : List ℕ) (pipe : List (List ℕ)) → Quiet last (m ∷ pipe) → Quiet last pipe
quiet-fewer last m pipe quiet = (or_parts (is_reply last m) (list_any (is_reply last) pipe) quiet).1

coming-fewer : (last : ℕ) (coming : List Message) (m : List ℕ) (pipe : List (List ℕ)) → IsComing last coming (m ∷ pipe) → IsComing last coming pipe
coming-fewer last coming m pipe c = record { others = c.others; is = c.is; each = c.each; quiet = quiet-fewer last m pipe c.quiet }

stage-fewer : (s : Session) (last : ℕ) (talk : Talk) (coming done : List Message) (m : List ℕ) (pipe : List (List ℕ)) →
    Stage s last talk coming done (m ∷ pipe) → Stage s last talk coming done pipe
stage-fewer s last Greeting coming done m pipe (c, d, q) = (c, d, quiet-fewer last m pipe q)
stage-fewer s last Asking coming done m pipe (c, d, q) = (c, d, quiet-fewer last m pipe q)
stage-fewer s last Installing coming done m pipe (o, inl none) = (o, inl none)
stage-fewer s last Installing coming done m pipe (o, inr c) = (o, inr (coming-fewer last coming m pipe c))
stage-fewer s last Installed coming done m pipe h = h
stage-fewer s last (Failed r) coming done m pipe h = tt

pub stage-failed : (s : Session) (last : ℕ) (talk : Talk) (coming done : List Message) (pipe : List (List ℕ)) →
    has_failed talk ≡ true → Stage s last talk coming done pipe
stage-failed s last (Failed r) coming done pipe e = tt
stage-failed s last Greeting coming done pipe e = cc
stage-failed s last Asking coming done pipe e = cc
stage-failed s last Installing coming done pipe e = cc
stage-failed s last Installed coming done pipe e = cc

from-greeting : (s : Session) (last : ℕ) (talk : Talk) (coming done : List Message) (pipe : List (List ℕ)) →
    is_greeting talk ≡ true → Stage s last talk coming done pipe → Before last coming done pipe
from-greeting s last Greeting coming done pipe e h = h
from-greeting s last Asking coming done pipe e h = cc
from-greeting s last Installing coming done pipe e h = cc
from-greeting s last Installed coming done pipe e h = cc
from-greeting s last (Failed r) coming done pipe e h = cc

from-asking : (s : Session) (last : ℕ) (talk : Talk) (coming done : List Message) (pipe : List (List ℕ)) →
    is_asking talk ≡ true → Stage s last talk coming done pipe → Before last coming done pipe
from-asking s last Asking coming done pipe e h = h
from-asking s last Greeting coming done pipe e h = cc
from-asking s last Installing coming done pipe e h = cc
from-asking s last Installed coming done pipe e h = cc
from-asking s last (Failed r) coming done pipe e h = cc

from-installing : (s : Session) (last : ℕ) (talk : Talk) (coming done : List Message) (pipe : List (List ℕ)) →
    is_installing talk ≡ true → Stage s last talk coming done pipe → During s last coming done pipe
from-installing s last Installing coming done pipe e h = h
from-installing s last Greeting coming done pipe e h = cc
from-installing s last Asking coming done pipe e h = cc
from-installing s last Installed coming done pipe e h = cc
from-installing s last (Failed r) coming done pipe e h = cc

-- The messages of the session.

pub record IsSession (s : Session) (last : ℕ) : Type 0 where
  pub front : List Message
  pub messages : s.messages ≡ front ++ Barrier last ∷ []
  pub each : AllByRecursion (IsOther last) front

xid-fits : (m : Message) → IsLawfulMessage m → xid_of m < 2 ^ 32
xid-fits (Flow f) h = h.content.xid
xid-fits (Group g) h = h.content.xid
xid-fits (Barrier x) h = h.content

others-each : (last : ℕ) (ms back : List Message) → All IsLawfulMessage (ms ++ back) → list_any (has_xid last) ms ≡ false → AllByRecursion (IsOther last) ms
others-each last [] back lawful own = tt
others-each last (m ∷ ms) back lawful own =
    let parts = or_parts (has_xid last m) (list_any (has_xid last) ms) own in
    ((parts.0, xid-fits m (lawful 0 m (omega arith))), others-each last ms back (λ k d l. lawful (suc k) d (omega (arith, l))) parts.1)

pub session-of : (s : Session) → All IsLawfulMessage s.messages → (e : EndsWithOwnBarrier s.messages) → IsSession s e.xid
session-of s lawful e = record {
  front = e.front;
  messages = e.ended;
  each = others-each e.xid e.front (Barrier e.xid ∷ []) (subst (All IsLawfulMessage) e.ended lawful) e.own;
}

-- Hearing.

step : (s : Session) (last : ℕ) (talk : Talk) (coming done : List Message) (m : List ℕ) (pipe : List (List ℕ)) (e : Effect) → IsSession s last →
    Does s talk m e → Stage s last talk coming done (m ∷ pipe) → Stage s last e.talk (coming ++ installs s e) done pipe
step s last talk coming done m pipe e of (inl failed) stage = stage-failed s last e.talk (coming ++ installs s e) done pipe failed
step s last talk coming done m pipe e of (inr (inl (same, none))) stage =
    subst (λ t. Stage s last t (coming ++ installs s e) done pipe) (sym same)
    (subst (λ l. Stage s last talk l done pipe) (sym (ap (λ l. coming ++ l) none ∙ append-nil coming)) (stage-fewer s last talk coming done m pipe stage))
step s last talk coming done m pipe e of (inr (inr (inl (is, asks, none)))) stage =
    let before = from-greeting s last talk coming done (m ∷ pipe) is stage in
    subst (λ t. Stage s last t (coming ++ installs s e) done pipe) (sym asks)
    (ap (λ l. coming ++ l) none ∙ append-nil coming ∙ before.0, before.1, quiet-fewer last m pipe before.2)
step s last talk coming done m pipe e of (inr (inr (inr (inl (is, installing, all))))) stage =
    let before = from-asking s last talk coming done (m ∷ pipe) is stage in
    let sent : coming ++ installs s e ≡ s.messages = (λ i. before.0 i ++ all i) in
    subst (λ t. Stage s last t (coming ++ installs s e) done pipe) (sym installing) (
      λ order lawful. subst (IsLawfulOrder s.messages) (λ i. sym before.1 i ++ order) (subst (λ l. IsLawfulOrder l order) sent lawful),
      inr (record { others = of.front; is = sent ∙ of.messages; each = of.each; quiet = quiet-fewer last m pipe before.2 }),
    )
step s last talk coming done m pipe e of (inr (inr (inr (inr (is, installed, none, reply, xid))))) stage =
    let during = from-installing s last talk coming done (m ∷ pipe) is stage in
    let same : coming ++ installs s e ≡ coming = ap (λ l. coming ++ l) none ∙ append-nil coming in
    subst (λ t. Stage s last t (coming ++ installs s e) done pipe) (sym installed)
    (subst (λ l. After s l done) (sym same) (during.0, gone during.1))
  where
    answers : is_reply last m ≡ true
    answers = and_from ((header_of m).kind == barrier_reply) ((header_of m).xid == last) reply
        (eq-eqb (header_of m).xid last (ends-with of.front last (header_of m).xid (subst (λ l. ends_with_barrier (header_of m).xid l ≡ true) of.messages xid)))

    gone : (coming ≡ []) ⊎ IsComing last coming (m ∷ pipe) → coming ≡ []
    gone (inl none) = none
    gone (inr c) = absurd (both_ways (is_reply last m) (or_parts (is_reply last m) (list_any (is_reply last) pipe) c.quiet).0 answers)

pub steps : (s : Session) (last : ℕ) (talk : Talk) (coming done : List Message) (ms pipe : List (List ℕ)) → IsSession s last →
    Stage s last talk coming done (ms ++ pipe) → Stage s last (effects s talk ms).talk (coming ++ installs s (effects s talk ms)) done pipe
steps s last talk coming done [] pipe of stage = subst (λ l. Stage s last talk l done pipe) (sym (append-nil coming)) stage
steps s last talk coming done (m ∷ ms) pipe of stage =
    let first = effect s talk m in
    let rest = effects s first.talk ms in
    subst (λ l. Stage s last rest.talk l done pipe)
    (append_assoc coming (installs s first) (installs s rest)
    ∙ ap (λ l. coming ++ l) (sym (flat_map-append (installed_by s.messages) first.replies rest.replies)))
    (steps s last first.talk (coming ++ installs s first) done ms pipe of (step s last talk coming done m (ms ++ pipe) first of (does s talk m) stage))
