-- Messages are heard one after another.
use Rattle.std.proofs.Common.{◌≡◌, ℕ, ◌+◌, true, List, [], ◌++◌, take, drop, sym, ap, ◌∙◌, append_assoc}
use Rattle.std.proofs.lemmas.List.{take-append-drop, drop-drop}
use Rattle.std.proofs.lemmas.List.Concat.{flat_map-append}
use Rattle.pq_speaker.specs.declared.talk.Talk.{Talk}
use Rattle.pq_speaker.specs.Division.{Division, divided, is_whole, with_first}
use Rattle.pq_speaker.specs.Rules.{Session, effect, replies_bytes, reply_bytes}
use Rattle.pq_speaker.specs.Speaking.{effects}
use Rattle.pq_speaker.specs.Hearing.{Passed, passed, passed_with}
use Rattle.pq_speaker.proofs.Dividing.{divided-whole}

-- what a division makes, when so much was sent before
abbrev passes : Session → List ℕ → Talk → Division → Passed
passes s sent talk d = passed_with s sent (effects s talk d.messages) d.rest

passes-first : (s : Session) (sent : List ℕ) (talk : Talk) (m : List ℕ) (d : Division) →
    passes s sent talk (with_first m d) ≡ passes s (sent ++ replies_bytes s.messages (effect s talk m).replies) (effect s talk m).talk d
passes-first s sent talk m d =
    let first = effect s talk m in
    let others = effects s first.talk d.messages in
    λ i. record {
      talk = others.talk;
      rest = d.rest;
      sent = (ap (λ l. sent ++ l) (flat_map-append (reply_bytes s.messages) first.replies others.replies)
          ∙ sym (append_assoc sent (replies_bytes s.messages first.replies) (replies_bytes s.messages others.replies))) i;
    }

pub passed-step : (s : Session) (sent : List ℕ) (talk : Talk) (bytes : List ℕ) (used size : ℕ) → is_whole (take size (drop used bytes)) ≡ true →
    passed s sent talk (drop used bytes)
    ≡ passed s (sent ++ replies_bytes s.messages (effect s talk (take size (drop used bytes))).replies)
    (effect s talk (take size (drop used bytes))).talk (drop (used + size) bytes)
passed-step s sent talk bytes used size whole =
    let m = take size (drop used bytes) in
    ap (passed s sent talk) (sym (take-append-drop size (drop used bytes)))
    ∙ ap (passes s sent talk) (divided-whole m (drop size (drop used bytes)) whole)
    ∙ passes-first s sent talk m (divided [] (drop size (drop used bytes)))
    ∙ ap (passed s (sent ++ replies_bytes s.messages (effect s talk m).replies) (effect s talk m).talk) (drop-drop size used bytes)
