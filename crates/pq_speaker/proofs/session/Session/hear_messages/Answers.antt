use Rattle.std.proofs.Common.{◌≡◌, ◌≤◌, ◌+◌, ◌-◌, true, ◌++◌, length, take, drop, sym, ap, subst, ◌∙◌, arith}
use Rattle.std.proofs.lemmas.List.{length-drop, take_rest}
use Rattle.pq_speaker.specs.Division.{is_whole}
use Rattle.pq_speaker.specs.Hearing.{passed}
use Rattle.pq_speaker.specs.Rules.{effect, replies_bytes}
use Rattle.pq_speaker.proofs.Passing.{passed-step}
use Rattle.pq_speaker.proofs.session.Session.hear_messages.Goals as goal

pub loop-size-preserved : goal.loop-size-preserved
loop-size-preserved c =
    let bytes = c.args.bytes.now in
    let used = c.loop-size.used in
    let size = c.in-Some.size in
    let rest = take_rest bytes used in
    let there : size ≤ length (drop used bytes) = subst (λ l. size ≤ length l) rest c.in-Some.ensures.0 in
    let whole : is_whole (take size (drop used bytes)) ≡ true = subst (λ l. is_whole (take size l) ≡ true) rest c.in-Some.ensures.1 in
    let cut : used + size - used ≡ size = omega arith in
    let talk : c.in_ok-talk.talk ≡ (effect c.args.self.now c.loop-size.talk (take size (drop used bytes))).talk =
    c.in_ok-talk.ensures.talk ∙ ap (λ n. (effect c.args.self.now c.loop-size.talk (take n (drop used bytes))).talk) cut in
    let sent : c.answer.new.sent.items ≡ c.loop-size.sent.items ++ replies_bytes c.args.self.now.messages
    (effect c.args.self.now c.loop-size.talk (take size (drop used bytes))).replies =
    c.in_ok-talk.ensures.sent
    ∙ ap (λ n. c.loop-size.sent.items ++ replies_bytes c.args.self.now.messages
    (effect c.args.self.now c.loop-size.talk (take n (drop used bytes))).replies) cut in (
      omega (arith, there, length-drop used bytes, c.loop-size.invariant.0),
      (λ i. passed c.args.self.now (sent i) (talk i) (drop (used + size) bytes))
          ∙ sym (passed-step c.args.self.now c.loop-size.sent.items c.loop-size.talk bytes used size whole)
          ∙ c.loop-size.invariant.1,
    )
