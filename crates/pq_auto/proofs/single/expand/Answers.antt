use Rattle.std.proofs.Common.{map, length, subst, arith}
use Rattle.pq_auto.specs.Rests.{rest_of, rests, after}
use Rattle.pq_auto.specs.Search.{IsNumber, targets}
use Rattle.pq_auto.proofs.Alike.{like_of, alike_of, next_own, letter_rest, read_at, rest_at, rest_stays, still_within}
use Rattle.pq_auto.proofs.Letters.{numbers_more, numbers_all, numbers_none}
use Rattle.pq_auto.proofs.single.expand.Goals as goal

pub loop-letter-init : goal.loop-letter-init
loop-letter-init g c = record {
  within = c.requires.place;
  counted = omega arith;
  alike = c.requires.alike;
  own = λ e are. are;
  stays = λ r at. at;
  numbers = λ r at more new numbers. numbers_none (after (map (λ v. v.items) c.args.alphabet.now)) r (length c.args.alphabet.now)
      (rests c.args.states.now.keys) c.in_ok-row.row.items more new c.in_ok-row.ensures.items numbers;
}

pub bounds-as_slice-place : goal.bounds-as_slice-place
bounds-as_slice-place g c = rw c.as_slice.ensures.keys c.loop-letter.invariant.within

pub number-requires : goal.number-requires
number-requires g c =
    let k = c.index-as_slice-place.result in
    let at = read_at c.loop-letter.states.keys c.as_slice.result.now c.args.place k c.loop-letter.invariant.within c.as_slice.ensures.keys
    c.index-as_slice-place.is in
    like_of c.loop-letter.states.keys c.args.place k c.in_ok-next.next c.loop-letter.invariant.alike at c.in_ok-next.ensures.expr

pub loop-letter-preserved : goal.loop-letter-preserved
loop-letter-preserved g c =
    let keys = c.loop-letter.states.keys in
    let new = c.number.new.states.keys in
    let next = c.in_ok-next.next in
    let n = c.in_ok-number.field-0 in
    let number = c.in_ok-number.ensures.number in
    let inv = c.loop-letter.invariant in
    let k = c.index-as_slice-place.result in
    let goes = after (map (λ v. v.items) c.args.alphabet.now) in
    let at_place = read_at keys c.as_slice.result.now c.args.place k inv.within c.as_slice.ensures.keys c.index-as_slice-place.is in
    record {
      counted = omega (arith, c.step_at.ensures.counted, inv.counted);
      within = still_within keys new (rest_of next) n c.args.place number inv.within;
      alike = alike_of new next c.in_ok-number.ensures.alike;
      own = λ e are. c.in_ok-number.ensures.rests e (inv.own e are)
          (next_own e keys c.args.place k next (inv.own e are) at_place c.in_ok-next.ensures.expr c.in_ok-next.ensures.own);
      stays = λ r at. rest_stays (rests keys) (rests new) (rest_of next) n c.args.place r number (inv.stays r at);
      numbers = λ r at.
          let is = letter_rest c.args.alphabet.now c.loop-letter.letter c.index-alphabet-letter.result c.deref.result.now k next r
          c.loop-letter-test.true c.index-alphabet-letter.is c.deref.ensures.value
          (rest_at keys c.args.place k r at_place (inv.stays r at)) c.in_ok-next.ensures.rest in
          numbers_more goes r c.loop-letter.letter (length c.args.alphabet.now) (rests keys)
          (rests new) n c.loop-letter.row.items c.push.new.self.items (rests c.args.states.now.keys)
          (targets goes r 0 (length c.args.alphabet.now)) c.loop-letter-test.true
          (subst (λ x. IsNumber (rests keys) x n (rests new)) is number) c.in_ok-push.ensures.items (inv.numbers r at);
    }

pub returns-clause-row : goal.returns-clause-row
returns-clause-row g c r at = numbers_all (after (map (λ v. v.items) c.args.alphabet.now)) r c.loop-letter.letter
    (length c.args.alphabet.now) (rests c.loop-letter.states.keys) c.loop-letter.row.items (rests c.args.states.now.keys)
    (targets (after (map (λ v. v.items) c.args.alphabet.now)) r 0 (length c.args.alphabet.now)) c.loop-letter-test.false (c.loop-letter.invariant.numbers r at)

pub returns-clause-counted : goal.returns-clause-counted
returns-clause-counted g c = omega (arith, c.loop-letter.invariant.counted, c.loop-letter-test.false)

pub returns-clause-alike : goal.returns-clause-alike
returns-clause-alike g c = c.loop-letter.invariant.alike

pub returns-clause-rests : goal.returns-clause-rests
returns-clause-rests g c = c.loop-letter.invariant.own
