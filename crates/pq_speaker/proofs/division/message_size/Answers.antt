use Rattle.std.proofs.Common.{◌≡◌, true, take, ap, ◌∙◌, subst, sym, arith}
use Rattle.pq_speaker.specs.declared.header.Header.{Header}
use Rattle.pq_speaker.specs.Division.{header_of, is_whole}
use Rattle.pq_speaker.proofs.Dividing.{few-uncut, small-uncut, less-uncut, whole-front}
use Rattle.pq_speaker.proofs.division.message_size.Goals as goal

pub returns-then-bytes-lt-HEADER_SIZE : goal.returns-then-bytes-lt-HEADER_SIZE
returns-then-bytes-lt-HEADER_SIZE c = few-uncut c.args.bytes.now c.if-bytes-lt-HEADER_SIZE.true

pub returns-then-size-lt-HEADER_SIZE : goal.returns-then-size-lt-HEADER_SIZE
returns-then-size-lt-HEADER_SIZE c =
    let size : c.from-size.result ≡ (header_of c.args.bytes.now).length = c.from-size.ensures ∙ ap (λ (h : Header). h.length) c.header_of.ensures in
    small-uncut c.args.bytes.now (omega (arith, size, c.if-size-lt-HEADER_SIZE.true))

pub returns-then-bytes-size : goal.returns-then-bytes-size
returns-then-bytes-size c =
    let size : c.from-size.result ≡ (header_of c.args.bytes.now).length = c.from-size.ensures ∙ ap (λ (h : Header). h.length) c.header_of.ensures in
    less-uncut c.args.bytes.now (omega (arith, size, c.if-bytes-size.true))

pub returns : goal.returns
returns c =
    let size : c.from-size.result ≡ (header_of c.args.bytes.now).length = c.from-size.ensures ∙ ap (λ (h : Header). h.length) c.header_of.ensures in (
      c.if-bytes-size.false,
      subst (λ n. is_whole (take n c.args.bytes.now) ≡ true) (sym size)
          (whole-front c.args.bytes.now (omega (arith, size, c.if-size-lt-HEADER_SIZE.false)) (omega (arith, size, c.if-bytes-size.false))),
    )
