use Rattle.std.proofs.Common.{◌≡◌, ◌∙◌, ◌-◌, length, take, drop, arith, ap, sym, subst}
use Rattle.std.specs.declared.option.Option.TheVariants.{Some}
use Rattle.pq_model.specs.MatchFields.{IsLawfulMatch}
use Rattle.pq_model.specs.Spelling.{match_oxms}
use Rattle.pq_oxm.specs.Reading.{fields_of}
use Rattle.pq_oxm.proofs.Matches.{fields_read}
use Rattle.pq_oxm.proofs.Whole.{spelled}
use Rattle.pq_oxm.proofs.reading.candidate.Goals as goal

-- a spelling has a header
pub returns-then-bytes-lt4 : goal.returns-then-bytes-lt4
returns-then-bytes-lt4 c = λ m more law is. absurd (omega (arith, (spelled c.args.bytes.now m more is).long, c.if-bytes-lt4.true))

-- its length counts the header
pub returns-then-length-lt4 : goal.returns-then-length-lt4
returns-then-length-lt4 c =
    λ m more law is. absurd (omega (
      arith,
      (spelled c.args.bytes.now m more is).count,
      c.from_be_bytes.ensures,
      c.from-length.ensures,
      c.if-length-lt4.true,
    ))

-- it lies within the bytes
pub returns-then-bytes-length : goal.returns-then-bytes-length
returns-then-bytes-length c = λ m more law is.
    let parts = spelled c.args.bytes.now m more is in
    absurd (omega (arith, parts.count, parts.long, c.from_be_bytes.ensures, c.from-length.ensures, c.if-bytes-length.true))

-- its fields are read
pub returns : goal.returns
returns c = λ m more law is.
    let parts = spelled c.args.bytes.now m more is in
    let count : c.from-length.result - 4 ≡ length (match_oxms m) = omega (arith, parts.count, c.from_be_bytes.ensures, c.from-length.ensures) in
    let said : c.fields_of.result ≡ m = c.fields_of.ensures ∙ ap (λ k. fields_of (take k (drop 4 c.args.bytes.now))) count
    ∙ ap fields_of parts.oxms ∙ fields_read m law in
    let lawful : IsLawfulMatch c.fields_of.result = subst IsLawfulMatch (sym said) law in
    c.lawful.ensures.whole lawful ∙ ap Some said
