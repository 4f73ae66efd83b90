use Rattle.std.proofs.Common.{◌≡◌, ◌∙◌, ap, sym, length}
use Rattle.std.proofs.lemmas.Bool.{false≢true, eqb-true, eqb-false}
use Rattle.std.proofs.lemmas.List.{length-map, nil_from_length}
use Rattle.pq_flowmod.proofs.rules.are_buckets.Goals as goal

-- there is none
pub returns-then-is_empty : goal.returns-then-is_empty
returns-then-is_empty c =
    let none : length c.args.buckets.now ≡ 0 = eqb-true (length c.args.buckets.now) 0 (sym c.is_empty.ensures ∙ c.if-is_empty.true) in
    ((λ t. absurd (false≢true t)), λ law. absurd (law.0 (nil_from_length _ (length-map c.args.buckets.now (λ b. b.items) ∙ none))))

-- there are some
pub returns : goal.returns
returns c =
    let some = eqb-false (length c.args.buckets.now) 0 (sym c.is_empty.ensures ∙ c.if-is_empty.false) in (
      (λ t. ((λ empty. some (sym (length-map c.args.buckets.now (λ b. b.items)) ∙ ap length empty)), c.each_is_bucket.ensures.0 t)),
      λ law. c.each_is_bucket.ensures.1 law.1,
    )
