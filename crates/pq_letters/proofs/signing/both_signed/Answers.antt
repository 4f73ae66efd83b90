use Rattle.std.proofs.Common.{◌∙◌, ◌++◌, ap₂}
use Rattle.pq_letters.proofs.Signed.{both_say}
use Rattle.pq_letters.proofs.signing.both_signed.Goals as goal

pub returns-clause-signed : goal.returns-clause-signed
returns-clause-signed c =
    both_say _ c.args.left.now c.args.right.now c.product.new.into c.args.x c.args.y c.in_ok-id.id
    (λ a b d h. h.4 ∙ ap₂ (λ s t. s ++ t) h.2 h.3) c.in_ok-id.ensures.product
