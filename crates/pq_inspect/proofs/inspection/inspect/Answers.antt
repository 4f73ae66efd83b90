use Rattle.std.proofs.Common.{◌∙◌, ap, ℕ, List, [], ◌∷◌, ◌++◌, Vec, Global}
use Rattle.pq_inspect.proofs.Floats.{in_inspection}
use Rattle.pq_inspect.proofs.inspection.inspect.Goals as goal

pub returns : goal.returns
returns c =
    let written = rw c.in_ok-value.ensures at c.in_ok-to_string.ensures.text in
    let text = written (in_inspection c.args.install.now) in
    c.in_ok-push.ensures.items ∙ ap (λ (bytes : List ℕ). bytes ++ 10 ∷ []) (ap (λ (v : Vec ℕ Global). v.items) c.into_bytes-text.ensures.value ∙ text)
