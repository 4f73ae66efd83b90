-- What the parts of a piece add together.
use Rattle.std.proofs.Common.{ℕ, ◌+◌, ◌-◌, List, ◌++◌, length, take, drop, Option, sym, ap, ◌∙◌, subst, take-add}
use Rattle.std.proofs.lemmas.List.{take_rest}
use Rattle.std.proofs.KnownBytes.{Appends-trans}
use Rattle.std.specs.Io.KnownBytes.{Appends}

-- the first bytes of a piece, and then the first of the others, are the first bytes of the piece
pub Appends-next : (a b c : Option (List ℕ)) (piece : List ℕ) (done n : ℕ) → Appends a b (take done piece)
    → Appends b c (take n (take (length piece - done) (drop done piece))) → Appends a c (take (done + n) piece)
Appends-next a b c piece done n first next =
    subst (Appends a c) (ap (λ l. take done piece ++ take n l) (take_rest piece done) ∙ sym (take-add done n piece)) (Appends-trans a b c _ _ first next)
