-- Lines that are written one after another.
use Rattle.std.proofs.Common.{◌≡◌, ℕ, ◌+◌, ◌<◌, List, [], ◌∷◌, ◌++◌, length, get_or, take, ap, sym, ◌∙◌, append_assoc, append-nil}
use Rattle.std.proofs.lemmas.List.{take_more}
use Rattle.std.proofs.lemmas.Grind.{flat_map-append}
use Rattle.std.specs.List.{flat_map}

-- the line of one more value, after those of the values before it
pub one_more_line : {X : Type 0} (line : X → List ℕ) (xs : List X) (i : ℕ) (x : X) (start before now : List ℕ) → i < length xs → x ≡ get_or xs i x
    → before ≡ start ++ flat_map line (take i xs) → now ≡ before ++ line x → now ≡ start ++ flat_map line (take (i + 1) xs)
one_more_line {X} line xs i x start before now within is so_far written =
    let more : flat_map line (take (i + 1) xs) ≡ flat_map line (take i xs) ++ line x =
    ap (flat_map line) (take_more xs i x within) ∙ flat_map-append line (take i xs) (get_or xs i x ∷ [])
    ∙ ap (λ y. flat_map line (take i xs) ++ y) (append-nil (line (get_or xs i x)) ∙ ap line (sym is)) in
    written ∙ ap (λ b. b ++ line x) so_far ∙ append_assoc start (flat_map line (take i xs)) (line x) ∙ ap (λ l. start ++ l) (sym more)
