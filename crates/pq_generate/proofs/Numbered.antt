-- Lines for one number more.
use Rattle.std.proofs.Common.{◌≡◌, ℕ, ◌+◌, List, ◌++◌, sym, ap, ◌∙◌, suc, append_assoc, arith}
use Rattle.std.specs.List.{flat_map, join_by, range_with_len}
use Rattle.std.proofs.lemmas.List.{flat_map_more}
use Rattle.pq_lists.proofs.Ranges.{range_push}

-- after the lines of numbers from a on comes the next one
pub line_more : (f : ℕ → List ℕ) (text : List ℕ) (a n j : ℕ) → a + n ≡ j
    → (text ++ flat_map f (range_with_len a n)) ++ f j ≡ text ++ flat_map f (range_with_len a (n + 1))
line_more f text a n j is =
    let more : suc n ≡ n + 1 = omega arith in
    rw (sym is) (flat_map_more f text (range_with_len a n) (a + n)
    ∙ ap (λ (xs : List ℕ). text ++ flat_map f xs) (sym (range_push a n) ∙ ap (range_with_len a) more))

-- the first, and then those from two on, are all from one on
pub joined_from_one : (f : ℕ → List ℕ) (separator text : List ℕ) (n rest : ℕ) → n ≡ rest + 1
    → (text ++ f 1) ++ flat_map (λ j. separator ++ f j) (range_with_len 2 rest) ≡ text ++ join_by f separator (range_with_len 1 n)
joined_from_one f separator text n rest is =
    let next : rest + 1 ≡ suc rest = omega arith in
    rw (is ∙ next) (append_assoc text (f 1) (flat_map (λ j. separator ++ f j) (range_with_len 2 rest)))
