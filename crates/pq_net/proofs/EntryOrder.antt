-- Entries compare by query, then by label, then by packet.
use Rattle.std.proofs.Common.{◌≡◌, ℕ, ◌+◌, List, [], ◌∷◌, ◌++◌, map, append_assoc, refl, ap, ◌∙◌, arith}
use Rattle.std.proofs.lemmas.Bool.Decides.{nat_tests}
use Rattle.std.specs.Cmp.Lexicographic.{slice_cmp}
use Rattle.std.specs.Ordering.{nat_cmp, ordering_then}
use Rattle.std.specs.declared.cmp.Ordering.TheVariants.{Less, Greater}
use Rattle.pq_lists.proofs.Orderings.{then_grouped}
use Rattle.pq_fields.specs.Packet.{numbers}
use Rattle.pq_model.specs.Buckets.{BucketEntry, entry_numbers}

-- the end of a label is below each value
nil_first : (b : ℕ) → nat_cmp 0 (b + 1) ≡ Less
nil_first b = grind (arith, nat_tests)

-- each value is above the end of a label
nil_last : (a : ℕ) → nat_cmp (a + 1) 0 ≡ Greater
nil_last a = grind (arith, nat_tests)

-- values compare as they do when each is one more
raised : (a b : ℕ) → nat_cmp (a + 1) (b + 1) ≡ nat_cmp a b
raised a b = grind (arith, nat_tests)

-- labels decide before what follows them
labels-decide : (xs ys us vs : List ℕ) → slice_cmp nat_cmp (map (λ v. v + 1) xs ++ 0 ∷ us) (map (λ v. v + 1) ys ++ 0 ∷ vs)
    ≡ ordering_then (slice_cmp nat_cmp xs ys) (slice_cmp nat_cmp us vs)
labels-decide [] [] us vs = refl
labels-decide [] (y ∷ ys) us vs = ap (λ r. ordering_then r (slice_cmp nat_cmp us (map (λ v. v + 1) ys ++ 0 ∷ vs))) (nil_first y)
labels-decide (x ∷ xs) [] us vs = ap (λ r. ordering_then r (slice_cmp nat_cmp (map (λ v. v + 1) xs ++ 0 ∷ us) vs)) (nil_last x)
labels-decide (x ∷ xs) (y ∷ ys) us vs =
    (λ i. ordering_then (raised x y i) (labels-decide xs ys us vs i)) ∙ then_grouped (nat_cmp x y) (slice_cmp nat_cmp xs ys) (slice_cmp nat_cmp us vs)

-- the numbers of a label with what follows them
label_first : (label rest : List ℕ) → (map (λ v. v + 1) label ++ 0 ∷ []) ++ rest ≡ map (λ v. v + 1) label ++ 0 ∷ rest
label_first label rest = append_assoc (map (λ v. v + 1) label) (0 ∷ []) rest

-- the comparison of all numbers, part by part
pub entries-compare : (e f : BucketEntry)
    → slice_cmp nat_cmp (entry_numbers e) (entry_numbers f)
    ≡ ordering_then (ordering_then (nat_cmp e.pair.query f.pair.query) (slice_cmp nat_cmp e.pair.label f.pair.label))
    (slice_cmp nat_cmp (numbers e.packet) (numbers f.packet))
entries-compare e f =
    (λ i. ordering_then (nat_cmp e.pair.query f.pair.query)
    (slice_cmp nat_cmp (label_first e.pair.label (numbers e.packet) i) (label_first f.pair.label (numbers f.packet) i)))
    ∙ ap (ordering_then (nat_cmp e.pair.query f.pair.query)) (labels-decide e.pair.label f.pair.label (numbers e.packet) (numbers f.packet))
    ∙ then_grouped (nat_cmp e.pair.query f.pair.query) (slice_cmp nat_cmp e.pair.label f.pair.label) (slice_cmp nat_cmp (numbers e.packet) (numbers f.packet))
