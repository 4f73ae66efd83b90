-- The order of labels.
use Rattle.std.specs.Prelude.{◌≡◌, ℕ, List, [], ◌∷◌}
use Rattle.std.proofs.Common.{arith, refl}
use Rattle.std.specs.Cmp.Lexicographic.{slice_cmp}
use Rattle.std.specs.Ordering.{is_lt, nat_cmp}
use Rattle.std.proofs.lemmas.Bool.Decides.{nat_tests}
use Rattle.pq_fields.specs.Packet.{is_before}
use Rattle.pq_install.specs.Rows.{label_numbers}

-- labels compare as slices do
pub label_order : (xs ys : List ℕ) → is_lt (slice_cmp nat_cmp xs ys) ≡ is_before (label_numbers xs) (label_numbers ys)
label_order [] [] = refl
label_order [] (y ∷ ys) = grind (arith, nat_tests)
label_order (x ∷ xs) [] = grind (arith, nat_tests)
label_order (x ∷ xs) (y ∷ ys) = grind (arith, nat_tests, label_order xs ys)
