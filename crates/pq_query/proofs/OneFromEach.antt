-- Lists with one value from each list: how many there are, and which is the one of a number.
use Rattle.std.proofs.Common.{◌≡◌, ℕ, zero, suc, ◌+◌, ◌*◌, ◌/◌, ◌%◌, ◌<◌, List, [], ◌∷◌, ◌++◌, map, length, get_or, drop, append_assoc}
use Rattle.std.proofs.Common.{refl, sym, ap, ◌∙◌, arith, suc-mul, mul_comm, mod-lt, div-lt_iff_lt-mul, div-add-mod', mul-div_cancel}
use Rattle.std.specs.List.{flat_map}
use Rattle.std.proofs.Math.ListN.{get_or-map}
use Rattle.std.proofs.lemmas.List.{drop_more, get_or_default, get_or_append_left, get_or-append-add, length-map}
use Rattle.std.proofs.Common.{length-append}
use Rattle.pq_query.specs.Labels.{one_from_each}

-- the lists, each after each of the values
abbrev led : List (List ℕ) → List ℕ → List (List ℕ)
led R ns = flat_map (λ n. map (λ label. n ∷ label) R) ns

led_length : (R : List (List ℕ)) (ns : List ℕ) → length (led R ns) ≡ length ns * length R
led_length R [] = grind arith
led_length R (n ∷ ns) =
    let whole : length (led R (n ∷ ns)) ≡ length (map (λ label. n ∷ label) R) + length (led R ns) = length-append (map (λ label. n ∷ label) R) (led R ns) in
    let first : length (map (λ label. n ∷ label) R) ≡ length R = length-map R (λ label. n ∷ label) in
    let product : suc (length ns) * length R ≡ length ns * length R + length R = suc-mul (length ns) (length R) in
    omega (arith, whole, first, product, led_length R ns)

-- there are as many as the product of the lengths
pub each_length : (ns : List ℕ) (rest : List (List ℕ)) → length (one_from_each (ns ∷ rest)) ≡ length ns * length (one_from_each rest)
each_length ns rest = led_length (one_from_each rest) ns

led_at : (R : List (List ℕ)) (ns : List ℕ) (i k j : ℕ) → j ≡ i * length R + k → i < length ns → k < length R
    → get_or (led R ns) j [] ≡ get_or ns i 0 ∷ get_or R k []
led_at R [] i k j is within below = absurd (omega (arith, within))
led_at R (n ∷ ns) zero k j is within below =
    let here : j ≡ k = grind (arith, is) in
    let first : length (map (λ label. n ∷ label) R) ≡ length R = length-map R (λ label. n ∷ label) in
    let inside : k < length (map (λ label. n ∷ label) R) = omega (arith, first, below) in
    rw here (get_or_append_left (map (λ label. n ∷ label) R) (led R ns) [] k inside
    ∙ (get_or_default (map (λ label. n ∷ label) R) k [] (n ∷ []) inside ∙ get_or-map (λ label. n ∷ label) R k []))
led_at R (n ∷ ns) (suc i) k j is within below =
    let first : length (map (λ label. n ∷ label) R) ≡ length R = length-map R (λ label. n ∷ label) in
    let product : suc i * length R ≡ i * length R + length R = suc-mul i (length R) in
    let here : j ≡ length (map (λ label. n ∷ label) R) + (i * length R + k) = omega (arith, is, first, product) in
    rw here (get_or-append-add (map (λ label. n ∷ label) R) (led R ns) (i * length R + k) []
    ∙ led_at R ns i k (i * length R + k) refl (omega (arith, within)) below)

factors : (a b place : ℕ) → place < a * b → (0 < a) × (0 < b)
factors zero b place lt = absurd (grind (arith, lt))
factors (suc a) zero place lt = absurd (grind (arith, lt))
factors (suc a) (suc b) place lt = (omega arith, omega arith)

-- among this many lists the one of this number has a first value, and what follows it has a number among the rest
pub record Parted (ns : List ℕ) (rest : List (List ℕ)) (count place : ℕ) : Type 0 where
  pub block : count / length ns ≡ length (one_from_each rest)
  pub room : 0 < count / length ns
  pub first : place / (count / length ns) < length ns
  pub later : place % (count / length ns) < count / length ns
  pub is : get_or (one_from_each (ns ∷ rest)) place [] ≡ get_or ns (place / (count / length ns)) 0 ∷ get_or (one_from_each rest)
      (place % (count / length ns)) []

parted : (ns : List ℕ) (rest : List (List ℕ)) (count place : ℕ) → count ≡ length (one_from_each (ns ∷ rest)) → place < count → Parted ns rest count place
parted ns rest count place all within =
    let R = one_from_each rest in
    let product : count ≡ length ns * length R = all ∙ each_length ns rest in
    let inside : place < length ns * length R = omega (arith, product, within) in
    let sides : (0 < length ns) × (0 < length R) = factors (length ns) (length R) place inside in
    let block : count / length ns ≡ length R = ap (λ b. b / length ns) (product ∙ mul_comm (length ns) (length R)) ∙ mul-div_cancel (length R) sides.0 in
    let first : place / length R < length ns = (div-lt_iff_lt-mul sides.1).1 inside in
    let later : place % length R < length R = mod-lt place sides.1 in
    record {
      block = block;
      room = rw block sides.1;
      first = rw block first;
      later = rw block later;
      is = rw block (led_at R ns (place / length R) (place % length R) place (sym (div-add-mod' place (length R))) first later);
    }

-- the lists that are left begin with the one at hand
pub opened : (lists : List (List ℕ)) (i : ℕ) (item ns : List ℕ) → i < length lists → item ≡ get_or lists i item → ns ≡ item
    → drop i lists ≡ ns ∷ drop (i + 1) lists
opened lists i item ns below is same = drop_more lists i item below ∙ ap (λ x. x ∷ drop (i + 1) lists) (sym (same ∙ is))

pub parted_at : (lists : List (List ℕ)) (i : ℕ) (item ns : List ℕ) (count place : ℕ) → i < length lists → item ≡ get_or lists i item
    → ns ≡ item → count ≡ length (one_from_each (drop i lists)) → place < count → Parted ns (drop (i + 1) lists) count place
parted_at lists i item ns count place below is same all within =
    parted ns (drop (i + 1) lists) count place (all ∙ ap (λ ls. length (one_from_each ls)) (opened lists i item ns below is same)) within

-- one more value is put after those that begin the label
pub label_more : (lists : List (List ℕ)) (i : ℕ) (item ns : List ℕ) (count place : ℕ) (begun new whole : List ℕ) → i < length lists
    → item ≡ get_or lists i item → ns ≡ item → count ≡ length (one_from_each (drop i lists)) → place < count
    → new ≡ begun ++ get_or ns (place / (count / length ns)) 0 ∷ [] → begun ++ get_or (one_from_each (drop i lists)) place [] ≡ whole
    → new ++ get_or (one_from_each (drop (i + 1) lists)) (place % (count / length ns)) [] ≡ whole
label_more lists i item ns count place begun new whole below is same all within pushed so_far =
    let rest = get_or (one_from_each (drop (i + 1) lists)) (place % (count / length ns)) [] in
    let x = get_or ns (place / (count / length ns)) 0 in
    let parts = parted_at lists i item ns count place below is same all within in
    ap (λ l. l ++ rest) pushed
    ∙ (append_assoc begun (x ∷ []) rest
    ∙ (ap (λ l. begun ++ l) (sym (ap (λ ls. get_or (one_from_each ls) place []) (opened lists i item ns below is same) ∙ parts.is))
    ∙ so_far))
