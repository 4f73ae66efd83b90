-- Numbers that groups of digits spell.
use Rattle.std.proofs.Common.{◌≡◌, ℕ, ◌+◌, ◌-◌, ◌*◌, ◌^◌, ◌<◌, ◌≤◌, true, List, [], ◌∷◌, length, suc, refl, subst, arith}
use Rattle.std.specs.Prelude.{fold, leb, ◌==◌, ◌&&◌}
use Rattle.std.specs.Str.{byte}
use Rattle.std.specs.List.{list_all}
use Rattle.std.proofs.Math.Nat.{pow-succ', mul-le-mul_right, pow-le-pow_right}
use Rattle.std.proofs.lemmas.Bool.{and_parts, and_from, ltb-true, leb-true, lt-ltb}
use Rattle.pq_term.specs.declared.groups.Group.TheVariants.{Hex, Decimal}
use Rattle.pq_term.specs.Numbers.{value_of, is_digit, is_hex, is_plain, is_decimal}
use Rattle.pq_term.specs.Groups.{is_group, parts}
use Rattle.pq_term.specs.Forms.{is_mac, is_ipv4, is_ipv6_address}
use Rattle.pq_term.proofs.Digits.{hexadecimal_below}
use Rattle.pq_term.specs.Addresses.{groups_value, spell_digits}

-- one more digit multiplies the bound
pub below_next : (weight k value digit : ℕ) → value < weight ^ k → digit < weight → value * weight + digit < weight ^ suc k
below_next weight k value digit below small =
    let scaled : (value + 1) * weight ≤ weight ^ k * weight = mul-le-mul_right weight (omega (arith, below)) in
    let power : weight ^ suc k ≡ weight * weight ^ k = pow-succ' weight k in
    omega (arith, scaled, small, power)

-- the groups before those that are left have this value
pub record IsValueBefore (weight base : ℕ) (all left : List (List ℕ)) (value : ℕ) : Type 0 where
  pub small : spell_digits weight base left ≡ true
  pub within : length left ≤ length all
  pub below : value < weight ^ (length all - length left)
  pub whole : fold (λ so_far group. so_far * weight + value_of base group) value left ≡ groups_value weight base all

-- the next group
value_goes_on : (weight base : ℕ) (all : List (List ℕ)) (group : List ℕ) (left : List (List ℕ)) (value : ℕ) → weight ^ length all ≤ 2 ^ 128
    → IsValueBefore weight base all (group ∷ left) value →
    IsValueBefore weight base all left (value * weight + value_of base group) × (value_of base group < weight)
    × (value * weight + value_of base group < 2 ^ 128)
value_goes_on weight base all group left value few before =
    let parts = and_parts _ (spell_digits weight base left) before.small in
    let digit : value_of base group < weight = ltb-true _ _ parts.0 in
    let next = below_next weight (length all - suc (length left)) value (value_of base group) before.below digit in
    let one : suc (length all - suc (length left)) ≡ length all - length left = omega (arith, before.within) in
    let below : value * weight + value_of base group < weight ^ (length all - length left) =
    subst (λ k. value * weight + value_of base group < weight ^ k) one next in
    let power : weight ^ (length all - length left) ≤ weight ^ length all = pow-le-pow_right (omega (arith, digit)) (omega arith) in (
      record {
        small = parts.1;
        within = omega (arith, before.within);
        below = below;
        whole = before.whole;
      },
      digit,
      omega (arith, below, power, few),
    )

-- the same, where the groups left are given by an equation
pub value_steps : (weight base : ℕ) (all now : List (List ℕ)) (group : List ℕ) (left : List (List ℕ)) (value : ℕ)
    → weight ^ length all ≤ 2 ^ 128 → now ≡ group ∷ left → IsValueBefore weight base all now value →
    IsValueBefore weight base all left (value * weight + value_of base group) × (value_of base group < weight)
    × (value * weight + value_of base group < 2 ^ 128)
value_steps weight base all now group left value few is before =
    value_goes_on weight base all group left value few (subst (λ groups. IsValueBefore weight base all groups value) is before)

-- this many hexadecimal digits spell a number with fewer bits
hex_below : (least most weight : ℕ) → 16 ^ most ≤ weight → (group : List ℕ) → is_hex least most group ≡ true → value_of 16 group < weight
hex_below least most weight wide group hex =
    let parts = and_parts (leb least (length group) && leb (length group) most) (list_all (is_digit 16) group) hex in
    let few : length group ≤ most = leb-true (length group) most (and_parts (leb least (length group)) (leb (length group) most) parts.0).1 in
    let power : 16 ^ length group ≤ 16 ^ most = pow-le-pow_right (omega arith) few in
    let below : value_of 16 group < (0 + 1) * 16 ^ length group = hexadecimal_below 0 group parts.1 in
    omega (arith, below, power, wide)

-- hexadecimal groups spell digits
hex_groups : (least most weight : ℕ) → 16 ^ most ≤ weight → (groups : List (List ℕ)) → list_all (is_group (Hex least most)) groups ≡ true
    → spell_digits weight 16 groups ≡ true
hex_groups least most weight wide [] all = refl
hex_groups least most weight wide (g ∷ gs) all =
    let parts = and_parts (is_hex least most g) (list_all (is_group (Hex least most)) gs) all in
    and_from _ _ (lt-ltb (value_of 16 g) weight (hex_below least most weight wide g parts.0)) (hex_groups least most weight wide gs parts.1)

-- decimal groups spell digits
decimal_groups : (most : ℕ) (groups : List (List ℕ)) → list_all (is_group (Decimal most)) groups ≡ true → spell_digits (most + 1) 10 groups ≡ true
decimal_groups most [] all = refl
decimal_groups most (g ∷ gs) all =
    let parts = and_parts (is_decimal most g) (list_all (is_group (Decimal most)) gs) all in
    let small : value_of 10 g ≤ most = leb-true (value_of 10 g) most (and_parts (is_plain g) _ parts.0).1 in
    and_from _ _ (lt-ltb (value_of 10 g) (most + 1) (omega (arith, small))) (decimal_groups most gs parts.1)

-- the groups of a MAC address have eight bits each, and so have those of an IPv4 address; those of an IPv6 address have sixteen
pub mac_groups : (bs : List ℕ) → is_mac bs ≡ true → spell_digits 256 16 (parts (byte ":") bs) ≡ true
mac_groups bs is = hex_groups 2 2 256 (omega arith) (parts (byte ":") bs) (and_parts (length (parts (byte ":") bs) == 6) _ is).1

pub ipv4_groups : (bs : List ℕ) → is_ipv4 bs ≡ true → spell_digits 256 10 (parts (byte ".") bs) ≡ true
ipv4_groups bs is = decimal_groups 255 (parts (byte ".") bs) (and_parts (length (parts (byte ".") bs) == 4) _ is).1

pub ipv6_groups : (bs : List ℕ) → is_ipv6_address bs ≡ true → spell_digits 65536 16 (parts (byte ":") bs) ≡ true
ipv6_groups bs is = hex_groups 1 4 65536 (omega arith) (parts (byte ":") bs) (and_parts (length (parts (byte ":") bs) == 8) _ is).1
