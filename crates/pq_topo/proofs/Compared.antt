-- How numbers compare, and how their lists do.
use Rattle.std.specs.Prelude.{◌≡◌, ℕ, Bool, true, false, cond, ◌&&◌, ◌||◌, ◌==◌, nat_lt, [], ◌∷◌}
use Rattle.std.proofs.Common.{refl}
use Rattle.std.specs.declared.cmp.Ordering.{Ordering}
use Rattle.std.specs.declared.cmp.Ordering.TheVariants.{Less, Equal, Greater}
use Rattle.std.specs.Ordering.{nat_cmp, is_lt, ordering_then}
use Rattle.pq_fields.specs.Packet.{is_before}

-- one number is before another where it is less
pub less_is_before : (x y : ℕ) → is_lt (nat_cmp x y) ≡ is_before (x ∷ []) (y ∷ [])
less_is_before x y = by (nat_lt x y) (x == y)
  where
    by : (b c : Bool) → is_lt (cond b Less (cond c Equal Greater)) ≡ b || (c && false)
    by true c = refl
    by false true = refl
    by false false = refl

-- four comparisons, the first that tells
pub four_then : (a b c d : Ordering)
    → ordering_then (ordering_then (ordering_then a b) c) d ≡ ordering_then a (ordering_then b (ordering_then c (ordering_then d Equal)))
four_then Less b c d = refl
four_then Greater b c d = refl
four_then Equal Less c d = refl
four_then Equal Greater c d = refl
four_then Equal Equal Less d = refl
four_then Equal Equal Greater d = refl
four_then Equal Equal Equal Less = refl
four_then Equal Equal Equal Greater = refl
four_then Equal Equal Equal Equal = refl
