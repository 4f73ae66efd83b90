-- Parts that are read are those that were written.
use Rattle.std.proofs.Common.{get_or, take, drop, ◌≡◌, ℕ, zero, suc, List, [], ◌∷◌, ◌<◌, ◌-◌, length, refl, arith}
use Rattle.std.proofs.Math.Seq.{take-length, take-append_seam, drop-append_seam}
use Rattle.pq_deriv.specs.Parts.{parts, members, spelled, set_of, first_part, behind_part}

pub parts_front : (n : ℕ) (r : List ℕ) → parts (suc n) r ≡ (first_part r ∷ parts n (behind_part r))
parts_front n [] = refl
parts_front n (len ∷ r) = refl

pub parts_more : (n : ℕ) (r : List ℕ) → 0 < n → parts n r ≡ (first_part r ∷ parts (n - 1) (behind_part r))
parts_more zero r some = absurd (omega (arith, some))
parts_more (suc n) r some = let less : suc n - 1 ≡ n = omega arith in rw less (parts_front n r)

pub members_front : (set : List ℕ) → 0 < length set → members set ≡ parts (get_or set 0 0) (take (length set - 1) (drop 1 set))
members_front [] some = absurd (omega (arith, some))
members_front (n ∷ r) some = let count : length (n ∷ r) - 1 ≡ length r = omega arith in rw (count, take-length r) refl

pub spelled_read : (ps : List (List ℕ)) → parts (length ps) (spelled ps) ≡ ps
spelled_read [] = refl
spelled_read (p ∷ ps) = rw (take-append_seam p (spelled ps), drop-append_seam p (spelled ps), spelled_read ps) refl

pub members_read : (ps : List (List ℕ)) → members (set_of ps) ≡ ps
members_read [] = refl
members_read (p ∷ ps) = spelled_read (p ∷ ps)
