-- The messages of trees are a renewal whose groups are numbered from 1.
use Rattle.std.proofs.Common.{◌≡◌, ◌≤◌, ℕ, suc, Bool, true, false, cond, List, [], ◌∷◌, length, map, not, refl, ap, arith}
use Rattle.std.specs.declared.option.Option.{Option}
use Rattle.std.proofs.lemmas.List.{length-map}
use Rattle.std.specs.List.{filter, filter_map}
use Rattle.pq_layout.specs.Messages.{ArrivingTrees, Buckets, LeavingTrees, each_once, group_needed, groups_from, groups_of, leaving_entries}
use Rattle.pq_layout.specs.Messages.{renewal_of, same_buckets, second_rule}
use Rattle.pq_lookup.specs.Sent.{AreFilled}
use Rattle.pq_lookup.proofs.Renewed.{renewing}
use Rattle.pq_delta.specs.Turning.{IsNumberedRenewal, numbers_from}

filtered : {X : Type 0} (p : X → Bool) (xs : List X) → length (filter p xs) ≤ length xs
filtered p [] = omega arith
filtered p (x ∷ xs) = by (p x) (filtered p xs)
  where
    by : (b : Bool) → length (filter p xs) ≤ length xs → length (cond b (x ∷ filter p xs) (filter p xs)) ≤ suc (length xs)
    by true h = omega (arith, h)
    by false h = omega (arith, h)

once : (bs : List Buckets) → length (each_once bs) ≤ length bs
once [] = omega arith
once (b ∷ bs) =
    let fewer = filtered (λ c. not (same_buckets b c)) (each_once bs) in
    let few = once bs in
    omega (arith, fewer, few)

given : {X Y : Type 0} (f : X → Option Y) (xs : List X) → length (filter_map f xs) ≤ length xs
given f [] = omega arith
given f (x ∷ xs) = grind (arith, given f xs)

groups-number : (xid number : ℕ) (bs : List Buckets) → map (λ g. g.group) (groups_from xid number bs) ≡ numbers_from number (length (groups_from xid number bs))
groups-number xid number [] = refl
groups-number xid number (b ∷ bs) = ap (λ l. number ∷ l) (groups-number (suc xid) (suc number) bs)

length-groups : (xid number : ℕ) (bs : List Buckets) → length (groups_from xid number bs) ≡ length bs
length-groups xid number [] = refl
length-groups xid number (b ∷ bs) = ap suc (length-groups (suc xid) (suc number) bs)

module _ (first : ArrivingTrees) (second : LeavingTrees) (filled : AreFilled first second) where
  few-groups : length (groups_from 4 1 (groups_of (leaving_entries second))) ≤ 0xffffff00
  few-groups =
      let es = leaving_entries second in
      let same = length-groups 4 1 (groups_of es) in
      let few = once (filter_map (λ e. group_needed e.1) es) in
      let fewer = given (λ e. group_needed e.1) es in
      let rules = length-map es (second_rule (groups_of es)) in
      let small = filled.second_few in
      omega (arith, same, few, fewer, rules, small)

  pub numbered : IsNumberedRenewal (renewal_of first second)
  numbered = record { renewing = renewing first second filled; numbers = groups-number 4 1 (groups_of (leaving_entries second)); few = few-groups }
