-- The copies in order are the copies sorted by their numbers.
use Rattle.std.proofs.Common.{◌≡◌, ℕ, Bool, true, false, if◌then◌else◌, arith, List, [], ◌∷◌, ◌++◌, map, length, refl, sym, ap, ◌∙◌}
use Rattle.std.specs.Cmp.Lexicographic.{slice_cmp}
use Rattle.std.specs.Ordering.{nat_cmp, ordering_then}
use Rattle.pq_lists.proofs.Orderings.{then_grouped}
use Rattle.pq_model.specs.declared.tagged.Sent.{Sent}
use Rattle.pq_model.specs.declared.tagged.Sent.TheVariants.{Port, Controller}
use Rattle.pq_fields.specs.Packet.{is_before}
use Rattle.pq_fields.proofs.Places.{then_equal}
use Rattle.pq_model.specs.Sorting.{put_by, sort_by}
use Rattle.pq_model.specs.SwitchMachine.{in_order, to_ports, to_controller}
use Rattle.pq_model.specs.Tagged.{TaggedPacket, tagged_numbers}
use Rattle.pq_switch.specs.SentOrder.{sent_numbers}

map-choice : {A B : Type 0} (f : A → B) (b : Bool) (xs ys : List A) → map f (if b then xs else ys) ≡ (if b then map f xs else map f ys)
map-choice f true xs ys = refl
map-choice f false xs ys = refl

append-choice : {A : Type 0} (b : Bool) (xs ys zs : List A) → (if b then xs ++ zs else ys ++ zs) ≡ (if b then xs else ys) ++ zs
append-choice true xs ys zs = refl
append-choice false xs ys zs = refl

put-controller : (x : TaggedPacket) (ys : List TaggedPacket)
    → put_by sent_numbers (Controller x) (map Controller ys) ≡ map Controller (put_by tagged_numbers x ys)
put-controller x [] = refl
put-controller x (y ∷ ys) =
    ap (λ l. if is_before (tagged_numbers y) (tagged_numbers x) then Controller y ∷ l else Controller x ∷ Controller y ∷ map Controller ys)
    (put-controller x ys)
    ∙ sym (map-choice Controller (is_before (tagged_numbers y) (tagged_numbers x)) (y ∷ put_by tagged_numbers x ys) (x ∷ y ∷ ys))

put-past : (x : TaggedPacket) (ports : List TaggedPacket) (rest : List Sent)
    → put_by sent_numbers (Controller x) (map Port ports ++ rest) ≡ map Port ports ++ put_by sent_numbers (Controller x) rest
put-past x [] rest = refl
put-past x (y ∷ ports) rest = ap (λ l. Port y ∷ l) (put-past x ports rest)

put-port : (x : TaggedPacket) (ports others : List TaggedPacket) → put_by sent_numbers (Port x) (map Port ports ++ map Controller others)
    ≡ map Port (put_by tagged_numbers x ports) ++ map Controller others
put-port x [] [] = refl
put-port x [] (y ∷ others) = refl
put-port x (y ∷ ports) others =
    let b = is_before (tagged_numbers y) (tagged_numbers x) in
    let rest = map Controller others in
    ap (λ l. if b then Port y ∷ l else Port x ∷ Port y ∷ (map Port ports ++ rest)) (put-port x ports others)
    ∙ append-choice b (Port y ∷ map Port (put_by tagged_numbers x ports)) (Port x ∷ Port y ∷ map Port ports) rest
    ∙ ap (λ l. l ++ rest) (sym (map-choice Port b (y ∷ put_by tagged_numbers x ports) (x ∷ y ∷ ports)))

pub sorted_in_order : (sent : List Sent) → sort_by sent_numbers sent ≡ in_order sent
sorted_in_order [] = refl
sorted_in_order (Port x ∷ sent) = ap (put_by sent_numbers (Port x)) (sorted_in_order sent)
    ∙ put-port x (sort_by tagged_numbers (to_ports sent)) (sort_by tagged_numbers (to_controller sent))
sorted_in_order (Controller x ∷ sent) =
    let ports = sort_by tagged_numbers (to_ports sent) in
    let others = sort_by tagged_numbers (to_controller sent) in
    ap (put_by sent_numbers (Controller x)) (sorted_in_order sent) ∙ put-past x ports (map Controller others)
    ∙ ap (λ l. map Port ports ++ l) (put-controller x others)

-- equal numbers before the last leave the decision to the last
pub last-decides : (xs ys : List ℕ) (a b : ℕ) → length xs ≡ length ys
    → slice_cmp nat_cmp (xs ++ a ∷ []) (ys ++ b ∷ []) ≡ ordering_then (slice_cmp nat_cmp xs ys) (nat_cmp a b)
last-decides [] [] a b e = then_equal (nat_cmp a b)
last-decides [] (y ∷ ys) a b e = absurd (omega arith)
last-decides (x ∷ xs) [] a b e = absurd (omega arith)
last-decides (x ∷ xs) (y ∷ ys) a b e = ap (ordering_then (nat_cmp x y)) (last-decides xs ys a b (omega arith))
    ∙ then_grouped (nat_cmp x y) (slice_cmp nat_cmp xs ys) (nat_cmp a b)
