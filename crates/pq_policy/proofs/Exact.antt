-- Packets that compare as equal are the same, and a strictly sorted list of packets is in packet order.
use Rattle.std.proofs.Common.{◌≡◌, true, List, [], ◌∷◌, sym, ap, ◌∙◌}
use Rattle.std.specs.Cmp.Lexicographic.{slice_cmp}
use Rattle.std.specs.Ordering.{is_lt, nat_cmp}
use Rattle.std.specs.declared.cmp.Ordering.TheVariants.{Less, Equal}
use Rattle.std.specs.List.Sorted.{IsStrictlySortedBy}
use Rattle.std.proofs.lemmas.List.Elements.{All-weaker}
use Rattle.std.proofs.lemmas.Map.Lookups.{exact_bytes}
use Rattle.std.proofs.lemmas.Map.Views.{All-after_first}
use Rattle.pq_fields.specs.Order.{packet_cmp}
use Rattle.pq_fields.specs.Packet.{Numbers, is_before, numbers}
use Rattle.pq_fields.proofs.Tellings.{numbers_tell}
use Rattle.pq_policy.specs.Policy.{IsInPacketOrder}

-- packets that compare as equal are the same
pub tells : ((x y : Numbers) → packet_cmp x y ≡ slice_cmp nat_cmp (numbers x) (numbers y)) → (x y : Numbers) → packet_cmp x y ≡ Equal → x ≡ y
tells compares x y equal = numbers_tell x y (exact_bytes (numbers x) (numbers y) (sym (compares x y) ∙ equal))

-- what is strictly sorted is in packet order
pub in_order : ((x y : Numbers) → is_lt (packet_cmp x y) ≡ is_before (numbers x) (numbers y)) → (xs : List Numbers)
    → IsStrictlySortedBy packet_cmp xs → IsInPacketOrder xs
unfolding IsStrictlySortedBy
in_order precedes [] sorted = tt
in_order precedes (x ∷ xs) sorted = (
  All-weaker (λ y. packet_cmp x y ≡ Less) (λ y. is_before (numbers x) (numbers y) ≡ true) (λ y less. sym (precedes x y) ∙ ap is_lt less) xs
      (All-after_first packet_cmp x xs sorted),
  in_order precedes xs sorted.1,
)
