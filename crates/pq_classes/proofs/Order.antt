-- The orders of words, and lists of numbers that ascend.
use Rattle.std.proofs.Common.{◌≡◌, ℕ, Bool, true, false, inl, inr, List, [], ◌∷◌, ◌++◌, length, get_or, drop, flat_map, refl, sym, ap, ap₂}
use Rattle.std.proofs.Common.{subst, ◌∙◌, arith, true≢false}
use Rattle.std.specs.Ordering.{is_lt}
use Rattle.pq_fields.specs.Packet.{Numbers, is_before, numbers}
use Rattle.pq_model.specs.Word.{Word, In, Out, observed_packet, alternates, is_word, word_is_before, word_numbers}
use Rattle.pq_model.proofs.Sorted.{before-cmp}
use Rattle.pq_auto.specs.Numbering.{IsBefore}
use Rattle.pq_letters.specs.Words.{letters_are_before}
use Rattle.pq_model.proofs.NumberLists.{by_first, same_first, same_list}

-- a word of letters that is before another is the lesser one
pub letters_before : (u v : List ℕ) → IsBefore u v → letters_are_before u v ≡ true
letters_before u v (inl shorter) = by_first (length u) (length v) u v shorter
letters_before u v (inr (long, less)) =
    subst (λ n. is_before (length u ∷ u) (n ∷ v) ≡ true) long
    (same_first (length u) u v ∙ sym (before-cmp u v) ∙ ap is_lt less)

-- the packet with the first numbers of a list
abbrev of_numbers : List ℕ → Numbers
of_numbers ns = record {
  switch = get_or ns 0 0;
  port = get_or ns 1 0;
  eth_type = get_or ns 2 0;
  ip_proto = get_or ns 3 0;
  eth_src = get_or ns 4 0;
  eth_dst = get_or ns 5 0;
  ipv4_src = get_or ns 6 0;
  ipv4_dst = get_or ns 7 0;
  tcp_src = get_or ns 8 0;
  tcp_dst = get_or ns 9 0;
  udp_src = get_or ns 10 0;
  udp_dst = get_or ns 11 0;
  ipv6_src = get_or ns 12 0;
  ipv6_dst = get_or ns 13 0;
}

-- lists that begin with the numbers of packets are equal where the packets and the rests are
numbers_apart : (x y : Numbers) (us vs : List ℕ) → numbers x ++ us ≡ numbers y ++ vs → (x ≡ y) × (us ≡ vs)
numbers_apart x y us vs e = (ap of_numbers e, ap (drop 14) e)

-- words of one length that alternate alike and have the same numbers are one
same_spelling : (enters : Bool) (u v : Word) → alternates enters u ≡ true → alternates enters v ≡ true → length u ≡ length v
    → flat_map (λ o. numbers (observed_packet o)) u ≡ flat_map (λ o. numbers (observed_packet o)) v → u ≡ v
same_spelling enters [] [] h k long e = refl
same_spelling enters [] (p ∷ v) h k long e = absurd (omega (arith, long))
same_spelling enters (o ∷ u) [] h k long e = absurd (omega (arith, long))
same_spelling true (In x ∷ u) (In y ∷ v) h k long e =
    let parts = numbers_apart x y (flat_map (λ o. numbers (observed_packet o)) u) (flat_map (λ o. numbers (observed_packet o)) v) e in
    ap₂ (λ x w. In x ∷ w) parts.0 (same_spelling false u v h k (omega (arith, long)) parts.1)
same_spelling false (Out x ∷ u) (Out y ∷ v) h k long e =
    let parts = numbers_apart x y (flat_map (λ o. numbers (observed_packet o)) u) (flat_map (λ o. numbers (observed_packet o)) v) e in
    ap₂ (λ x w. Out x ∷ w) parts.0 (same_spelling true u v h k (omega (arith, long)) parts.1)
same_spelling true (Out x ∷ u) v h k long e = absurd (true≢false (sym h))
same_spelling false (In x ∷ u) v h k long e = absurd (true≢false (sym h))
same_spelling true (In x ∷ u) (Out y ∷ v) h k long e = absurd (true≢false (sym k))
same_spelling false (Out x ∷ u) (In y ∷ v) h k long e = absurd (true≢false (sym k))

-- words of which neither is before the other are one
pub one_word : (u v : Word) → is_word u ≡ true → is_word v ≡ true → word_is_before u v ≡ false → word_is_before v u ≡ false → u ≡ v
one_word u v h k less more =
    let same = same_list (word_numbers u) (word_numbers v) less more in
    same_spelling true u v h k (ap (λ ns. get_or ns 0 0) same) (ap (drop 1) same)
