-- Packets with another number in a field that they lack: which fields they have, and what is written to them.
use Rattle.std.proofs.Common.{◌≡◌, ◌∙◌, ◌==◌, ℕ, Bool, true, false, None, Some, Option, if◌then◌else◌, inl, inr, refl, sym, ap, ap₂, subst, arith}
use Rattle.std.specs.Prelude.{◌&&◌}
use Rattle.std.specs.Option.{unwrap_or}
use Rattle.std.proofs.lemmas.Bool.{true≢false}
use Rattle.std.proofs.lemmas.Bool.Decides.{eqb_tells, nat_tests}
use Rattle.std.proofs.Math.Bool.{and-true}
use Rattle.pq_apply.proofs.Choices.{one_of_same}
use Rattle.pq_fields.specs.declared.field.Field.{Field}
use Rattle.pq_fields.specs.declared.field.Field.TheVariants.{Switch, Port, EthType, IpProto, EthSrc, EthDst, Ipv4Src, Ipv4Dst, TcpSrc}
use Rattle.pq_fields.specs.declared.field.Field.TheVariants.{TcpDst, UdpSrc, UdpDst, Ipv6Src, Ipv6Dst}
use Rattle.pq_fields.specs.Packet.{Numbers, has_field, number_in, rank, with_number}
use Rattle.pq_fields.specs.Pred.{Equals, leaf}
use Rattle.pq_fields.specs.Writes.{Written, is_writable, no_writes, number_after, on, with_write, written_in}
use Rattle.pq_policy.specs.Policy.{written}
use Rattle.pq_store.proofs.Order.{rank_injective}
use Rattle.pq_store.proofs.PrefixNumbers.{number_with, number_with_other}
use Rattle.pq_rewrite.proofs.Fields.{written_with}
use Rattle.pq_rewrite.proofs.Numbers.{number_on}
use Rattle.pq_rewrite.proofs.Single.{alone}
use Rattle.pq_classes.proofs.Ignoring.{holds_kept}

-- packets with the same numbers are the same
same_packet : (x y : Numbers) → ((g : Field) → number_in g x ≡ number_in g y) → x ≡ y
same_packet x y same = λ i. record {
  switch = same Switch i;
  port = same Port i;
  eth_type = same EthType i;
  ip_proto = same IpProto i;
  eth_src = same EthSrc i;
  eth_dst = same EthDst i;
  ipv4_src = same Ipv4Src i;
  ipv4_dst = same Ipv4Dst i;
  tcp_src = same TcpSrc i;
  tcp_dst = same TcpDst i;
  udp_src = same UdpSrc i;
  udp_dst = same UdpDst i;
  ipv6_src = same Ipv6Src i;
  ipv6_dst = same Ipv6Dst i;
}

-- One write.

module _ (g : Field) (m : ℕ) (writable : is_writable g ≡ true) where
  -- the number alone is written
  abbrev one : Written
  one = with_write g m no_writes

  written_there : written_in g one ≡ Some m
  written_there =
      let same : (rank g == rank g) ≡ true = grind (arith, nat_tests) in
      written_with g g m no_writes writable ∙ ap (λ b. if b then Some m else written_in g no_writes) same

  unwritten : (h : Field) → (rank h ≡ rank g → ⊥) → written_in h one ≡ None
  unwritten h other = by (written_in h one) refl
    where
      by : (o : Option ℕ) → written_in h one ≡ o → written_in h one ≡ None
      by None is = is
      by (Some k) is = absurd (other (ap rank (alone g h m k is).0))

  -- as a policy writes it
  pub one_write : (x : Numbers) → on one x ≡ written g m x
  one_write x = same_packet (on one x) (written g m x) (λ h. number_on h one x ∙ at h)
    where
      own : (b : Bool) → (if b then m else number_in g x) ≡ number_in g (if b then with_number g m x else x)
      own true = sym (number_with g m x)
      own false = refl

      else_where : (h : Field) → (rank h ≡ rank g → ⊥) → (b : Bool) → number_in h x ≡ number_in h (if b then with_number g m x else x)
      else_where h other true = sym (number_with_other g h m x other)
      else_where h other false = refl

      at : (h : Field) → number_after h one x ≡ number_in h (written g m x)
      at h = elim (eqb_tells (rank h) (rank g)) [
        | inl same ↦ subst (λ k. number_after k one x ≡ number_in k (written g m x)) (sym (rank_injective h g same.1))
            (ap (λ o. if has_field g x then unwrap_or o (number_in g x) else number_in g x) written_there ∙ own (has_field g x))
        | inr other ↦ ap (λ o. if has_field h x then unwrap_or o (number_in h x) else number_in h x) (unwritten h other.1)
            ∙ (sym (one_of_same (has_field h x) (number_in h x)) ∙ else_where h other.1 (has_field g x))
      ]

-- Another number in a field that the packet lacks.

module _ (f : Field) (n : ℕ) where
  module _ (x : Numbers) (lacks : has_field f x ≡ false) where
    -- a field that the packet has is another
    pub other_field : (g : Field) → has_field g x ≡ true → rank g ≡ rank f → ⊥
    other_field g has same = true≢false (sym has ∙ ap (λ h. has_field h x) (rank_injective g f same) ∙ lacks)

    lacks_still : has_field f (with_number f n x) ≡ has_field f x
    lacks_still =
        let changed = with_number f n x in
        let same : (number_in f changed == n) ≡ true = grind (arith, nat_tests, number_with f n x) in
        sym (and-true (has_field f changed)) ∙ (ap (λ c. has_field f changed && c) (sym same)
        ∙ (holds_kept f n x lacks (leaf (Equals f n)) ∙ (ap (λ b. b && (number_in f x == n)) lacks ∙ sym lacks)))

    has_other : (g : Field) → (rank g ≡ rank f → ⊥) → has_field g (with_number f n x) ≡ has_field g x
    has_other g other =
        let changed = with_number f n x in
        let v = number_in g x in
        let kept : number_in g changed ≡ v = number_with_other f g n x other in
        let same : (number_in g changed == v) ≡ true = grind (arith, nat_tests, kept) in
        let itself : (v == v) ≡ true = grind (arith, nat_tests) in
        sym (and-true (has_field g changed)) ∙ (ap (λ c. has_field g changed && c) (sym same)
        ∙ (holds_kept f n x lacks (leaf (Equals g v)) ∙ (ap (λ c. has_field g x && c) itself ∙ and-true (has_field g x))))

    -- it has the fields that it had
    pub has_kept : (g : Field) → has_field g (with_number f n x) ≡ has_field g x
    has_kept g = elim (eqb_tells (rank g) (rank f)) [
      | inl same ↦ subst (λ h. has_field h (with_number f n x) ≡ has_field h x) (sym (rank_injective g f same.1)) lacks_still
      | inr other ↦ has_other g other.1
    ]

    -- and writes give the same, with that number
    pub on_kept : (w : Written) → on w (with_number f n x) ≡ with_number f n (on w x)
    on_kept w = same_packet (on w changed) (with_number f n (on w x)) (λ g. number_on g w changed ∙ at g)
      where
        changed : Numbers
        changed = with_number f n x

        own : number_after f w changed ≡ number_in f (with_number f n (on w x))
        own =
            ap (λ b. if b then unwrap_or (written_in f w) (number_in f changed) else number_in f changed) (lacks_still ∙ lacks)
            ∙ (number_with f n x ∙ sym (number_with f n (on w x)))

        at : (g : Field) → number_after g w changed ≡ number_in g (with_number f n (on w x))
        at g = elim (eqb_tells (rank g) (rank f)) [
          | inl same ↦ subst (λ h. number_after h w changed ≡ number_in h (with_number f n (on w x))) (sym (rank_injective g f same.1)) own
          | inr other ↦ ap₂ (λ b k. if b then unwrap_or (written_in g w) k else k) (has_other g other.1) (number_with_other f g n x other.1)
              ∙ (sym (number_on g w x) ∙ sym (number_with_other f g n (on w x) other.1))
        ]
