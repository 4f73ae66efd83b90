-- Writes one after another, each of which changes the packet.
use Rattle.std.proofs.Common.{ℕ, ◌≡◌, ◌∙◌, Bool, true, false, List, [], ◌∷◌, Option, None, Some, if◌then◌else◌, inl, inr, refl, sym, ap, subst}
use Rattle.std.specs.Prelude.{◌==◌, ◌&&◌, not}
use Rattle.std.specs.List.{All, Any}
use Rattle.std.specs.Option.{option_and, option_or, option_xor, unwrap_or}
use Rattle.std.proofs.lemmas.Bool.Decides.{eqb_tells}
use Rattle.std.proofs.lemmas.List.Elements.{All-head}
use Rattle.pq_fields.specs.declared.field.Field.{Field}
use Rattle.pq_fields.specs.declared.field.Field.TheVariants.{Switch, Port, EthType, IpProto, EthSrc, EthDst, Ipv4Src, Ipv4Dst, TcpSrc}
use Rattle.pq_fields.specs.declared.field.Field.TheVariants.{TcpDst, UdpSrc, UdpDst, Ipv6Src, Ipv6Dst}
use Rattle.pq_fields.specs.Packet.{Numbers, Fit, has_field, number_in}
use Rattle.pq_fields.specs.Writes.{Written, AllFit, FitsWidth, is_writable, on, written_in}
use Rattle.pq_store.specs.Tree.{Tree, value}
use Rattle.pq_rewrite.specs.Rewriting.{ChangesAll, CoversWrites, IsGiven}
use Rattle.pq_rewrite.specs.Sequence.{IsInTurn, once, over, twice}
use Rattle.pq_rewrite.specs.Settled.{IsSettledFrom, with_changes}
use Rattle.pq_rewrite.proofs.Fields.{same_written}
use Rattle.pq_rewrite.proofs.Halves.{any_one}
use Rattle.pq_rewrite.proofs.Numbers.{has_on, number_on}
use Rattle.pq_rewrite.proofs.Sets.{given_same}
use Rattle.pq_rewrite.proofs.SettledTrees.{all_writable, writable_fields}
use Rattle.pq_rewrite.proofs.Settling.{change_in, change_of, changes, changes_given, changes_in, in_place, in_place_none, is_among, steps_in}

-- one of two numbers that fit
one_fits : (bits : ℕ) (p q : Option ℕ) → FitsWidth bits p → FitsWidth bits q → FitsWidth bits (option_or p q)
one_fits bits None q left right = right
one_fits bits (Some n) q left right = left

-- where both fit, the number of one alone fits
pub xor_fits : (bits : ℕ) (p q : Option ℕ) → FitsWidth bits p → FitsWidth bits q → FitsWidth bits (option_xor p q)
xor_fits bits None q left right = right
xor_fits bits (Some n) None left right = left
xor_fits bits (Some n) (Some m) left right = tt

-- and the second where there are both
pub and_fits : (bits : ℕ) (p q : Option ℕ) → FitsWidth bits p → FitsWidth bits q → FitsWidth bits (option_and p q)
and_fits bits None q left right = tt
and_fits bits (Some n) q left right = right

-- so the numbers of the second over those of the first fit
over_fits : (v w : Written) → AllFit v → AllFit w → AllFit (over v w)
over_fits v w first second = record {
  port = one_fits 32 w.port v.port second.port first.port;
  eth_src = one_fits 48 w.eth_src v.eth_src second.eth_src first.eth_src;
  eth_dst = one_fits 48 w.eth_dst v.eth_dst second.eth_dst first.eth_dst;
  ipv4_src = one_fits 32 w.ipv4_src v.ipv4_src second.ipv4_src first.ipv4_src;
  ipv4_dst = one_fits 32 w.ipv4_dst v.ipv4_dst second.ipv4_dst first.ipv4_dst;
  tcp_src = one_fits 16 w.tcp_src v.tcp_src second.tcp_src first.tcp_src;
  tcp_dst = one_fits 16 w.tcp_dst v.tcp_dst second.tcp_dst first.tcp_dst;
  udp_src = one_fits 16 w.udp_src v.udp_src second.udp_src first.udp_src;
  udp_dst = one_fits 16 w.udp_dst v.udp_dst second.udp_dst first.udp_dst;
}

-- what a field has after two writes, where the packet has the field
after_both : (has : Bool) (p q : Option ℕ) (n : ℕ)
    → (if has then unwrap_or q (if has then unwrap_or p n else n) else (if has then unwrap_or p n else n)) ≡ (if has then unwrap_or (option_or q p) n else n)
after_both true p None n = refl
after_both true p (Some m) n = refl
after_both false p q n = refl

-- two writes one after another are the second's over the first's
on_over : (v w : Written) (x : Numbers) → on w (on v x) ≡ on (over v w) x
on_over v w x = λ i. record x {
  port = after_both true v.port w.port x.port i;
  eth_src = after_both true v.eth_src w.eth_src x.eth_src i;
  eth_dst = after_both true v.eth_dst w.eth_dst x.eth_dst i;
  ipv4_src = after_both (has_field Ipv4Src x) v.ipv4_src w.ipv4_src x.ipv4_src i;
  ipv4_dst = after_both (has_field Ipv4Dst x) v.ipv4_dst w.ipv4_dst x.ipv4_dst i;
  tcp_src = after_both (has_field TcpSrc x) v.tcp_src w.tcp_src x.tcp_src i;
  tcp_dst = after_both (has_field TcpDst x) v.tcp_dst w.tcp_dst x.tcp_dst i;
  udp_src = after_both (has_field UdpSrc x) v.udp_src w.udp_src x.udp_src i;
  udp_dst = after_both (has_field UdpDst x) v.udp_dst w.udp_dst x.udp_dst i;
}

-- they write into a field what the second writes, or else what the first does
written_over : (f : Field) (v w : Written) → written_in f (over v w) ≡ option_or (written_in f w) (written_in f v)
written_over Switch v w = refl
written_over Port v w = refl
written_over EthType v w = refl
written_over IpProto v w = refl
written_over EthSrc v w = refl
written_over EthDst v w = refl
written_over Ipv4Src v w = refl
written_over Ipv4Dst v w = refl
written_over TcpSrc v w = refl
written_over TcpDst v w = refl
written_over UdpSrc v w = refl
written_over UdpDst v w = refl
written_over Ipv6Src v w = refl
written_over Ipv6Dst v w = refl

-- one of them alone writes what it writes where the other doesn't
written_once : (f : Field) (v w : Written) → written_in f (once v w) ≡ option_xor (written_in f v) (written_in f w)
written_once Switch v w = refl
written_once Port v w = refl
written_once EthType v w = refl
written_once IpProto v w = refl
written_once EthSrc v w = refl
written_once EthDst v w = refl
written_once Ipv4Src v w = refl
written_once Ipv4Dst v w = refl
written_once TcpSrc v w = refl
written_once TcpDst v w = refl
written_once UdpSrc v w = refl
written_once UdpDst v w = refl
written_once Ipv6Src v w = refl
written_once Ipv6Dst v w = refl

-- and both write what the second writes where the first does too
written_twice : (f : Field) (v w : Written) → written_in f (twice v w) ≡ option_and (written_in f v) (written_in f w)
written_twice Switch v w = refl
written_twice Port v w = refl
written_twice EthType v w = refl
written_twice IpProto v w = refl
written_twice EthSrc v w = refl
written_twice EthDst v w = refl
written_twice Ipv4Src v w = refl
written_twice Ipv4Dst v w = refl
written_twice TcpSrc v w = refl
written_twice TcpDst v w = refl
written_twice UdpSrc v w = refl
written_twice UdpDst v w = refl
written_twice Ipv6Src v w = refl
written_twice Ipv6Dst v w = refl

-- that is one of the second's numbers
covers_twice : (ns : Field → List ℕ) (v w : Written) → CoversWrites ns w → CoversWrites ns (twice v w)
covers_twice ns v w covers f n is = covers f n (by (written_in f v) (written_in f w) (sym (written_twice f v w) ∙ is))
  where
    by : (p q : Option ℕ) → option_and p q ≡ Some n → q ≡ Some n
    by None q there = absurd cc
    by (Some m) q there = there

-- a number that is another stays to be written
change_kept : (has : Bool) (m n : ℕ) → (has ≡ true) × (m ≡ n → ⊥) → change_of has m (Some n) ≡ Some n
change_kept false m n (had, apart) = absurd cc
change_kept true m n (had, apart) = elim (eqb_tells m n) [ inl e ↦ absurd (apart e.1) | inr e ↦ rw e.0 refl ]

-- where each of two changes a field, only the second's number after the first's may leave the packet as it was
change_twice : (has : Bool) (m : ℕ) (p q : Option ℕ) → ((n : ℕ) → p ≡ Some n → (has ≡ true) × (m ≡ n → ⊥))
    → ((n : ℕ) → p ≡ None → q ≡ Some n → (has ≡ true) × (m ≡ n → ⊥))
    → in_place (option_xor p q) (change_of has m (option_and p q)) ≡ change_of has m (option_or q p)
change_twice has m None None first second = refl
change_twice has m None (Some n) first second = sym (change_kept has m n (second n refl refl))
change_twice has m (Some k) None first second = sym (change_kept has m k (first k refl))
change_twice has m (Some k) (Some n) first second = in_place_none None (change_of has m (Some n)) refl

-- where writes are followed by others that change the packet written, in a field that they leave alone these change the packet
second_changes : (f : Field) (v w : Written) (x : Numbers) → ChangesAll (on v x) w → (n : ℕ) → written_in f v ≡ None → written_in f w ≡ Some n
    → (has_field f x ≡ true) × (number_in f x ≡ n → ⊥)
second_changes f v w x changes n none is =
    let change = changes f n is in
    let has : has_field f x ≡ true = sym (has_on f v x) ∙ change.0 in
    let same : number_in f (on v x) ≡ number_in f x =
    number_on f v x ∙ (ap (λ b. if b then unwrap_or (written_in f v) (number_in f x) else number_in f x) has ∙ ap (λ o. unwrap_or o (number_in f x)) none) in
    (has, λ there. change.1 (same ∙ there))

-- so the steps for the fields that both write, from the numbers of one alone, give the changes of both
steps_twice : (fs : List Field) (v w : Written) (x : Numbers) → ((g : Field) → is_writable g ≡ true → is_among g fs ≡ true) → ChangesAll x v
    → ChangesAll (on v x) w
    → with_changes fs (twice v w) x (once v w) ≡ changes (over v w) x
steps_twice fs v w x all first second = same_written (with_changes fs (twice v w) x (once v w)) (changes (over v w) x) (λ g writable.
    steps_in fs g (twice v w) x (once v w) writable
    ∙ (ap (λ b. if b then in_place (written_in g (once v w)) (change_in g (twice v w) x) else written_in g (once v w)) (all g writable)
    ∙ (ap (λ o. in_place o (change_in g (twice v w) x)) (written_once g v w)
    ∙ (ap (λ o. in_place (option_xor (written_in g v) (written_in g w)) (change_of (has_field g x) (number_in g x) o)) (written_twice g v w)
    ∙ (change_twice (has_field g x) (number_in g x) (written_in g v) (written_in g w) (first g) (second_changes g v w x second)
    ∙ (ap (change_of (has_field g x) (number_in g x)) (sym (written_over g v w)) ∙ sym (changes_in g (over v w) x)))))))

-- and their tree gives the packet written by the first and then by the second
pub one_in_turn : (v w : Written) (t : Tree (List Written)) → AllFit v → AllFit w → IsSettledFrom writable_fields (twice v w) (once v w) t
    → IsInTurn v (w ∷ []) t
one_in_turn v w t v_fits w_fits from = record {
  giving = λ x fit first second.
      let is : value t x ≡ changes (over v w) x ∷ [] =
      from.gives x fit ∙ ap (λ o. o ∷ []) (steps_twice writable_fields v w x all_writable first (All-head (ChangesAll (on v x)) w [] second)) in
      subst (IsGiven x (λ y. Any (λ z. y ≡ on z (on v x)) (w ∷ []))) (sym is)
      (given_same x (λ y. y ≡ on (over v w) x) (λ y. Any (λ z. y ≡ on z (on v x)) (w ∷ [])) (changes (over v w) x ∷ []) (λ y. (into x y, back x y))
      (changes_given (over v w) x (over_fits v w v_fits w_fits)));
  tests = λ ns covers. from.tests ns (covers_twice ns v w (All-head (CoversWrites ns) w [] covers));
}
  where
    into : (x y : Numbers) → y ≡ on (over v w) x → Any (λ z. y ≡ on z (on v x)) (w ∷ [])
    into x y is = (any_one (λ z. y ≡ on z (on v x)) w).0 (is ∙ sym (on_over v w x))

    back : (x y : Numbers) → Any (λ z. y ≡ on z (on v x)) (w ∷ []) → y ≡ on (over v w) x
    back x y any = (any_one (λ z. y ≡ on z (on v x)) w).1 any ∙ on_over v w x
