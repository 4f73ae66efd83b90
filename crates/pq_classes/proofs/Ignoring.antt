-- What doesn't depend on the number in a field that a packet lacks.
use Rattle.std.proofs.Common.{◌≡◌, ◌<◌, ◌^◌, ℕ, Bool, true, false, List, [], ◌∷◌, map, get_or, refl, sym, ap, ap₂, ◌∙◌, true≢false}
use Rattle.std.specs.Prelude.{◌&&◌, ◌==◌, Some}
use Rattle.std.specs.Option.{option_map}
use Rattle.std.proofs.lemmas.Option.{same_Some}
use Rattle.pq_fields.specs.declared.field.Field.{Field}
use Rattle.pq_fields.specs.declared.field.Field.TheVariants.{Switch, Port, EthType, IpProto, EthSrc, EthDst, Ipv4Src, Ipv4Dst, TcpSrc}
use Rattle.pq_fields.specs.declared.field.Field.TheVariants.{TcpDst, UdpSrc, UdpDst, Ipv6Src, Ipv6Dst}
use Rattle.pq_fields.specs.Packet.{Fit, Numbers, has_field, is_ip, number_in, rank, width_of, with_number}
use Rattle.pq_fields.specs.Pred.{PredTop, PredTree, Preds, none, put, Always, Never, Equals, Leads, LeadsWide, Every, Some as AnyOf}
use Rattle.pq_fields.specs.Pred.{Negated, holds, is_true, leading, truths}
use Rattle.pq_store.proofs.PrefixNumbers.{number_with_other}
use Rattle.pq_store.proofs.Order.{rank_injective}
use Rattle.pq_store.specs.Tree.{value}
use Rattle.pq_letters.specs.Letters.{IsLettered, LettersValue, letter_at}
use Rattle.pq_classes.specs.Letters.{IgnoresLacking}
use Rattle.pq_classes.specs.Told.{TellPreds}

-- whether a packet has a field depends on its EtherType and its IP protocol alone
has_by : (g : Field) (x y : Numbers) → x.eth_type ≡ y.eth_type → x.ip_proto ≡ y.ip_proto → has_field g x ≡ has_field g y
has_by Switch x y t p = refl
has_by Port x y t p = refl
has_by EthType x y t p = refl
has_by IpProto x y t p = rw t refl
has_by EthSrc x y t p = refl
has_by EthDst x y t p = refl
has_by Ipv4Src x y t p = rw t refl
has_by Ipv4Dst x y t p = rw t refl
has_by TcpSrc x y t p = rw (t, p) refl
has_by TcpDst x y t p = rw (t, p) refl
has_by UdpSrc x y t p = rw (t, p) refl
has_by UdpDst x y t p = rw (t, p) refl
has_by Ipv6Src x y t p = rw t refl
has_by Ipv6Dst x y t p = rw t refl

-- what is not an IP packet has the same fields whatever its IP protocol
has_without_ip : (g : Field) (n : ℕ) (x : Numbers) → is_ip x ≡ false → has_field g (record x { ip_proto = n }) ≡ has_field g x
has_without_ip Switch n x lacks = refl
has_without_ip Port n x lacks = refl
has_without_ip EthType n x lacks = refl
has_without_ip IpProto n x lacks = refl
has_without_ip EthSrc n x lacks = refl
has_without_ip EthDst n x lacks = refl
has_without_ip Ipv4Src n x lacks = refl
has_without_ip Ipv4Dst n x lacks = refl
has_without_ip TcpSrc n x lacks = ap (λ b. b && (n == 6)) lacks ∙ sym (ap (λ b. b && (x.ip_proto == 6)) lacks)
has_without_ip TcpDst n x lacks = ap (λ b. b && (n == 6)) lacks ∙ sym (ap (λ b. b && (x.ip_proto == 6)) lacks)
has_without_ip UdpSrc n x lacks = ap (λ b. b && (n == 17)) lacks ∙ sym (ap (λ b. b && (x.ip_proto == 17)) lacks)
has_without_ip UdpDst n x lacks = ap (λ b. b && (n == 17)) lacks ∙ sym (ap (λ b. b && (x.ip_proto == 17)) lacks)
has_without_ip Ipv6Src n x lacks = refl
has_without_ip Ipv6Dst n x lacks = refl

-- a number in a field that a packet lacks gives it no field and takes none
has_kept : (f g : Field) (n : ℕ) (x : Numbers) → has_field f x ≡ false → has_field g (with_number f n x) ≡ has_field g x
has_kept Switch g n x lacks = absurd (true≢false lacks)
has_kept Port g n x lacks = absurd (true≢false lacks)
has_kept EthType g n x lacks = absurd (true≢false lacks)
has_kept IpProto g n x lacks = has_without_ip g n x lacks
has_kept EthSrc g n x lacks = absurd (true≢false lacks)
has_kept EthDst g n x lacks = absurd (true≢false lacks)
has_kept Ipv4Src g n x lacks = has_by g (record x { ipv4_src = n }) x refl refl
has_kept Ipv4Dst g n x lacks = has_by g (record x { ipv4_dst = n }) x refl refl
has_kept TcpSrc g n x lacks = has_by g (record x { tcp_src = n }) x refl refl
has_kept TcpDst g n x lacks = has_by g (record x { tcp_dst = n }) x refl refl
has_kept UdpSrc g n x lacks = has_by g (record x { udp_src = n }) x refl refl
has_kept UdpDst g n x lacks = has_by g (record x { udp_dst = n }) x refl refl
has_kept Ipv6Src g n x lacks = has_by g (record x { ipv6_src = n }) x refl refl
has_kept Ipv6Dst g n x lacks = has_by g (record x { ipv6_dst = n }) x refl refl

-- a packet stays one with a number that fits
pub fit_with : (f : Field) (n : ℕ) (x : Numbers) → Fit x → n < 2 ^ width_of f → Fit (with_number f n x)
fit_with Switch n x fit small = record {
  switch = small;
  port = fit.port;
  eth_type = fit.eth_type;
  ip_proto = fit.ip_proto;
  eth_src = fit.eth_src;
  eth_dst = fit.eth_dst;
  ipv4_src = fit.ipv4_src;
  ipv4_dst = fit.ipv4_dst;
  tcp_src = fit.tcp_src;
  tcp_dst = fit.tcp_dst;
  udp_src = fit.udp_src;
  udp_dst = fit.udp_dst;
  ipv6_src = fit.ipv6_src;
  ipv6_dst = fit.ipv6_dst;
}
fit_with Port n x fit small = record {
  switch = fit.switch;
  port = small;
  eth_type = fit.eth_type;
  ip_proto = fit.ip_proto;
  eth_src = fit.eth_src;
  eth_dst = fit.eth_dst;
  ipv4_src = fit.ipv4_src;
  ipv4_dst = fit.ipv4_dst;
  tcp_src = fit.tcp_src;
  tcp_dst = fit.tcp_dst;
  udp_src = fit.udp_src;
  udp_dst = fit.udp_dst;
  ipv6_src = fit.ipv6_src;
  ipv6_dst = fit.ipv6_dst;
}
fit_with EthType n x fit small = record {
  switch = fit.switch;
  port = fit.port;
  eth_type = small;
  ip_proto = fit.ip_proto;
  eth_src = fit.eth_src;
  eth_dst = fit.eth_dst;
  ipv4_src = fit.ipv4_src;
  ipv4_dst = fit.ipv4_dst;
  tcp_src = fit.tcp_src;
  tcp_dst = fit.tcp_dst;
  udp_src = fit.udp_src;
  udp_dst = fit.udp_dst;
  ipv6_src = fit.ipv6_src;
  ipv6_dst = fit.ipv6_dst;
}
fit_with IpProto n x fit small = record {
  switch = fit.switch;
  port = fit.port;
  eth_type = fit.eth_type;
  ip_proto = small;
  eth_src = fit.eth_src;
  eth_dst = fit.eth_dst;
  ipv4_src = fit.ipv4_src;
  ipv4_dst = fit.ipv4_dst;
  tcp_src = fit.tcp_src;
  tcp_dst = fit.tcp_dst;
  udp_src = fit.udp_src;
  udp_dst = fit.udp_dst;
  ipv6_src = fit.ipv6_src;
  ipv6_dst = fit.ipv6_dst;
}
fit_with EthSrc n x fit small = record {
  switch = fit.switch;
  port = fit.port;
  eth_type = fit.eth_type;
  ip_proto = fit.ip_proto;
  eth_src = small;
  eth_dst = fit.eth_dst;
  ipv4_src = fit.ipv4_src;
  ipv4_dst = fit.ipv4_dst;
  tcp_src = fit.tcp_src;
  tcp_dst = fit.tcp_dst;
  udp_src = fit.udp_src;
  udp_dst = fit.udp_dst;
  ipv6_src = fit.ipv6_src;
  ipv6_dst = fit.ipv6_dst;
}
fit_with EthDst n x fit small = record {
  switch = fit.switch;
  port = fit.port;
  eth_type = fit.eth_type;
  ip_proto = fit.ip_proto;
  eth_src = fit.eth_src;
  eth_dst = small;
  ipv4_src = fit.ipv4_src;
  ipv4_dst = fit.ipv4_dst;
  tcp_src = fit.tcp_src;
  tcp_dst = fit.tcp_dst;
  udp_src = fit.udp_src;
  udp_dst = fit.udp_dst;
  ipv6_src = fit.ipv6_src;
  ipv6_dst = fit.ipv6_dst;
}
fit_with Ipv4Src n x fit small = record {
  switch = fit.switch;
  port = fit.port;
  eth_type = fit.eth_type;
  ip_proto = fit.ip_proto;
  eth_src = fit.eth_src;
  eth_dst = fit.eth_dst;
  ipv4_src = small;
  ipv4_dst = fit.ipv4_dst;
  tcp_src = fit.tcp_src;
  tcp_dst = fit.tcp_dst;
  udp_src = fit.udp_src;
  udp_dst = fit.udp_dst;
  ipv6_src = fit.ipv6_src;
  ipv6_dst = fit.ipv6_dst;
}
fit_with Ipv4Dst n x fit small = record {
  switch = fit.switch;
  port = fit.port;
  eth_type = fit.eth_type;
  ip_proto = fit.ip_proto;
  eth_src = fit.eth_src;
  eth_dst = fit.eth_dst;
  ipv4_src = fit.ipv4_src;
  ipv4_dst = small;
  tcp_src = fit.tcp_src;
  tcp_dst = fit.tcp_dst;
  udp_src = fit.udp_src;
  udp_dst = fit.udp_dst;
  ipv6_src = fit.ipv6_src;
  ipv6_dst = fit.ipv6_dst;
}
fit_with TcpSrc n x fit small = record {
  switch = fit.switch;
  port = fit.port;
  eth_type = fit.eth_type;
  ip_proto = fit.ip_proto;
  eth_src = fit.eth_src;
  eth_dst = fit.eth_dst;
  ipv4_src = fit.ipv4_src;
  ipv4_dst = fit.ipv4_dst;
  tcp_src = small;
  tcp_dst = fit.tcp_dst;
  udp_src = fit.udp_src;
  udp_dst = fit.udp_dst;
  ipv6_src = fit.ipv6_src;
  ipv6_dst = fit.ipv6_dst;
}
fit_with TcpDst n x fit small = record {
  switch = fit.switch;
  port = fit.port;
  eth_type = fit.eth_type;
  ip_proto = fit.ip_proto;
  eth_src = fit.eth_src;
  eth_dst = fit.eth_dst;
  ipv4_src = fit.ipv4_src;
  ipv4_dst = fit.ipv4_dst;
  tcp_src = fit.tcp_src;
  tcp_dst = small;
  udp_src = fit.udp_src;
  udp_dst = fit.udp_dst;
  ipv6_src = fit.ipv6_src;
  ipv6_dst = fit.ipv6_dst;
}
fit_with UdpSrc n x fit small = record {
  switch = fit.switch;
  port = fit.port;
  eth_type = fit.eth_type;
  ip_proto = fit.ip_proto;
  eth_src = fit.eth_src;
  eth_dst = fit.eth_dst;
  ipv4_src = fit.ipv4_src;
  ipv4_dst = fit.ipv4_dst;
  tcp_src = fit.tcp_src;
  tcp_dst = fit.tcp_dst;
  udp_src = small;
  udp_dst = fit.udp_dst;
  ipv6_src = fit.ipv6_src;
  ipv6_dst = fit.ipv6_dst;
}
fit_with UdpDst n x fit small = record {
  switch = fit.switch;
  port = fit.port;
  eth_type = fit.eth_type;
  ip_proto = fit.ip_proto;
  eth_src = fit.eth_src;
  eth_dst = fit.eth_dst;
  ipv4_src = fit.ipv4_src;
  ipv4_dst = fit.ipv4_dst;
  tcp_src = fit.tcp_src;
  tcp_dst = fit.tcp_dst;
  udp_src = fit.udp_src;
  udp_dst = small;
  ipv6_src = fit.ipv6_src;
  ipv6_dst = fit.ipv6_dst;
}
fit_with Ipv6Src n x fit small = record {
  switch = fit.switch;
  port = fit.port;
  eth_type = fit.eth_type;
  ip_proto = fit.ip_proto;
  eth_src = fit.eth_src;
  eth_dst = fit.eth_dst;
  ipv4_src = fit.ipv4_src;
  ipv4_dst = fit.ipv4_dst;
  tcp_src = fit.tcp_src;
  tcp_dst = fit.tcp_dst;
  udp_src = fit.udp_src;
  udp_dst = fit.udp_dst;
  ipv6_src = small;
  ipv6_dst = fit.ipv6_dst;
}
fit_with Ipv6Dst n x fit small = record {
  switch = fit.switch;
  port = fit.port;
  eth_type = fit.eth_type;
  ip_proto = fit.ip_proto;
  eth_src = fit.eth_src;
  eth_dst = fit.eth_dst;
  ipv4_src = fit.ipv4_src;
  ipv4_dst = fit.ipv4_dst;
  tcp_src = fit.tcp_src;
  tcp_dst = fit.tcp_dst;
  udp_src = fit.udp_src;
  udp_dst = fit.udp_dst;
  ipv6_src = fit.ipv6_src;
  ipv6_dst = small;
}

module _ (f : Field) (n : ℕ) (x : Numbers) (lacks : has_field f x ≡ false) where
  abbrev changed : Numbers
  changed = with_number f n x

  -- a test of the number in a field that the packet has
  had_kept : (g : Field) (P : ℕ → Bool) → (has_field g changed && P (number_in g changed)) ≡ (has_field g x && P (number_in g x))
  had_kept g P = by (has_field g x) refl
    where
      other : has_field g x ≡ true → rank g ≡ rank f → ⊥
      other has same = true≢false (sym has ∙ ap (λ h. has_field h x) (rank_injective g f same) ∙ lacks)

      by : (b : Bool) → has_field g x ≡ b → (has_field g changed && P (number_in g changed)) ≡ (has_field g x && P (number_in g x))
      by true is = ap₂ (λ b v. b && P v) (has_kept f g n x lacks) (number_with_other f g n x (other is))
      by false is = ap (λ b. b && P (number_in g changed)) (has_kept f g n x lacks ∙ is) ∙ sym (ap (λ b. b && P (number_in g x)) is)

  top_kept : (t : PredTop) (bs : List Bool) → is_true t bs changed ≡ is_true t bs x
  top_kept Always bs = refl
  top_kept Never bs = refl
  top_kept (Equals g v) bs = had_kept g (λ m. m == v)
  top_kept (Leads g v len) bs = had_kept g (λ m. leading g len m == leading g len v)
  top_kept (LeadsWide g v len) bs = had_kept g (λ m. leading g len m == leading g len v)
  top_kept Every bs = refl
  top_kept AnyOf bs = refl
  top_kept Negated bs = refl

  truths_kept : (ps : Preds) → truths ps changed ≡ truths ps x
  truths_kept none = refl
  truths_kept (put top below rest) = ap₂ (λ b bs. b ∷ bs) (ap (λ bs. is_true top bs changed) (truths_kept below)
      ∙ top_kept top (truths below x)) (truths_kept rest)

  -- so a predicate holds as before
  pub holds_kept : (p : PredTree) → holds p changed ≡ holds p x
  holds_kept p = ap (λ bs. is_true p.top bs changed) (truths_kept p.below) ∙ top_kept p.top (truths p.below x)

  all_kept : (ps : List PredTree) → map (λ p. holds p changed) ps ≡ map (λ p. holds p x) ps
  all_kept [] = refl
  all_kept (p ∷ ps) = ap₂ (λ b bs. b ∷ bs) (holds_kept p) (all_kept ps)

  -- and the packet has the letter that it had
  pub letter_kept : (ps : List PredTree) (a : LettersValue) → IsLettered a → TellPreds ps a → Fit x → Fit changed → letter_at a changed ≡ letter_at a x
  letter_kept ps a lettered tells fit fits =
      let old = lettered.whole x fit in
      let new = lettered.whole changed fits in
      let same : get_or a.signatures new.0 [] ≡ get_or a.signatures old.0 [] = tells changed new.0 fits new.2 ∙ all_kept ps ∙ sym (tells x old.0 fit old.2) in
      new.2 ∙ ap Some (lettered.differ new.0 old.0 new.1 old.1 same) ∙ sym old.2

-- the letter of a packet doesn't depend on the number in a field that the packet lacks
pub letters_ignore : (ps : List PredTree) (a : LettersValue) → IsLettered a → TellPreds ps a → IgnoresLacking a
letters_ignore ps a lettered tells t at f x n fit small lacks =
    let said : (y : Numbers) → letter_at a y ≡ Some (value t y) = λ y. ap (option_map (λ u. value u y)) at in
    same_Some (value t (with_number f n x)) (value t x)
    (sym (said (with_number f n x)) ∙ letter_kept f n x lacks ps a lettered tells fit (fit_with f n x fit small) ∙ said x)
