-- Packets whose fields are set to the numbers that are written.
use Rattle.std.proofs.Common.{ℕ, ◌<◌, ◌≡◌, ◌∙◌, List, [], ◌∷◌, length, Option, None, Some, if◌then◌else◌, refl, sym, ap}
use Rattle.std.proofs.lemmas.Option.{slice_get_within}
use Rattle.std.specs.Option.{unwrap_or}
use Rattle.pq_fields.specs.declared.field.Field.{Field}
use Rattle.pq_fields.specs.declared.field.Field.TheVariants.{Port, EthSrc, EthDst, Ipv4Src, Ipv4Dst, TcpSrc, TcpDst, UdpSrc, UdpDst}
use Rattle.pq_fields.specs.Packet.{Numbers, has_field, number_in, with_number}
use Rattle.pq_fields.specs.Writes.{Written, number_after, on, written_in}
use Rattle.pq_store.specs.Tree.{Tree, value}
use Rattle.pq_store.proofs.PrefixNumbers.{with_own}
use Rattle.pq_lists.proofs.Places.{at_place}
use Rattle.pq_apply.specs.Restriction.{RestrictsAt}
use Rattle.pq_apply.proofs.Choices.{one_of_same}
use Rattle.pq_rewrite.specs.Rewriting.{ChangesAll}
use Rattle.pq_join.specs.Overwriting.{OverwritesAt, SetsAllAt, put, put_all, put_one}

-- where nothing is written the packet one_of_same, and else it has the number
put_none : (f : Field) (w : Written) (x : Numbers) → written_in f w ≡ None → put_one f w x ≡ x
put_none f w x none = ap (λ o. with_number f (unwrap_or o (number_in f x)) x) none ∙ with_own f x

put_some : (f : Field) (w : Written) (n : ℕ) (x : Numbers) → written_in f w ≡ Some n → put_one f w x ≡ with_number f n x
put_some f w n x some = ap (λ o. with_number f (unwrap_or o (number_in f x)) x) some

-- the fields of headers
abbrev pub header_fields : List Field
header_fields = EthSrc ∷ EthDst ∷ Ipv4Src ∷ Ipv4Dst ∷ TcpSrc ∷ TcpDst ∷ UdpSrc ∷ UdpDst ∷ []

module _ {L : Type 0} where
  -- a restriction is in the store
  pub restricts_within : (f : Field) (n : ℕ) (old new : List (Tree L)) (k id : ℕ) → k < length old → RestrictsAt f n old k new id → id < length new
  restricts_within f n old new k id within restricts =
      let t = at_place old k within in
      let made = restricts t.0 t.1 in
      slice_get_within new id made.0 made.1

  -- with no field left a tree is the one sought
  pub sets_none : (w : Written) (ts : List (Tree L)) (k : ℕ) → SetsAllAt [] w ts k ts k
  sets_none w ts k t is = (t, is, record { gives = λ x. refl; tests = λ s tested. tested })

  -- a field without a number changes nothing
  pub sets_unwritten : (f : Field) (fs : List Field) (w : Written) (old new : List (Tree L)) (k id : ℕ) → written_in f w ≡ None
      → SetsAllAt fs w old k new id → SetsAllAt (f ∷ fs) w old k new id
  sets_unwritten f fs w old new k id none sets t is =
      let made = sets t is in
      (made.0, made.1, record { gives = λ x. made.2.gives x ∙ ap (value t) (sym (put_none f w (put_all fs w x) none)); tests = made.2.tests })

  -- a number is set before the others
  pub sets_more : (f : Field) (n : ℕ) (fs : List Field) (w : Written) (old mid new : List (Tree L)) (k i id : ℕ) → written_in f w ≡ Some n
      → RestrictsAt f n old k mid i
      → SetsAllAt fs w mid i new id → SetsAllAt (f ∷ fs) w old k new id
  sets_more f n fs w old mid new k i id some restricts sets t is =
      let first = restricts t is in
      let made = sets first.0 first.1 in (
        made.0,
        made.1,
        record {
          gives = λ x. made.2.gives x ∙ (first.2.gives (put_all fs w x) ∙ ap (value t) (sym (put_some f w n (put_all fs w x) some)));
          tests = λ s tested. first.2.tests s (made.2.tests s tested);
        },
      )

  -- with those and the port, all are set
  pub all_set : (w : Written) (old new : List (Tree L)) (k id : ℕ) → w.port ≡ None → SetsAllAt header_fields w old k new id → OverwritesAt w old k new id
  all_set w old new k id none sets t is =
      let made = sets t is in (
        made.0,
        made.1,
        record {
          gives = λ x. made.2.gives x ∙ ap (λ o. value t (record (put w x) { port = unwrap_or o x.port })) (sym none);
          tests = made.2.tests;
        },
      )

  pub port_and_all_set : (w : Written) (p : ℕ) (old mid new : List (Tree L)) (k i id : ℕ) → w.port ≡ Some p → RestrictsAt Port p old k mid i
      → SetsAllAt header_fields w mid i new id → OverwritesAt w old k new id
  port_and_all_set w p old mid new k i id some restricts sets t is =
      let first = restricts t is in
      let made = sets first.0 first.1 in (
        made.0,
        made.1,
        record {
          gives = λ x. made.2.gives x
              ∙ (first.2.gives (put_all header_fields w x) ∙ ap (λ o. value t (record (put w x) { port = unwrap_or o x.port })) (sym some));
          tests = λ s tested. first.2.tests s (made.2.tests s tested);
        },
      )

-- Packets that writes change.

-- a number that is set is that after the writes, where the packet has the field
set_after : (f : Field) (w : Written) (x : Numbers) → ChangesAll x w → unwrap_or (written_in f w) (number_in f x) ≡ number_after f w x
set_after f w x changes = by (written_in f w) refl
  where
    by : (o : Option ℕ) → written_in f w ≡ o
        → unwrap_or (written_in f w) (number_in f x) ≡ (if has_field f x then unwrap_or (written_in f w) (number_in f x) else number_in f x)
    by None none = ap (λ o. unwrap_or o (number_in f x)) none ∙ (one_of_same (has_field f x) (number_in f x)
        ∙ ap (λ o. if has_field f x then unwrap_or o (number_in f x) else number_in f x) (sym none))
    by (Some n) some = ap (λ b. if b then unwrap_or (written_in f w) (number_in f x) else number_in f x) (sym (changes f n some).0)

-- so the packet with all numbers set is the packet written
pub put_is_on : (w : Written) (x : Numbers) → ChangesAll x w → put w x ≡ on w x
put_is_on w x changes = λ i. record x {
  port = set_after Port w x changes i;
  eth_src = set_after EthSrc w x changes i;
  eth_dst = set_after EthDst w x changes i;
  ipv4_src = set_after Ipv4Src w x changes i;
  ipv4_dst = set_after Ipv4Dst w x changes i;
  tcp_src = set_after TcpSrc w x changes i;
  tcp_dst = set_after TcpDst w x changes i;
  udp_src = set_after UdpSrc w x changes i;
  udp_dst = set_after UdpDst w x changes i;
}
