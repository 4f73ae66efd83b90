-- Writes compare as the lists of their numbers, and equal ones are the same.
use Rattle.std.proofs.Common.{rules, refl, ap}
use Prim.Native.Nat.compare
use Rattle.std.specs.Prelude.{ℕ, ◌≡◌, ◌↔◌, IsTrue, Bool, true, false, ◌&&◌, Option, None, Some}
use Rattle.std.specs.Bool.{nat_eq}
use Rattle.std.specs.Option.{option_cmp, option_eq}
use Rattle.std.specs.declared.cmp.Ordering.{Ordering}
use Rattle.std.specs.declared.cmp.Ordering.TheVariants.{Less, Equal, Greater}
use Rattle.std.specs.Ordering.{nat_cmp, ordering_then}
use Rattle.pq_fields.specs.Order.{writes_eq}
use Rattle.pq_fields.specs.Writes.{Written, place_of}

pub place_compares : (a b : Option ℕ) → option_cmp nat_cmp a b ≡ nat_cmp (place_of a) (place_of b)
place_compares None None = refl
place_compares None (Some n) = search rules
place_compares (Some m) None = search rules
place_compares (Some m) (Some n) = search (rules, compare.suc-suc)

-- what decides nothing after an order leaves it
pub then_equal : (o : Ordering) → ordering_then o Equal ≡ o
then_equal Less = refl
then_equal Equal = refl
then_equal Greater = refl

same_option : (a b : Option ℕ) → IsTrue (option_eq nat_eq a b) ↔ (a ≡ b)
same_option None None = search rules
same_option None (Some n) = search rules
same_option (Some m) None = search rules
same_option (Some m) (Some n) = search rules

-- two tests, each of something
both : (a b : Bool) {A B : Type 0} → IsTrue a ↔ A → IsTrue b ↔ B → IsTrue (a && b) ↔ (A × B)
both true true p q = search (rules, p, q)
both true false p q = search (rules, p, q)
both false true p q = search (rules, p, q)
both false false p q = search (rules, p, q)

pub same_writes : (v w : Written) → IsTrue (writes_eq v w) ↔ (v ≡ w)
same_writes v w =
    let ends = both _ _ (same_option v.udp_src w.udp_src) (same_option v.udp_dst w.udp_dst) in
    let tcp_dsts = both _ _ (same_option v.tcp_dst w.tcp_dst) ends in
    let tcp_srcs = both _ _ (same_option v.tcp_src w.tcp_src) tcp_dsts in
    let ipv4_dsts = both _ _ (same_option v.ipv4_dst w.ipv4_dst) tcp_srcs in
    let ipv4_srcs = both _ _ (same_option v.ipv4_src w.ipv4_src) ipv4_dsts in
    let eth_dsts = both _ _ (same_option v.eth_dst w.eth_dst) ipv4_srcs in
    let eth_srcs = both _ _ (same_option v.eth_src w.eth_src) eth_dsts in
    let ports = both _ _ (same_option v.port w.port) eth_srcs in (
      λ e. let q = ports.0 e in λ i. record {
        port = q.0 i;
        eth_src = q.1.0 i;
        eth_dst = q.1.1.0 i;
        ipv4_src = q.1.1.1.0 i;
        ipv4_dst = q.1.1.1.1.0 i;
        tcp_src = q.1.1.1.1.1.0 i;
        tcp_dst = q.1.1.1.1.1.1.0 i;
        udp_src = q.1.1.1.1.1.1.1.0 i;
        udp_dst = q.1.1.1.1.1.1.1.1 i;
      },
      λ e. ports.1 (
        ap (λ u. u.port) e,
        (
          ap (λ u. u.eth_src) e,
          (
            ap (λ u. u.eth_dst) e,
            (
              ap (λ u. u.ipv4_src) e,
              (ap (λ u. u.ipv4_dst) e, (ap (λ u. u.tcp_src) e, (ap (λ u. u.tcp_dst) e, (ap (λ u. u.udp_src) e, ap (λ u. u.udp_dst) e)))),
            ),
          ),
        ),
      ),
    )
