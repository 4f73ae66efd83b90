-- The diagrams of single tests say whether the tests hold.
use Rattle.std.proofs.Common.{ℕ, ◌^◌, ◌<◌, ◌≤◌, ◌≡◌, ◌∙◌, Bool, true, false, List, Some, refl, ap, subst, arith}
use Rattle.std.specs.Prelude.{◌&&◌, if◌then◌else◌, slice_get}
use Rattle.std.proofs.lemmas.Option.{slice_get_within}
use Rattle.pq_fields.specs.declared.field.Field.{Field}
use Rattle.pq_fields.specs.declared.field.Field.TheVariants.{Switch, Port, EthType, IpProto, EthSrc, EthDst, Ipv4Src, Ipv4Dst, TcpSrc}
use Rattle.pq_fields.specs.declared.field.Field.TheVariants.{TcpDst, UdpSrc, UdpDst, Ipv6Src, Ipv6Dst}
use Rattle.pq_fields.specs.Packet.{width_of, has_field}
use Rattle.pq_fields.specs.Pred.{leaf}
use Rattle.pq_fields.specs.Pred.PredTop.{Equals, Leads, LeadsWide}
use Rattle.pq_store.specs.declared.test.Test.TheVariants.{Equal}
use Rattle.pq_store.specs.Tree.{Tree}
use Rattle.pq_store.specs.Tree.Tree.{Tip, Fork}
use Rattle.pq_store.specs.Store.{IsJoinable}
use Rattle.pq_store.specs.Test.{is_address}
use Rattle.pq_store.proofs.RoomLemmas.{roomy}
use Rattle.pq_apply.specs.Atoms.{bits_tree, number_tree, present_tree, IsInner, IsInnerAt}
use Rattle.pq_apply.specs.Predicates.{IsPredTree}
use Rattle.pq_apply.proofs.AtomTrees.{counts_one, leads_value, number_value, present_value, bits_within, number_within, present_within}

-- a tree of tests of later fields is at its place
pub inner_at : (ts : List (Tree Bool)) (from many i : ℕ) (t : Tree Bool) → slice_get ts i ≡ Some t → IsInner from many t → IsInnerAt ts from many i
inner_at ts from many i t is inner = (slice_get_within ts i t is, λ u u_is. let e : t ≡ u = cc in subst (IsInner from many) e inner)

-- a field that is none of the four addresses is not an address
pub not_address : (f : Field) → (f ≡ Ipv4Src → ⊥) → (f ≡ Ipv4Dst → ⊥) → (f ≡ Ipv6Src → ⊥) → (f ≡ Ipv6Dst → ⊥) → is_address f ≡ false
not_address Switch src4 dst4 src6 dst6 = refl
not_address Port src4 dst4 src6 dst6 = refl
not_address EthType src4 dst4 src6 dst6 = refl
not_address IpProto src4 dst4 src6 dst6 = refl
not_address EthSrc src4 dst4 src6 dst6 = refl
not_address EthDst src4 dst4 src6 dst6 = refl
not_address Ipv4Src src4 dst4 src6 dst6 = absurd (src4 refl)
not_address Ipv4Dst src4 dst4 src6 dst6 = absurd (dst4 refl)
not_address TcpSrc src4 dst4 src6 dst6 = refl
not_address TcpDst src4 dst4 src6 dst6 = refl
not_address UdpSrc src4 dst4 src6 dst6 = refl
not_address UdpDst src4 dst4 src6 dst6 = refl
not_address Ipv6Src src4 dst4 src6 dst6 = absurd (src6 refl)
not_address Ipv6Dst src4 dst4 src6 dst6 = absurd (dst6 refl)

-- the number of a field that is not an address is tested whole
pub whole_number : (f : Field) (n : ℕ) → is_address f ≡ false → number_tree f n ≡ Fork (Equal f n) (Tip true) (Tip false)
unfolding number_tree
whole_number f n h = ap (λ b. if b then bits_tree f n 0 (width_of f) else Fork (Equal f n) (Tip true) (Tip false)) h

-- its test may be before two leaves
pub whole_joins : (f : Field) (n : ℕ) → is_address f ≡ false → n < 2 ^ width_of f → IsJoinable (Equal f n) (Tip true) (Tip false)
whole_joins f n whole fits = record {
  lawful = (whole, fits);
  before_yes = tt;
  before_no = tt;
  once = tt;
  fits = λ g. omega (arith, counts_one g (Equal f n), roomy g);
}

-- the test of a number below its field's prerequisites is that of the predicate
pub number_holds : (f : Field) (n : ℕ) → n < 2 ^ width_of f → IsPredTree (leaf (Equals f n)) (present_tree f (number_tree f n))
number_holds f n small = record {
  gives = λ x fit. present_value f (number_tree f n) x ∙ ap (λ b. has_field f x && b) (number_value f n x fit small);
  tests = λ ns within. present_within ns f (number_tree f n) within.0.1 (number_within ns f n within.0.0);
}

-- and so are the tests of leading bits
pub leads_hold : (f : Field) (n len : ℕ) → n < 2 ^ width_of f → len ≤ width_of f → IsPredTree (leaf (Leads f n len)) (present_tree f (bits_tree f n 0 len))
leads_hold f n len small fits = record {
  gives = λ x fit. present_value f (bits_tree f n 0 len) x ∙ ap (λ b. has_field f x && b) (leads_value f n len x fit small fits);
  tests = λ ns within. present_within ns f (bits_tree f n 0 len) within.0 (bits_within ns f n 0 len);
}

-- also of a wide address
pub wide_holds : (f : Field) (n len : ℕ) → n < 2 ^ width_of f → len ≤ width_of f → IsPredTree (leaf (LeadsWide f n len)) (present_tree f (bits_tree f n 0 len))
wide_holds f n len small fits = let is = leads_hold f n len small fits in record { gives = is.gives; tests = is.tests }
