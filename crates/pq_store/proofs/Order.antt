-- The order of tests, on the paths of a tree.
use Rattle.std.proofs.Common.{◌≡◌, ◌⊎◌, true, false, refl, sym, ◌∙◌, ap, ap₂, subst, inl, inr, get_or, true≢false, arith}
use Rattle.std.proofs.lemmas.Bool.{cases_order}
use Rattle.pq_fields.specs.declared.field.Field.{Field}
use Rattle.pq_fields.specs.declared.field.Field.TheVariants.{Switch, Port, EthType, IpProto, EthSrc, EthDst, Ipv4Src, Ipv4Dst, TcpSrc}
use Rattle.pq_fields.specs.declared.field.Field.TheVariants.{TcpDst, UdpSrc, UdpDst, Ipv6Src, Ipv6Dst}
use Rattle.pq_fields.specs.Names.{all_fields}
use Rattle.pq_fields.specs.Packet.{rank}
use Rattle.pq_store.specs.declared.test.Test.{Test}
use Rattle.pq_store.specs.declared.test.Test.TheVariants.{Equal, Bit}
use Rattle.pq_store.specs.Test.{is_address, IsLawful, field_of, place_of, Precedes}
use Rattle.pq_store.specs.Tree.{Tree, IsTested}
use Rattle.pq_store.specs.Tree.Tree.{Tip, Fork}
use Rattle.pq_store.specs.Diagram.{IsBefore, Ascends}

-- a field is at its rank among all fields
ranked : (f : Field) → get_or all_fields (rank f) Switch ≡ f
ranked Switch = refl
ranked Port = refl
ranked EthType = refl
ranked IpProto = refl
ranked EthSrc = refl
ranked EthDst = refl
ranked Ipv4Src = refl
ranked Ipv4Dst = refl
ranked TcpSrc = refl
ranked TcpDst = refl
ranked UdpSrc = refl
ranked UdpDst = refl
ranked Ipv6Src = refl
ranked Ipv6Dst = refl

-- fields of one rank are one
pub rank_injective : (f g : Field) → rank f ≡ rank g → f ≡ g
rank_injective f g same = sym (ranked f) ∙ ap (λ k. get_or all_fields k Switch) same ∙ ranked g

-- numbers and bits are tested of different fields
pub kinds_differ : (f g : Field) → is_address f ≡ false → is_address g ≡ true → rank f ≡ rank g → ⊥
kinds_differ f g number bit same = true≢false (sym bit ∙ ap is_address (sym (rank_injective f g same)) ∙ number)

-- lawful tests of one place of one field are one
one_test : (s t : Test) → IsLawful s → IsLawful t → rank (field_of s) ≡ rank (field_of t) → place_of s ≡ place_of t → s ≡ t
one_test (Equal f v) (Equal g w) a b field place = ap₂ Equal (rank_injective f g field) place
one_test (Equal f v) (Bit g i) a b field place = absurd (kinds_differ f g a.0 b.0 field)
one_test (Bit f i) (Equal g w) a b field place = absurd (kinds_differ g f b.0 a.0 (sym field))
one_test (Bit f i) (Bit g j) a b field place = ap₂ Bit (rank_injective f g field) place

-- of two lawful tests one precedes the other, or they are one
pub compared : (s t : Test) → IsLawful s → IsLawful t → Precedes s t ⊎ ((s ≡ t) ⊎ Precedes t s)
compared s t a b = elim (cases_order (rank (field_of s)) (rank (field_of t))) [
  | inl same ↦ elim (cases_order (place_of s) (place_of t)) [
    | inl place ↦ inr (inl (one_test s t a b same place))
    | inr other ↦ elim other [ inl less ↦ inl (inr (same, less)) | inr more ↦ inr (inr (inr (sym same, more))) ]
  ]
  | inr other ↦ elim other [ inl less ↦ inl (inl less) | inr more ↦ inr (inr (inl more)) ]
]

-- what precedes a test precedes those that it precedes
pub precedes_trans : (r s t : Test) → Precedes r s → Precedes s t → Precedes r t
precedes_trans r s t (inl a) (inl b) = inl (omega arith)
precedes_trans r s t (inl a) (inr b) = inl (omega arith)
precedes_trans r s t (inr a) (inl b) = inl (omega arith)
precedes_trans r s t (inr a) (inr b) = inr (omega arith, omega arith)

module _ {L : Type 0} where
  -- what precedes the test at the root precedes those below it
  pub before_side : (s t : Test) (side : Tree L) → Precedes s t → IsBefore t side → IsBefore s side
  before_side s t (Tip l) first below = tt
  before_side s t (Fork r y n) first below = precedes_trans s t r first below

  -- what precedes the test at the root precedes each test in the tree
  pub before_tested : (s r : Test) (t : Tree L) → IsBefore s t → Ascends t → IsTested r t → Precedes s r
  before_tested s r (Tip l) first ascends tested = absurd tested
  before_tested s r (Fork t y n) first ascends (inl is) = subst (λ x. Precedes s x) (sym is) first
  before_tested s r (Fork t y n) first ascends (inr (inl in_yes)) = before_tested s r y (before_side s t y first ascends.0) ascends.2 in_yes
  before_tested s r (Fork t y n) first ascends (inr (inr in_no)) = before_tested s r n (before_side s t n first ascends.1) ascends.3 in_no
