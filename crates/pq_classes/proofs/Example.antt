-- The query of the test is lawful, and there is room for its numbers.
use Rattle.std.proofs.Common.{[], ◌∷◌, refl, arith}
use Rattle.std.specs.Prelude.{All}
use Rattle.std.specs.List.{IsDistinct}
use Rattle.std.proofs.lemmas.List.Elements.{All-nil, All-cons}
use Rattle.pq_fields.specs.declared.field.Field.TheVariants.{Switch, Port, EthType, IpProto, EthSrc, EthDst, Ipv4Src, Ipv4Dst, TcpSrc}
use Rattle.pq_fields.specs.declared.field.Field.TheVariants.{TcpDst, UdpSrc, UdpDst, Ipv6Src, Ipv6Dst}
use Rattle.pq_fields.specs.Pred.{Always, FitsField, leaf}
use Rattle.pq_model.specs.Topology.{Topology}
use Rattle.pq_query.specs.Lawful.{AreGroupsOver, IsGroupOver, IsLawfulQuery}
use Rattle.pq_query.specs.Query.{Enters, QueryTree, leaf as query}
use Rattle.pq_store.specs.Room.{AreFew}
use Rattle.pq_apply.specs.Predicates.{IsPredWithin}
use Rattle.pq_classes.specs.Room.{FitAsQueries, IsGroupWithin, IsQueryWithin}

abbrev pub entry : QueryTree
entry = query (Enters (leaf Always) [])

no_groups : AreGroupsOver FitsField []
unfolding IsDistinct
no_groups = record { each = All-nil (IsGroupOver FitsField); differ = tt }

pub entry_lawful : All IsLawfulQuery (entry ∷ [])
entry_lawful = All-cons IsLawfulQuery entry [] ((((tt, tt, tt), no_groups), tt, tt)) (All-nil IsLawfulQuery)

-- one number of each field
one_is_few : AreFew (λ f. 0 ∷ [])
one_is_few Switch narrow = omega arith
one_is_few Port narrow = omega arith
one_is_few EthType narrow = omega arith
one_is_few IpProto narrow = omega arith
one_is_few EthSrc narrow = omega arith
one_is_few EthDst narrow = omega arith
one_is_few Ipv4Src narrow = omega arith
one_is_few Ipv4Dst narrow = omega arith
one_is_few TcpSrc narrow = omega arith
one_is_few TcpDst narrow = omega arith
one_is_few UdpSrc narrow = omega arith
one_is_few UdpDst narrow = omega arith
one_is_few Ipv6Src narrow = omega arith
one_is_few Ipv6Dst narrow = omega arith

entry_within : (T : Topology) → IsQueryWithin (λ f. 0 ∷ []) T entry
entry_within T = record {
  preds = All-cons (IsPredWithin (λ f. 0 ∷ [])) (leaf Always) [] (tt, tt, tt) (All-nil (IsPredWithin (λ f. 0 ∷ [])));
  groups = All-nil (IsGroupWithin (λ f. 0 ∷ []) T);
}

pub entry_fits : (T : Topology) → FitAsQueries T (entry ∷ [])
entry_fits T = record {
  numbers = λ f. 0 ∷ [];
  few = one_is_few;
  within = ((0, 0, omega arith, refl, refl), All-cons (IsQueryWithin (λ f. 0 ∷ []) T) entry [] (entry_within T) (All-nil (IsQueryWithin (λ f. 0 ∷ []) T)));
}
