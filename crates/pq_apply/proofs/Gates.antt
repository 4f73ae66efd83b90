-- Tests of prerequisites above the tests of a field.
use Rattle.std.proofs.Common.{ℕ, suc, ◌<◌, ◌≤◌, ◌≡◌, Bool, false, List, Some, refl, subst, inr, arith}
use Rattle.std.specs.Prelude.{length, slice_get}
use Rattle.std.proofs.lemmas.Option.{slice_get_within}
use Rattle.pq_fields.specs.declared.field.Field.{Field}
use Rattle.pq_fields.specs.declared.field.Field.TheVariants.{EthType}
use Rattle.pq_fields.specs.Packet.{rank}
use Rattle.pq_store.specs.declared.test.Test.TheVariants.{Equal}
use Rattle.pq_store.specs.Test.{IsLawful}
use Rattle.pq_store.specs.Tree.{Tree}
use Rattle.pq_store.specs.Tree.Tree.{Tip, Fork}
use Rattle.pq_store.specs.Store.{Keeps, IsJoinable, JoinsAt}
use Rattle.pq_lists.proofs.Places.{at_place}
use Rattle.pq_apply.specs.Atoms.{type_tree, ip_tree, IsInner, IsInnerAt, MakesAt}
use Rattle.pq_apply.proofs.Kept.{within_still, tree_before}
use Rattle.pq_apply.proofs.AtomTrees.{counts_one, forked, equal_inner, equal_joins, from_lower}

-- a diagram of later fields stays one
pub inner_still : (old new : List (Tree Bool)) (from many i : ℕ) → Keeps old new → IsInnerAt old from many i → IsInnerAt new from many i
inner_still old new from many i keeps inner = (within_still old new i keeps inner.0, λ t is. inner.1 t (tree_before old new i t keeps inner.0 is))

-- a diagram of later fields is one of these
pub inner_lower : (ts : List (Tree Bool)) (from lower many more i : ℕ) → lower ≤ from → many ≤ more → IsInnerAt ts from many i → IsInnerAt ts lower more i
inner_lower ts from lower many more i below few inner = (inner.0, λ t is. from_lower from lower many more t below few (inner.1 t is))

-- a place at which something is made is within
pub made_within : (made : Tree Bool → Tree Bool) (old new : List (Tree Bool)) (i k : ℕ) → i < length old → MakesAt made old i new k → k < length new
made_within made old new i k within makes = let t = at_place old i within in slice_get_within new k (made t.0) (makes t.0 t.1)

-- a test may be before a diagram of later fields and a leaf
pub gate_joins : (ts : List (Tree Bool)) (f : Field) (v from many i j : ℕ) → IsLawful (Equal f v) → rank f < from → many ≤ 4
    → IsInnerAt ts from many i → slice_get ts j ≡ Some (Tip false)
    → (y n : Tree Bool) → slice_get ts i ≡ Some y → slice_get ts j ≡ Some n → IsJoinable (Equal f v) y n
gate_joins ts f v from many i j lawful below few inner no_is y n y_at n_at =
    let e : Tip false ≡ n = cc in
    subst (λ u. IsJoinable (Equal f v) y u) e (equal_joins f v from many y (Tip false) lawful below (inner.1 y y_at) few tt (λ g. omega arith))

-- it is put there
pub gate_makes : (old ts new : List (Tree Bool)) (f : Field) (v from many i j k : ℕ) → Keeps old ts → IsInnerAt old from many i
    → slice_get ts j ≡ Some (Tip false)
    → JoinsAt ts (Equal f v) i j new k → MakesAt (λ t. Fork (Equal f v) t (Tip false)) old i new k
gate_makes old ts new f v from many i j k keeps inner no_is joins t is =
    forked ts new (Equal f v) i j k t (Tip false) joins (keeps i t is) no_is (inner.1 t is).some

-- and what is there is a diagram of this field and later ones
pub gate_inner : (old new : List (Tree Bool)) (f : Field) (v from many i k : ℕ) → rank f < from → IsInnerAt old from many i
    → MakesAt (λ t. Fork (Equal f v) t (Tip false)) old i new k → IsInnerAt new (rank f) (suc many) k
gate_inner old new f v from many i k below inner makes =
    let t = at_place old i inner.0 in
    let there : slice_get new k ≡ Some (Fork (Equal f v) t.0 (Tip false)) = makes t.0 t.1 in (
      slice_get_within new k (Fork (Equal f v) t.0 (Tip false)) there,
      λ u is.
          let e : Fork (Equal f v) t.0 (Tip false) ≡ u = cc in
          subst (IsInner (rank f) (suc many)) e (equal_inner f v from many t.0 below (inner.1 t.0 t.1)),
    )

-- the test of one EtherType may be before that of the other
pub types_join : (old ts : List (Tree Bool)) (i j : ℕ) → Keeps old ts → IsInnerAt old 3 2 i → MakesAt (type_tree 0x86dd) old i ts j
    → (y n : Tree Bool) → slice_get ts i ≡ Some y → slice_get ts j ≡ Some n → IsJoinable (Equal EthType 0x0800) y n
types_join old ts i j keeps inner makes y n y_at n_at =
    let y_was : slice_get old i ≡ Some y = tree_before old ts i y keeps inner.0 y_at in
    let there : slice_get ts j ≡ Some (type_tree 0x86dd y) = makes y y_was in
    let e : type_tree 0x86dd y ≡ n = cc in
    let own : IsInner 3 2 y = inner.1 y y_was in
    subst (λ u. IsJoinable (Equal EthType 0x0800) y u) e
    (equal_joins EthType 0x0800 3 2 y (type_tree 0x86dd y) (refl, omega arith) (omega arith) own (omega arith)
    (inr (refl, omega arith)) (λ g. omega (arith, counts_one g (Equal EthType 0x86dd), own.few g)))

-- it is put there
pub types_make : (old ts new : List (Tree Bool)) (i j k : ℕ) → Keeps old ts → IsInnerAt old 3 2 i → MakesAt (type_tree 0x86dd) old i ts j
    → JoinsAt ts (Equal EthType 0x0800) i j new k → MakesAt ip_tree old i new k
types_make old ts new i j k keeps inner makes joins t is =
    forked ts new (Equal EthType 0x0800) i j k t (type_tree 0x86dd t) joins (keeps i t is) (makes t is) (inner.1 t is).some
