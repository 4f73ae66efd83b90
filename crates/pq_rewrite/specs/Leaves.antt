-- Arrivals and lists of copies that compare as equal are the same.
use Rattle.std.specs.Prelude.{◌≡◌, ℕ, Bool, true, ◌&&◌, ◌==◌, List}
use mathlib.Core.Bool.{beq}
use mathlib.Core.Path.{ap}
use denote.Enum.Bare.{same_true}
use Rattle.std.proofs.Common.{rules}
use Rattle.std.proofs.lemmas.Bool.{eqb-true}
use Rattle.std.proofs.lemmas.Cmp.{lists_equiv}
use Rattle.std.specs.Bool.{nat_eq}
use Rattle.std.specs.Cmp.{IsPartialEquivalence, IsEquivalence, booleans_Decides, first_so, second_so, partial_equiv_from_equiv}
use Rattle.std.specs.Cmp.Lexicographic.{pointwise}
use Rattle.std.specs.Hash as fed
use Rattle.std.specs.Option.{option_eq}
use Rattle.pq_fields.specs.Order.{writes_eq}
use Rattle.pq_fields.proofs.Places.{same_writes}
use Rattle.pq_store.specs.Options.{same_option}
use Rattle.pq_rewrite.specs.declared.outgoing.OutKind.{OutKind}
use Rattle.pq_rewrite.specs.declared.outgoing.Outgoing.{Outgoing}
use Rattle.pq_rewrite.specs.declared.trees.Arrive.{Arrive}
use Rattle.pq_rewrite.specs.contracts.outgoing.OutKind.{the_type}
use Rattle.pq_rewrite.specs.contracts.outgoing.OutKindPartialEq.TheImpl.{ghosts as kinds}
use Rattle.pq_rewrite.specs.contracts.outgoing.OutgoingPartialEq.TheImpl.{ghosts as copies}
use Rattle.pq_rewrite.specs.contracts.outgoing.OutgoingEq.TheImpl as equivalence
use Rattle.pq_rewrite.specs.contracts.outgoing.OutgoingHash.TheImpl as hashes
use Rattle.pq_rewrite.specs.contracts.trees.ArrivePartialEq.TheImpl.{ghosts as arrivals}
use Rattle.pq_rewrite.specs.Order.{same_items}

-- equal ways out are the same
same_kind : (a b : OutKind) → kinds.eq a b ≡ true → a ≡ b
same_kind = same_true the_type (search rules)

-- equal copies are the same
same_outgoing : (a b : Outgoing) → copies.eq a b ≡ true → a ≡ b
same_outgoing a b equal =
    let kind = kinds.eq a.kind b.kind in
    let later = option_eq nat_eq a.tag b.tag && kind in
    let behind = second_so (writes_eq a.writes b.writes) later equal in
    let writes_is : a.writes ≡ b.writes = (same_writes a.writes b.writes).0 (first_so (writes_eq a.writes b.writes) later equal) in
    let tag_is : a.tag ≡ b.tag = same_option nat_eq eqb-true a.tag b.tag (first_so (option_eq nat_eq a.tag b.tag) kind behind) in
    let kind_is : a.kind ≡ b.kind = same_kind a.kind b.kind (second_so (option_eq nat_eq a.tag b.tag) kind behind) in
    λ i. record { writes = writes_is i; tag = tag_is i; kind = kind_is i }

-- whether two lists of copies are equal
abbrev pub copies_eq : List Outgoing → List Outgoing → Bool
copies_eq = pointwise copies.eq

pub copies_equiv : IsEquivalence copies_eq
copies_equiv = lists_equiv equivalence.Laws.laws-law

pub copies_per : IsPartialEquivalence copies_eq
copies_per = partial_equiv_from_equiv copies_equiv

-- equal lists are the same
pub same_copies : (xs ys : List Outgoing) → copies_eq xs ys ≡ true → xs ≡ ys
same_copies = same_items copies.eq same_outgoing

-- what `hash` writes of a list of copies
abbrev pub copies_hash : List Outgoing → List (List ℕ)
copies_hash = fed.slice (hashes.ghosts).hash_input

-- equal lists write the same
pub copies_hashes : (xs ys : List Outgoing) → copies_eq xs ys ≡ true → copies_hash xs ≡ copies_hash ys
copies_hashes xs ys equal = ap copies_hash (same_copies xs ys equal)

-- equal arrivals are the same
pub same_arrival : (a b : Arrive) → arrivals.eq a b ≡ true → a ≡ b
same_arrival a b equal =
    let captured = beq a.capture b.capture in
    let tag_is : a.tag ≡ b.tag = eqb-true a.tag b.tag (first_so (a.tag == b.tag) captured equal) in
    let capture_is : a.capture ≡ b.capture = (booleans_Decides a.capture b.capture).0 (second_so (a.tag == b.tag) captured equal) in
    λ i. record { tag = tag_is i; capture = capture_is i }
