-- Entries and groups that compare as equal are the same.
use Rattle.std.proofs.Common.{◌≡◌, ℕ, Bool, true, ◌==◌, ◌&&◌, List, [], ◌∷◌, Option, None, Some, rules, refl, sym, ap, ap₂, subst, eqb-true}
use Rattle.std.specs.Bool.{Decides}
use Rattle.std.specs.Cmp.{IsEquivalence}
use Rattle.std.specs.Cmp.Lexicographic.{pointwise}
use Rattle.std.proofs.lemmas.Bool.Decides.{same_from_decides}
use Rattle.std.proofs.lemmas.Bool.{and_from, and_parts, eq-eqb}
use denote.Enum.Bare.{same_true, true_same}
use Rattle.pq_fields.specs.contracts.field.Field.{the_type}
use Rattle.pq_fields.specs.contracts.field.FieldPartialEq.TheImpl.{ghosts as fields}
use Rattle.pq_model.specs.contracts.action.ActionPartialEq.TheImpl.{ghosts as actions}
use Rattle.pq_model.specs.declared.action.Action.{Action}
use Rattle.pq_model.specs.declared.action.Action.TheVariants.{Output, PushVlan, PopVlan, Group, SetVlan, SetField}
use Rattle.pq_model.specs.MatchFields.{MatchFields, same_masked, same_match, same_number}
use Rattle.pq_model.specs.SwitchMachine.{Entry}
use Rattle.pq_delta.specs.Added.{Buckets}
use Rattle.pq_delta.specs.Equal.{same_actions, same_buckets, same_entry}

-- a test that holds of equal things alone, and of each with itself, is an equivalence
pub exact_equiv : {A : Type 0} (E : A → A → Bool) → ((x y : A) → E x y ≡ true → x ≡ y) → ((x : A) → E x x ≡ true) → IsEquivalence E
exact_equiv {A} E exact itself = record {
  refl = itself;
  symm = λ x y. same_from_decides (E x y) (E y x) (decides x y) ((λ h. sym (exact y x h)), (λ is. (decides y x).1 (sym is)));
  congr = λ x y z h. ap (λ w. E w z) (exact x y h);
}
  where
    decides : (x y : A) → Decides (E x y) (x ≡ y)
    decides x y = (exact x y, (λ is. subst (λ z. E x z ≡ true) is (itself x)))

-- Actions.

action_exact : (a b : Action) → actions.eq a b ≡ true → a ≡ b
action_exact (Output p) (Output q) h = ap Output (eqb-true p q h)
action_exact PushVlan PushVlan h = refl
action_exact PopVlan PopVlan h = refl
action_exact (Group m) (Group n) h = ap Group (eqb-true m n h)
action_exact (SetVlan v) (SetVlan w) h = ap SetVlan (eqb-true v w h)
action_exact (SetField f m) (SetField g n) h =
    let p = and_parts (fields.eq f g) (m == n) h in
    ap₂ SetField (same_true the_type (search rules) f g p.0) (eqb-true m n p.1)
action_exact a b h = absurd cc

action_itself : (a : Action) → actions.eq a a ≡ true
action_itself (Output p) = eq-eqb p p refl
action_itself PushVlan = refl
action_itself PopVlan = refl
action_itself (Group n) = eq-eqb n n refl
action_itself (SetVlan w) = eq-eqb w w refl
action_itself (SetField f n) = and_from (fields.eq f f) (n == n) (true_same the_type f f refl) (eq-eqb n n refl)

items_exact : {A : Type 0} (E : A → A → Bool) → ((a b : A) → E a b ≡ true → a ≡ b) → (xs ys : List A) → pointwise E xs ys ≡ true → xs ≡ ys
items_exact E same [] [] h = refl
items_exact E same [] (y ∷ ys) h = absurd cc
items_exact E same (x ∷ xs) [] h = absurd cc
items_exact E same (x ∷ xs) (y ∷ ys) h =
    let p = and_parts (E x y) (pointwise E xs ys) h in
    ap₂ (λ z zs. z ∷ zs) (same x y p.0) (items_exact E same xs ys p.1)

items_itself : {A : Type 0} (E : A → A → Bool) → ((a : A) → E a a ≡ true) → (xs : List A) → pointwise E xs xs ≡ true
items_itself E same [] = refl
items_itself E same (x ∷ xs) = and_from (E x x) (pointwise E xs xs) (same x) (items_itself E same xs)

pub actions_exact : (as_ bs : List Action) → same_actions as_ bs ≡ true → as_ ≡ bs
actions_exact = items_exact actions.eq action_exact

pub actions_itself : (as_ : List Action) → same_actions as_ as_ ≡ true
actions_itself = items_itself actions.eq action_itself

pub buckets_itself : (b : Buckets) → same_buckets b b ≡ true
buckets_itself = items_itself same_actions actions_itself

pub buckets_exact : (b c : Buckets) → same_buckets b c ≡ true → b ≡ c
buckets_exact = items_exact same_actions actions_exact

-- Matches.

number_exact : (a b : Option ℕ) → same_number a b ≡ true → a ≡ b
number_exact None None h = refl
number_exact None (Some n) h = absurd cc
number_exact (Some m) None h = absurd cc
number_exact (Some m) (Some n) h = ap (λ k. Some k) (eqb-true m n h)

number_itself : (a : Option ℕ) → same_number a a ≡ true
number_itself None = refl
number_itself (Some n) = eq-eqb n n refl

masked_exact : (a b : Option (ℕ × ℕ)) → same_masked a b ≡ true → a ≡ b
masked_exact None None h = refl
masked_exact None (Some n) h = absurd cc
masked_exact (Some m) None h = absurd cc
masked_exact (Some m) (Some n) h =
    let p = and_parts (m.0 == n.0) (m.1 == n.1) h in
    let value = eqb-true m.0 n.0 p.0 in
    let mask = eqb-true m.1 n.1 p.1 in
    λ i. Some (value i, mask i)

masked_itself : (a : Option (ℕ × ℕ)) → same_masked a a ≡ true
masked_itself None = refl
masked_itself (Some a) = and_from (a.0 == a.0) (a.1 == a.1) (eq-eqb a.0 a.0 refl) (eq-eqb a.1 a.1 refl)

-- each of two tests that hold together
both : {x y : Bool} → (x && y) ≡ true → (x ≡ true) × (y ≡ true)
both {x} {y} h = and_parts x y h

from : {x y : Bool} → x ≡ true → y ≡ true → (x && y) ≡ true
from {x} {y} h k = and_from x y h k

match_exact : (m n : MatchFields) → same_match m n ≡ true → m ≡ n
unfolding same_match
match_exact m n h =
    let a = both h in
    let b = both a.0 in
    let c = both b.0 in
    let d = both c.0 in
    let e = both d.0 in
    let f = both e.0 in
    let g = both f.0 in
    let j = both g.0 in
    let k = both j.0 in
    let l = both k.0 in
    let o = both l.0 in
    let p = both o.0 in
    let q = both p.0 in
    λ i. record {
      in_port = number_exact m.in_port n.in_port q.0 i;
      vlan = number_exact m.vlan n.vlan q.1 i;
      eth_type = number_exact m.eth_type n.eth_type p.1 i;
      ip_proto = number_exact m.ip_proto n.ip_proto o.1 i;
      eth_src = number_exact m.eth_src n.eth_src l.1 i;
      eth_dst = number_exact m.eth_dst n.eth_dst k.1 i;
      ipv4_src = masked_exact m.ipv4_src n.ipv4_src j.1 i;
      ipv4_dst = masked_exact m.ipv4_dst n.ipv4_dst g.1 i;
      tcp_src = number_exact m.tcp_src n.tcp_src f.1 i;
      tcp_dst = number_exact m.tcp_dst n.tcp_dst e.1 i;
      udp_src = number_exact m.udp_src n.udp_src d.1 i;
      udp_dst = number_exact m.udp_dst n.udp_dst c.1 i;
      ipv6_src = masked_exact m.ipv6_src n.ipv6_src b.1 i;
      ipv6_dst = masked_exact m.ipv6_dst n.ipv6_dst a.1 i;
    }

pub match_itself : (m : MatchFields) → same_match m m ≡ true
unfolding same_match
match_itself m =
    from (from (from (from (from (from (from (from (from (from (from (from (from (number_itself m.in_port) (number_itself m.vlan))
    (number_itself m.eth_type))
    (number_itself m.ip_proto))
    (number_itself m.eth_src))
    (number_itself m.eth_dst))
    (masked_itself m.ipv4_src))
    (masked_itself m.ipv4_dst))
    (number_itself m.tcp_src))
    (number_itself m.tcp_dst))
    (number_itself m.udp_src))
    (number_itself m.udp_dst))
    (masked_itself m.ipv6_src))
    (masked_itself m.ipv6_dst)

-- Entries.

pub entry_exact : (d e : Entry) → same_entry d e ≡ true → d ≡ e
unfolding same_entry
entry_exact d e h =
    let goto = both h in
    let actions = both goto.0 in
    let cookie = both actions.0 in
    let matching = both cookie.0 in
    let first = both matching.0 in
    λ i. record {
      table = eqb-true d.table e.table first.0 i;
      priority = eqb-true d.priority e.priority first.1 i;
      matching = match_exact d.matching e.matching matching.1 i;
      cookie = eqb-true d.cookie e.cookie cookie.1 i;
      actions = actions_exact d.actions e.actions actions.1 i;
      goto = number_exact d.goto e.goto goto.1 i;
    }

pub entry_itself : (e : Entry) → same_entry e e ≡ true
unfolding same_entry
entry_itself e =
    from (from (from (from (from (eq-eqb e.table e.table refl) (eq-eqb e.priority e.priority refl)) (match_itself e.matching))
    (eq-eqb e.cookie e.cookie refl)) (actions_itself e.actions)) (number_itself e.goto)
