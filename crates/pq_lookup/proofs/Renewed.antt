-- The messages of trees renew a switch's tables.
use Rattle.std.proofs.Common.{◌≡◌, inl, inr, ℕ, suc, ◌+◌, ◌-◌, ◌<◌, ◌≤◌, Bool, true, false, not, List, [], ◌∷◌, ◌++◌, map, length, nat_eq}
use Rattle.std.proofs.Common.{is_some, Some, None, refl, sym, ap, subst, ◌∙◌, arith}
use Rattle.std.specs.FinMap.{contains_key}
use Rattle.std.specs.List.{AllByRecursion, IsDistinct, filter_map, list_all}
use Rattle.std.specs.declared.option.Option.{Option}
use Rattle.std.proofs.lemmas.Bool.{and_from, ne_eqb}
use Rattle.std.proofs.lemmas.List.{map-append}
use Rattle.std.proofs.lemmas.List.Elements.{filter_map-append}
use Rattle.pq_lists.proofs.Holding.{all_append, all_map}
use Rattle.pq_fields.specs.declared.field.Field.{Field}
use Rattle.pq_fields.specs.declared.field.Field.TheVariants.{EthSrc, EthDst, Ipv4Src, Ipv4Dst, TcpSrc, TcpDst, UdpSrc, UdpDst}
use Rattle.pq_fields.specs.Writes.{Written}
use Rattle.pq_model.specs.declared.action.Action.{Action}
use Rattle.pq_model.specs.declared.action.Action.TheVariants.{Output}
use Rattle.pq_model.specs.declared.flow_mod.FlowCommand.TheVariants.{Add as AddFlow}
use Rattle.pq_model.specs.declared.group_mod.GroupCommand.TheVariants.{Add as AddGroup}
use Rattle.pq_model.specs.MatchFields.{MatchFields}
use Rattle.pq_model.specs.Orders.{AreApart, HaveOwnPriorities, IsLawfulOrder}
use Rattle.pq_model.specs.Renewal.{added_groups}
use Rattle.pq_model.specs.SwitchMachine.{Entry, Groups, entry_of, group_named, groups_named}
use Rattle.pq_model.proofs.Renewals.{renewal-sends}
use Rattle.pq_rewrite.specs.declared.outgoing.Outgoing.{Outgoing}
use Rattle.pq_rewrite.specs.declared.trees.Arrive.{Arrive}
use Rattle.pq_layout.specs.Actions.{arrival_actions, buckets_of, copy_actions, header_actions, output_port, set_field, tag_actions}
use Rattle.pq_layout.specs.Entries.{table_of}
use Rattle.pq_layout.specs.Messages.{ArrivingTrees, Buckets, LeavingTrees, Rule, adds_from, first_rule, first_rules, group_number}
use Rattle.pq_layout.specs.Messages.{is_untagged, groups_from, groups_of, is_nothing, leaving_actions, leaving_entries, renewal_of, second_rule, second_rules}
use Rattle.pq_lookup.specs.Sent.{AreFilled, SwitchSends, TreesRenew}
use Rattle.pq_lookup.proofs.Arriving.{tables-send_in_order}
use Rattle.pq_lookup.proofs.Copying.{to_eth_src, to_eth_dst, to_ipv4_src, to_ipv4_dst, to_tcp_src, to_tcp_dst, to_udp_src}
use Rattle.pq_lookup.proofs.Taken.{entries_from, entry_at}
use Rattle.pq_lookup.proofs.Grouped.{IsIn, group-there, in-groups}

-- what holds of each value that is in a list
all-in : {A : Type 0} (P : A → Type 0) (xs : List A) → ((a : A) → IsIn a xs → P a) → AllByRecursion P xs
all-in P [] h = tt
all-in P (x ∷ xs) h = (h x (inl refl), all-in P xs (λ a i. h a (inr i)))

-- Groups.

groups-added : (xid k : ℕ) (gs : List Buckets) → AllByRecursion (λ g. g.command ≡ AddGroup) (groups_from xid k gs)
groups-added xid k [] = tt
groups-added xid k (b ∷ gs) = (refl, groups-added (suc xid) (suc k) gs)

above : (j xid k : ℕ) (gs : List Buckets) → j < k → AllByRecursion (λ n. nat_eq j n ≡ false) (map (λ g. g.group) (groups_from xid k gs))
above j xid k [] less = tt
above j xid k (b ∷ gs) less = (ne_eqb j k (λ e. omega arith), above j (suc xid) (suc k) gs (omega arith))

groups-numbered : (xid k : ℕ) (gs : List Buckets) → IsDistinct nat_eq (map (λ g. g.group) (groups_from xid k gs))
unfolding IsDistinct
groups-numbered xid k [] = tt
groups-numbered xid k (b ∷ gs) = (above k (suc xid) (suc k) gs (omega arith), groups-numbered (suc xid) (suc k) gs)

-- Entries.

entries-added : (xid table index : ℕ) (rs : List Rule) → AllByRecursion (λ f. f.command ≡ AddFlow) (adds_from xid table index rs)
entries-added xid table index [] = tt
entries-added xid table index (r ∷ rs) = (refl, entries-added (suc xid) table (suc index) rs)

-- an entry of lower index, and so of higher priority, is apart from those after it
behind-apart : (e : Entry) (i xid table index : ℕ) (rs : List Rule) → e.priority ≡ 65535 - i → i < index → index + length rs ≤ 65536
    → AllByRecursion (AreApart e) (entries_from xid table index rs)
behind-apart e i xid table index [] is less few = tt
behind-apart e i xid table index (r ∷ rs) is less few =
    (λ same. λ equal. omega arith, behind-apart e i (suc xid) table (suc index) rs is (omega arith) (omega arith))

in-table : (xid table index : ℕ) (rs : List Rule) → AllByRecursion (λ e. e.table ≡ table) (entries_from xid table index rs)
in-table xid table index [] = tt
in-table xid table index (r ∷ rs) = (refl, in-table (suc xid) table (suc index) rs)

other-apart : (e : Entry) (fs : List Entry) → e.table ≡ 0 → AllByRecursion (λ f. f.table ≡ 1) fs → AllByRecursion (AreApart e) fs
other-apart e [] is all = tt
other-apart e (f ∷ fs) is (here, all) = ((λ same. absurd (omega arith)), other-apart e fs is all)

own-priorities : (xid table index : ℕ) (rs : List Rule) → index + length rs ≤ 65536 → HaveOwnPriorities (entries_from xid table index rs)
own-priorities xid table index [] few = tt
own-priorities xid table index (r ∷ rs) few = (
  behind-apart (entry_at table index r) index (suc xid) table (suc index) rs refl (omega arith) (omega arith),
  own-priorities (suc xid) table (suc index) rs (omega arith),
)

both-priorities : (xid index : ℕ) (rs : List Rule) (fs : List Entry) → index + length rs ≤ 65536 → AllByRecursion (λ f. f.table ≡ 1) fs → HaveOwnPriorities fs →
    HaveOwnPriorities (entries_from xid 0 index rs ++ fs)
both-priorities xid index [] fs few ones own = own
both-priorities xid index (r ∷ rs) fs few ones own = (
  all_append (AreApart (entry_at 0 index r)) (entries_from (suc xid) 0 (suc index) rs) fs
      (behind-apart (entry_at 0 index r) index (suc xid) 0 (suc index) rs refl (omega arith) (omega arith)) (other-apart (entry_at 0 index r) fs refl ones),
  both-priorities (suc xid) (suc index) rs fs (omega arith) ones own,
)

-- Named groups.

abbrev AreThere : Groups → List Action → Type 0
AreThere groups as_ = list_all (contains_key groups) (groups_named as_) ≡ true

added-there : (groups : Groups) (xid table index : ℕ) (rs : List Rule) → AllByRecursion (λ r. AreThere groups r.actions) rs →
    AllByRecursion (λ f. AreThere groups f.actions) (adds_from xid table index rs)
added-there groups xid table index [] all = tt
added-there groups xid table index (r ∷ rs) (here, all) = (here, added-there groups (suc xid) table (suc index) rs all)

abbrev NamesNone : List Action → Type 0
NamesNone as_ = groups_named as_ ≡ []

none-append : (as_ bs : List Action) → NamesNone as_ → NamesNone bs → NamesNone (as_ ++ bs)
none-append as_ bs h k = filter_map-append group_named as_ bs ∙ ap (λ l. l ++ filter_map group_named bs) h ∙ k

set-none : (f : Field) (o : Option ℕ) → NamesNone (set_field f o)
set-none f None = refl
set-none f (Some n) = refl

tag-none : (o : Option ℕ) → NamesNone (tag_actions true o)
tag-none None = refl
tag-none (Some t) = refl

headers-none : (w : Written) → NamesNone (header_actions w)
headers-none w =
    none-append (to_udp_src w) (set_field UdpDst w.udp_dst)
    (none-append (to_tcp_dst w) (set_field UdpSrc w.udp_src)
    (none-append (to_tcp_src w) (set_field TcpDst w.tcp_dst)
    (none-append (to_ipv4_dst w) (set_field TcpSrc w.tcp_src)
    (none-append (to_ipv4_src w) (set_field Ipv4Dst w.ipv4_dst)
    (none-append (to_eth_dst w) (set_field Ipv4Src w.ipv4_src)
    (none-append (to_eth_src w) (set_field EthDst w.eth_dst) (set-none EthSrc w.eth_src) (set-none EthDst w.eth_dst))
    (set-none Ipv4Src w.ipv4_src))
    (set-none Ipv4Dst w.ipv4_dst))
    (set-none TcpSrc w.tcp_src))
    (set-none TcpDst w.tcp_dst))
    (set-none UdpSrc w.udp_src))
    (set-none UdpDst w.udp_dst)

copy-none : (c : Outgoing) → NamesNone (copy_actions true c)
copy-none c = none-append (tag_actions true c.tag ++ header_actions c.writes) (Output (output_port c.kind c.writes) ∷ [])
    (none-append (tag_actions true c.tag) (header_actions c.writes) (tag-none c.tag) (headers-none c.writes)) refl

first-there : (groups : Groups) (m : MatchFields) (o : Option Arrive) → AreThere groups (first_rule (m, o)).actions
first-there groups m None = refl
first-there groups m (Some a) = by (not (is_untagged m.vlan)) a.capture
  where
    by : (b c : Bool) → AreThere groups (arrival_actions b (record { tag = a.tag; capture = c }))
    by true true = refl
    by true false = refl
    by false true = refl
    by false false = refl

module _ (second : LeavingTrees) where
  abbrev groups : List Buckets
  groups = groups_of (leaving_entries second)

  abbrev added : Groups
  added = added_groups (groups_from 4 1 groups)

  leaf-there : (m : MatchFields) (cs : List Outgoing) → IsIn (m, cs) (leaving_entries second) → AreThere added (leaving_actions groups cs)
  leaf-there m [] i = refl
  leaf-there m (c ∷ []) i = ap (list_all (contains_key added)) (copy-none c)
  leaf-there m (c ∷ d ∷ cs) i =
      let b = buckets_of (c ∷ d ∷ cs) in
      and_from (contains_key added (group_number groups b)) true
      (ap is_some (group-there b groups (in-groups b (m, c ∷ d ∷ cs) refl (leaving_entries second) i))) refl

  second-there : AllByRecursion (λ r. AreThere added r.actions) (second_rules second)
  second-there = all_map (second_rule groups) (λ r. AreThere added r.actions) (leaving_entries second)
      (all-in (λ e. AreThere added (leaving_actions groups e.1)) (leaving_entries second) (λ e i. leaf-there e.0 e.1 i))

module _ (first : ArrivingTrees) (second : LeavingTrees) (filled : AreFilled first second) where
  pub renewing : TreesRenew first second
  renewing = record {
    entries_away = refl;
    groups_away = (refl, refl);
    groups = groups-added 4 1 (groups second);
    numbers = groups-numbered 4 1 (groups second);
    entries = all_append (λ f. f.command ≡ AddFlow) (adds_from xid 0 0 (first_rules first)) (adds_from yid 1 0 (second_rules second))
        (entries-added xid 0 0 (first_rules first)) (entries-added yid 1 0 (second_rules second));
    named = all_append (λ f. AreThere (added second) f.actions) (adds_from xid 0 0 (first_rules first)) (adds_from yid 1 0 (second_rules second))
        (added-there (added second) xid 0 0 (first_rules first) first_named) (added-there (added second) yid 1 0 (second_rules second) (second-there second));
    priorities = subst HaveOwnPriorities (sym (map-append entry_of (adds_from xid 0 0 (first_rules first)) (adds_from yid 1 0 (second_rules second))))
        (both-priorities xid 0 (first_rules first) (entries_from yid 1 0 (second_rules second)) (omega (arith, filled.first_few))
        (in-table yid 1 0 (second_rules second))
        (own-priorities yid 1 0 (second_rules second) (omega (arith, filled.second_few))));
  }
    where
      xid : ℕ
      xid = suc (4 + length (groups second))

      yid : ℕ
      yid = suc (4 + length (groups second)) + length (first_rules first)

      first_named : AllByRecursion (λ r. AreThere (added second) r.actions) (first_rules first)
      first_named = all_map first_rule (λ r. AreThere (added second) r.actions) (table_of is_nothing first)
          (all-in (λ e. AreThere (added second) (first_rule e).actions) (table_of is_nothing first) (λ e i. first-there (added second) e.0 e.1))

  pub switch-sends : SwitchSends first second
  switch-sends ms is before order lawful x h =
      renewal-sends (renewal_of first second) renewing before order (subst (λ l. IsLawfulOrder l order) is lawful) x
      ∙ tables-send_in_order first second filled x h
