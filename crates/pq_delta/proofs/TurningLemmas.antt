-- A delta turns the tables of one renewal into those of another.
use Rattle.std.proofs.Common.{◌≡◌, ℕ, zero, suc, ◌+◌, ◌-◌, ◌≤◌, Bool, true, false, List, [], ◌∷◌, ◌++◌, ◌==◌, if◌then◌else◌, length, map}
use Rattle.std.proofs.Common.{take, drop, filter, refl, sym, ap, subst, subst₂, ◌∙◌, append-nil, arith, eqb-true}
use Rattle.std.specs.List.{AllByRecursion, filter_map, list_all}
use Rattle.std.specs.declared.option.Option.TheVariants.{Some}
use Rattle.std.specs.FinMap.{contains_key}
use Rattle.std.proofs.lemmas.List.{length-drop, length-map, length-take}
use Rattle.std.proofs.lemmas.List.Elements.{filter_map-append}
use Rattle.pq_model.specs.declared.flow_mod.FlowCommand.TheVariants.{Add as AddFlow}
use Rattle.pq_model.specs.declared.group_mod.GroupCommand.TheVariants.{Add as AddGroup}
use Rattle.pq_model.specs.declared.message.Message.{Message}
use Rattle.pq_model.specs.declared.message.Message.TheVariants.{Flow, Group, Barrier}
use Rattle.pq_model.specs.Mods.{FlowValue, GroupValue}
use Rattle.pq_model.specs.SwitchMachine.{Entry, Groups, Tables, applies_all, entry_of, groups_named}
use Rattle.pq_model.specs.declared.reserved.TheConstants.{ALL_GROUPS}
use Rattle.pq_model.specs.Orders.{AreSame, HaveOwnPriorities, IsFreeOfOrder, IsLawfulOrder, IsReordering}
use Rattle.pq_model.specs.Renewal.{IsRenewing, Renewal, added_groups, renewal_messages, renewed}
use Rattle.pq_model.proofs.FreeOfOrder.{adds-free, adds-leave, deletes-free, free-parted, puts-free}
use Rattle.pq_model.proofs.LawfulOrders.{lawful-same}
use Rattle.pq_model.proofs.Renewals.{applies_all-append}
use Rattle.pq_model.proofs.Reorderings.{all-front, all-reordering, reordering-more, reordering-trans}
use Rattle.pq_model.proofs.SameTables.{same-trans}
use Rattle.pq_delta.specs.Added.{Buckets, entries_added, entry_added, entry_by, group_added, group_by, groups_added}
use Rattle.pq_delta.specs.Changes.{Changes, Put, adds_from, amount, change_messages, changes, deletes_from, group_deletes_from, group_mods_from, puts_from}
use Rattle.pq_delta.specs.Delta.{messages_for, switch_delta}
use Rattle.pq_delta.specs.Equal.{is_among, others, same_entry}
use Rattle.pq_delta.specs.Turning.{AllFit, IsNumberedRenewal}
use Rattle.pq_delta.proofs.EntriesLemmas.{adds-all, adds-entries, adds-named, deletes-leave, deletes-none}
use Rattle.pq_delta.specs.Exact.{entry_exact, entry_itself}
use Rattle.pq_delta.proofs.FitLemmas.{adds-fit, deletes-fit, fit-append, group_deletes-fit, puts-fit}
use Rattle.pq_delta.proofs.GroupsLemmas.{Under, groups_with, group_deletes-all, group_deletes-leave, mods-distinct, mods-none}
use Rattle.pq_delta.proofs.GroupsLemmas.{all-names-below, divided, numbered_from, puts-front, puts-leave, renewal-numbered, under-take}
use Rattle.pq_delta.proofs.ListLemmas.{common, parted}
use Rattle.pq_delta.proofs.OwnLemmas.{own-back, own-distinct, own-reordered}

-- What a renewal adds.

added_by : (f : FlowValue) → f.command ≡ AddFlow → entry_by f.command f ≡ Some (entry_of f)
added_by f is = ap (λ c. entry_by c f) is

adds-added : (fs : List FlowValue) → AllByRecursion (λ f. f.command ≡ AddFlow) fs → entries_added (map Flow fs) ≡ map entry_of fs
adds-added [] all = refl
adds-added (f ∷ fs) (is, all) = rw (added_by f is) (ap (λ l. entry_of f ∷ l) (adds-added fs all))

groups-none : (gs : List GroupValue) → entries_added (map Group gs) ≡ []
groups-none [] = refl
groups-none (g ∷ gs) = groups-none gs

group_by_add : (g : GroupValue) → g.command ≡ AddGroup → group_by g.command g ≡ Some g.buckets
group_by_add g is = ap (λ c. group_by c g) is

groups-added : (gs : List GroupValue) → AllByRecursion (λ g. g.command ≡ AddGroup) gs → groups_added (map Group gs) ≡ map (λ g. g.buckets) gs
groups-added [] all = refl
groups-added (g ∷ gs) (is, all) = rw (group_by_add g is) (ap (λ l. g.buckets ∷ l) (groups-added gs all))

flows-none : (fs : List FlowValue) → groups_added (map Flow fs) ≡ []
flows-none [] = refl
flows-none (f ∷ fs) = flows-none fs

pub renewal-entries : (r : Renewal) → IsRenewing r → entries_added (renewal_messages r) ≡ map entry_of r.entries
renewal-entries r h =
    rw (ap (λ c. entry_by c r.entries_away) h.entries_away)
    (filter_map-append entry_added (map Group r.groups) (Barrier r.grouped ∷ (map Flow r.entries ++ Barrier r.filled ∷ []))
    ∙ ap (λ l. l ++ filter_map entry_added (map Flow r.entries ++ Barrier r.filled ∷ [])) (groups-none r.groups)
    ∙ filter_map-append entry_added (map Flow r.entries) (Barrier r.filled ∷ [])
    ∙ append-nil (entries_added (map Flow r.entries))
    ∙ adds-added r.entries h.entries)

pub renewal-groups : (r : Renewal) → IsRenewing r → groups_added (renewal_messages r) ≡ map (λ g. g.buckets) r.groups
renewal-groups r h =
    rw (ap (λ c. group_by c r.groups_away) h.groups_away.0)
    (filter_map-append group_added (map Group r.groups) (Barrier r.grouped ∷ (map Flow r.entries ++ Barrier r.filled ∷ []))
    ∙ ap (λ l. groups_added (map Group r.groups) ++ l) (filter_map-append group_added (map Flow r.entries) (Barrier r.filled ∷ [])
    ∙ append-nil (groups_added (map Flow r.entries)) ∙ flows-none r.entries)
    ∙ append-nil (groups_added (map Group r.groups))
    ∙ groups-added r.groups h.groups)

-- Three blocks of messages with a barrier after each.

module _ (parting grouping filled : ℕ) (away : List FlowValue) (groups_away : List GroupValue) (puts : List GroupValue) (adds : List FlowValue) where
  abbrev blocks : List Message
  blocks = (map Flow away ++ map Group groups_away) ++ Barrier parting ∷ (map Group puts ++ Barrier grouping ∷ (map Flow adds ++ Barrier filled ∷ []))

  blocks-free : IsFreeOfOrder (map Flow away ++ map Group groups_away) → IsFreeOfOrder (map Group puts) → IsFreeOfOrder (map Flow adds) → IsFreeOfOrder blocks
  blocks-free first second third =
      free-parted parting (map Group puts ++ Barrier grouping ∷ (map Flow adds ++ Barrier filled ∷ [])) (map Flow away ++ map Group groups_away) first
      (free-parted grouping (map Flow adds ++ Barrier filled ∷ []) (map Group puts) second (free-parted filled [] (map Flow adds) third tt))

  blocks-fit : (t : Tables) → AllFit t (map Flow away) → AllFit (applies_all t (map Flow away)) (map Group groups_away)
      → AllFit (applies_all (applies_all t (map Flow away)) (map Group groups_away)) (map Group puts)
      → AllFit (applies_all (applies_all (applies_all t (map Flow away)) (map Group groups_away)) (map Group puts)) (map Flow adds) → AllFit t blocks
  blocks-fit t first second third fourth =
      fit-append t (map Flow away ++ map Group groups_away)
      (Barrier parting ∷ (map Group puts ++ Barrier grouping ∷ (map Flow adds ++ Barrier filled ∷ [])))
      (fit-append t (map Flow away) (map Group groups_away) first second) (
        tt,
        subst (λ u. AllFit u (map Group puts ++ Barrier grouping ∷ (map Flow adds ++ Barrier filled ∷ [])))
            (sym (applies_all-append t (map Flow away) (map Group groups_away)))
            (fit-append (applies_all (applies_all t (map Flow away)) (map Group groups_away)) (map Group puts)
            (Barrier grouping ∷ (map Flow adds ++ Barrier filled ∷ [])) third (
              tt,
              fit-append (applies_all (applies_all (applies_all t (map Flow away)) (map Group groups_away)) (map Group puts))
                  (map Flow adds) (Barrier filled ∷ []) fourth (tt, tt),
            )),
      )

  blocks-leave : (t : Tables)
      → applies_all t blocks
      ≡ applies_all (applies_all (applies_all (applies_all t (map Flow away)) (map Group groups_away)) (map Group puts)) (map Flow adds)
  blocks-leave t =
      applies_all-append t (map Flow away ++ map Group groups_away)
      (Barrier parting ∷ (map Group puts ++ Barrier grouping ∷ (map Flow adds ++ Barrier filled ∷ [])))
      ∙ ap (λ u. applies_all u (map Group puts ++ Barrier grouping ∷ (map Flow adds ++ Barrier filled ∷ [])))
      (applies_all-append t (map Flow away) (map Group groups_away))
      ∙ applies_all-append (applies_all (applies_all t (map Flow away)) (map Group groups_away)) (map Group puts)
      (Barrier grouping ∷ (map Flow adds ++ Barrier filled ∷ []))
      ∙ applies_all-append (applies_all (applies_all (applies_all t (map Flow away)) (map Group groups_away)) (map Group puts))
      (map Flow adds) (Barrier filled ∷ [])

all-back : {A : Type 0} (P : A → Type 0) (front back : List A) → AllByRecursion P (front ++ back) → AllByRecursion P back
all-back P [] back all = all
all-back P (x ∷ front) back (here, rest) = all-back P front back rest

-- The tables that the messages leave.

module _ (es fs : List Entry) (bs cs : List Buckets) where
  -- the old entries that stay, and the new ones that come
  abbrev kept : List Entry
  kept = filter (λ e. is_among e fs) es

  abbrev come : List Entry
  come = others es fs

  abbrev pub changed : Changes
  changed = record { removed = others fs es; kept = length cs; gone = length bs - length cs; puts = puts_from 1 bs cs; added = others es fs }

  abbrev parting : ℕ
  parting = suc (length (others fs es)) + (length bs - length cs)

  abbrev grouping : ℕ
  grouping = suc parting + length (puts_from 1 bs cs)

  abbrev filling : ℕ
  filling = suc grouping + length come

  abbrev group_deletes : List GroupValue
  group_deletes = group_deletes_from (suc (length (others fs es))) (suc (length cs)) (length bs - length cs)

  abbrev mods : List GroupValue
  mods = group_mods_from (suc parting) (puts_from 1 bs cs)

  abbrev adds : List FlowValue
  adds = adds_from (suc grouping) come

  -- with these groups
  abbrev pub stand : List Entry → List Buckets → Tables
  stand ds as_ = record { entries = ds; groups = groups_with (numbered_from 1 as_) }

  module _ (own_old : HaveOwnPriorities es) (own_new : HaveOwnPriorities fs) where
    reordered : IsReordering fs (kept ++ come)
    reordered =
        reordering-trans fs (filter (λ f. is_among f es) fs ++ come) (kept ++ come) (parted (λ f. is_among f es) fs)
        (reordering-more (filter (λ f. is_among f es) fs) kept come
        (common same_entry entry_exact entry_itself fs es (own-distinct fs own_new) (own-distinct es own_old)))

    own_all : HaveOwnPriorities (kept ++ come)
    own_all = own-reordered fs (kept ++ come) reordered own_new

    pub messages-free : IsFreeOfOrder (change_messages changed)
    messages-free =
        blocks-free parting grouping filling (deletes_from 1 (others fs es)) group_deletes mods adds
        (deletes-free (deletes_from 1 (others fs es)) group_deletes (deletes-none 1 (others fs es))
        (group_deletes-all (suc (length (others fs es))) (suc (length cs)) (length bs - length cs)))
        (puts-free mods (mods-none (suc parting) 1 bs cs) (mods-distinct (suc parting) 1 bs cs))
        (adds-free adds (adds-all (suc grouping) come) (subst HaveOwnPriorities (sym (adds-entries (suc grouping) come)) (own-back kept come own_all)))

    module _ (named : AllByRecursion (λ e. list_all (contains_key (groups_with (numbered_from 1 cs))) (groups_named e.actions) ≡ true) fs)
        (few : length bs ≤ 0xffffff00) (few_new : length cs ≤ 0xffffff00) where
      named_all : AllByRecursion (λ e. list_all (contains_key (groups_with (numbered_from 1 cs))) (groups_named e.actions) ≡ true) (kept ++ come)
      named_all = all-reordering _ fs (kept ++ come) reordered named

      entries_gone : applies_all (stand es bs) (map Flow (deletes_from 1 (others fs es))) ≡ stand kept bs
      entries_gone = deletes-leave (groups_with (numbered_from 1 bs)) (λ e. is_among e fs) 1 [] es own_old

      groups_gone : applies_all (stand kept bs) (map Group group_deletes) ≡ stand kept (take (length cs) bs)
      groups_gone =
          (λ i. applies_all (record { entries = kept; groups = groups_with (divided (length cs) 1 bs i) })
          (map Group (group_deletes_from (suc (length (others fs es))) (suc (length cs)) (sym (length-drop (length cs) bs) i))))
          ∙ (λ i. applies_all (record {
            entries = kept;
            groups = groups_with (numbered_from 1 (take (length cs) bs) ++ numbered_from (next i) (drop (length cs) bs));
          }) (map Group (group_deletes_from (suc (length (others fs es))) (suc (length cs)) (length (drop (length cs) bs)))))
          ∙ group_deletes-leave (suc (length (others fs es))) (suc (length cs)) kept (numbered_from 1 (take (length cs) bs)) (drop (length cs) bs)
          (subst (λ j. Under j (numbered_from 1 (take (length cs) bs))) next (under-take (length cs) 1 bs)) few_gone
          (all-names-below cs kept (all-front _ kept come named_all))
        where
          next : 1 + length cs ≡ suc (length cs)
          next = omega arith

          few_gone : suc (length cs) + length (drop (length cs) bs) ≤ ALL_GROUPS
          few_gone = let left = length-drop (length cs) bs in omega (arith, left, few, few_new)

      groups_put : applies_all (stand kept (take (length cs) bs)) (map Group mods) ≡ stand kept cs
      groups_put =
          (λ i. applies_all (stand kept (take (length cs) bs)) (map Group (group_mods_from (suc parting) (puts-front 1 bs cs i))))
          ∙ puts-leave (suc parting) 1 kept [] (take (length cs) bs) cs tt short
        where
          short : length (take (length cs) bs) ≤ length cs
          short = let long = length-take (length cs) bs in omega (arith, long)

      entries_put : applies_all (stand kept cs) (map Flow adds) ≡ stand (kept ++ come) cs
      entries_put =
          adds-leave adds (stand kept cs) (adds-all (suc grouping) come)
          (adds-named (groups_with (numbered_from 1 cs)) (suc grouping) come (all-back _ kept come named_all))
          (subst (λ l. HaveOwnPriorities (kept ++ l)) (sym (adds-entries (suc grouping) come)) own_all)
          ∙ (λ i. stand (kept ++ adds-entries (suc grouping) come i) cs)

      pub messages-leave : applies_all (stand es bs) (change_messages changed) ≡ stand (kept ++ come) cs
      messages-leave =
          blocks-leave parting grouping filling (deletes_from 1 (others fs es)) group_deletes mods adds (stand es bs)
          ∙ ap (λ t. applies_all (applies_all (applies_all t (map Group group_deletes)) (map Group mods)) (map Flow adds)) entries_gone
          ∙ ap (λ t. applies_all (applies_all t (map Group mods)) (map Flow adds)) groups_gone
          ∙ ap (λ t. applies_all t (map Flow adds)) groups_put
          ∙ entries_put

      groups_gone_fit : AllFit (stand kept bs) (map Group group_deletes)
      groups_gone_fit =
          subst₂ (λ gs n. AllFit (record { entries = kept; groups = groups_with gs })
          (map Group (group_deletes_from (suc (length (others fs es))) (suc (length cs)) n)))
          (sym (divided (length cs) 1 bs ∙ ap (λ j. numbered_from 1 (take (length cs) bs) ++ numbered_from j (drop (length cs) bs)) next))
          (length-drop (length cs) bs)
          (group_deletes-fit (suc (length (others fs es))) (suc (length cs)) kept (numbered_from 1 (take (length cs) bs)) (drop (length cs) bs)
          (subst (λ j. Under j (numbered_from 1 (take (length cs) bs))) next (under-take (length cs) 1 bs)) few_gone
          (all-names-below cs kept (all-front _ kept come named_all)))
        where
          next : 1 + length cs ≡ suc (length cs)
          next = omega arith

          few_gone : suc (length cs) + length (drop (length cs) bs) ≤ ALL_GROUPS
          few_gone = let left = length-drop (length cs) bs in omega (arith, left, few, few_new)

      groups_put_fit : AllFit (stand kept (take (length cs) bs)) (map Group mods)
      groups_put_fit =
          subst (λ ps. AllFit (stand kept (take (length cs) bs)) (map Group (group_mods_from (suc parting) ps))) (sym (puts-front 1 bs cs))
          (puts-fit (suc parting) 1 kept [] (take (length cs) bs) cs tt short)
        where
          short : length (take (length cs) bs) ≤ length cs
          short = let long = length-take (length cs) bs in omega (arith, long)

      pub messages-fit : AllFit (stand es bs) (change_messages changed)
      messages-fit =
          blocks-fit parting grouping filling (deletes_from 1 (others fs es)) group_deletes mods adds (stand es bs)
          (deletes-fit (groups_with (numbered_from 1 bs)) (λ e. is_among e fs) 1 [] es own_old)
          (subst (λ t. AllFit t (map Group group_deletes)) (sym entries_gone) groups_gone_fit)
          (subst (λ t. AllFit t (map Group mods)) (sym (ap (λ t. applies_all t (map Group group_deletes)) entries_gone ∙ groups_gone)) groups_put_fit)
          (subst (λ t. AllFit t (map Flow adds))
          (sym (ap (λ t. applies_all (applies_all t (map Group group_deletes)) (map Group mods)) entries_gone
          ∙ ap (λ t. applies_all t (map Group mods)) groups_gone ∙ groups_put))
          (adds-fit (suc grouping) come kept (groups_with (numbered_from 1 cs)) (all-back _ kept come named_all) own_all))

      pub messages-turn : AreSame (stand fs cs) (applies_all (stand es bs) (change_messages changed))
      messages-turn = subst (AreSame (stand fs cs)) (sym messages-leave) (record { entries = reordered; groups = refl })

-- where nothing changes the messages leave the tables as they are
nothing-leaves : (t : Tables) (c : Changes) → amount c ≡ 0 → applies_all t (change_messages c) ≡ t
nothing-leaves t c none = by c.removed c.gone c.puts c.added none
  where
    by : (removed : List Entry) (gone : ℕ) (puts : List Put) (added : List Entry) → length removed + gone + length puts + length added ≡ 0
        → applies_all t (change_messages (record { removed = removed; kept = c.kept; gone = gone; puts = puts; added = added })) ≡ t
    by [] zero [] [] none = refl
    by (e ∷ es) gone puts added none = absurd (omega (arith, none))
    by [] (suc gone) puts added none = absurd (omega (arith, none))
    by [] zero (p ∷ ps) added none = absurd (omega (arith, none))
    by [] zero [] (e ∷ es) none = absurd (omega (arith, none))

module _ (r s : Renewal) (old : IsNumberedRenewal r) (new : IsNumberedRenewal s) where
  abbrev buckets_of : Renewal → List Buckets
  buckets_of q = map (λ g. g.buckets) q.groups

  abbrev turning : Changes
  turning = changed (map entry_of r.entries) (map entry_of s.entries) (buckets_of r) (buckets_of s)

  abbrev standing : Renewal → Tables
  standing q = record { entries = map entry_of q.entries; groups = groups_with (numbered_from 1 (buckets_of q)) }

  stands : (q : Renewal) → IsNumberedRenewal q → renewed q ≡ standing q
  stands q h = λ i. record { entries = map entry_of q.entries; groups = groups_with (renewal-numbered 1 q.groups h.numbers i) }

  the_changes : changes (renewal_messages r) (renewal_messages s) ≡ turning
  the_changes = λ i. changes_with (renewal-entries r old.renewing i) (renewal-entries s new.renewing i) (renewal-groups r old.renewing i)
      (renewal-groups s new.renewing i)
    where
      changes_with : List Entry → List Entry → List Buckets → List Buckets → Changes
      changes_with es fs bs cs = record {
        removed = others fs es;
        kept = length cs;
        gone = length bs - length cs;
        puts = puts_from 1 bs cs;
        added = others es fs;
      }

  few_of : (q : Renewal) → IsNumberedRenewal q → length (buckets_of q) ≤ 0xffffff00
  few_of q h = let long = length-map q.groups (λ g. g.buckets) in let few = h.few in omega (arith, long, few)

  entries-named : (fs : List FlowValue) (groups : Groups) → AllByRecursion (λ f. list_all (contains_key groups) (groups_named f.actions) ≡ true) fs
      → AllByRecursion (λ e. list_all (contains_key groups) (groups_named e.actions) ≡ true) (map entry_of fs)
  entries-named [] groups all = tt
  entries-named (f ∷ fs) groups (here, rest) = (here, entries-named fs groups rest)

  named_of : (q : Renewal) → IsNumberedRenewal q
      → AllByRecursion (λ e. list_all (contains_key (groups_with (numbered_from 1 (buckets_of q)))) (groups_named e.actions) ≡ true)
      (map entry_of q.entries)
  named_of q h = subst (λ gs. AllByRecursion (λ e. list_all (contains_key (groups_with gs)) (groups_named e.actions) ≡ true)
      (map entry_of q.entries)) (renewal-numbered 1 q.groups h.numbers) (entries-named q.entries (added_groups q.groups) h.renewing.named)

  turned : AreSame (renewed s) (applies_all (renewed r) (change_messages turning))
  turned = subst₂ (λ t u. AreSame t (applies_all u (change_messages turning))) (sym (stands s new)) (sym (stands r old))
      (messages-turn (map entry_of r.entries) (map entry_of s.entries) (buckets_of r)
      (buckets_of s) old.renewing.priorities new.renewing.priorities (named_of s new) (few_of r old) (few_of s new))

  pub delta-turns : (t : Tables) (order : List Message) → AreSame (renewed r) t
      → IsLawfulOrder (switch_delta (renewal_messages r) (renewal_messages s)) order → AreSame (renewed s) (applies_all t order)
  unfolding switch_delta
  delta-turns t order same lawful = by (amount turning == 0) refl (subst (λ c. IsLawfulOrder (messages_for c) order) the_changes lawful)
    where
      by : (b : Bool) → (amount turning == 0) ≡ b → IsLawfulOrder (if b then [] else change_messages turning) order → AreSame (renewed s) (applies_all t order)
      by true is none =
          let left = nothing-leaves (renewed r) turning (eqb-true (amount turning) 0 is) in
          subst (λ l. AreSame (renewed s) (applies_all t l)) (sym none) (same-trans (renewed s) (renewed r) t (subst (AreSame (renewed s)) left turned) same)
      by false is order_is =
          same-trans (renewed s) (applies_all (renewed r) (change_messages turning)) (applies_all t order) turned
          (lawful-same (renewed r) t same (change_messages turning) order order_is
          (messages-free (map entry_of r.entries) (map entry_of s.entries) (buckets_of r) (buckets_of s) old.renewing.priorities new.renewing.priorities))

  fitted : AllFit (renewed r) (change_messages turning)
  fitted = subst (λ t. AllFit t (change_messages turning)) (sym (stands r old))
      (messages-fit (map entry_of r.entries) (map entry_of s.entries) (buckets_of r)
      (buckets_of s) old.renewing.priorities new.renewing.priorities (named_of s new) (few_of r old) (few_of s new))

  pub delta-fits : AllFit (renewed r) (switch_delta (renewal_messages r) (renewal_messages s))
  unfolding switch_delta
  delta-fits = subst (λ c. AllFit (renewed r) (messages_for c)) (sym the_changes) (by (amount turning == 0))
    where
      by : (b : Bool) → AllFit (renewed r) (if b then [] else change_messages turning)
      by true = tt
      by false = fitted
