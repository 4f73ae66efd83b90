-- A renewal leaves what it adds.
use Rattle.std.proofs.Common.{◌≡◌, ◌≢◌, ℕ, false, cond, List, [], ◌∷◌, ◌++◌, ◌==◌, map, nat_eq, nat_cmp, is_some, if◌then◌else◌, refl, sym}
use Rattle.std.proofs.Common.{ap, subst, ◌∙◌, append_assoc, append-nil, arith}
use Rattle.std.specs.declared.option.Option.TheVariants.{None, Some}
use Rattle.std.proofs.lemmas.Bool.Decides.{nat_tests}
use Rattle.std.proofs.lemmas.List.{map-append}
use Rattle.std.specs.List.{AllByRecursion, IsDistinct}
use Rattle.std.specs.FinMap.{find, from_entries, insert, get-from_entries, from_entries_push, nat_cmp-IsAntisymmetric}
use Rattle.std.specs.Cmp.{nat_cmp_total, unsigned_tied}
use Rattle.pq_model.specs.declared.action.Action.{Action}
use Rattle.pq_model.specs.declared.group_mod.GroupCommand.TheVariants.{Add, Delete}
use Rattle.pq_model.specs.declared.message.Message.{Message}
use Rattle.pq_model.specs.declared.message.Message.TheVariants.{Flow, Group, Barrier}
use Rattle.pq_model.specs.Mods.{GroupValue}
use Rattle.pq_model.specs.SwitchMachine.{Entry, Tables, no_tables, applies, applies_all, changes_groups, sends}
use Rattle.pq_model.specs.Orders.{AreSame, IsFreeOfOrder, IsLawfulOrder}
use Rattle.pq_model.specs.Renewal.{Renewal, renewal_messages, renewed, IsRenewing}
use Rattle.pq_model.proofs.Reorderings.{all-at}
use Rattle.pq_model.proofs.SameTables.{same-refl}
use Rattle.pq_model.specs.Tagged.{TaggedPacket}
use Rattle.pq_model.proofs.Sending.{sends-same}
use Rattle.pq_model.proofs.LawfulOrders.{lawful-same}
use Rattle.pq_model.proofs.CommutingFlows.{delete-group}
use Rattle.pq_model.proofs.FreeOfOrder.{free-parted, adds-free, puts-free, adds-leave}

pub applies_all-append : (t : Tables) (ms ns : List Message) → applies_all t (ms ++ ns) ≡ applies_all (applies_all t ms) ns
applies_all-append t [] ns = refl
applies_all-append t (m ∷ ms) ns = applies_all-append (applies t m) ms ns

-- a group with its number
abbrev numbered : GroupValue → ℕ × List (List Action)
numbered g = (g.group, g.buckets)

abbrev Pairs : Type 0
Pairs = List (ℕ × List (List Action))

not_found : (es : Pairs) (k : ℕ) (ns : List ℕ) → IsDistinct nat_eq (map (λ e. e.0) es ++ k ∷ ns) → find nat_cmp k es ≡ None
unfolding IsDistinct
not_found [] k ns own = refl
not_found (e ∷ es) k ns (apart, own) =
    let differs = all-at (λ n. nat_eq e.0 n ≡ false) k (map (λ x. x.0) es) ns apart in
    let turned : (k == e.0) ≡ false = grind (arith, nat_tests) in
    ap (λ b. cond b (Some e.1) (find nat_cmp k es)) (unsigned_tied k e.0 ∙ turned) ∙ not_found es k ns own

groups-leave : (gs : List GroupValue) (entries : List Entry) (es : Pairs) → AllByRecursion (λ g. g.command ≡ Add) gs
    → IsDistinct nat_eq (map (λ e. e.0) es ++ map (λ g. g.group) gs) →
    applies_all (record { entries = entries; groups = from_entries es }) (map Group gs)
    ≡ record { entries = entries; groups = from_entries (es ++ map numbered gs) }
groups-leave [] entries es all own = λ i. record { entries = entries; groups = from_entries (sym (append-nil es) i) }
groups-leave (g ∷ gs) entries es (is, all) own =
    ap (λ t. applies_all t (map Group gs)) one
    ∙ groups-leave gs entries (es ++ numbered g ∷ []) all (subst (IsDistinct nat_eq) (sym keys) own)
    ∙ (λ i. record { entries = entries; groups = from_entries (append_assoc es (numbered g ∷ []) (map numbered gs) i) })
  where
    none : find nat_cmp g.group es ≡ None
    none = not_found es g.group (map (λ x. x.group) gs) own

    one : changes_groups g.command g (record { entries = entries; groups = from_entries es })
        ≡ record { entries = entries; groups = from_entries (es ++ numbered g ∷ []) }
    one = ap (λ c. changes_groups c g (record { entries = entries; groups = from_entries es })) is
        ∙ ap (λ has. if has then record { entries = entries; groups = from_entries es } else record {
          entries = entries;
          groups =
              insert (from_entries es) g.group g.buckets;
        }) (ap is_some (get-from_entries nat_cmp_total es g.group ∙ none))
        ∙ (λ i. record { entries = entries; groups = sym (from_entries_push nat_cmp_total nat_cmp-IsAntisymmetric es g.group g.buckets none) i })

    keys : map (λ e. e.0) (es ++ numbered g ∷ []) ++ map (λ x. x.group) gs ≡ map (λ e. e.0) es ++ g.group ∷ map (λ x. x.group) gs
    keys = ap (λ l. l ++ map (λ x. x.group) gs) (map-append (λ (e : ℕ × List (List Action)). e.0) es (numbered g ∷ []))
        ∙ append_assoc (map (λ e. e.0) es) (g.group ∷ []) (map (λ x. x.group) gs)

no_deletes : (gs : List GroupValue) → AllByRecursion (λ g. g.command ≡ Add) gs → AllByRecursion (λ g. g.command ≢ Delete) gs
no_deletes [] all = tt
no_deletes (g ∷ gs) (is, all) = (λ e. cc, no_deletes gs all)

renewal-free : (r : Renewal) → IsRenewing r → IsFreeOfOrder (renewal_messages r)
renewal-free r h =
    let entries = free-parted r.filled [] (map Flow r.entries) (adds-free r.entries h.entries h.priorities) tt in
    let groups = free-parted r.grouped (map Flow r.entries ++ Barrier r.filled ∷ []) (map Group r.groups)
    (puts-free r.groups (no_deletes r.groups h.groups) h.numbers) entries in
    ((delete-group r.entries_away r.groups_away (λ e. cc (h.entries_away)), tt), (tt, groups))

emptied : (r : Renewal) → IsRenewing r → (t : Tables) → applies (applies t (Flow r.entries_away)) (Group r.groups_away) ≡ no_tables
emptied r h t = rw (h.entries_away, h.groups_away.0, h.groups_away.1) refl

pub renewal-leaves : (r : Renewal) → IsRenewing r → (t : Tables) → applies_all t (renewal_messages r) ≡ renewed r
renewal-leaves r h t =
    ap (λ s. applies_all s (map Group r.groups ++ Barrier r.grouped ∷ (map Flow r.entries ++ Barrier r.filled ∷ []))) (emptied r h t)
    ∙ applies_all-append no_tables (map Group r.groups) (Barrier r.grouped ∷ (map Flow r.entries ++ Barrier r.filled ∷ []))
    ∙ ap (λ s. applies_all s (map Flow r.entries ++ Barrier r.filled ∷ [])) (groups-leave r.groups [] [] h.groups h.numbers)
    ∙ applies_all-append (record { entries = []; groups = (renewed r).groups }) (map Flow r.entries) (Barrier r.filled ∷ [])
    ∙ adds-leave r.entries (record { entries = []; groups = (renewed r).groups }) h.entries h.named h.priorities

pub renewal-same : (r : Renewal) → IsRenewing r → (t : Tables) (order : List Message) → IsLawfulOrder (renewal_messages r) order
    → AreSame (renewed r) (applies_all t order)
renewal-same r h t order lawful =
    subst (λ s. AreSame s (applies_all t order)) (renewal-leaves r h t) (lawful-same t t (same-refl t) (renewal_messages r) order lawful (renewal-free r h))

pub renewal-sends : (r : Renewal) → IsRenewing r → (t : Tables) (order : List Message) → IsLawfulOrder (renewal_messages r) order
    → (x : TaggedPacket) → sends (applies_all t order) x ≡ sends (renewed r) x
renewal-sends r h t order lawful x = sym (sends-same (renewed r) (applies_all t order) (renewal-same r h t order lawful) h.priorities x)
