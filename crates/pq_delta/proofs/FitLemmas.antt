-- In the written order each message of a delta does what it says and nothing else.
use Rattle.std.proofs.Common.{◌≡◌, ℕ, suc, ◌+◌, ◌<◌, ◌≤◌, Bool, true, false, not, cond, List, [], ◌∷◌, ◌++◌, ◌||◌, if◌then◌else◌, length}
use Rattle.std.proofs.Common.{map, filter, refl, sym, ap, subst, ◌∙◌, append_assoc, arith}
use Rattle.std.specs.List.{AllByRecursion, list_all, list_any}
use Rattle.std.specs.FinMap.{contains_key}
use Rattle.std.proofs.lemmas.List.Folds.{list_any-append}
use Rattle.std.proofs.Math.Bool.{or-true}
use Rattle.pq_model.specs.declared.group_mod.GroupCommand.TheVariants.{Modify}
use Rattle.pq_model.specs.declared.message.Message.{Message}
use Rattle.pq_model.specs.declared.message.Message.TheVariants.{Flow, Group}
use Rattle.pq_model.specs.Mods.{FlowValue}
use Rattle.pq_model.specs.SwitchMachine.{Entry, Groups, Tables, applies, applies_all, groups_named, is_placed}
use Rattle.pq_model.specs.declared.reserved.TheConstants.{ALL_GROUPS}
use Rattle.pq_model.specs.Orders.{HaveOwnPriorities}
use Rattle.pq_model.proofs.FreeOfOrder.{adds-leave}
use Rattle.pq_model.proofs.Reorderings.{all-front}
use Rattle.pq_delta.specs.Added.{Buckets}
use Rattle.pq_delta.specs.Changes.{add_of, adds_from, delete_of, deletes_from, group_deletes_from, group_mods_from, puts_from}
use Rattle.pq_delta.specs.Equal.{same_buckets}
use Rattle.pq_delta.specs.Turning.{AllFit}
use Rattle.pq_delta.proofs.EntriesLemmas.{placed, taken-out}
use Rattle.pq_delta.specs.Exact.{buckets_exact}
use Rattle.pq_delta.proofs.GroupsLemmas.{NameBelow, Pairs, Under, added_step, all-not_hit, changed_step, deleted_step, free, groups_with}
use Rattle.pq_delta.proofs.GroupsLemmas.{no_all, numbered_from, there, under-more, under-weaker}
use Rattle.pq_delta.proofs.OwnLemmas.{all-unplaced, own-around}

pub fit-append : (t : Tables) (ms ns : List Message) → AllFit t ms → AllFit (applies_all t ms) ns → AllFit t (ms ++ ns)
fit-append t [] ns fit more = more
fit-append t (m ∷ ms) ns (here, rest) more = (here, fit-append (applies t m) ms ns rest more)

-- Entries.

any_unplaced : (f : FlowValue) (es : List Entry) → AllByRecursion (λ e. is_placed f e ≡ false) es → list_any (is_placed f) es ≡ false
any_unplaced f [] all = refl
any_unplaced f (e ∷ es) (here, rest) = ap (λ b. b || list_any (is_placed f) es) here ∙ any_unplaced f es rest

any_placed : (xid : ℕ) (front : List Entry) (e : Entry) (back : List Entry) → list_any (is_placed (delete_of xid e)) (front ++ e ∷ back) ≡ true
any_placed xid front e back =
    list_any-append (is_placed (delete_of xid e)) front (e ∷ back)
    ∙ ap (λ b. list_any (is_placed (delete_of xid e)) front || (b || list_any (is_placed (delete_of xid e)) back)) (placed (delete_of xid e) e refl refl refl)
    ∙ or-true (list_any (is_placed (delete_of xid e)) front)

module _ (groups : Groups) (stays : Entry → Bool) where
  pub deletes-fit : (xid : ℕ) (front es : List Entry) → HaveOwnPriorities (front ++ es)
      → AllFit (record { entries = front ++ es; groups = groups }) (map Flow (deletes_from xid (filter (λ e. not (stays e)) es)))
  deletes-fit xid front [] own = tt
  deletes-fit xid front (e ∷ es) own =
      by (stays e) (deletes-fit xid (front ++ e ∷ []) es (subst HaveOwnPriorities (sym (append_assoc front (e ∷ []) es)) own))
      (deletes-fit (suc xid) front es (own-around front e es own).1)
    where
      by : (b : Bool) → AllFit (record { entries = (front ++ e ∷ []) ++ es; groups = groups }) (map Flow (deletes_from xid (filter (λ d. not (stays d)) es)))
          → AllFit (record { entries = front ++ es; groups = groups }) (map Flow (deletes_from (suc xid) (filter (λ d. not (stays d)) es)))
          → AllFit (record { entries = front ++ e ∷ es; groups = groups })
          (map Flow (deletes_from xid (cond (not b) (e ∷ filter (λ d. not (stays d)) es) (filter (λ d. not (stays d)) es))))
      by true kept away = subst
          (λ l. AllFit (record { entries = l; groups = groups }) (map Flow (deletes_from xid (filter (λ d. not (stays d)) es))))
          (append_assoc front (e ∷ []) es) kept
      by false kept away = (
        any_placed xid front e es,
        subst (λ l. AllFit (record { entries = l; groups = groups })
            (map Flow (deletes_from (suc xid) (filter (λ d. not (stays d)) es)))) (sym (taken-out xid front e es own)) away,
      )

own-front : (front back : List Entry) → HaveOwnPriorities (front ++ back) → HaveOwnPriorities front
own-front [] back own = tt
own-front (f ∷ front) back (apart, own) = (all-front _ front back apart, own-front front back own)

pub adds-fit : (xid : ℕ) (es : List Entry) (front : List Entry) (groups : Groups)
    → AllByRecursion (λ e. list_all (contains_key groups) (groups_named e.actions) ≡ true) es → HaveOwnPriorities (front ++ es)
    → AllFit (record { entries = front; groups = groups }) (map Flow (adds_from xid es))
adds-fit xid [] front groups named own = tt
adds-fit xid (e ∷ es) front groups (here, rest) own =
    let joined = subst HaveOwnPriorities (sym (append_assoc front (e ∷ []) es)) own in
    let one = adds-leave (add_of xid e ∷ []) (record { entries = front; groups = groups }) (refl, tt) (here, tt) (own-front (front ++ e ∷ []) es joined) in (
      (any_unplaced (add_of xid e) front (all-unplaced (add_of xid e) front (all-front _ front es (own-around front e es own).0)), here),
      subst (λ t. AllFit t (map Flow (adds_from (suc xid) es))) (sym one) (adds-fit (suc xid) es (front ++ e ∷ []) groups rest joined),
    )

-- Groups.

pub group_deletes-fit : (xid number : ℕ) (es : List Entry) (done : Pairs) (gone : List Buckets) → Under number done
    → number + length gone ≤ ALL_GROUPS → NameBelow number es →
    AllFit (record { entries = es; groups = groups_with (done ++ numbered_from number gone) }) (map Group (group_deletes_from xid number (length gone)))
group_deletes-fit xid number es done [] under few named = tt
group_deletes-fit xid number es done (b ∷ gone) under few named =
    let less : number < ALL_GROUPS = omega (arith, few) in (
      (
        there done number b (numbered_from (suc number) gone) under,
        all-not_hit (groups_with (done ++ (number, b) ∷ numbered_from (suc number) gone)) number es (no_all number less)
            (named number (omega arith)),
      ),
      subst (λ t. AllFit t (map Group (group_deletes_from (suc xid) (suc number) (length gone))))
          (sym (deleted_step xid number es done b gone under less named))
          (group_deletes-fit (suc xid) (suc number) es done gone (under-weaker number done under) (omega (arith, few))
          (λ k more. named k (omega (arith, more)))),
    )

pub puts-fit : (xid number : ℕ) (es : List Entry) (done : Pairs) (olds news : List Buckets) → Under number done → length olds ≤ length news →
    AllFit (record { entries = es; groups = groups_with (done ++ numbered_from number olds) }) (map Group (group_mods_from xid (puts_from number olds news)))
puts-fit xid number es done olds [] under few = tt
puts-fit xid number es done [] (b ∷ bs) under few = (
  free done number under,
  subst (λ t. AllFit t (map Group (group_mods_from (suc xid) (puts_from (suc number) [] bs)))) (sym (added_step xid number es done b under))
      (puts-fit (suc xid) (suc number) es (done ++ (number, b) ∷ []) [] bs (under-more number done b under) (omega arith)),
)
puts-fit xid number es done (o ∷ os) (b ∷ bs) under few =
    by (same_buckets o b) refl (puts-fit xid (suc number) es (done ++ (number, b) ∷ []) os bs (under-more number done b under) (omega (arith, few)))
    (puts-fit (suc xid) (suc number) es (done ++ (number, b) ∷ []) os bs (under-more number done b under) (omega (arith, few)))
  where
    by : (c : Bool) → same_buckets o b ≡ c
        → AllFit (record {
          entries = es;
          groups = groups_with ((done ++ (number, b) ∷ []) ++ numbered_from (suc number) os);
        }) (map Group (group_mods_from xid (puts_from (suc number) os bs)))
        → AllFit (record {
          entries = es;
          groups = groups_with ((done ++ (number, b) ∷ []) ++ numbered_from (suc number) os);
        }) (map Group (group_mods_from (suc xid) (puts_from (suc number) os bs)))
        → AllFit (record { entries = es; groups = groups_with (done ++ (number, o) ∷ numbered_from (suc number) os) })
        (map Group (group_mods_from xid (if c then puts_from (suc number) os bs else record {
          command = Modify;
          number = number;
          buckets =
              b;
        } ∷ puts_from (suc number) os bs)))
    by true is same other =
        subst (λ l. AllFit (record { entries = es; groups = groups_with l }) (map Group (group_mods_from xid (puts_from (suc number) os bs))))
        (append_assoc done ((number, b) ∷ []) (numbered_from (suc number) os)
        ∙ ap (λ c. done ++ (number, c) ∷ numbered_from (suc number) os) (sym (buckets_exact o b is))) same
    by false is same other = (
      there done number o (numbered_from (suc number) os) under,
      subst (λ t. AllFit t (map Group (group_mods_from (suc xid) (puts_from (suc number) os bs)))) (sym (changed_step xid number es done o b os under)) other,
    )
