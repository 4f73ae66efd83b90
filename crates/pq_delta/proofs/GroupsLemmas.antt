-- What the messages of a delta do to groups.
use Rattle.std.proofs.Common.{◌≡◌, ◌≢◌, ℕ, zero, suc, ◌+◌, ◌<◌, ◌≤◌, Bool, true, false, not, cond, List, [], ◌∷◌, ◌++◌, ◌==◌, ◌&&◌, ◌||◌}
use Rattle.std.proofs.Common.{if◌then◌else◌, length, map, take, drop, filter, nat_eq, nat_cmp, is_some, refl, sym, ap, subst, ◌∙◌}
use Rattle.std.proofs.Common.{append_assoc, append-nil, arith, eqb-true}
use Rattle.std.specs.declared.option.Option.{Option}
use Rattle.std.specs.declared.option.Option.TheVariants.{None, Some}
use Rattle.std.specs.List.{AllByRecursion, IsDistinct, list_all, list_any}
use Rattle.std.specs.FinMap.{contains_key, find, from_entries, get, get-from_entries, get-insert, get-remove, insert, remove, same_map, nat_cmp-IsAntisymmetric}
use Rattle.std.specs.Cmp.{nat_cmp_total, unsigned_tied}
use Rattle.std.proofs.lemmas.Bool.{and_parts}
use Rattle.std.proofs.lemmas.Bool.Decides.{nat_tests}
use Rattle.std.proofs.Math.Bool.{and-false}
use Rattle.pq_model.specs.declared.group_mod.GroupCommand.TheVariants.{Add, Modify, Delete}
use Rattle.pq_model.specs.declared.message.Message.TheVariants.{Group}
use Rattle.pq_model.specs.Mods.{GroupValue}
use Rattle.pq_model.specs.SwitchMachine.{Entry, Groups, Tables, applies, applies_all, groups_named, is_removed, no_groups, removed_from}
use Rattle.pq_model.specs.declared.reserved.TheConstants.{ALL_GROUPS}
use Rattle.pq_delta.specs.Added.{Buckets}
use Rattle.pq_delta.specs.Changes.{group_delete_of, group_deletes_from, group_mod_of, group_mods_from, puts_from}
use Rattle.pq_delta.specs.Equal.{same_buckets}
use Rattle.pq_delta.specs.Turning.{numbers_from}
use Rattle.pq_delta.specs.Exact.{buckets_exact}

abbrev pub Pairs : Type 0
Pairs = List (ℕ × Buckets)

-- groups numbered from here on
abbrev pub numbered_from : ℕ → List Buckets → Pairs
numbered_from n [] = []
numbered_from n (b ∷ bs) = (n, b) ∷ numbered_from (suc n) bs

abbrev pub groups_with : Pairs → Groups
groups_with es = from_entries es

-- Looking numbers up.

-- the buckets under a number
seek : ℕ → Pairs → Option Buckets
seek q [] = None
seek q (e ∷ es) = cond (q == e.0) (Some e.1) (seek q es)

seek-find : (q : ℕ) (es : Pairs) → find nat_cmp q es ≡ seek q es
unfolding seek
seek-find q [] = refl
seek-find q (e ∷ es) = λ i. cond (unsigned_tied q e.0 i) (Some e.1) (seek-find q es i)

seek-get : (es : Pairs) (q : ℕ) → get (groups_with es) q ≡ seek q es
seek-get es q = get-from_entries nat_cmp_total es q ∙ seek-find q es

same_groups : (m n : Groups) → ((q : ℕ) → get m q ≡ get n q) → m ≡ n
same_groups = same_map nat_cmp_total nat_cmp-IsAntisymmetric

-- all numbers are below this one
abbrev pub Under : ℕ → Pairs → Type 0
Under k es = AllByRecursion (λ e. e.0 < k) es

pub under-more : (k : ℕ) (es : Pairs) (b : Buckets) → Under k es → Under (suc k) (es ++ (k, b) ∷ [])
under-more k [] b under = (omega arith, tt)
under-more k (e ∷ es) b (here, rest) = (omega (arith, here), under-more k es b rest)

seek-under : (k : ℕ) (es : Pairs) → Under k es → seek k es ≡ None
unfolding seek
seek-under k [] under = refl
seek-under k (e ∷ es) (here, rest) =
    let apart : (k == e.0) ≡ false = grind (arith, nat_tests) in
    ap (λ b. cond b (Some e.1) (seek k es)) apart ∙ seek-under k es rest

seek-over : (k n : ℕ) (bs : List Buckets) → k < n → seek k (numbered_from n bs) ≡ None
unfolding seek
seek-over k n [] less = refl
seek-over k n (b ∷ bs) less =
    let apart : (k == n) ≡ false = grind (arith, nat_tests) in
    ap (λ c. cond c (Some b) (seek k (numbered_from (suc n) bs))) apart ∙ seek-over k (suc n) bs (omega (arith, less))

seek-past : (k n : ℕ) (bs : List Buckets) → n + length bs ≤ k → seek k (numbered_from n bs) ≡ None
unfolding seek
seek-past k n [] more = refl
seek-past k n (b ∷ bs) more =
    let less : n < k = omega (arith, more) in
    let apart : (k == n) ≡ false = grind (arith, nat_tests) in
    ap (λ c. cond c (Some b) (seek k (numbered_from (suc n) bs))) apart ∙ seek-past k (suc n) bs (omega (arith, more))

seek-skip : (q k : ℕ) (b : Buckets) (done es : Pairs) → (q == k) ≡ false → seek q (done ++ (k, b) ∷ es) ≡ seek q (done ++ es)
unfolding seek
seek-skip q k b [] es apart = ap (λ c. cond c (Some b) (seek q es)) apart
seek-skip q k b (e ∷ done) es apart = ap (λ o. cond (q == e.0) (Some e.1) o) (seek-skip q k b done es apart)

seek-after : (q : ℕ) (done es : Pairs) → seek q done ≡ None → seek q (done ++ es) ≡ seek q es
unfolding seek
seek-after q [] es none = refl
seek-after q (e ∷ done) es none = by (q == e.0) refl (seek-after q done es)
  where
    by : (b : Bool) → (q == e.0) ≡ b → (seek q done ≡ None → seek q (done ++ es) ≡ seek q es) → cond b (Some e.1) (seek q (done ++ es)) ≡ seek q es
    by true is rest = absurd (let some : Some e.1 ≡ None = sym (ap (λ c. cond c (Some e.1) (seek q done)) is) ∙ none in cc)
    by false is rest = rest (sym (ap (λ c. cond c (Some e.1) (seek q done)) is) ∙ none)

-- One group taken out, changed, put in.

removed_one : (done es : Pairs) (k : ℕ) (b : Buckets) → (k == ALL_GROUPS) ≡ false → seek k done ≡ None → seek k es ≡ None
    → removed_from (groups_with (done ++ (k, b) ∷ es)) k ≡ groups_with (done ++ es)
removed_one done es k b some before behind =
    ap (λ c. if c then no_groups else remove (groups_with (done ++ (k, b) ∷ es)) k) some ∙ same_groups _ _ at
  where
    at : (q : ℕ) → get (remove (groups_with (done ++ (k, b) ∷ es)) k) q ≡ get (groups_with (done ++ es)) q
    at q = get-remove nat_cmp_total (groups_with (done ++ (k, b) ∷ es)) k q
        ∙ ap (λ c. cond c None (get (groups_with (done ++ (k, b) ∷ es)) q)) (unsigned_tied q k)
        ∙ ap (cond (q == k) None) (seek-get (done ++ (k, b) ∷ es) q) ∙ by (q == k) refl ∙ sym (seek-get (done ++ es) q)
      where
        by : (c : Bool) → (q == k) ≡ c → cond c None (seek q (done ++ (k, b) ∷ es)) ≡ seek q (done ++ es)
        by true is = subst (λ j. None ≡ seek j (done ++ es)) (sym (eqb-true q k is)) (sym (seek-after k done es before ∙ behind))
        by false is = seek-skip q k b done es is

changed_one : (done es : Pairs) (k : ℕ) (o b : Buckets) → seek k done ≡ None
    → insert (groups_with (done ++ (k, o) ∷ es)) k b ≡ groups_with (done ++ (k, b) ∷ es)
unfolding seek
changed_one done es k o b before = same_groups _ _ at
  where
    at : (q : ℕ) → get (insert (groups_with (done ++ (k, o) ∷ es)) k b) q ≡ get (groups_with (done ++ (k, b) ∷ es)) q
    at q = get-insert nat_cmp_total (groups_with (done ++ (k, o) ∷ es)) k b q
        ∙ ap (λ c. cond c (Some b) (get (groups_with (done ++ (k, o) ∷ es)) q)) (unsigned_tied q k)
        ∙ ap (cond (q == k) (Some b)) (seek-get (done ++ (k, o) ∷ es) q) ∙ by (q == k) refl ∙ sym (seek-get (done ++ (k, b) ∷ es) q)
      where
        found : Some b ≡ seek k (done ++ (k, b) ∷ es)
        found = let itself : (k == k) ≡ true = grind (arith, nat_tests) in
            sym (seek-after k done ((k, b) ∷ es) before ∙ ap (λ c. cond c (Some b) (seek k es)) itself)

        by : (c : Bool) → (q == k) ≡ c → cond c (Some b) (seek q (done ++ (k, o) ∷ es)) ≡ seek q (done ++ (k, b) ∷ es)
        by true is = subst (λ j. Some b ≡ seek j (done ++ (k, b) ∷ es)) (sym (eqb-true q k is)) found
        by false is = seek-skip q k o done es is ∙ sym (seek-skip q k b done es is)

put_one : (done : Pairs) (k : ℕ) (b : Buckets) → seek k done ≡ None → insert (groups_with done) k b ≡ groups_with (done ++ (k, b) ∷ [])
unfolding seek
put_one done k b before = same_groups _ _ at
  where
    at : (q : ℕ) → get (insert (groups_with done) k b) q ≡ get (groups_with (done ++ (k, b) ∷ [])) q
    at q = get-insert nat_cmp_total (groups_with done) k b q ∙ ap (λ c. cond c (Some b) (get (groups_with done) q)) (unsigned_tied q k)
        ∙ ap (cond (q == k) (Some b)) (seek-get done q) ∙ by (q == k) refl ∙ sym (seek-get (done ++ (k, b) ∷ []) q)
      where
        found : Some b ≡ seek k (done ++ (k, b) ∷ [])
        found = let itself : (k == k) ≡ true = grind (arith, nat_tests) in sym (seek-after k done ((k, b) ∷ []) before ∙ ap (λ c. cond c (Some b) None) itself)

        by : (c : Bool) → (q == k) ≡ c → cond c (Some b) (seek q done) ≡ seek q (done ++ (k, b) ∷ [])
        by true is = subst (λ j. Some b ≡ seek j (done ++ (k, b) ∷ [])) (sym (eqb-true q k is)) found
        by false is = sym (seek-skip q k b done [] is ∙ ap (seek q) (append-nil done))

-- Blocks of group mods.

-- entries that name no group from this number on
abbrev pub NameBelow : ℕ → List Entry → Type 0
NameBelow n es = (k : ℕ) → n ≤ k → AllByRecursion (λ e. list_any (λ m. m == k) (groups_named e.actions) ≡ false) es

not_hit : (groups : Groups) (k : ℕ) (ns : List ℕ) → (k == ALL_GROUPS) ≡ false → list_any (λ m. m == k) ns ≡ false → list_any (is_removed groups k) ns ≡ false
not_hit groups k [] some none = refl
not_hit groups k (n ∷ ns) some none = by (n == k) refl (not_hit groups k ns some)
  where
    by : (b : Bool) → (n == k) ≡ b → (list_any (λ m. m == k) ns ≡ false → list_any (is_removed groups k) ns ≡ false)
        → (is_removed groups k n || list_any (is_removed groups k) ns) ≡ false
    by true is rest = absurd (let no : true || list_any (λ m. m == k) ns ≡ false = sym (ap (λ b. b || list_any (λ m. m == k) ns) is) ∙ none in cc)
    by false is rest =
        let apart : (if k == ALL_GROUPS then true else n == k) ≡ false = ap (λ b. if b then true else n == k) some ∙ is in
        let kept : is_removed groups k n ≡ false = ap (λ b. contains_key groups n && b) apart ∙ and-false (contains_key groups n) in
        ap (λ b. b || list_any (is_removed groups k) ns) kept ∙ rest (sym (ap (λ b. b || list_any (λ m. m == k) ns) is) ∙ none)

-- no entry goes with a group that none names
pub all-not_hit : (groups : Groups) (k : ℕ) (es : List Entry) → (k == ALL_GROUPS) ≡ false
    → AllByRecursion (λ e. list_any (λ m. m == k) (groups_named e.actions) ≡ false) es
    → AllByRecursion (λ e. list_any (is_removed groups k) (groups_named e.actions) ≡ false) es
all-not_hit groups k [] some all = tt
all-not_hit groups k (e ∷ es) some (here, rest) = (not_hit groups k (groups_named e.actions) some here, all-not_hit groups k es some rest)

all-stay : (p : Entry → Bool) (es : List Entry) → AllByRecursion (λ e. p e ≡ false) es → filter (λ e. not (p e)) es ≡ es
all-stay p [] all = refl
all-stay p (e ∷ es) (here, rest) = ap (λ b. cond (not b) (e ∷ filter (λ d. not (p d)) es) (filter (λ d. not (p d)) es)) here
    ∙ ap (λ l. e ∷ l) (all-stay p es rest)

-- One message: a group goes, comes, or gets other buckets.

pub there : (done : Pairs) (k : ℕ) (b : Buckets) (es : Pairs) → Under k done → contains_key (groups_with (done ++ (k, b) ∷ es)) k ≡ true
unfolding seek
there done k b es under =
    let itself : (k == k) ≡ true = grind (arith, nat_tests) in
    ap is_some (seek-get (done ++ (k, b) ∷ es) k ∙ seek-after k done ((k, b) ∷ es) (seek-under k done under) ∙ ap (λ c. cond c (Some b) (seek k es)) itself)

pub free : (done : Pairs) (k : ℕ) → Under k done → contains_key (groups_with (done ++ [])) k ≡ false
free done k under = ap is_some (seek-get (done ++ []) k ∙ ap (seek k) (append-nil done) ∙ seek-under k done under)

pub no_all : (k : ℕ) → k < ALL_GROUPS → (k == ALL_GROUPS) ≡ false
no_all k less = grind (arith, nat_tests)

pub deleted_step : (xid number : ℕ) (es : List Entry) (done : Pairs) (b : Buckets) (gone : List Buckets) → Under number done
    → number < ALL_GROUPS → NameBelow number es →
    applies (record {
      entries = es;
      groups = groups_with (done ++ (number, b) ∷ numbered_from (suc number) gone);
    }) (Group (group_delete_of xid number)) ≡ record { entries = es; groups = groups_with (done ++ numbered_from (suc number) gone) }
deleted_step xid number es done b gone under less named = λ i. record {
  entries = all-stay (λ e. list_any (is_removed (groups_with (done ++ (number, b) ∷ numbered_from (suc number) gone)) number) (groups_named e.actions)) es
      (all-not_hit (groups_with (done ++ (number, b) ∷ numbered_from (suc number) gone)) number es (no_all number less) (named number (omega arith))) i;
  groups = removed_one done (numbered_from (suc number) gone) number b (no_all number less) (seek-under number done under)
      (seek-over number (suc number) gone (omega arith)) i;
}

pub added_step : (xid number : ℕ) (es : List Entry) (done : Pairs) (b : Buckets) → Under number done →
    applies (record { entries = es; groups = groups_with (done ++ []) })
    (Group (group_mod_of xid (record { command = Add; number = number; buckets = b })))
    ≡ record { entries = es; groups = groups_with ((done ++ (number, b) ∷ []) ++ []) }
added_step xid number es done b under =
    ap (λ c. if c then record { entries = es; groups = groups_with (done ++ []) } else record {
      entries = es;
      groups =
          insert (groups_with (done ++ [])) number b;
    }) (free done number under)
    ∙ (λ i. record { entries = es; groups = insert (groups_with (append-nil done i)) number b })
    ∙ (λ i. record { entries = es; groups = put_one done number b (seek-under number done under) i })
    ∙ (λ i. record { entries = es; groups = groups_with (sym (append-nil (done ++ (number, b) ∷ [])) i) })

pub changed_step : (xid number : ℕ) (es : List Entry) (done : Pairs) (o b : Buckets) (os : List Buckets) → Under number done →
    applies (record {
      entries = es;
      groups = groups_with (done ++ (number, o) ∷ numbered_from (suc number) os);
    }) (Group (group_mod_of xid (record { command = Modify; number = number; buckets = b })))
    ≡ record { entries = es; groups = groups_with ((done ++ (number, b) ∷ []) ++ numbered_from (suc number) os) }
changed_step xid number es done o b os under =
    ap (λ c. if c then record {
      entries = es;
      groups = insert (groups_with (done ++ (number, o) ∷ numbered_from (suc number) os)) number b;
    } else record { entries = es; groups = groups_with (done ++ (number, o) ∷ numbered_from (suc number) os) })
    (there done number o (numbered_from (suc number) os) under)
    ∙ (λ i. record { entries = es; groups = changed_one done (numbered_from (suc number) os) number o b (seek-under number done under) i })
    ∙ (λ i. record { entries = es; groups = groups_with (sym (append_assoc done ((number, b) ∷ []) (numbered_from (suc number) os)) i) })

pub under-weaker : (number : ℕ) (es : Pairs) → Under number es → Under (suc number) es
under-weaker number [] all = tt
under-weaker number (e ∷ es) (here, rest) = (omega (arith, here), under-weaker number es rest)

-- DELETEs of the last groups leave those before, and all entries
pub group_deletes-leave : (xid number : ℕ) (es : List Entry) (done : Pairs) (gone : List Buckets) → Under number done
    → number + length gone ≤ ALL_GROUPS → NameBelow number es →
    applies_all (record { entries = es; groups = groups_with (done ++ numbered_from number gone) })
    (map Group (group_deletes_from xid number (length gone))) ≡ record { entries = es; groups = groups_with done }
group_deletes-leave xid number es done [] under few named = λ i. record { entries = es; groups = groups_with (append-nil done i) }
group_deletes-leave xid number es done (b ∷ gone) under few named =
    ap (λ t. applies_all t (map Group (group_deletes_from (suc xid) (suc number) (length gone))))
    (deleted_step xid number es done b gone under (omega (arith, few)) named)
    ∙ group_deletes-leave (suc xid) (suc number) es done gone (under-weaker number done under) (omega (arith, few)) (λ k more. named k (omega (arith, more)))

-- ADDs and MODIFYs give each group its new buckets
pub puts-leave : (xid number : ℕ) (es : List Entry) (done : Pairs) (olds news : List Buckets) → Under number done → length olds ≤ length news →
    applies_all (record { entries = es; groups = groups_with (done ++ numbered_from number olds) })
    (map Group (group_mods_from xid (puts_from number olds news)))
    ≡ record { entries = es; groups = groups_with (done ++ numbered_from number news) }
puts-leave xid number es done [] [] under few = refl
puts-leave xid number es done (o ∷ os) [] under few = absurd (omega (arith, few))
puts-leave xid number es done [] (b ∷ bs) under few =
    ap (λ t. applies_all t (map Group (group_mods_from (suc xid) (puts_from (suc number) [] bs)))) (added_step xid number es done b under)
    ∙ puts-leave (suc xid) (suc number) es (done ++ (number, b) ∷ []) [] bs (under-more number done b under) (omega arith)
    ∙ (λ i. record { entries = es; groups = groups_with (append_assoc done ((number, b) ∷ []) (numbered_from (suc number) bs) i) })
puts-leave xid number es done (o ∷ os) (b ∷ bs) under few =
    by (same_buckets o b) refl (puts-leave xid (suc number) es (done ++ (number, b) ∷ []) os bs (under-more number done b under) (omega (arith, few)))
    (puts-leave (suc xid) (suc number) es (done ++ (number, b) ∷ []) os bs (under-more number done b under) (omega (arith, few)))
  where
    after : (l : List Buckets) → ◌≡◌ {A = Tables} (record { entries = es; groups = groups_with (done ++ (number, b) ∷ numbered_from (suc number) l) }) (record {
      entries = es;
      groups = groups_with ((done ++ (number, b) ∷ []) ++ numbered_from (suc number) l);
    })
    after l = λ i. record { entries = es; groups = groups_with (sym (append_assoc done ((number, b) ∷ []) (numbered_from (suc number) l)) i) }

    by : (c : Bool) → same_buckets o b ≡ c
        → applies_all (record {
          entries = es;
          groups = groups_with ((done ++ (number, b) ∷ []) ++ numbered_from (suc number) os);
        }) (map Group (group_mods_from xid (puts_from (suc number) os bs))) ≡ record {
          entries = es;
          groups = groups_with ((done ++ (number, b) ∷ []) ++ numbered_from (suc number) bs);
        }
        → applies_all (record {
          entries = es;
          groups = groups_with ((done ++ (number, b) ∷ []) ++ numbered_from (suc number) os);
        }) (map Group (group_mods_from (suc xid) (puts_from (suc number) os bs))) ≡ record {
          entries = es;
          groups = groups_with ((done ++ (number, b) ∷ []) ++ numbered_from (suc number) bs);
        }
        → applies_all (record { entries = es; groups = groups_with (done ++ (number, o) ∷ numbered_from (suc number) os) })
        (map Group (group_mods_from xid (if c then puts_from (suc number) os bs else record {
          command = Modify;
          number = number;
          buckets =
              b;
        } ∷ puts_from (suc number) os bs)))
        ≡ record { entries = es; groups = groups_with (done ++ (number, b) ∷ numbered_from (suc number) bs) }
    by true is same other =
        ap (λ c. applies_all (record {
          entries = es;
          groups = groups_with (done ++ (number, c) ∷ numbered_from (suc number) os);
        }) (map Group (group_mods_from xid (puts_from (suc number) os bs)))) (buckets_exact o b is)
        ∙ ap (λ t. applies_all t (map Group (group_mods_from xid (puts_from (suc number) os bs)))) (after os) ∙ same ∙ sym (after bs)
    by false is same other =
        ap (λ t. applies_all t (map Group (group_mods_from (suc xid) (puts_from (suc number) os bs))))
        (changed_step xid number es done o b os under) ∙ other ∙ sym (after bs)

-- the puts look at as many old groups as there are new ones
pub puts-front : (number : ℕ) (olds news : List Buckets) → puts_from number olds news ≡ puts_from number (take (length news) olds) news
puts-front number olds [] = refl
puts-front number [] (b ∷ bs) = refl
puts-front number (o ∷ os) (b ∷ bs) = λ i. if same_buckets o b then puts-front (suc number) os bs i else record {
  command = Modify;
  number =
      number;
  buckets = b;
} ∷ puts-front (suc number) os bs i

pub group_deletes-all : (xid number n : ℕ) → AllByRecursion (λ g. g.command ≡ Delete) (group_deletes_from xid number n)
group_deletes-all xid number zero = tt
group_deletes-all xid number (suc n) = (refl, group_deletes-all (suc xid) (suc number) n)

pub mods-none : (xid number : ℕ) (olds news : List Buckets) → AllByRecursion (λ g. g.command ≢ Delete) (group_mods_from xid (puts_from number olds news))
mods-none xid number olds [] = tt
mods-none xid number [] (b ∷ bs) = ((λ is. cc), mods-none (suc xid) (suc number) [] bs)
mods-none xid number (o ∷ os) (b ∷ bs) = by (same_buckets o b) (mods-none xid (suc number) os bs) (mods-none (suc xid) (suc number) os bs)
  where
    by : (c : Bool) → AllByRecursion (λ g. g.command ≢ Delete) (group_mods_from xid (puts_from (suc number) os bs))
        → AllByRecursion (λ g. g.command ≢ Delete) (group_mods_from (suc xid) (puts_from (suc number) os bs))
        → AllByRecursion (λ g. g.command ≢ Delete)
        (group_mods_from xid (if c then puts_from (suc number) os bs else record {
          command = Modify;
          number = number;
          buckets =
              b;
        } ∷ puts_from (suc number) os bs))
    by true same other = same
    by false same other = ((λ is. cc), other)

-- the numbers are from here on, each once
mods-from : (xid number low : ℕ) (olds news : List Buckets) → low < number
    → AllByRecursion (λ n. (low == n) ≡ false) (map (λ g. g.group) (group_mods_from xid (puts_from number olds news)))
mods-from xid number low olds [] less = tt
mods-from xid number low [] (b ∷ bs) less = (grind (arith, nat_tests), mods-from (suc xid) (suc number) low [] bs (omega (arith, less)))
mods-from xid number low (o ∷ os) (b ∷ bs) less = by (same_buckets o b) (mods-from xid (suc number) low os bs (omega (arith, less)))
    (mods-from (suc xid) (suc number) low os bs (omega (arith, less)))
  where
    by : (c : Bool) → AllByRecursion (λ n. (low == n) ≡ false) (map (λ g. g.group) (group_mods_from xid (puts_from (suc number) os bs)))
        → AllByRecursion (λ n. (low == n) ≡ false) (map (λ g. g.group) (group_mods_from (suc xid) (puts_from (suc number) os bs)))
        → AllByRecursion (λ n. (low == n) ≡ false)
        (map (λ g. g.group) (group_mods_from xid
        (if c then puts_from (suc number) os bs else record { command = Modify; number = number; buckets = b } ∷ puts_from
        (suc number) os bs)))
    by true same other = same
    by false same other = (grind (arith, nat_tests), other)

pub mods-distinct : (xid number : ℕ) (olds news : List Buckets) → IsDistinct nat_eq (map (λ g. g.group) (group_mods_from xid (puts_from number olds news)))
unfolding IsDistinct
mods-distinct xid number olds [] = tt
mods-distinct xid number [] (b ∷ bs) = (mods-from (suc xid) (suc number) number [] bs (omega arith), mods-distinct (suc xid) (suc number) [] bs)
mods-distinct xid number (o ∷ os) (b ∷ bs) = by (same_buckets o b) (mods-distinct xid (suc number) os bs) (mods-distinct (suc xid) (suc number) os bs)
  where
    by : (c : Bool) → IsDistinct nat_eq (map (λ g. g.group) (group_mods_from xid (puts_from (suc number) os bs)))
        → IsDistinct nat_eq (map (λ g. g.group) (group_mods_from (suc xid) (puts_from (suc number) os bs)))
        → IsDistinct nat_eq (map (λ g. g.group)
        (group_mods_from xid (if c then puts_from (suc number) os bs else record {
          command = Modify;
          number = number;
          buckets =
              b;
        } ∷ puts_from (suc number) os bs)))
    by true same other = same
    by false same other = (mods-from (suc xid) (suc number) number os bs (omega arith), other)

-- groups with the numbers from 1 on
pub renewal-numbered : (n : ℕ) (gs : List GroupValue) → map (λ g. g.group) gs ≡ numbers_from n (length gs)
    → map (λ g. (g.group, g.buckets)) gs ≡ numbered_from n (map (λ g. g.buckets) gs)
renewal-numbered n [] is = refl
renewal-numbered n (g ∷ gs) is =
    let here : g.group ≡ n = cc in
    let rest : map (λ h. h.group) gs ≡ numbers_from (suc n) (length gs) = cc in
    λ i. (here i, g.buckets) ∷ renewal-numbered (suc n) gs rest i

-- numbers past the last are not groups
pub past-last : (n : ℕ) (bs : List Buckets) (k : ℕ) → n + length bs ≤ k → contains_key (groups_with (numbered_from n bs)) k ≡ false
past-last n bs k more = ap is_some (seek-get (numbered_from n bs) k ∙ seek-past k n bs more)

-- groups up to a place and those after it
pub divided : (n k : ℕ) (bs : List Buckets) → numbered_from k bs ≡ numbered_from k (take n bs) ++ numbered_from (k + n) (drop n bs)
divided zero k bs = ap (λ j. numbered_from j bs) (omega arith)
divided (suc n) k [] = refl
divided (suc n) k (b ∷ bs) =
    let more : suc k + n ≡ k + suc n = omega arith in
    ap (λ l. (k, b) ∷ l) (divided n (suc k) bs ∙ ap (λ j. numbered_from (suc k) (take n bs) ++ numbered_from j (drop n bs)) more)

pub under-take : (n k : ℕ) (bs : List Buckets) → Under (k + n) (numbered_from k (take n bs))
under-take zero k bs = tt
under-take (suc n) k [] = tt
under-take (suc n) k (b ∷ bs) =
    let more : suc k + n ≡ k + suc n = omega arith in
    (omega arith, subst (λ j. Under j (numbered_from (suc k) (take n bs))) more (under-take n (suc k) bs))

-- what names only these groups names none after them
names-below : (bs : List Buckets) (k : ℕ) (ns : List ℕ) → suc (length bs) ≤ k
    → list_all (contains_key (groups_with (numbered_from 1 bs))) ns ≡ true → list_any (λ m. m == k) ns ≡ false
names-below bs k [] more all = refl
names-below bs k (n ∷ ns) more all = by (n == k) refl (names-below bs k ns more)
  where
    by : (b : Bool) → (n == k) ≡ b
        → (list_all (contains_key (groups_with (numbered_from 1 bs))) ns ≡ true → list_any (λ m. m == k) ns ≡ false)
        → (b || list_any (λ m. m == k) ns) ≡ false
    by true is rest =
        absurd (let named : contains_key (groups_with (numbered_from 1 bs)) n ≡ true = (and_parts _ _ all).0 in
        let none : contains_key (groups_with (numbered_from 1 bs)) n ≡ false = past-last 1 bs n (let same : n ≡ k = eqb-true n k is in
        omega (arith, more, same)) in cc)
    by false is rest = rest (and_parts _ _ all).1

pub all-names-below : (bs : List Buckets) (es : List Entry)
    → AllByRecursion (λ e. list_all (contains_key (groups_with (numbered_from 1 bs))) (groups_named e.actions) ≡ true) es
    → NameBelow (suc (length bs)) es
all-names-below bs [] all k more = tt
all-names-below bs (e ∷ es) (here, rest) k more = (names-below bs k (groups_named e.actions) more here, all-names-below bs es rest k more)
