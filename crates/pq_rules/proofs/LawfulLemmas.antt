-- The messages of a switch are lawful.
use Rattle.std.proofs.Common.{◌≡◌, ◌≢◌, inl, inr, ℕ, suc, ◌+◌, ◌^◌, ◌<◌, ◌≤◌, Bool, true, false, not, if◌then◌else◌, List, [], ◌∷◌, ◌++◌}
use Rattle.std.proofs.Common.{Some, None, length, map, refl, sym, ap, subst, ◌∙◌, arith}
use Rattle.std.specs.Prelude.{All, nat_lt}
use Rattle.std.specs.List.{AllByRecursion}
use Rattle.std.specs.declared.option.Option.{Option}
use Rattle.std.proofs.lemmas.Bool.Decides.{leb_tells}
use Rattle.std.proofs.lemmas.List.{length-append, length-map, map-append}
use Rattle.std.proofs.lemmas.List.Elements.{All-from_recursion, recursion_from_All}
use Rattle.pq_lists.proofs.Holding.{all_append, all_weaker}
use Rattle.pq_model.specs.declared.message.Message.TheVariants.{Flow, Group as Grouping, Barrier}
use Rattle.pq_model.specs.Lawful.{IsLawfulAction, IsLawfulBucket, IsLawfulGoto, IsLawfulMessage}
use Rattle.pq_model.specs.MatchFields.{MatchFields, IsLawfulMatch}
use Rattle.pq_model.proofs.Lengths.{barrier_lawful}
use Rattle.pq_rewrite.specs.declared.outgoing.Outgoing.{Outgoing}
use Rattle.pq_rewrite.specs.declared.trees.Arrive.{Arrive}
use Rattle.pq_store.specs.Tree.{Tree}
use Rattle.pq_store.specs.Tree.Tree.{Tip, Fork}
use Rattle.pq_layout.specs.Actions.{buckets_of, copy_actions}
use Rattle.pq_layout.specs.Entries.{entries_of, failing, is_blank, matches_below, passing, table_of, vlan_match}
use Rattle.pq_layout.specs.Messages.{ArrivingTrees, Buckets, LeavingTrees, Rule, adds_from, delete_entries, delete_groups}
use Rattle.pq_layout.specs.Messages.{first_rule, first_rules, group_number, groups_from, groups_of, is_nothing, is_untagged}
use Rattle.pq_layout.specs.Messages.{is_without, leaving_entries, messages_of, same_buckets, second_rule, second_rules}
use Rattle.pq_layout.specs.Sound.{AreSoundArriving, AreSoundLeaving, IsSoundArrival, IsSoundArriving, IsSoundCopy, IsSoundLeaving}
use Rattle.pq_rules.specs.Found.{IsKeyWord}
use Rattle.pq_rules.specs.Grouping.{group_copies, in_bucket, with_groups}
use Rattle.pq_rules.specs.Paths.{StaysLawful}
use Rattle.pq_rules.specs.Refusals.{FitRules, many_copies}
use Rattle.pq_rules.proofs.ActionLemmas.{arrival_lawful, buckets_few, buckets_lawful, copy_ordered}
use Rattle.pq_rules.proofs.BytesLemmas.{entries_away_short, flow_short, group_short, groups_away_short}
use Rattle.pq_rules.proofs.GroupsLemmas.{IsShown, SoundEntries, groups_all, groups_few, groups_made, groups_shown}
use Rattle.pq_rules.proofs.PathsLemmas.{stays_lawful, word_lawful}
use Rattle.pq_rules.proofs.RenewingLemmas.{length_adds, length_groups}
use Rattle.pq_rules.proofs.SwitchLemmas.{arriving_leaves, leaving_leaves}

-- Matches.

module _ {L : Type 0} where
  below_lawful : (t : Tree L) (m : MatchFields) → IsLawfulMatch m → StaysLawful m t → AllByRecursion (λ e. IsLawfulMatch e.0) (matches_below m t)
  below_lawful (Tip l) m lawful stays = (lawful, tt)
  below_lawful (Fork s y n) m lawful stays =
      all_append (λ e. IsLawfulMatch e.0) (matches_below (passing s m) y) (matches_below (failing s m) n)
      (below_lawful y (passing s m) stays.1 stays.3) (below_lawful n (failing s m) stays.2 stays.4)

  table_lawful : (blank : L → Bool) (trees : List (ℕ × Tree L))
      → AllByRecursion (λ p. IsKeyWord p.0 × StaysLawful (vlan_match p.0) p.1) trees → AllByRecursion (λ e. IsLawfulMatch e.0)
      (table_of blank trees)
  table_lawful blank [] all = tt
  table_lawful blank (p ∷ ps) all = all_append (λ e. IsLawfulMatch e.0) (entries_of blank p) (table_of blank ps) (by (is_blank blank p.1))
      (table_lawful blank ps all.1)
    where
      by : (b : Bool) → AllByRecursion (λ e. IsLawfulMatch e.0) (if b then [] else matches_below (vlan_match p.0) p.1)
      by true = tt
      by false = below_lawful p.1 (vlan_match p.0) (word_lawful p.0 all.0.0) all.0.1

arriving_lawful : (firsts : ArrivingTrees) → AreSoundArriving firsts → AllByRecursion (λ e. IsLawfulMatch e.0) (table_of is_nothing firsts)
arriving_lawful firsts sound =
    table_lawful is_nothing firsts
    (all_weaker (λ p. IsSoundArriving p.0 p.1) (λ p. IsKeyWord p.0 × StaysLawful (vlan_match p.0) p.1)
    (λ p h. (h.vlan, stays_lawful p.0 p.1 h.vlan h.matchable)) firsts
    (recursion_from_All (λ p. IsSoundArriving p.0 p.1) firsts sound.each))

leaving_lawful : (seconds : LeavingTrees) → AreSoundLeaving seconds → AllByRecursion (λ e. IsLawfulMatch e.0) (leaving_entries seconds)
leaving_lawful seconds sound =
    table_lawful is_without seconds
    (all_weaker (λ p. IsSoundLeaving p.0 p.1) (λ p. IsKeyWord p.0 × StaysLawful (vlan_match p.0) p.1)
    (λ p h. (inr h.vlan, stays_lawful p.0 p.1 (inr h.vlan) h.matchable)) seconds
    (recursion_from_All (λ p. IsSoundLeaving p.0 p.1) seconds sound.each))

-- Rules.

-- a rule for a table whose Add is lawful
record IsLawfulRule (table : ℕ) (r : Rule) : Type 0 where
  matching : IsLawfulMatch r.matching
  actions : AllByRecursion IsLawfulAction r.actions
  few : length r.actions ≤ 10
  goto : IsLawfulGoto table r.goto

first_lawful : (e : MatchFields × Option Arrive) → IsLawfulMatch e.0 → IsSoundArrival e.1 → IsLawfulRule 0 (first_rule e)
first_lawful e lawful sound = by e.1 sound
  where
    by : (o : Option Arrive) → IsSoundArrival o → IsLawfulRule 0 (first_rule (e.0, o))
    by None sound = record { matching = lawful; actions = tt; few = omega arith; goto = tt }
    by (Some a) sound =
        let both = arrival_lawful (not (is_untagged e.0.vlan)) a sound in
        record { matching = lawful; actions = both.0; few = both.1; goto = (omega arith, omega arith) }

number_few : (gs : List Buckets) (b : Buckets) → group_number gs b ≤ length gs + 1
number_few [] b = omega arith
number_few (c ∷ gs) b = by (same_buckets c b) (number_few gs b)
  where
    by : (s : Bool) → group_number gs b ≤ length gs + 1 → (if s then 1 else suc (group_number gs b)) ≤ suc (length gs) + 1
    by true rest = omega arith
    by false rest = omega (arith, rest)

second_lawful : (gs : List Buckets) (e : MatchFields × List Outgoing) → length gs ≤ 16384 → IsLawfulMatch e.0
    → AllByRecursion IsSoundCopy e.1 → IsLawfulRule 1 (second_rule gs e)
second_lawful gs e few lawful sound = by e.1 sound
  where
    by : (cs : List Outgoing) → AllByRecursion IsSoundCopy cs → IsLawfulRule 1 (second_rule gs (e.0, cs))
    by [] sound = record { matching = lawful; actions = tt; few = omega arith; goto = tt }
    by (c ∷ []) sound = let it = copy_ordered c sound.0 in record { matching = lawful; actions = it.lawful; few = it.few; goto = tt }
    by (c ∷ d ∷ cs) sound =
        let number = number_few gs (buckets_of (c ∷ d ∷ cs)) in
        record { matching = lawful; actions = (omega (arith, number, few), tt); few = omega arith; goto = tt }

rules_lawful : {A : Type 0} (table : ℕ) (f : A → Rule) (P : A → Type 0) → ((a : A) → P a → IsLawfulRule table (f a)) → (xs : List A)
    → AllByRecursion P xs → AllByRecursion
    (IsLawfulRule table) (map f xs)
rules_lawful table f P lawful [] all = tt
rules_lawful table f P lawful (x ∷ xs) all = (lawful x all.0, rules_lawful table f P lawful xs all.1)

both_hold : {A : Type 0} (P Q : A → Type 0) (xs : List A) → AllByRecursion P xs → AllByRecursion Q xs → AllByRecursion (λ a. P a × Q a) xs
both_hold P Q [] first second = tt
both_hold P Q (x ∷ xs) first second = ((first.0, second.0), both_hold P Q xs first.1 second.1)

-- Messages.

adds_lawful : (rs : List Rule) (xid table index : ℕ) → table ≤ 254 → xid + length rs < 2 ^ 32 → AllByRecursion (IsLawfulRule table) rs
    → AllByRecursion IsLawfulMessage
    (map Flow (adds_from xid table index rs))
adds_lawful [] xid table index within few all = tt
adds_lawful (r ∷ rs) xid table index within few all =
    let here = all.0 in (
      record {
        content = record {
          xid = omega (arith, few);
          cookie = omega arith;
          priority = omega arith;
          matching = here.matching;
          command = (within, All-from_recursion IsLawfulAction r.actions here.actions, here.goto);
        };
        short = flow_short _ (let small = here.few in omega (arith, small));
      },
      adds_lawful rs (suc xid) table (suc index) within (omega (arith, few)) all.1,
    )

-- buckets of an ADD that is lawful
record AreLawfulBuckets (b : Buckets) : Type 0 where
  some : b ≢ []
  each : AllByRecursion IsLawfulBucket b
  few : AllByRecursion (λ as_. length as_ ≤ 10) b
  small : length b ≤ 256

groups_lawful : (bs : List Buckets) (xid number : ℕ) → 1 ≤ number → number + length bs ≤ 0xffffff00 → xid + length bs < 2 ^ 32
    → AllByRecursion AreLawfulBuckets bs
    → AllByRecursion IsLawfulMessage (map Grouping (groups_from xid number bs))
groups_lawful [] xid number some less few all = tt
groups_lawful (b ∷ bs) xid number some less few all =
    let here = all.0 in (
      record {
        content = record {
          xid = omega (arith, few);
          command = ((some, omega (arith, less)), (here.some, All-from_recursion IsLawfulBucket b here.each));
        };
        short = group_short _ here.few here.small;
      },
      groups_lawful bs (suc xid) (suc number) (omega arith) (omega (arith, less)) (omega (arith, few)) all.1,
    )

away_lawful : IsLawfulMessage (Flow delete_entries)
away_lawful = record {
  content = record {
    xid = omega arith;
    cookie = omega arith;
    priority = omega arith;
    matching = record {
      in_port = tt;
      vlan = tt;
      eth_type = tt;
      ip_proto = tt;
      eth_src = tt;
      eth_dst = tt;
      ipv4_src = tt;
      ipv4_dst = tt;
      tcp_src = tt;
      tcp_dst = tt;
      udp_src = tt;
      udp_dst = tt;
      ipv6_src = tt;
      ipv6_dst = tt;
    };
    command = (refl, refl, refl, refl, (refl, refl));
  };
  short = entries_away_short;
}

groups_away_lawful : IsLawfulMessage (Grouping delete_groups)
groups_away_lawful = record { content = record { xid = omega arith; command = (inr refl, refl) }; short = groups_away_short }

-- Groups of entries.

few_each : (es : List (MatchFields × List Outgoing)) → many_copies es ≡ None → AllByRecursion (λ e. length e.1 ≤ 256) es
few_each [] few = tt
few_each (e ∷ es) few = by (nat_lt 256 (length e.1)) refl few (few_each es)
  where
    by : (b : Bool) → nat_lt 256 (length e.1) ≡ b → (if b then Some (length e.1) else many_copies es) ≡ None
        → (many_copies es ≡ None → AllByRecursion (λ d. length d.1 ≤ 256) es)
        → AllByRecursion (λ d. length d.1 ≤ 256) (e ∷ es)
    by true is none rest = absurd cc
    by false is none rest = (
      elim (leb_tells 257 (length e.1)) [
        | inl less ↦ absurd (let t = less.0 in cc)
        | inr over ↦ omega (arith, over.1)
      ],
      rest none,
    )

-- the copies of a group that an entry needs
record IsGroup (g : List Outgoing) : Type 0 where
  some : 1 ≤ length g
  few : length g ≤ 256

group_such : (cs g : List Outgoing) → length cs ≤ 256 → group_copies cs ≡ Some g → IsGroup g
group_such [] g few is = absurd cc
group_such (c ∷ []) g few is = absurd cc
group_such (c ∷ d ∷ cs) g few is =
    let one : map in_bucket (c ∷ d ∷ cs) ≡ g = cc in
    subst IsGroup one (record { some = omega arith; few = let same = length-map (c ∷ d ∷ cs) in_bucket in omega (arith, same, few) })

group_buckets : (g : List Outgoing) → IsShown g → IsGroup g → AreLawfulBuckets (buckets_of g)
group_buckets [] shown group = absurd (let some = group.some in omega (arith, some))
group_buckets (c ∷ cs) shown group = record {
  some = λ none. absurd cc;
  each = buckets_lawful (c ∷ cs) shown.sound;
  few = buckets_few (c ∷ cs) shown.sound;
  small = let same = length-map (c ∷ cs) (copy_actions true) in let few = group.few in omega (arith, same, few);
}

made_all : {A B : Type 0} (f : A → B) (P : A → Type 0) (Q : B → Type 0) → ((a : A) → P a → Q (f a)) → (xs : List A) → AllByRecursion P xs
    → AllByRecursion Q (map f xs)
made_all f P Q such [] all = tt
made_all f P Q such (x ∷ xs) all = (such x all.0, made_all f P Q such xs all.1)

sound_entries : (seconds : LeavingTrees) → AreSoundLeaving seconds → SoundEntries (leaving_entries seconds)
sound_entries seconds sound = all_weaker (λ e. All IsSoundCopy e.1) (λ e. AllByRecursion IsSoundCopy e.1)
    (λ e h. recursion_from_All IsSoundCopy e.1 h) (leaving_entries seconds)
    (leaving_leaves seconds sound)

groups_of_lawful : (es : List (MatchFields × List Outgoing)) → SoundEntries es → many_copies es ≡ None → AllByRecursion AreLawfulBuckets (groups_of es)
groups_of_lawful es sound few =
    let groups = groups_all IsGroup es (all_weaker (λ e. length e.1 ≤ 256) (λ e. (g : List Outgoing) → group_copies e.1 ≡ Some g
    → IsGroup g) (λ e small g is. group_such e.1 g small is) es
    (few_each es few)) in
    subst (AllByRecursion AreLawfulBuckets) (sym (groups_made es sound))
    (made_all buckets_of (λ g. IsShown g × IsGroup g) AreLawfulBuckets (λ g h. group_buckets g h.0 h.1) (with_groups [] es)
    (both_hold IsShown IsGroup (with_groups [] es) (groups_shown es sound) groups))

groups_of_few : (es : List (MatchFields × List Outgoing)) → SoundEntries es → length (groups_of es) ≤ length es
groups_of_few es sound =
    let same = ap length (groups_made es sound) ∙ length-map (with_groups [] es) buckets_of in omega (arith, same, groups_few es [])

-- The whole.

module _ (limit : ℕ) (firsts : ArrivingTrees) (seconds : LeavingTrees) (arriving : AreSoundArriving firsts)
    (leaving : AreSoundLeaving seconds) (few : limit ≤ 16384)
    (fit : FitRules limit firsts seconds) where
  group_count : length (groups_of (leaving_entries seconds)) ≤ 16384
  group_count = let small = fit.tables.leaving in omega (arith, groups_of_few (leaving_entries seconds) (sound_entries seconds leaving), small, few)

  first_count : length (first_rules firsts) ≤ 16384
  first_count = let small = fit.tables.arriving in let same = length-map (table_of is_nothing firsts) first_rule in omega (arith, same, small, few)

  second_count : length (second_rules seconds) ≤ 16384
  second_count = let small = fit.tables.leaving in
      let same = length-map (leaving_entries seconds) (second_rule (groups_of (leaving_entries seconds))) in omega (arith, same, small, few)

  firsts_lawful : AllByRecursion (IsLawfulRule 0) (first_rules firsts)
  firsts_lawful =
      rules_lawful 0 first_rule (λ e. IsLawfulMatch e.0 × IsSoundArrival e.1) (λ e h. first_lawful e h.0 h.1) (table_of is_nothing firsts)
      (both_hold (λ e. IsLawfulMatch e.0) (λ e. IsSoundArrival e.1) (table_of is_nothing firsts) (arriving_lawful firsts arriving)
      (arriving_leaves firsts arriving))

  seconds_lawful : AllByRecursion (IsLawfulRule 1) (second_rules seconds)
  seconds_lawful =
      rules_lawful 1 (second_rule (groups_of (leaving_entries seconds))) (λ e. IsLawfulMatch e.0 × AllByRecursion IsSoundCopy e.1)
      (λ e h. second_lawful (groups_of (leaving_entries seconds)) e group_count h.0 h.1)
      (leaving_entries seconds)
      (both_hold (λ e. IsLawfulMatch e.0) (λ e. AllByRecursion IsSoundCopy e.1) (leaving_entries seconds) (leaving_lawful seconds leaving)
      (sound_entries seconds leaving))

  each_lawful : AllByRecursion IsLawfulMessage (messages_of firsts seconds)
  each_lawful =
      let n = length (groups_of (leaving_entries seconds)) in
      let a = length (first_rules firsts) in
      let b = length (second_rules seconds) in
      let groups = groups_lawful (groups_of (leaving_entries seconds)) 4 1 (omega arith) (omega (arith, group_count)) (omega (arith, group_count))
      (groups_of_lawful (leaving_entries seconds) (sound_entries seconds leaving) fit.groups) in
      let first = adds_lawful (first_rules firsts) (suc (4 + n)) 0 0 (omega arith) (omega (arith, group_count, first_count)) firsts_lawful in
      let second = adds_lawful (second_rules seconds) (suc (4 + n) + a) 1 0 (omega arith)
      (omega (arith, group_count, first_count, second_count)) seconds_lawful in
      let adds : AllByRecursion IsLawfulMessage
      (map Flow (adds_from (suc (4 + n)) 0 0 (first_rules firsts) ++ adds_from (suc (4 + n) + a) 1 0 (second_rules seconds))) =
      subst (AllByRecursion IsLawfulMessage)
      (sym (map-append Flow (adds_from (suc (4 + n)) 0 0 (first_rules firsts))
      (adds_from (suc (4 + n) + a) 1 0 (second_rules seconds))))
      (all_append IsLawfulMessage (map Flow (adds_from (suc (4 + n)) 0 0 (first_rules firsts)))
      (map Flow (adds_from (suc (4 + n) + a) 1 0 (second_rules seconds))) first second) in (
        away_lawful,
        (
          groups_away_lawful,
          (
            barrier_lawful 3 (omega arith),
            all_append IsLawfulMessage (map Grouping (groups_from 4 1 (groups_of (leaving_entries seconds)))) _ groups (
              barrier_lawful (4 + n) (omega (arith, group_count)),
              all_append IsLawfulMessage
                  (map Flow (adds_from (suc (4 + n)) 0 0 (first_rules firsts) ++ adds_from (suc (4 + n) + a) 1 0 (second_rules seconds))) _
                  adds
                  (barrier_lawful (suc (4 + n) + a + b) (omega (arith, group_count, first_count, second_count)), tt),
            ),
          ),
        ),
      )

  pub messages_lawful : All IsLawfulMessage (messages_of firsts seconds)
  messages_lawful = All-from_recursion IsLawfulMessage (messages_of firsts seconds) each_lawful

  pub messages_few : length (messages_of firsts seconds) < 2 ^ 32
  messages_few =
      let gs = groups_from 4 1 (groups_of (leaving_entries seconds)) in
      let n = length (groups_of (leaving_entries seconds)) in
      let adds = adds_from (suc (4 + n)) 0 0 (first_rules firsts) in
      let others = adds_from (suc (4 + n) + length (first_rules firsts)) 1 0 (second_rules seconds) in
      let many = length-append (map Grouping gs)
      (Barrier (4 + n) ∷ (map Flow (adds ++ others)
      ++ Barrier (suc (4 + n) + length (first_rules firsts) + length (second_rules seconds)) ∷ [])) in
      let more = length-append (map Flow (adds ++ others)) (Barrier (suc (4 + n) + length (first_rules firsts) + length (second_rules seconds)) ∷ []) in
      let grouped = length-map gs Grouping ∙ length_groups (groups_of (leaving_entries seconds)) 4 1 in
      let added = length-map (adds ++ others) Flow ∙ length-append adds others in
      let first = length_adds (first_rules firsts) (suc (4 + n)) 0 0 in
      let second = length_adds (second_rules seconds) (suc (4 + n) + length (first_rules firsts)) 1 0 in
      omega (arith, many, more, grouped, added, first, second, group_count, first_count, second_count)
