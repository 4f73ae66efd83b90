-- The messages of a delta are lawful.
use Rattle.std.proofs.Common.{◌≡◌, ◌≢◌, ℕ, zero, suc, ◌+◌, ◌^◌, ◌<◌, ◌≤◌, ◌==◌, Bool, true, false, if◌then◌else◌, List, [], ◌∷◌, ◌++◌, All}
use Rattle.std.proofs.Common.{length, map, refl, sym, ap, subst, ◌∙◌, arith, inl}
use Rattle.std.specs.List.{AllByRecursion, cons_option}
use Rattle.std.proofs.lemmas.List.{length-append}
use Rattle.std.proofs.lemmas.List.Elements.{All-from_recursion, recursion_from_All}
use Rattle.pq_lists.proofs.Holding.{all_append, all_filter}
use Rattle.pq_model.specs.declared.group_mod.GroupCommand.{GroupCommand}
use Rattle.pq_model.specs.declared.group_mod.GroupCommand.TheVariants.{Add as AddGroup, Modify, Delete}
use Rattle.pq_model.specs.declared.message.Message.{Message}
use Rattle.pq_model.specs.declared.message.Message.TheVariants.{Flow, Group, Barrier}
use Rattle.pq_model.specs.Install.{Install, IsLawfulInstall, IsLawfulList}
use Rattle.pq_model.specs.Lawful.{IsLawfulGrouping, IsLawfulMessage}
use Rattle.pq_model.specs.Mods.{GroupValue}
use Rattle.pq_model.specs.Spelling.{apply_bytes, flow_body, goto_bytes, group_body, match_bytes, message_bytes, with_header}
use Rattle.pq_model.specs.SwitchMachine.{Entry}
use Rattle.pq_model.specs.Topology.{Switch}
use Rattle.pq_model.proofs.Lengths.{barrier_lawful}
use Rattle.pq_delta.specs.Added.{Buckets, entries_added, group_by, groups_added}
use Rattle.pq_delta.specs.Changes.{Changes, Put, adds_from, amount, change_messages, changes, delete_of, deletes_from, group_delete_of}
use Rattle.pq_delta.specs.Changes.{group_deletes_from, group_mod_of, group_mods_from, puts_from}
use Rattle.pq_delta.specs.Delta.{AreShort, delta, deltas, switch_delta, with_switch}
use Rattle.pq_delta.specs.Equal.{same_buckets}
use Rattle.pq_delta.specs.Turning.{HasFewGroups}
use Rattle.pq_delta.proofs.AssemblyLemmas.{Appended, assembled, assembled_long}
use Rattle.pq_delta.proofs.LawfulLemmas.{IsLawfulEntry, lawful_entries, renumbered}

-- Single messages of a delta.

-- the deletion of a lawful entry
lawful_delete : (x : ℕ) (e : Entry) → x < 2 ^ 32 → IsLawfulEntry e → IsLawfulMessage (Flow (delete_of x e))
unfolding message_bytes with_header flow_body apply_bytes goto_bytes
lawful_delete x e small h =
    let long = length-append (match_bytes e.matching) (apply_bytes e.actions) in
    let longer = length-append (match_bytes e.matching ++ apply_bytes e.actions) (goto_bytes e.goto) in
    let none = length-append (match_bytes e.matching) [] in
    let nothing = length-append (match_bytes e.matching ++ []) [] in
    let short = h.short in
    record {
      content = record {
        xid = small;
        cookie = omega arith;
        priority = h.content.priority;
        matching = h.content.matching;
        command = (refl, h.content.command.0, (refl, refl));
      };
      short = omega (arith, long, longer, none, nothing, short);
    }

-- a group whose ADD is lawful
abbrev pub IsLawfulPut : Buckets → Type 0
IsLawfulPut b = IsLawfulMessage (Group (group_mod_of 0 (record { command = AddGroup; number = 1; buckets = b })))

lawful_put : (x : ℕ) (p : Put) → x < 2 ^ 32 → p.command ≢ Delete → 1 ≤ p.number → p.number ≤ 0xffffff00 → IsLawfulPut p.buckets
    → IsLawfulMessage (Group (group_mod_of x p))
unfolding message_bytes with_header group_body
lawful_put x p small apart low high h = record { content = record { xid = small; command = by p.command apart }; short = h.short }
  where
    by : (c : GroupCommand) → c ≢ Delete → IsLawfulGrouping c (group_mod_of x p)
    by AddGroup other = ((low, high), h.content.command.1)
    by Modify other = ((low, high), h.content.command.1)
    by Delete other = absurd (other refl)

lawful_group_delete : (x number : ℕ) → x < 2 ^ 32 → 1 ≤ number → number ≤ 0xffffff00 → IsLawfulMessage (Group (group_delete_of x number))
unfolding message_bytes with_header group_body
lawful_group_delete x number small low high = record { content = record { xid = small; command = (inl (low, high), refl) }; short = omega arith }

-- Blocks of them.

lawful_deletes : (x : ℕ) (es : List Entry) → x + length es ≤ 2 ^ 32 → AllByRecursion IsLawfulEntry es
    → AllByRecursion IsLawfulMessage (map Flow (deletes_from x es))
lawful_deletes x [] few all = tt
lawful_deletes x (e ∷ es) few (here, rest) = (lawful_delete x e (omega (arith, few)) here, lawful_deletes (suc x) es (omega (arith, few)) rest)

lawful_adds : (x : ℕ) (es : List Entry) → x + length es ≤ 2 ^ 32 → AllByRecursion IsLawfulEntry es → AllByRecursion IsLawfulMessage (map Flow (adds_from x es))
lawful_adds x [] few all = tt
lawful_adds x (e ∷ es) few (here, rest) = (renumbered 0 x e (omega (arith, few)) here, lawful_adds (suc x) es (omega (arith, few)) rest)

lawful_group_deletes : (x number n : ℕ) → x + n ≤ 2 ^ 32 → 1 ≤ number → number + n ≤ 0xffffff01
    → AllByRecursion IsLawfulMessage (map Group (group_deletes_from x number n))
lawful_group_deletes x number zero few low high = tt
lawful_group_deletes x number (suc n) few low high = (
  lawful_group_delete x number (omega (arith, few)) low (omega (arith, high)),
  lawful_group_deletes (suc x) (suc number) n (omega (arith, few)) (omega arith) (omega (arith, high)),
)

lawful_puts : (x number : ℕ) (olds news : List Buckets) → x + length (puts_from number olds news) ≤ 2 ^ 32 → 1 ≤ number
    → number + length news ≤ 0xffffff01 → AllByRecursion IsLawfulPut news
    → AllByRecursion IsLawfulMessage (map Group (group_mods_from x (puts_from number olds news)))
lawful_puts x number olds [] few low high all = tt
lawful_puts x number [] (b ∷ bs) few low high (here, rest) = (
  lawful_put x (record { command = AddGroup; number = number; buckets = b }) (omega (arith, few)) (λ is. cc) low (omega (arith, high)) here,
  lawful_puts (suc x) (suc number) [] bs (omega (arith, few)) (omega arith) (omega (arith, high)) rest,
)
lawful_puts x number (o ∷ os) (b ∷ bs) few low high (here, rest) =
    by (same_buckets o b) (λ y less. lawful_puts y (suc number) os bs less (omega arith) (omega (arith, high)) rest) few
  where
    by : (c : Bool) → ((y : ℕ) → y + length (puts_from (suc number) os bs) ≤ 2 ^ 32
        → AllByRecursion IsLawfulMessage (map Group (group_mods_from y (puts_from (suc number) os bs))))
        → x + length (if c then puts_from (suc number) os bs else record { command = Modify; number = number; buckets = b } ∷ puts_from
        (suc number) os bs) ≤ 2 ^ 32
        → AllByRecursion IsLawfulMessage
        (map Group (group_mods_from x (if c then puts_from (suc number) os bs else record {
          command = Modify;
          number = number;
          buckets =
              b;
        } ∷ puts_from (suc number) os bs)))
    by true more less = more x less
    by false more less = (
      lawful_put x (record { command = Modify; number = number; buckets = b }) (omega (arith, less)) (λ is. cc) low
          (omega (arith, high)) here,
      more (suc x) (omega (arith, less)),
    )

-- the groups that lawful messages add
lawful_groups : (ms : List Message) → All IsLawfulMessage ms → AllByRecursion IsLawfulPut (groups_added ms)
unfolding message_bytes with_header group_body
lawful_groups ms all = each ms (recursion_from_All IsLawfulMessage ms all)
  where
    one : (g : GroupValue) → g.command ≡ AddGroup → IsLawfulMessage (Group g) → IsLawfulPut g.buckets
    one g is h = record {
      content = record { xid = omega arith; command = ((omega arith, omega arith), (subst (λ c. IsLawfulGrouping c g) is h.content.command).1) };
      short = h.short;
    }

    added : (c : GroupCommand) (g : GroupValue) (rest : List Buckets) → g.command ≡ c → IsLawfulMessage (Group g)
        → AllByRecursion IsLawfulPut rest → AllByRecursion IsLawfulPut (cons_option (group_by c g) rest)
    added AddGroup g rest is h all = (one g is h, all)
    added Modify g rest is h all = all
    added Delete g rest is h all = all

    each : (ns : List Message) → AllByRecursion IsLawfulMessage ns → AllByRecursion IsLawfulPut (groups_added ns)
    each [] all = tt
    each (Flow f ∷ ns) (here, rest) = each ns rest
    each (Group g ∷ ns) (here, rest) = added g.command g (groups_added ns) refl here (each ns rest)
    each (Barrier x ∷ ns) (here, rest) = each ns rest

-- All of them.

total : (c : Changes) → length (change_messages c) ≡ amount c + 3
total c = sym (ap length (assembled c m1 m2 m3 m4 m5 m6 m7 h)) ∙ assembled_long c m1 m2 m3 m4 m5 m6 m7 h
  where
    m1 : List Message
    m1 = map Flow (deletes_from 1 c.removed)

    m2 : List Message
    m2 = m1 ++ map Group (group_deletes_from (length m1 + 1) (suc c.kept) c.gone)

    m3 : List Message
    m3 = m2 ++ Barrier (length m2 + 1) ∷ []

    m4 : List Message
    m4 = m3 ++ map Group (group_mods_from (length m3 + 1) c.puts)

    m5 : List Message
    m5 = m4 ++ Barrier (length m4 + 1) ∷ []

    m6 : List Message
    m6 = m5 ++ map Flow (adds_from (length m5 + 1) c.added)

    m7 : List Message
    m7 = m6 ++ Barrier (length m6 + 1) ∷ []

    h : Appended c m1 m2 m3 m4 m5 m6 m7
    h = record { removed = refl; gone = refl; parted = refl; put = refl; grouped = refl; added = refl; filled = refl }

module _ (old new : List Message) (lawful_old : All IsLawfulMessage old) (lawful_new : All IsLawfulMessage new) (few_old : HasFewGroups old)
    (few_new : HasFewGroups new) where
  abbrev c : Changes
  c = changes old new

  lawful_messages : length (change_messages (changes old new)) < 2 ^ 32 → AllByRecursion IsLawfulMessage (change_messages (changes old new))
  lawful_messages short =
      let long = total (changes old new) in
      all_append IsLawfulMessage (map Flow (deletes_from 1 c.removed) ++ map Group (group_deletes_from (suc (length c.removed)) (suc c.kept) c.gone)) _
      (all_append IsLawfulMessage (map Flow (deletes_from 1 c.removed)) (map Group (group_deletes_from (suc (length c.removed)) (suc c.kept) c.gone))
      (lawful_deletes 1 c.removed (omega (arith, short, long)) (all_filter IsLawfulEntry _ (entries_added old) (lawful_entries old lawful_old)))
      (lawful_group_deletes (suc (length c.removed)) (suc c.kept) c.gone (omega (arith, short, long)) (omega arith) (omega (arith, few_old, few_new)))) (
        barrier_lawful (suc (length c.removed) + c.gone) (omega (arith, short, long)),
        all_append IsLawfulMessage (map Group (group_mods_from (suc (suc (length c.removed) + c.gone)) c.puts)) _
            (lawful_puts (suc (suc (length c.removed) + c.gone)) 1 (groups_added old) (groups_added new) (omega (arith, short, long))
            (omega arith) (omega (arith, few_new)) (lawful_groups new lawful_new)) (
              barrier_lawful (suc (suc (length c.removed) + c.gone) + length c.puts) (omega (arith, short, long)),
              all_append IsLawfulMessage (map Flow (adds_from (suc (suc (suc (length c.removed) + c.gone) + length c.puts)) c.added)) _
                  (lawful_adds (suc (suc (suc (length c.removed) + c.gone) + length c.puts)) c.added (omega (arith, short, long))
                  (all_filter IsLawfulEntry _ (entries_added new) (lawful_entries new lawful_new)))
                  (barrier_lawful (suc (suc (suc (length c.removed) + c.gone) + length c.puts) + length c.added) (omega (arith, short, long)), tt),
            ),
      )

  pub lawful_delta : length (switch_delta old new) < 2 ^ 32 → IsLawfulList (switch_delta old new)
  unfolding switch_delta
  lawful_delta short = (short, All-from_recursion IsLawfulMessage _ (by (amount (changes old new) == 0) short))
    where
      by : (b : Bool) → length (if b then [] else change_messages (changes old new)) < 2 ^ 32
          → AllByRecursion IsLawfulMessage (if b then [] else change_messages (changes old new))
      by true less = tt
      by false less = lawful_messages less

-- The messages of all switches.

lawful_switch : (datapath : ℕ) (ms : List Message) (rest : List (ℕ × List Message)) → (length ms < 2 ^ 32 → IsLawfulList ms)
    → (AreShort rest → AllByRecursion (λ p. IsLawfulList p.1) rest) → AreShort (with_switch datapath ms rest)
    → AllByRecursion (λ p. IsLawfulList p.1) (with_switch datapath ms rest)
lawful_switch datapath [] rest one more short = more short
lawful_switch datapath (m ∷ ms) rest one more (here, short) = (one here, more short)

lawful_switches : (ss : List Switch) (olds news : List (List Message)) → AllByRecursion IsLawfulList olds → AllByRecursion IsLawfulList news
    → AllByRecursion HasFewGroups olds → AllByRecursion HasFewGroups news
    → AreShort (deltas ss olds news) → AllByRecursion (λ p. IsLawfulList p.1) (deltas ss olds news)
lawful_switches [] olds news lawful_old lawful_new few_old few_new short = tt
lawful_switches (s ∷ ss) [] news lawful_old lawful_new few_old few_new short = tt
lawful_switches (s ∷ ss) (o ∷ olds) [] lawful_old lawful_new few_old few_new short = tt
lawful_switches (s ∷ ss) (o ∷ olds) (n ∷ news) (old, lawful_old) (new, lawful_new) (fit_old, few_old) (fit_new, few_new) short =
    lawful_switch s.datapath (switch_delta o n) (deltas ss olds news) (lawful_delta o n old.1 new.1 fit_old fit_new)
    (lawful_switches ss olds news lawful_old lawful_new few_old few_new) short

pub lawful_install_delta : (old new : Install) → IsLawfulInstall old → IsLawfulInstall new → All HasFewGroups old.messages → All HasFewGroups new.messages
    → AreShort (delta old new) → AllByRecursion (λ p. IsLawfulList p.1) (delta old new)
lawful_install_delta old new lawful_old lawful_new few_old few_new short =
    lawful_switches new.topology.switches old.messages new.messages (recursion_from_All IsLawfulList old.messages lawful_old.messages)
    (recursion_from_All IsLawfulList new.messages lawful_new.messages)
    (recursion_from_All HasFewGroups old.messages few_old) (recursion_from_All HasFewGroups new.messages few_new) short
