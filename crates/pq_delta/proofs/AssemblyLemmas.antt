-- The messages of a switch, appended block after block.
use Rattle.std.proofs.Common.{◌≡◌, ℕ, zero, suc, ◌+◌, ◌-◌, ◌<◌, ◌≤◌, ◌==◌, true, false, if◌then◌else◌, List, [], ◌∷◌, ◌++◌, length, map}
use Rattle.std.proofs.Common.{drop, get_or, refl, sym, ap, ◌∙◌, append_assoc, arith, eq-eqb, eqb-true, drop_of_length-le, subst, ◌^◌}
use Rattle.std.proofs.lemmas.Bool.Decides.{nat_tests}
use Rattle.std.proofs.lemmas.List.{get_or-map, length-append}
use Rattle.pq_lists.proofs.Places.{from_place}
use Rattle.pq_model.specs.declared.message.Message.{Message}
use Rattle.pq_model.specs.declared.message.Message.TheVariants.{Flow, Group, Barrier}
use Rattle.pq_model.specs.SwitchMachine.{Entry}
use Rattle.pq_model.specs.Topology.{Switch}
use Rattle.pq_delta.specs.Added.{entries_added, groups_added}
use Rattle.pq_delta.specs.Changes.{Changes, Put, adds_from, amount, change_messages, changes, deletes_from, group_deletes_from, group_mods_from, puts_from}
use Rattle.pq_delta.specs.Delta.{AreShort, deltas, switch_delta, with_switch}
use Rattle.pq_delta.specs.Equal.{others}
use Rattle.pq_delta.specs.Keys.{keys_of}
use Rattle.pq_delta.proofs.KeysLemmas.{others_of_keys}

deletes_long : (x : ℕ) (es : List Entry) → length (map Flow (deletes_from x es)) ≡ length es
deletes_long x [] = refl
deletes_long x (e ∷ es) = ap suc (deletes_long (suc x) es)

adds_long : (x : ℕ) (es : List Entry) → length (map Flow (adds_from x es)) ≡ length es
adds_long x [] = refl
adds_long x (e ∷ es) = ap suc (adds_long (suc x) es)

group_deletes_long : (x number n : ℕ) → length (map Group (group_deletes_from x number n)) ≡ n
group_deletes_long x number zero = refl
group_deletes_long x number (suc n) = ap suc (group_deletes_long (suc x) (suc number) n)

mods_long : (x : ℕ) (ps : List Put) → length (map Group (group_mods_from x ps)) ≡ length ps
mods_long x [] = refl
mods_long x (p ∷ ps) = ap suc (mods_long (suc x) ps)

-- what each call appends
pub record Appended (c : Changes) (m1 m2 m3 m4 m5 m6 m7 : List Message) : Type 0 where
  pub removed : m1 ≡ map Flow (deletes_from 1 c.removed)
  pub gone : m2 ≡ m1 ++ map Group (group_deletes_from (length m1 + 1) (suc c.kept) c.gone)
  pub parted : m3 ≡ m2 ++ Barrier (length m2 + 1) ∷ []
  pub put : m4 ≡ m3 ++ map Group (group_mods_from (length m3 + 1) c.puts)
  pub grouped : m5 ≡ m4 ++ Barrier (length m4 + 1) ∷ []
  pub added : m6 ≡ m5 ++ map Flow (adds_from (length m5 + 1) c.added)
  pub filled : m7 ≡ m6 ++ Barrier (length m6 + 1) ∷ []

module _ (c : Changes) (m1 m2 m3 m4 m5 m6 m7 : List Message) (h : Appended c m1 m2 m3 m4 m5 m6 m7) where
  long1 : length m1 ≡ length c.removed
  long1 = ap length h.removed ∙ deletes_long 1 c.removed

  long2 : length m2 ≡ length c.removed + c.gone
  long2 = let joined = ap length h.gone ∙ length-append m1 (map Group (group_deletes_from (length m1 + 1) (suc c.kept) c.gone)) in
      let block = group_deletes_long (length m1 + 1) (suc c.kept) c.gone in omega (arith, long1, joined, block)

  long3 : length m3 ≡ length c.removed + c.gone + 1
  long3 = let joined = ap length h.parted ∙ length-append m2 (Barrier (length m2 + 1) ∷ []) in omega (arith, long2, joined)

  long4 : length m4 ≡ length c.removed + c.gone + 1 + length c.puts
  long4 = let joined = ap length h.put ∙ length-append m3 (map Group (group_mods_from (length m3 + 1) c.puts)) in
      let block = mods_long (length m3 + 1) c.puts in omega (arith, long3, joined, block)

  long5 : length m5 ≡ length c.removed + c.gone + 1 + length c.puts + 1
  long5 = let joined = ap length h.grouped ∙ length-append m4 (Barrier (length m4 + 1) ∷ []) in omega (arith, long4, joined)

  long6 : length m6 ≡ length c.removed + c.gone + 1 + length c.puts + 1 + length c.added
  long6 = let joined = ap length h.added ∙ length-append m5 (map Flow (adds_from (length m5 + 1) c.added)) in
      let block = adds_long (length m5 + 1) c.added in omega (arith, long5, joined, block)

  -- three more than what changes
  pub assembled_long : length m7 ≡ amount c + 3
  assembled_long = let joined = ap length h.filled ∙ length-append m6 (Barrier (length m6 + 1) ∷ []) in omega (arith, long6, joined)

  pub assembled : m7 ≡ change_messages c
  assembled =
      let parted : length m2 + 1 ≡ suc (length c.removed) + c.gone = omega (arith, long2) in
      let put : length m3 + 1 ≡ suc (suc (length c.removed) + c.gone) = omega (arith, long3) in
      let grouped : length m4 + 1 ≡ suc (suc (length c.removed) + c.gone) + length c.puts = omega (arith, long4) in
      let added : length m5 + 1 ≡ suc (suc (suc (length c.removed) + c.gone) + length c.puts) = omega (arith, long5) in
      let filled : length m6 + 1 ≡ suc (suc (suc (length c.removed) + c.gone) + length c.puts) + length c.added = omega (arith, long6) in
      let gone : length m1 + 1 ≡ suc (length c.removed) = omega (arith, long1) in
      h.filled
      ∙ ap (λ l. l ++ Barrier (length m6 + 1) ∷ []) (h.added
      ∙ ap (λ l. l ++ map Flow (adds_from (length m5 + 1) c.added)) (h.grouped ∙ ap (λ l. l ++ Barrier (length m4 + 1) ∷ [])
      (h.put ∙ ap (λ l. l ++ map Group (group_mods_from (length m3 + 1) c.puts)) (h.parted ∙ ap (λ l. l ++ Barrier (length m2 + 1) ∷ [])
      (h.gone ∙ ap (λ l. l ++ map Group (group_deletes_from (length m1 + 1) (suc c.kept) c.gone)) h.removed)))))
      ∙ (λ i. (((((map Flow (deletes_from 1 c.removed) ++ map Group (group_deletes_from (gone i) (suc c.kept) c.gone))
      ++ Barrier (parted i) ∷ []) ++ map Group (group_mods_from (put i) c.puts)) ++ Barrier (grouped i) ∷ [])
      ++ map Flow (adds_from (added i) c.added)) ++ Barrier (filled i) ∷ [])
      ∙ shape (map Flow (deletes_from 1 c.removed) ++ map Group (group_deletes_from (suc (length c.removed)) (suc c.kept) c.gone))
      (Barrier (suc (length c.removed) + c.gone)) _ (Barrier (suc (suc (length c.removed) + c.gone) + length c.puts)) _
      (Barrier (suc (suc (suc (length c.removed) + c.gone) + length c.puts) + length c.added))
    where
      shape : (x : List Message) (p : Message) (m : List Message) (g : Message) (a : List Message) (f : Message)
          → ((((x ++ p ∷ []) ++ m) ++ g ∷ []) ++ a) ++ f ∷ [] ≡ x ++ p ∷ (m ++ g ∷ (a ++ f ∷ []))
      shape x p m g a f =
          append_assoc (((x ++ p ∷ []) ++ m) ++ g ∷ []) a (f ∷ [])
          ∙ append_assoc ((x ++ p ∷ []) ++ m) (g ∷ []) (a ++ f ∷ [])
          ∙ append_assoc (x ++ p ∷ []) m (g ∷ (a ++ f ∷ []))
          ∙ append_assoc x (p ∷ []) (m ++ g ∷ (a ++ f ∷ []))

-- The messages of a switch, from what each call appends to none.
module _ (old new : List Message) (old_keys new_keys : List Entry) (kept groups : ℕ)
    (old_keys_is : old_keys ≡ keys_of (entries_added old)) (new_keys_is : new_keys ≡ keys_of (entries_added new))
    (kept_is : kept ≡ length (groups_added new)) (groups_is : groups ≡ length (groups_added old)) where
  pub appended : (m0 m1 m2 m3 m4 m5 m6 m7 : List Message) → m0 ≡ []
      → m1 ≡ m0 ++ map Flow (deletes_from (length m0 + 1) (others new_keys (entries_added old)))
      → m2 ≡ m1 ++ map Group (group_deletes_from (length m1 + 1) (suc kept) (groups - kept))
      → m3 ≡ m2 ++ Barrier (length m2 + 1) ∷ []
      → m4 ≡ m3 ++ map Group (group_mods_from (length m3 + 1) (puts_from 1 (groups_added old) (groups_added new)))
      → m5 ≡ m4 ++ Barrier (length m4 + 1) ∷ []
      → m6 ≡ m5 ++ map Flow (adds_from (length m5 + 1) (others old_keys (entries_added new)))
      → m7 ≡ m6 ++ Barrier (length m6 + 1) ∷ []
      → Appended (changes old new) m1 m2 m3 m4 m5 m6 m7
  appended m0 m1 m2 m3 m4 m5 m6 m7 none removed gone parted put grouped added filled = record {
    removed = removed ∙ ap (λ l. l ++ map Flow (deletes_from (length l + 1) (others new_keys (entries_added old)))) none
        ∙ (λ i. map Flow (deletes_from 1 (others (new_keys_is i) (entries_added old))))
        ∙ ap (λ es. map Flow (deletes_from 1 es)) (others_of_keys (entries_added new) (entries_added old));
    gone = gone ∙ (λ i. m1 ++ map Group (group_deletes_from (length m1 + 1) (suc (kept_is i)) (groups_is i - kept_is i)));
    parted = parted;
    put = put;
    grouped = grouped;
    added = added ∙ (λ i. m5 ++ map Flow (adds_from (length m5 + 1) (others (old_keys_is i) (entries_added new))))
        ∙ ap (λ es. m5 ++ map Flow (adds_from (length m5 + 1) es)) (others_of_keys (entries_added old) (entries_added new));
    filled = filled;
  }

-- three messages are none that change anything
pub none_where_nothing_changes : (old new ms : List Message) → length ms ≡ amount (changes old new) + 3 → (length ms == 3) ≡ true → [] ≡ switch_delta old new
unfolding switch_delta
none_where_nothing_changes old new ms long three =
    let nothing : amount (changes old new) ≡ 0 = let is = eqb-true (length ms) 3 three in omega (arith, long, is) in
    sym (ap (λ b. if b then [] else change_messages (changes old new)) (eq-eqb (amount (changes old new)) 0 nothing))

pub all_where_something_changes : (old new ms : List Message) → ms ≡ change_messages (changes old new)
    → length ms ≡ amount (changes old new) + 3 → (length ms == 3) ≡ false → ms ≡ switch_delta old new
unfolding switch_delta
all_where_something_changes old new ms is long more =
    is ∙ sym (ap (λ b. if b then [] else change_messages (changes old new)) something)
  where
    something : (amount (changes old new) == 0) ≡ false
    something = grind (arith, nat_tests)

-- One switch after another.

with_switch-append : (datapath : ℕ) (ms : List Message) (rest : List (ℕ × List Message)) → with_switch datapath ms rest ≡ with_switch datapath ms [] ++ rest
with_switch-append datapath [] rest = refl
with_switch-append datapath (m ∷ ms) rest = refl

pub delta_step : (switches : List Switch) (olds news : List (List Message)) (i : ℕ) (s : Switch) (o n : List Message) → i < length switches
    → i < length olds → i < length news
    → s ≡ get_or switches i s → o ≡ get_or olds i o → n ≡ get_or news i n → (done after : List (ℕ × List Message))
    → after ≡ done ++ with_switch s.datapath (switch_delta o n) []
    → after ++ deltas (drop (i + 1) switches) (drop (i + 1) olds) (drop (i + 1) news) ≡ done ++ deltas (drop i switches) (drop i olds) (drop i news)
delta_step switches olds news i s o n a b c s_is o_is n_is done after is =
    ap (λ l. l ++ deltas (drop (i + 1) switches) (drop (i + 1) olds) (drop (i + 1) news)) is
    ∙ append_assoc done (with_switch s.datapath (switch_delta o n) []) (deltas (drop (i + 1) switches) (drop (i + 1) olds) (drop (i + 1) news))
    ∙ ap (λ l. done ++ l) (sym (with_switch-append s.datapath (switch_delta o n) (deltas (drop (i + 1) switches) (drop (i + 1) olds) (drop (i + 1) news))))
    ∙ (λ j. done ++ deltas (sym (from_place switches i s a s_is) j) (sym (from_place olds i o b o_is) j) (sym (from_place news i n c n_is) j))

pub delta_end : (switches : List Switch) (olds news : List (List Message)) (i : ℕ) → length switches ≤ i → deltas (drop i switches) olds news ≡ []
delta_end switches olds news i past = ap (λ l. deltas l olds news) (drop_of_length-le switches past)

-- an item of a list that is read through a function
pub read_mapped : {A B : Type 0} (f : A → B) (xs : List A) (i : ℕ) (x : A) → i < length xs → x ≡ get_or xs i x → f x ≡ get_or (map f xs) i (f x)
read_mapped f xs i x less is = ap f is ∙ sym (get_or-map f xs i x (f x) less)

-- one switch more
pub one_short_more : (datapath : ℕ) (ms : List Message) (done after : List (ℕ × List Message)) → after ≡ done ++ with_switch datapath ms []
    → length ms < 2 ^ 32 → AreShort done → AreShort after
one_short_more datapath ms done after is short all = subst AreShort (sym is) (joined done (with_switch datapath ms []) (by ms short) all)
  where
    by : (ns : List Message) → length ns < 2 ^ 32 → AreShort (with_switch datapath ns [])
    by [] less = tt
    by (n ∷ ns) less = (less, tt)

    joined : (ds es : List (ℕ × List Message)) → AreShort es → AreShort ds → AreShort (ds ++ es)
    joined [] es more none = more
    joined (d ∷ ds) es more (here, rest) = (here, joined ds es more rest)
