-- The same tables send the same, if no two entries of one table have one priority.
use Rattle.std.proofs.Common.{◌≡◌, ◌≢◌, ℕ, suc, zero, Bool, true, false, List, [], ◌∷◌, ◌++◌, ◌&&◌, ◌==◌, if◌then◌else◌, refl, sym, ap, ◌∙◌}
use Rattle.std.specs.List.{AllByRecursion}
use Rattle.std.specs.declared.option.Option.{Option}
use Rattle.std.specs.declared.option.Option.TheVariants.{None, Some}
use Rattle.std.proofs.lemmas.Bool.Decides.{nat_tests}
use Rattle.std.proofs.Common.{arith}
use Rattle.pq_model.specs.declared.tagged.Sent.{Sent}
use Rattle.pq_model.specs.MatchFields.{covers}
use Rattle.pq_model.specs.Tagged.{TaggedPacket}
use Rattle.pq_model.specs.SwitchMachine.{Entry, Tables, better, taken, sent_by_entry, sent_from_table, copies, in_order, sends}
use Rattle.pq_model.specs.Orders.{IsReordering, AreSame, AreApart, HaveOwnPriorities}
use Rattle.pq_model.proofs.Reorderings.{all-front, all-reordering}

better-exchange : (d e : Entry) → d.priority ≢ e.priority → (o : Option Entry) → better d (better e o) ≡ better e (better d o)
better-exchange d e h None = grind (arith, nat_tests)
better-exchange d e h (Some f) = grind (arith, nat_tests)

exchanged : (c b : Bool) (d e : Entry) → (c ≡ true → b ≡ true → d.priority ≢ e.priority) → (o : Option Entry) →
    (if c then better d (if b then better e o else o) else (if b then better e o else o))
    ≡ (if b then better e (if c then better d o else o) else (if c then better d o else o))
exchanged true true d e h o = better-exchange d e (h refl refl) o
exchanged true false d e h o = refl
exchanged false true d e h o = refl
exchanged false false d e h o = refl

in_table : (a n : ℕ) (b : Bool) → (a == n) && b ≡ true → a ≡ n
in_table a n b h = grind (arith, nat_tests)

-- an entry that is apart from all of a front may be before it
taken-put : (e : Entry) (front back : List Entry) → AllByRecursion (AreApart e) front → (n : ℕ) (x : TaggedPacket)
    → taken (front ++ e ∷ back) n x ≡ taken (e ∷ (front ++ back)) n x
taken-put e [] back apart n x = refl
taken-put e (f ∷ front) back (here, rest) n x =
    ap (λ o. if (f.table == n) && covers f.matching x then better f o else o) (taken-put e front back rest n x)
    ∙ exchanged ((f.table == n) && covers f.matching x) ((e.table == n) && covers e.matching x) f e
    (λ c b. λ p. here (in_table e.table n (covers e.matching x) b ∙ sym (in_table f.table n (covers f.matching x) c)) (sym p)) (taken (front ++ back) n x)

pub taken-same : (xs ys : List Entry) → IsReordering xs ys → HaveOwnPriorities xs → (n : ℕ) (x : TaggedPacket) → taken xs n x ≡ taken ys n x
taken-same [] ys h own n x = ap (λ l. taken l n x) (sym h)
taken-same (e ∷ xs) ys (front, back, is, h) (apart, own) n x =
    ap (λ o. if (e.table == n) && covers e.matching x then better e o else o) (taken-same xs (front ++ back) h own n x)
    ∙ sym (taken-put e front back (all-front (AreApart e) front back (all-reordering (AreApart e) xs (front ++ back) h apart)) n x)
    ∙ ap (λ l. taken l n x) (sym is)

onward-same : (f g : ℕ → TaggedPacket → List Sent) → ((n : ℕ) (x : TaggedPacket) → f n x ≡ g n x) → f ≡ g
onward-same f g h = λ i n x. h n x i

module _ (s t : Tables) (same : AreSame s t) (own : HaveOwnPriorities s.entries) where
  from_table-same : (more n : ℕ) (x : TaggedPacket) → sent_from_table more s n x ≡ sent_from_table more t n x
  from_table-same zero n x = refl
  from_table-same (suc more) n x =
      let onward = onward-same (sent_from_table more s) (sent_from_table more t) (from_table-same more) in
      let entry = taken-same s.entries t.entries same.entries own n x in
      λ i. sent_by_entry (onward i) (same.groups i) x (entry i)

  pub sends-same : (x : TaggedPacket) → sends s x ≡ sends t x
  unfolding copies
  sends-same x = ap in_order (from_table-same 255 0 x)
