-- A packet passes one table more.
use Rattle.std.proofs.Common.{◌≡◌, ℕ, suc, ◌+◌, ◌-◌, ◌<◌, arith, List, ◌++◌, append_assoc, sym, ap, ◌∙◌}
use Rattle.std.specs.declared.option.Option.TheVariants.{None, Some}
use Rattle.std.proofs.lemmas.List.{append-nil}
use Rattle.pq_model.specs.declared.tagged.Sent.{Sent}
use Rattle.pq_model.specs.Tagged.{TaggedPacket}
use Rattle.pq_model.specs.SwitchMachine.{Entry, Tables, changed_by, emits, runs, sent_by_entry, sent_from_table, sent_onward, taken}

module _ (t : Tables) (k n : ℕ) (x : TaggedPacket) (e : Entry) (below : k < 255) (took : taken t.entries n x ≡ Some e) where
  passes : sent_from_table (255 - k) t n x ≡ runs (emits t.groups) e.actions x ++ sent_onward (sent_from_table (255 - (k + 1)) t) e.goto
      (changed_by e.actions x)
  passes =
      let one_more : 255 - k ≡ suc (255 - (k + 1)) = omega arith in
      ap (λ m. sent_from_table m t n x) one_more ∙ ap (sent_by_entry (sent_from_table (255 - (k + 1)) t) t.groups x) took

  module _ (sent new all : List Sent) (so_far : sent ++ sent_from_table (255 - k) t n x ≡ all) (is : new ≡ sent ++ runs (emits t.groups) e.actions x) where
    onward : new ++ sent_onward (sent_from_table (255 - (k + 1)) t) e.goto (changed_by e.actions x) ≡ all
    onward = ap (λ l. l ++ sent_onward (sent_from_table (255 - (k + 1)) t) e.goto (changed_by e.actions x)) is
        ∙ append_assoc sent _ _ ∙ ap (λ l. sent ++ l) (sym passes) ∙ so_far

    pub stops : e.goto ≡ None → new ≡ all
    stops none = sym (append-nil new) ∙ ap (λ g. new ++ sent_onward (sent_from_table (255 - (k + 1)) t) g (changed_by e.actions x)) (sym none) ∙ onward

    pub goes_on : (m : ℕ) (y : TaggedPacket) → e.goto ≡ Some m → y ≡ changed_by e.actions x → new ++ sent_from_table (255 - (k + 1)) t m y ≡ all
    goes_on m y some after = ap (λ z. new ++ sent_from_table (255 - (k + 1)) t m z) after
        ∙ ap (λ g. new ++ sent_onward (sent_from_table (255 - (k + 1)) t) g (changed_by e.actions x)) (sym some) ∙ onward
