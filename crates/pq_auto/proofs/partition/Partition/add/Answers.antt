use Rattle.std.proofs.Common.{ℕ, ◌≡◌, ◌∙◌, ◌++◌, ◌∷◌, ◌⊎◌, List, [], length, inl, inr, sym, ap, subst}
use Rattle.pq_auto.specs.Parts.{IsParted}
use Rattle.pq_auto.specs.Stored.{stored_parts}
use Rattle.pq_auto.proofs.Numbers.{added}
use Rattle.pq_auto.proofs.partition.Partition.add.Goals as goal
use Rattle.pq_auto.proofs.partition.Partition.add.Goals.{then-class-len+in_ok-push, else-class-len}

-- the first places after the class of the place is known
abbrev first_or_not : goal.In_ok-push-2 → Type 0
first_or_not c = let p = stored_parts c.self.inside in
    ((c.in_ok-class.class ≡ length p.firsts) × (c.if-class-len.self-inside.firsts.items ≡ p.firsts ++ length p.classes ∷ []))
    ⊎ ((c.in_ok-class.class ≡ length p.firsts → ⊥) × (c.if-class-len.self-inside.firsts.items ≡ p.firsts))

by : (c : goal.In_ok-push-2)
    → (stored_parts c.if-class-len.self-inside).seen ≡ (stored_parts (record c.self.inside { seen = c.number.new.seen })).seen
    → c.if-class-len.self-inside.classes.items ≡ c.self.inside.classes.items → first_or_not c
    → (keys : ℕ → List ℕ) → keys (length c.args.self.now.classes) ≡ c.args.key.items → IsParted keys c.args.self.now
    → IsParted keys (stored_parts (record c.if-class-len.self-inside { classes = c.push-2.new.self }))
by c seen_is classes_is first keys own parted = added keys (stored_parts c.self.inside)
    (subst (IsParted keys) (sym c.self.view_is) parted)
    c.args.key.items c.in_ok-class.class (stored_parts c.if-class-len.self-inside).seen c.push-2.new.self.items c.if-class-len.self-inside.firsts.items
    (ap (λ p. keys (length p.classes)) c.self.view_is ∙ own)
    (rw seen_is c.in_ok-class.ensures)
    (c.in_ok-push-2.ensures.items ∙ ap (λ xs. xs ++ c.in_ok-class.class ∷ []) classes_is)
    first

pub returns-clause-parted : goal.returns-clause-parted
returns-clause-parted c = elim c.if-class-len.branch [
  | then-class-len+in_ok-push w ↦ by c (ap (λ i. (stored_parts i).seen) w.self-inside-is) (ap (λ i. i.classes.items) w.self-inside-is) (inl (
    w.if-class-len.true ∙ c.len.ensures ∙ c.self.inside.firsts.ok.0,
    ap (λ i. i.firsts.items) w.self-inside-is ∙ w.in_ok-push.ensures.items
        ∙ ap (λ n. c.self.inside.firsts.items ++ n ∷ []) (w.len-then-class-len.ensures ∙ c.self.inside.classes.ok.0),
  ))
  | else-class-len w ↦ by c (ap (λ i. (stored_parts i).seen) w.self-inside-is) (ap (λ i. i.classes.items) w.self-inside-is) (inr (
    λ is. w.if-class-len.false (is ∙ sym (c.len.ensures ∙ c.self.inside.firsts.ok.0)),
    ap (λ i. i.firsts.items) w.self-inside-is,
  ))
]
