-- Trees that write one number.
use Rattle.std.proofs.Common.{ℕ, ◌≡◌, ◌⊎◌, ◌∙◌, true, false, List, Option, None, Some, ◌==◌, if◌then◌else◌, inl, inr, refl, sym, ap, subst}
use Rattle.std.specs.List.{Any}
use Rattle.std.specs.Option.{unwrap_or}
use Rattle.std.proofs.lemmas.Bool.Decides.{eqb_tells}
use Rattle.pq_fields.specs.declared.field.Field.{Field}
use Rattle.pq_fields.specs.Packet.{Numbers, number_in, rank}
use Rattle.pq_fields.specs.Writes.{Written, no_writes, number_after, on, with_write, written_in}
use Rattle.pq_store.specs.Tree.{Tree, value}
use Rattle.pq_store.proofs.Order.{rank_injective}
use Rattle.pq_store.specs.Room.{IsCounted}
use Rattle.pq_apply.specs.Predicates.{NeedsAmong}
use Rattle.pq_rewrite.specs.Calls.{IsWriting}
use Rattle.pq_rewrite.specs.Rewriting.{ChangesAll, CoversWrites, IsGiven, IsToWrite}
use Rattle.pq_rewrite.specs.Settled.{IsSettled}
use Rattle.pq_rewrite.proofs.Diffs.{none_written}
use Rattle.pq_rewrite.proofs.Fields.{written_with, written_writable}
use Rattle.pq_rewrite.proofs.Numbers.{number_on}

-- of one number only that is written
pub alone : (f g : Field) (n m : ℕ) → written_in g (with_write f n no_writes) ≡ Some m → (g ≡ f) × (m ≡ n)
alone f g n m is = by (sym (written_with f g n no_writes (written_writable g (with_write f n no_writes) m is)) ∙ is) (eqb_tells (rank f) (rank g))
  where
    by : (if rank f == rank g then Some n else written_in g no_writes) ≡ Some m
        → (((rank f == rank g) ≡ true) × (rank f ≡ rank g)) ⊎ (((rank f == rank g) ≡ false) × (rank f ≡ rank g → ⊥)) → (g ≡ f) × (m ≡ n)
    by some (inl e) = let test = e.0 in let there = ap (λ b. if b then Some n else written_in g no_writes) test in (sym (rank_injective f g e.1), cc)
    by some (inr e) = let test = e.0 in let there = ap (λ b. if b then Some n else written_in g no_writes) test in let none = none_written g in absurd cc

-- a number after writes that the packet didn't have is one of those written
shown : (o : Option ℕ) (old n : ℕ) → (old ≡ n → ⊥) → n ≡ unwrap_or o old → o ≡ Some n
shown None old n apart is = absurd (apart (sym is))
shown (Some k) old n apart is = ap Some (sym is)

-- idle-free writes that give a packet written are among the writes that do
pub written_given : (x : Numbers) (w : Written) (ws : List Written) → IsGiven x (λ y. y ≡ on w x) ws → (g : Field) (m : ℕ)
    → Any (λ u. written_in g u ≡ Some m) ws → written_in g w ≡ Some m
written_given x w ws given g m (k, u, within, at, is) =
    let u_changes : ChangesAll x u = subst (ChangesAll x) at (given.idle_free k u within) in
    let change = u_changes g m is in
    let same : on u x ≡ on w x = (given.gives (on u x)).0 (k, u, within, at, refl) in
    let after : number_after g u x ≡ number_after g w x = sym (number_on g u x) ∙ (ap (number_in g) same ∙ number_on g w x) in
    shown (written_in g w) (number_in g x) m change.1 (rw (change.0, is) at after)

-- a tree that writes these writes is one that writes the number
pub is_writing : (f : Field) (n : ℕ) (t : Tree (List Written)) → IsSettled (with_write f n no_writes) t → IsWriting f n t
is_writing f n t settled = record { giving = settled.giving; tests = λ ns number needs. settled.tests ns (covers ns number needs); writes = writes }
  where
    covers : (ns : Field → List ℕ) → IsCounted ns f n → NeedsAmong ns f → CoversWrites ns (with_write f n no_writes)
    covers ns number needs g m is =
        let only = alone f g n m is in
        (subst (λ h. IsCounted ns h m) (sym only.0) (subst (IsCounted ns f) (sym only.1) number), subst (NeedsAmong ns) (sym only.0) needs)

    writes : (g : Field) (m : ℕ) → IsToWrite g m t → (g ≡ f) × (m ≡ n)
    writes g m (x, fit, written) = alone f g n m (written_given x (with_write f n no_writes) (value t x) (settled.giving x fit) g m written)
