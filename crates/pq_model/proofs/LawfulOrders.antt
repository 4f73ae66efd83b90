-- Lawful orders of messages that are free of order leave the same tables.
use Rattle.std.proofs.Common.{◌≡◌, ◌⊎◌, ℕ, List, [], ◌∷◌, ◌++◌, sym, ap, subst, ◌∙◌, inl, inr, append_assoc}
use Rattle.std.specs.List.{AllByRecursion}
use Rattle.pq_model.specs.declared.message.Message.{Message}
use Rattle.pq_model.specs.declared.message.Message.TheVariants.{Flow, Group, Barrier}
use Rattle.pq_model.specs.SwitchMachine.{Tables, applies, applies_all}
use Rattle.pq_model.specs.Orders.{AreSame, IsNoBarrier, HasNoBarrier, MayFollow, IsLawfulOrder, Commute, CommutesUpToBarrier, IsFreeOfOrder}
use Rattle.pq_model.proofs.Reorderings.{Within, Behind, divided, all-put, all-rest}
use Rattle.pq_model.proofs.SameTables.{same-refl, same-trans, same-applies, same-applies_all}

-- a message that commutes with all of a front may be processed before it
pub past_front : (m : Message) (front back : List Message) → AllByRecursion (Commute m) front → (t : Tables)
    → AreSame (applies_all (applies t m) (front ++ back)) (applies_all t (front ++ m ∷ back))
past_front m [] back all t = same-refl (applies_all (applies t m) back)
past_front m (n ∷ front) back (here, rest) t =
    same-trans (applies_all (applies (applies t m) n) (front ++ back)) (applies_all (applies (applies t n) m) (front ++ back))
    (applies_all (applies t n) (front ++ m ∷ back))
    (same-applies_all (applies (applies t m) n) (applies (applies t n) m) (front ++ back) (here t))
    (past_front m front back rest (applies t n))

-- the message commutes with a front, if it does so with what a shorter list of messages lets are in front
with_one_more : (m n : Message) (ms front back first last : List Message) →
    ((others after : List Message) → HasNoBarrier others → IsLawfulOrder ms (others ++ after) → AllByRecursion (Commute m) others) →
    Commute m n → HasNoBarrier front → IsLawfulOrder ms (first ++ last) → Within front back first last n ⊎ Behind front back first last n →
    AllByRecursion (Commute m) front
with_one_more m n ms front back first last shorter here none order (inl w) =
    subst (AllByRecursion (Commute m)) (sym w.holds)
    (all-put (Commute m) n first w.between here
    (shorter (first ++ w.between) back
    (all-rest IsNoBarrier n first w.between (subst HasNoBarrier w.holds none))
    (subst (IsLawfulOrder ms) (ap (λ l. first ++ l) w.after ∙ sym (append_assoc first w.between back)) order)))
with_one_more m n ms front back first last shorter here none order (inr b) =
    shorter front (b.between ++ last) none
    (subst (IsLawfulOrder ms) (ap (λ l. l ++ last) b.before ∙ append_assoc front b.between last) order)

-- nothing is in front of a barrier
none_in_front : (m : Message) (xid : ℕ) (front back last : List Message) → HasNoBarrier front → front ++ back ≡ Barrier xid ∷ last
    → AllByRecursion (Commute m) front
none_in_front m xid [] back last none e = tt
none_in_front m xid (f ∷ front) back last (here, rest) e =
    let is : f ≡ Barrier xid = cc in
    absurd (subst IsNoBarrier is here)

-- what is in a front without barrier are messages before the first barrier
commutes_with_front : (m : Message) (ms front back : List Message) → HasNoBarrier front → IsLawfulOrder ms (front ++ back)
    → CommutesUpToBarrier m ms → AllByRecursion (Commute m) front
commutes_with_front m [] [] back none order commutes = tt
commutes_with_front m [] (f ∷ front) back none order commutes = cc
commutes_with_front m (Flow f ∷ ms) front back none (first, last, e, may, order) (here, rest) =
    with_one_more m (Flow f) ms front back first last
    (λ others after free lawful. commutes_with_front m ms others after free lawful rest)
    here none order (divided front back first last (Flow f) e)
commutes_with_front m (Group g ∷ ms) front back none (first, last, e, may, order) (here, rest) =
    with_one_more m (Group g) ms front back first last
    (λ others after free lawful. commutes_with_front m ms others after free lawful rest)
    here none order (divided front back first last (Group g) e)
commutes_with_front m (Barrier xid ∷ ms) front back none (first, last, e, may, order) commutes =
    none_in_front m xid front back last none (e ∙ ap (λ l. l ++ Barrier xid ∷ last) may)

-- the next message may be processed at once
may_come_first : (m : Message) (ms front back : List Message) → MayFollow m front → IsLawfulOrder ms (front ++ back)
    → IsFreeOfOrder (m ∷ ms) → AllByRecursion (Commute m) front × IsFreeOfOrder ms
may_come_first (Flow f) ms front back may order (here, rest) = (commutes_with_front (Flow f) ms front back may order here, rest)
may_come_first (Group g) ms front back may order (here, rest) = (commutes_with_front (Group g) ms front back may order here, rest)
may_come_first (Barrier xid) ms front back may order rest = (subst (AllByRecursion (Commute (Barrier xid))) (sym may) tt, rest)

pub lawful-same : (s t : Tables) → AreSame s t → (ms order : List Message) → IsLawfulOrder ms order → IsFreeOfOrder ms
    → AreSame (applies_all s ms) (applies_all t order)
lawful-same s t same [] order lawful free = subst (λ l. AreSame s (applies_all t l)) (sym lawful) same
lawful-same s t same (m ∷ ms) order (front, back, e, may, lawful) free =
    let first = may_come_first m ms front back may lawful free in
    subst (λ l. AreSame (applies_all (applies s m) ms) (applies_all t l)) (sym e)
    (same-trans (applies_all (applies s m) ms) (applies_all (applies t m) (front ++ back)) (applies_all t (front ++ m ∷ back))
    (lawful-same (applies s m) (applies t m) (same-applies s t m same) ms (front ++ back) lawful first.1)
    (past_front m front back first.0 t))
