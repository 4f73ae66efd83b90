-- Where the same is added, nothing changes.
use Rattle.std.proofs.Common.{◌≡◌, ℕ, suc, ◌+◌, ◌<◌, true, List, [], ◌∷◌, ◌++◌, length, take, get_or, refl, sym, ap, ◌∙◌}
use Rattle.std.proofs.Common.{arith, append_assoc, if◌then◌else◌}
use Rattle.std.proofs.Math.Seq.{take-suc}
use Rattle.std.proofs.lemmas.Bool.{eq-eqb}
use Rattle.std.proofs.lemmas.List.Elements.{filter_map-append}
use Rattle.std.proofs.Math.Bool.{or-true}
use Rattle.pq_model.specs.declared.message.Message.{Message}
use Rattle.pq_model.specs.SwitchMachine.{Entry}
use Rattle.pq_delta.specs.Added.{Buckets, entries_added, entry_added, group_added, groups_added}
use Rattle.pq_delta.specs.Changes.{amount, change_messages, changes, puts_from}
use Rattle.pq_delta.specs.Delta.{switch_delta}
use Rattle.pq_delta.specs.Equal.{is_among, others, same_entry}
use Rattle.pq_delta.specs.Exact.{buckets_itself, entry_itself}

-- an entry of a list is among its entries
among : (front : List Entry) (e : Entry) (back : List Entry) → is_among e (front ++ e ∷ back) ≡ true
among [] e back = rw (entry_itself e) refl
among (d ∷ front) e back = rw (among front e back) (or-true (same_entry e d))

none_other : (front back : List Entry) → others (front ++ back) back ≡ []
none_other front [] = refl
none_other front (e ∷ back) =
    let rest : others ((front ++ e ∷ []) ++ back) back ≡ [] = none_other (front ++ e ∷ []) back in
    rw (among front e back) (ap (λ (all : List Entry). others all back) (sym (append_assoc front (e ∷ []) back)) ∙ rest)

none_put : (number : ℕ) (bs : List Buckets) → puts_from number bs bs ≡ []
none_put number [] = refl
none_put number (b ∷ bs) = rw (buckets_itself b) (none_put (suc number) bs)

-- nothing changes
pub none_where_the_same : (old new : List Message) → entries_added old ≡ entries_added new → groups_added old ≡ groups_added new → [] ≡ switch_delta old new
unfolding switch_delta
none_where_the_same old new entries groups =
    sym (ap (λ b. if b then [] else change_messages (changes old new)) (eq-eqb (amount (changes old new)) 0 nothing))
  where
    removed : others (entries_added new) (entries_added old) ≡ []
    removed = ap (λ (es : List Entry). others es (entries_added old)) (sym entries) ∙ none_other [] (entries_added old)

    added : others (entries_added old) (entries_added new) ≡ []
    added = ap (λ (es : List Entry). others es (entries_added new)) entries ∙ none_other [] (entries_added new)

    put : puts_from 1 (groups_added old) (groups_added new) ≡ []
    put = ap (λ (gs : List Buckets). puts_from 1 gs (groups_added new)) groups ∙ none_put 1 (groups_added new)

    nothing : amount (changes old new) ≡ 0
    nothing = omega (arith, ap length removed, ap length added, ap length put, ap length groups)

-- one message more
next_taken : (ms : List Message) (i : ℕ) (m : Message) → i < length ms → m ≡ get_or ms i m → take (i + 1) ms ≡ take i ms ++ m ∷ []
next_taken ms i m below is =
    let one : i + 1 ≡ suc i = omega arith in
    ap (λ (n : ℕ). take n ms) one ∙ take-suc ms i m below ∙ ap (λ (x : Message). take i ms ++ x ∷ []) (sym is)

entries_more : (ms : List Message) (i : ℕ) (m : Message) → i < length ms → m ≡ get_or ms i m
    → entries_added (take (i + 1) ms) ≡ entries_added (take i ms) ++ entries_added (m ∷ [])
entries_more ms i m below is = ap entries_added (next_taken ms i m below is) ∙ filter_map-append entry_added (take i ms) (m ∷ [])

groups_more : (ms : List Message) (i : ℕ) (m : Message) → i < length ms → m ≡ get_or ms i m
    → groups_added (take (i + 1) ms) ≡ groups_added (take i ms) ++ groups_added (m ∷ [])
groups_more ms i m below is = ap groups_added (next_taken ms i m below is) ∙ filter_map-append group_added (take i ms) (m ∷ [])

-- so they add the same with messages that do
pub entries_go_on : (old new : List Message) (i : ℕ) (m n : Message) → i < length old → i < length new → m ≡ get_or old i m
    → n ≡ get_or new i n → entry_added m ≡ entry_added n
    → entries_added (take i old) ≡ entries_added (take i new) → entries_added (take (i + 1) old) ≡ entries_added (take (i + 1) new)
entries_go_on old new i m n below within is read same before =
    entries_more old i m below is ∙ ap (λ (es : List Entry). es ++ entries_added (m ∷ [])) before
    ∙ ap (λ (es : List Entry). entries_added (take i new) ++ es) one ∙ sym (entries_more new i n within read)
  where
    one : entries_added (m ∷ []) ≡ entries_added (n ∷ [])
    one = rw same refl

pub groups_go_on : (old new : List Message) (i : ℕ) (m n : Message) → i < length old → i < length new → m ≡ get_or old i m
    → n ≡ get_or new i n → group_added m ≡ group_added n
    → groups_added (take i old) ≡ groups_added (take i new) → groups_added (take (i + 1) old) ≡ groups_added (take (i + 1) new)
groups_go_on old new i m n below within is read same before =
    groups_more old i m below is ∙ ap (λ (gs : List Buckets). gs ++ groups_added (m ∷ [])) before
    ∙ ap (λ (gs : List Buckets). groups_added (take i new) ++ gs) one ∙ sym (groups_more new i n within read)
  where
    one : groups_added (m ∷ []) ≡ groups_added (n ∷ [])
    one = rw same refl
