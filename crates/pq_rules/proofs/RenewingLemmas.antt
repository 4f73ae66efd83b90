-- The messages of a switch, part after part.
use Rattle.std.proofs.Common.{◌≡◌, ℕ, suc, ◌+◌, List, [], ◌∷◌, ◌++◌, length, map, refl, sym, ap, ◌∙◌, arith}
use Rattle.std.proofs.lemmas.List.{append_assoc, length-append, length-map, map-append}
use Rattle.std.specs.declared.option.Option.{Option}
use Rattle.pq_model.specs.declared.message.Message.{Message}
use Rattle.pq_model.specs.declared.message.Message.TheVariants.{Flow, Group, Barrier}
use Rattle.pq_model.specs.MatchFields.{MatchFields}
use Rattle.pq_model.specs.Renewal.{renewal_messages}
use Rattle.pq_rewrite.specs.declared.outgoing.Outgoing.{Outgoing}
use Rattle.pq_layout.specs.Messages.{Buckets, Rule, adds_from, delete_entries, delete_groups, groups_from, renewal_with}
use Rattle.pq_rules.specs.Grouping.{placed_rules}

-- there is one message a group, and one an entry
pub length_groups : (bs : List Buckets) (xid number : ℕ) → length (groups_from xid number bs) ≡ length bs
length_groups [] xid number = refl
length_groups (b ∷ bs) xid number = ap suc (length_groups bs (suc xid) (suc number))

pub length_adds : (rs : List Rule) (xid table index : ℕ) → length (adds_from xid table index rs) ≡ length rs
length_adds [] xid table index = refl
length_adds (r ∷ rs) xid table index = ap suc (length_adds rs (suc xid) table (suc index))

-- rules by places are as many as entries
pub length_placed : (es : List (MatchFields × List Outgoing)) (ps : List (Option ℕ)) → length ps ≡ length es → length (placed_rules es ps) ≡ length es
length_placed [] ps same = refl
length_placed (e ∷ es) [] same = absurd (omega (arith, same))
length_placed (e ∷ es) (p ∷ ps) same = ap suc (length_placed es ps (omega (arith, same)))

-- how long lists of messages grow
pub one_longer : (m n : List Message) (x : Message) → n ≡ m ++ x ∷ [] → length n ≡ length m + 1
one_longer m n x grown = ap length grown ∙ length-append m (x ∷ [])

pub groups_longer : (gs : List Buckets) (m n : List Message) (xid number : ℕ) → n ≡ m ++ map Group (groups_from xid number gs) → length n ≡ length m + length gs
groups_longer gs m n xid number grown =
    ap length grown ∙ length-append m (map Group (groups_from xid number gs))
    ∙ ap (λ k. length m + k) (length-map (groups_from xid number gs) Group ∙ length_groups gs xid number)

pub adds_longer : (rs : List Rule) (m n : List Message) (xid table index : ℕ) → n ≡ m ++ map Flow (adds_from xid table index rs)
    → length n ≡ length m + length rs
adds_longer rs m n xid table index grown =
    ap length grown ∙ length-append m (map Flow (adds_from xid table index rs))
    ∙ ap (λ k. length m + k) (length-map (adds_from xid table index rs) Flow ∙ length_adds rs xid table index)

-- three messages and those of the groups
pub third : (gs : List Buckets) (m0 m1 m2 m3 : List Message) → m0 ≡ [] → m1 ≡ m0 ++ Flow delete_entries ∷ Group delete_groups ∷ []
    → m2 ≡ m1 ++ Barrier (length m1 + 1) ∷ []
    → m3 ≡ m2 ++ map Group (groups_from (length m2 + 1) 1 gs) → length m3 ≡ 3 + length gs
third gs m0 m1 m2 m3 empty deletes emptied groups =
    let none : length m0 ≡ 0 = ap length empty in
    let two : length m1 ≡ length m0 + 2 = ap length deletes ∙ length-append m0 (Flow delete_entries ∷ Group delete_groups ∷ []) in
    omega (arith, none, two, one_longer m1 m2 (Barrier (length m1 + 1)) emptied, groups_longer gs m2 m3 (length m2 + 1) 1 groups)

-- lists that grow by messages
module _ (gs : List Buckets) (first second : List Rule) (m0 m1 m2 m3 m4 m5 m6 m7 : List Message) where
  pub record Grow : Type 0 where
    pub empty : m0 ≡ []
    pub deletes : m1 ≡ m0 ++ Flow delete_entries ∷ Group delete_groups ∷ []
    pub emptied : m2 ≡ m1 ++ Barrier (length m1 + 1) ∷ []
    pub groups : m3 ≡ m2 ++ map Group (groups_from (length m2 + 1) 1 gs)
    pub grouped : m4 ≡ m3 ++ Barrier (length m3 + 1) ∷ []
    pub entries : m5 ≡ m4 ++ map Flow (adds_from (length m4 + 1) 0 0 first)
    pub others : m6 ≡ m5 ++ map Flow (adds_from (length m5 + 1) 1 0 second)
    pub filled : m7 ≡ m6 ++ Barrier (length m6 + 1) ∷ []

  pub assembled : Grow → m7 ≡ renewal_messages (renewal_with gs first second)
  assembled h =
      let n = length gs in
      let a = length first in
      let b = length second in
      let front : List Message → List Message = λ l. Flow delete_entries ∷ Group delete_groups ∷ Barrier 3 ∷ l in
      let GS = map Group (groups_from 4 1 gs) in
      let A1 = map Flow (adds_from (suc (4 + n)) 0 0 first) in
      let A2 = map Flow (adds_from (suc (4 + n) + a) 1 0 second) in
      let e1 : m1 ≡ Flow delete_entries ∷ Group delete_groups ∷ [] = h.deletes ∙ ap (λ l. l ++ Flow delete_entries ∷ Group delete_groups ∷ []) h.empty in
      let e2 : m2 ≡ front [] = h.emptied ∙ ap (λ l. l ++ Barrier (length l + 1) ∷ []) e1 in
      let e3 : m3 ≡ front GS = h.groups ∙ ap (λ l. l ++ map Group (groups_from (length l + 1) 1 gs)) e2 in
      let k3 : length m3 ≡ 3 + n = third gs m0 m1 m2 m3 h.empty h.deletes h.emptied h.groups in
      let x3 : length m3 + 1 ≡ 4 + n = omega (arith, k3) in
      let e4 : m4 ≡ front (GS ++ Barrier (4 + n) ∷ []) = h.grouped ∙ (λ i. e3 i ++ Barrier (x3 i) ∷ []) in
      let k4 : length m4 ≡ 4 + n = ap length h.grouped ∙ length-append m3 (Barrier (length m3 + 1) ∷ []) ∙ omega (arith, k3) in
      let x4 : length m4 + 1 ≡ suc (4 + n) = omega (arith, k4) in
      let e5 : m5 ≡ front ((GS ++ Barrier (4 + n) ∷ []) ++ A1) = h.entries ∙ (λ i. e4 i ++ map Flow (adds_from (x4 i) 0 0 first)) in
      let l5 = length-map (adds_from (length m4 + 1) 0 0 first) Flow ∙ length_adds first (length m4 + 1) 0 0 in
      let k5 : length m5 ≡ 4 + n + a = ap length h.entries ∙ length-append m4 (map Flow (adds_from (length m4 + 1) 0 0 first)) ∙ omega (arith, k4, l5) in
      let x5 : length m5 + 1 ≡ suc (4 + n) + a = omega (arith, k5) in
      let e6 : m6 ≡ front (((GS ++ Barrier (4 + n) ∷ []) ++ A1) ++ A2) = h.others ∙ (λ i. e5 i ++ map Flow (adds_from (x5 i) 1 0 second)) in
      let l6 = length-map (adds_from (length m5 + 1) 1 0 second) Flow ∙ length_adds second (length m5 + 1) 1 0 in
      let k6 : length m6 ≡ 4 + n + a + b = ap length h.others ∙ length-append m5 (map Flow (adds_from (length m5 + 1) 1 0 second)) ∙ omega (arith, k5, l6) in
      let x6 : length m6 + 1 ≡ suc (4 + n) + a + b = omega (arith, k6) in
      let last = Barrier (suc (4 + n) + a + b) ∷ [] in
      let e7 : m7 ≡ front ((((GS ++ Barrier (4 + n) ∷ []) ++ A1) ++ A2) ++ last) = h.filled ∙ (λ i. e6 i ++ Barrier (x6 i) ∷ []) in
      e7 ∙ ap front (
      append_assoc ((GS ++ Barrier (4 + n) ∷ []) ++ A1) A2 last
      ∙ append_assoc (GS ++ Barrier (4 + n) ∷ []) A1 (A2 ++ last)
      ∙ append_assoc GS (Barrier (4 + n) ∷ []) (A1 ++ (A2 ++ last))
      ∙ ap (λ l. GS ++ Barrier (4 + n) ∷ l) (sym (append_assoc A1 A2 last)
      ∙ ap (λ l. l ++ last) (sym (map-append Flow (adds_from (suc (4 + n)) 0 0 first) (adds_from (suc (4 + n) + a) 1 0 second)))))
