-- Messages appended one after another.
use Rattle.std.proofs.Common.{◌≡◌, ℕ, suc, ◌+◌, ◌-◌, ◌<◌, Bool, true, false, ◌&&◌, not, cond, List, [], ◌∷◌, ◌++◌, length, map, refl, sym}
use Rattle.std.proofs.Common.{ap, ◌∙◌, append_assoc, append-nil, arith}
use Rattle.std.specs.Cmp.Lexicographic.{pointwise}
use Rattle.std.specs.List.{cons_option}
use Rattle.std.specs.declared.option.Option.{Option}
use Rattle.std.specs.declared.option.Option.TheVariants.{None, Some}
use Rattle.std.proofs.lemmas.List.{length_push}
use Rattle.indexmap.specs.IndexSet.{insert_all}
use Rattle.pq_model.specs.declared.message.Message.{Message}
use Rattle.pq_model.specs.declared.message.Message.TheVariants.{Flow, Group}
use Rattle.pq_model.specs.Mods.{FlowValue}
use Rattle.pq_model.specs.SwitchMachine.{Entry}
use Rattle.pq_delta.specs.Added.{entries_added, entry_added}
use Rattle.pq_delta.specs.Changes.{add_of, adds_from, delete_of, deletes_from, group_delete_of, group_deletes_from}
use Rattle.pq_delta.specs.Equal.{is_among, others, same_entry}

module _ (one : ℕ → Entry → FlowValue) (from : ℕ → List Entry → List FlowValue) (none : (x : ℕ)
    → from x [] ≡ []) (more : (x : ℕ) (e : Entry) (es : List Entry) → from x (e ∷ es) ≡ one x e ∷ from (suc x) es) where
  -- the messages of what is left, after those of one message
  flow_step : (keys : List Entry) (before after : List Message) (m : Message) (rest : List Message)
      → after ≡ before ++ map Flow (from (length before + 1) (others keys (entries_added (m ∷ []))))
      → after ++ map Flow (from (length after + 1) (others keys (entries_added rest))) ≡ before
      ++ map Flow (from (length before + 1) (others keys (entries_added (m ∷ rest))))
  flow_step keys before after m rest is = by (entry_added m) is
    where
      same : after ≡ before ++ map Flow (from (length before + 1) [])
          → after ++ map Flow (from (length after + 1) (others keys (entries_added rest))) ≡ before
          ++ map Flow (from (length before + 1) (others keys (entries_added rest)))
      same is =
          let one : after ≡ before = is ∙ ap (λ l. before ++ map Flow l) (none (length before + 1)) ∙ append-nil before in
          ap (λ l. l ++ map Flow (from (length l + 1) (others keys (entries_added rest)))) one

      put : (e : Entry) → after ≡ before ++ map Flow (from (length before + 1) (e ∷ []))
          → after ++ map Flow (from (length after + 1) (others keys (entries_added rest))) ≡ before
          ++ map Flow (from (length before + 1) (e ∷ others keys (entries_added rest)))
      put e is =
          let longer : after ≡ before ++ Flow (one (length before + 1) e) ∷ [] = is
          ∙ ap (λ l. before ++ map Flow l) (more (length before + 1) e []
          ∙ ap (λ l. one (length before + 1) e ∷ l) (none (suc (length before + 1)))) in
          let next : length after + 1 ≡ suc (length before + 1) = let long = ap length longer
          ∙ length_push before (Flow (one (length before + 1) e)) in omega (arith, long) in
          ap (λ x. after ++ map Flow (from x (others keys (entries_added rest)))) next
          ∙ ap (λ l. l ++ map Flow (from (suc (length before + 1)) (others keys (entries_added rest)))) longer
          ∙ append_assoc before (Flow (one (length before + 1) e) ∷ []) (map Flow (from (suc (length before + 1)) (others keys (entries_added rest))))
          ∙ ap (λ l. before ++ map Flow l) (sym (more (length before + 1) e (others keys (entries_added rest))))

      known : (e : Entry) (b : Bool) → after ≡ before ++ map Flow (from (length before + 1) (cond (not b) (e ∷ []) []))
          → after ++ map Flow (from (length after + 1) (others keys (entries_added rest))) ≡ before
          ++ map Flow (from (length before + 1)
          (cond (not b) (e ∷ others keys (entries_added rest)) (others keys (entries_added rest))))
      known e true is = same is
      known e false is = put e is

      by : (o : Option Entry) → after ≡ before ++ map Flow (from (length before + 1) (others keys (cons_option o [])))
          → after ++ map Flow (from (length after + 1) (others keys (entries_added rest))) ≡ before
          ++ map Flow (from (length before + 1) (others keys (cons_option o (entries_added rest))))
      by None is = same is
      by (Some e) is = known e (is_among e keys) is

pub delete_step : (keys : List Entry) (before after : List Message) (m : Message) (rest : List Message)
    → after ≡ before ++ map Flow (deletes_from (length before + 1) (others keys (entries_added (m ∷ []))))
    → after ++ map Flow (deletes_from (length after + 1) (others keys (entries_added rest))) ≡ before
    ++ map Flow (deletes_from (length before + 1) (others keys (entries_added (m ∷ rest))))
delete_step = flow_step delete_of deletes_from (λ x. refl) (λ x e es. refl)

pub add_step : (keys : List Entry) (before after : List Message) (m : Message) (rest : List Message)
    → after ≡ before ++ map Flow (adds_from (length before + 1) (others keys (entries_added (m ∷ []))))
    → after ++ map Flow (adds_from (length after + 1) (others keys (entries_added rest))) ≡ before
    ++ map Flow (adds_from (length before + 1) (others keys (entries_added (m ∷ rest))))
add_step = flow_step add_of adds_from (λ x. refl) (λ x e es. refl)

-- what is left, after the entry of one message
pub key_step : (keys : List Entry) (m : Message) (rest : List Message)
    → insert_all same_entry (insert_all same_entry keys (entries_added (m ∷ []))) (entries_added rest) ≡ insert_all same_entry keys (entries_added (m ∷ rest))
key_step keys m rest = by (entry_added m)
  where
    by : (o : Option Entry) → insert_all same_entry (insert_all same_entry keys (cons_option o [])) (entries_added rest)
        ≡ insert_all same_entry keys (cons_option o (entries_added rest))
    by None = refl
    by (Some e) = refl

-- Groups.

-- after the DELETE of one group those of the groups above it are left
pub group_delete_step : (before after : List Message) (k groups : ℕ) → k < groups → after ≡ before ++ Group (group_delete_of (length before + 1) (k + 1)) ∷ []
    → after ++ map Group (group_deletes_from (length after + 1) (suc (k + 1)) (groups - (k + 1))) ≡ before
    ++ map Group (group_deletes_from (length before + 1) (suc k) (groups - k))
group_delete_step before after k groups less is =
    let next : length after + 1 ≡ suc (length before + 1) = let long = ap length is
    ∙ length_push before (Group (group_delete_of (length before + 1) (k + 1))) in omega (arith, long) in
    let number : k + 1 ≡ suc k = omega arith in
    let left : groups - k ≡ suc (groups - (k + 1)) = omega (arith, less) in
    ap (λ x. after ++ map Group (group_deletes_from x (suc (k + 1)) (groups - (k + 1)))) next
    ∙ ap (λ l. l ++ map Group (group_deletes_from (suc (length before + 1)) (suc (k + 1)) (groups - (k + 1)))) is
    ∙ append_assoc before (Group (group_delete_of (length before + 1) (k + 1)) ∷ [])
    (map Group (group_deletes_from (suc (length before + 1)) (suc (k + 1)) (groups - (k + 1))))
    ∙ ap (λ j. before ++ Group (group_delete_of (length before + 1) j) ∷ map Group
    (group_deletes_from (suc (length before + 1)) (suc j) (groups - (k + 1)))) number
    ∙ ap (λ n. before ++ map Group (group_deletes_from (length before + 1) (suc k) n)) (sym left)

-- the buckets of two groups as vectors hold them
pub mapped : {A B : Type 0} (E : B → B → Bool) (f : A → B) (xs ys : List A) → pointwise (λ x y. E (f x) (f y)) xs ys ≡ pointwise E (map f xs) (map f ys)
mapped E f [] [] = refl
mapped E f [] (y ∷ ys) = refl
mapped E f (x ∷ xs) [] = refl
mapped E f (x ∷ xs) (y ∷ ys) = ap (λ b. E (f x) (f y) && b) (mapped E f xs ys)
