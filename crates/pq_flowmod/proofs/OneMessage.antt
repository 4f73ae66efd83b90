-- Bytes begin with the spelling of one message at most.
use Rattle.std.proofs.Common.{◌≡◌, ℕ, ◌-◌, ◌^◌, ◌<◌, List, [], ◌∷◌, ◌++◌, length, get_or, take, drop, Option, Some, refl, sym, ap, subst, ◌∙◌, arith, inl, inr}
use Rattle.std.specs.Prelude.{All}
use Rattle.std.specs.List.{flat_map}
use Rattle.std.proofs.lemmas.Bool.{cases_lt, cases_eq}
use Rattle.std.proofs.lemmas.List.{drop_at, take_at, length-append}
use Rattle.std.proofs.lemmas.List.Elements.{All-nil, All-tail}
use Rattle.std.proofs.lemmas.List.Concat.{flat_map-cons}
use Rattle.pq_model.specs.declared.action.Action.{Action}
use Rattle.pq_model.specs.declared.flow_mod.FlowCommand.{FlowCommand}
use Rattle.pq_model.specs.declared.flow_mod.FlowCommand.TheVariants.{Add as AddFlow, DeleteAll, DeleteStrict}
use Rattle.pq_model.specs.declared.group_mod.GroupCommand.{GroupCommand}
use Rattle.pq_model.specs.declared.group_mod.GroupCommand.TheVariants.{Add as AddGroup, Modify, Delete}
use Rattle.pq_model.specs.declared.message.Message.{Message}
use Rattle.pq_model.specs.declared.message.Message.TheVariants.{Flow, Group as Grouping, Barrier}
use Rattle.pq_model.specs.Lawful.{IsLawfulAction, IsLawfulBucket, IsLawfulCommand, IsLawfulFlow, IsLawfulGroup, IsLawfulGrouping, IsLawfulMessage}
use Rattle.pq_model.specs.Mods.{FlowValue, GroupValue}
use Rattle.pq_model.specs.Spelling.{action_bytes, actions_bytes, apply_bytes, bucket_bytes, flow_body, flow_code, goto_bytes, group_body}
use Rattle.pq_model.specs.Spelling.{group_code, match_bytes, message_bytes}
use Rattle.pq_oxm.proofs.Whole.{one_match}
use Rattle.pq_flowmod.specs.Reading.{IsReadable, action_in, message_body, message_kind, message_xid}
use Rattle.pq_flowmod.proofs.ActionsRead.{action_long, action_read, action_told}
use Rattle.pq_flowmod.proofs.FlowLaws.{flow_is, goes_nowhere, goes_on, is_applied, not_applied}
use Rattle.pq_flowmod.proofs.Parts.{bucket_long, bucket_told, buckets_short, each_readable, flow_parted, group_below, group_parted}
use Rattle.pq_flowmod.proofs.Parts.{instructions_short, message_parted}

-- things whose spellings tell the first of them are told by the spellings of all
one_list : {A : Type 0} (spelling : A → List ℕ) (IsLawful : A → Type 0) → ((a : A) → IsLawful a → 0 < length (spelling a)) →
    ((a b : A) (more others : List ℕ) → IsLawful a → IsLawful b → spelling a ++ more ≡ spelling b ++ others → (a ≡ b) × (more ≡ others)) →
    (as_ bs : List A) → All IsLawful as_ → All IsLawful bs → flat_map spelling as_ ≡ flat_map spelling bs → as_ ≡ bs
one_list spelling IsLawful long first [] [] law other same = refl
one_list spelling IsLawful long first [] (b ∷ bs) law other same =
    absurd (omega (arith, long b (other 0 b (omega arith)), ap length (same ∙ flat_map-cons spelling b bs), length-append (spelling b) (flat_map spelling bs)))
one_list spelling IsLawful long first (a ∷ as_) [] law other same =
    absurd (omega (
      arith,
      long a (law 0 a (omega arith)),
      ap length (sym same ∙ flat_map-cons spelling a as_),
      length-append (spelling a) (flat_map spelling as_),
    ))
one_list {A} spelling IsLawful long first (a ∷ as_) (b ∷ bs) law other same =
    let next = first a b (flat_map spelling as_) (flat_map spelling bs) (law 0 a (omega arith)) (other 0 b (omega arith))
    (sym (flat_map-cons spelling a as_) ∙ same ∙ flat_map-cons spelling b bs) in
    let tail : as_ ≡ bs = one_list spelling IsLawful long first as_ bs (All-tail IsLawful a as_ law) (All-tail IsLawful b bs other) next.1 in
    λ i. next.0 i ∷ tail i

first_action : (a b : Action) (more others : List ℕ) → IsLawfulAction a → IsLawfulAction b
    → action_bytes a ++ more ≡ action_bytes b ++ others → (a ≡ b) × (more ≡ others)
first_action a b more others law other same =
    let bytes : List ℕ = action_bytes a ++ more in
    let long : length (action_bytes a) ≡ length (action_bytes b) = sym (action_told bytes a more law refl).told
    ∙ (action_told bytes b others other same).told in
    let front : action_bytes a ≡ action_bytes b = sym (take_at (action_bytes a) more (length (action_bytes a)) refl)
    ∙ ap (take (length (action_bytes a))) same ∙ take_at (action_bytes b) others (length (action_bytes a)) (sym long) in
    let behind : more ≡ others = sym (drop_at (action_bytes a) more (length (action_bytes a)) refl)
    ∙ ap (drop (length (action_bytes a))) same ∙ drop_at (action_bytes b) others (length (action_bytes a)) (sym long) in
    let read : Some a ≡ Some b = sym (action_read a law) ∙ ap action_in front ∙ action_read b other in
    (cc, behind)

-- the spellings of lawful actions tell them
one_action_list : (as_ bs : List Action) → All IsLawfulAction as_ → All IsLawfulAction bs → actions_bytes as_ ≡ actions_bytes bs → as_ ≡ bs
one_action_list = one_list action_bytes IsLawfulAction action_long first_action

first_bucket : (a b : List Action) (more others : List ℕ) → IsReadable a → IsReadable b → bucket_bytes a ++ more ≡ bucket_bytes b ++ others
    → (a ≡ b) × (more ≡ others)
first_bucket a b more others law other same =
    let bytes : List ℕ = bucket_bytes a ++ more in
    let one = bucket_told bytes a more law.1 refl in
    let two = bucket_told bytes b others other.1 same in
    let long : length (bucket_bytes a) ≡ length (bucket_bytes b) = sym one.told ∙ two.told in
    let inside : actions_bytes a ≡ actions_bytes b = sym one.inside ∙ ap (λ (k : ℕ). take (k - 16) (drop 16 bytes)) long ∙ two.inside in
    let behind : more ≡ others = sym (drop_at (bucket_bytes a) more (length (bucket_bytes a)) refl)
    ∙ ap (drop (length (bucket_bytes a))) same ∙ drop_at (bucket_bytes b) others (length (bucket_bytes a)) (sym long) in
    (one_action_list a b law.0 other.0 inside, behind)

-- the spellings of buckets tell them
one_bucket_list : (as_ bs : List (List Action)) → All IsReadable as_ → All IsReadable bs → flat_map bucket_bytes as_ ≡ flat_map bucket_bytes bs → as_ ≡ bs
one_bucket_list = one_list bucket_bytes IsReadable bucket_long first_bucket

-- instructions tell the bytes of the actions, and what is after them
one_parting : (as_ bs : List Action) (g h : Option ℕ) → length (apply_bytes as_ ++ goto_bytes g) < 2 ^ 16 → length (apply_bytes bs ++ goto_bytes h) < 2 ^ 16 →
    apply_bytes as_ ++ goto_bytes g ≡ apply_bytes bs ++ goto_bytes h → (actions_bytes as_ ≡ actions_bytes bs) × (goto_bytes g ≡ goto_bytes h)
one_parting as_ bs g h short other same =
    let bytes : List ℕ = apply_bytes as_ ++ goto_bytes g in
    elim (cases_lt (length bytes) 8) [
      | inl less ↦
          let one = not_applied as_ g bytes short refl (inl less) in
          let two = not_applied bs h bytes other same (inl less) in
          (sym one.0 ∙ two.0, sym one.1 ∙ two.1)
      | inr long ↦ elim (cases_eq (get_or bytes 1 0) 4) [
        | inl kind ↦
            let one = is_applied as_ g bytes short refl long kind in
            let two = is_applied bs h bytes other same long kind in
            let size : one.size ≡ two.size = sym one.told ∙ two.told in
            (sym one.inside ∙ ap (λ (k : ℕ). take (k - 8) (drop 8 bytes)) size ∙ two.inside, sym one.rest ∙ ap (λ (k : ℕ). drop k bytes) size ∙ two.rest)
        | inr none ↦
            let one = not_applied as_ g bytes short refl (inr none) in
            let two = not_applied bs h bytes other same (inr none) in
            (sym one.0 ∙ two.0, sym one.1 ∙ two.1)
      ]
    ]

one_goto : (g h : Option ℕ) → goto_bytes g ≡ goto_bytes h → g ≡ h
one_goto g h same =
    elim (cases_lt (length (goto_bytes g)) 8) [
      | inl less ↦ sym (goes_nowhere g (goto_bytes g) refl less) ∙ goes_nowhere h (goto_bytes g) same less
      | inr long ↦ sym (goes_on g (goto_bytes g) refl long) ∙ goes_on h (goto_bytes g) same long
    ]

one_code : (m n : FlowCommand) → flow_code m ≡ flow_code n → m ≡ n
one_code AddFlow AddFlow same = refl
one_code AddFlow DeleteAll same = absurd (omega (arith, same))
one_code AddFlow DeleteStrict same = absurd (omega (arith, same))
one_code DeleteAll AddFlow same = absurd (omega (arith, same))
one_code DeleteAll DeleteAll same = refl
one_code DeleteAll DeleteStrict same = absurd (omega (arith, same))
one_code DeleteStrict AddFlow same = absurd (omega (arith, same))
one_code DeleteStrict DeleteAll same = absurd (omega (arith, same))
one_code DeleteStrict DeleteStrict same = refl

one_group_code : (m n : GroupCommand) → group_code m ≡ group_code n → m ≡ n
one_group_code AddGroup AddGroup same = refl
one_group_code AddGroup Modify same = absurd (omega (arith, same))
one_group_code AddGroup Delete same = absurd (omega (arith, same))
one_group_code Modify AddGroup same = absurd (omega (arith, same))
one_group_code Modify Modify same = refl
one_group_code Modify Delete same = absurd (omega (arith, same))
one_group_code Delete AddGroup same = absurd (omega (arith, same))
one_group_code Delete Modify same = absurd (omega (arith, same))
one_group_code Delete Delete same = refl

-- the actions of a lawful flow mod are lawful
lawful_actions : (f : FlowValue) → IsLawfulFlow f → All IsLawfulAction f.actions
lawful_actions f law = by f.command law.command where
  by : (command : FlowCommand) → IsLawfulCommand command f → All IsLawfulAction f.actions
  by AddFlow allowed = allowed.1
  by DeleteAll allowed = subst (All IsLawfulAction) (sym allowed.4.0) (All-nil IsLawfulAction)
  by DeleteStrict allowed = subst (All IsLawfulAction) (sym allowed.2.0) (All-nil IsLawfulAction)

-- the buckets of a lawful group mod are lawful
lawful_buckets : (g : GroupValue) → IsLawfulGroup g → All IsLawfulBucket g.buckets
lawful_buckets g law = by g.command law.command where
  by : (command : GroupCommand) → IsLawfulGrouping command g → All IsLawfulBucket g.buckets
  by AddGroup allowed = allowed.1.1
  by Modify allowed = allowed.1.1
  by Delete allowed = subst (All IsLawfulBucket) (sym allowed.1) (All-nil IsLawfulBucket)

one_flow : (f h : FlowValue) → IsLawfulFlow f → IsLawfulFlow h → f.xid ≡ h.xid → length (flow_body f) < 2 ^ 16 → flow_body f ≡ flow_body h → f ≡ h
one_flow f h law other xid short same =
    let body : List ℕ = flow_body f in
    let one = flow_parted body f refl in
    let two = flow_parted body h same in
    let matching : f.matching ≡ h.matching = one_match f.matching h.matching _ _ law.matching other.matching (sym one.rest ∙ two.rest) in
    let rests : match_bytes f.matching ++ (apply_bytes f.actions ++ goto_bytes f.goto) ≡ match_bytes f.matching
    ++ (apply_bytes h.actions ++ goto_bytes h.goto) =
    sym one.rest ∙ two.rest ∙ ap (λ (m : _). match_bytes m ++ (apply_bytes h.actions ++ goto_bytes h.goto)) (sym matching) in
    let behind : apply_bytes f.actions ++ goto_bytes f.goto ≡ apply_bytes h.actions ++ goto_bytes h.goto =
    sym (drop_at (match_bytes f.matching) _ (length (match_bytes f.matching)) refl) ∙ ap (drop (length (match_bytes f.matching))) rests
    ∙ drop_at (match_bytes f.matching) _ (length (match_bytes f.matching)) refl in
    let parts = one_parting f.actions h.actions f.goto h.goto (instructions_short body f refl short)
    (instructions_short body h same (subst (λ (bs : List ℕ). length bs < 2 ^ 16) same short)) behind in
    flow_is h f.xid f.cookie f.table f.command f.priority f.matching f.actions f.goto xid (sym (one.cookie law.cookie)
    ∙ two.cookie other.cookie) (sym one.table ∙ two.table)
    (one_code f.command h.command (sym one.command ∙ two.command)) (sym (one.priority law.priority) ∙ two.priority other.priority) matching
    (one_action_list f.actions h.actions (lawful_actions f law) (lawful_actions h other) parts.0) (one_goto f.goto h.goto parts.1)

one_group : (g h : GroupValue) → IsLawfulGroup g → IsLawfulGroup h → g.xid ≡ h.xid → length (group_body g) < 2 ^ 16 → group_body g ≡ group_body h → g ≡ h
one_group g h law other xid short same =
    let body : List ℕ = group_body g in
    let one = group_parted body g refl in
    let two = group_parted body h same in
    let command : g.command ≡ h.command = one_group_code g.command h.command (sym one.command ∙ two.command) in
    let group : g.group ≡ h.group = sym (one.group (group_below g law)) ∙ two.group (group_below h other) in
    let buckets : g.buckets ≡ h.buckets = one_bucket_list g.buckets h.buckets
    (each_readable g.buckets (lawful_buckets g law) (buckets_short body g refl short))
    (each_readable h.buckets (lawful_buckets h other) (buckets_short body h same (subst (λ (bs : List ℕ). length bs < 2 ^ 16) same short)))
    (sym one.rest ∙ two.rest) in
    λ i. record { xid = xid i; command = command i; group = group i; buckets = buckets i }

one_content : (m n : Message) → IsLawfulMessage m → IsLawfulMessage n → message_kind m ≡ message_kind n → message_xid m ≡ message_xid n
    → length (message_body m) < 2 ^ 16 → message_body m ≡ message_body n → m ≡ n
one_content (Flow f) (Flow h) law other kind xid short same = ap Flow (one_flow f h law.content other.content xid short same)
one_content (Flow f) (Grouping h) law other kind xid short same = absurd (omega (arith, kind))
one_content (Flow f) (Barrier h) law other kind xid short same = absurd (omega (arith, kind))
one_content (Grouping f) (Flow h) law other kind xid short same = absurd (omega (arith, kind))
one_content (Grouping f) (Grouping h) law other kind xid short same = ap Grouping (one_group f h law.content other.content xid short same)
one_content (Grouping f) (Barrier h) law other kind xid short same = absurd (omega (arith, kind))
one_content (Barrier f) (Flow h) law other kind xid short same = absurd (omega (arith, kind))
one_content (Barrier f) (Grouping h) law other kind xid short same = absurd (omega (arith, kind))
one_content (Barrier f) (Barrier h) law other kind xid short same = ap Barrier xid

-- one spelling alone begins the bytes
pub one_message : (m n : Message) (more others : List ℕ) → IsLawfulMessage m → IsLawfulMessage n → message_bytes m ++ more ≡ message_bytes n ++ others → m ≡ n
one_message m n more others law other same =
    let bytes : List ℕ = message_bytes m ++ more in
    let one = message_parted bytes m more law refl in
    let two = message_parted bytes n others other same in
    let long : length (message_body m) ≡ length (message_body n) = omega (arith, sym one.told ∙ two.told) in
    one_content m n law other (sym one.kind ∙ two.kind) (sym one.xid ∙ two.xid) (omega (arith, one.short))
    (sym one.body ∙ ap (λ (k : ℕ). take k (drop 8 bytes)) long ∙ two.body)
