-- The parts of the spellings of messages, and where they are.
use Rattle.std.proofs.Common.{◌≡◌, ℕ, ◌+◌, ◌-◌, ◌^◌, ◌<◌, ◌≤◌, List, [], ◌∷◌, ◌++◌, length, get_or, take, drop, replicate, Some, refl, sym}
use Rattle.std.proofs.Common.{ap, subst, ◌∙◌, append_assoc, arith, inl, inr}
use Rattle.std.specs.Prelude.{All}
use Rattle.std.specs.List.{flat_map}
use Rattle.std.specs.Int.{w16, w32, w64, to_be_bytes, from_be_bytes}
use Rattle.std.proofs.lemmas.Nat.{from_be_bytes-to_be_bytes_8}
use Rattle.std.proofs.lemmas.List.{take_at, take_rest, drop_at, length-append, length-drop}
use Rattle.std.proofs.lemmas.List.Elements.{All-cons, All-nil, All-tail}
use Rattle.std.proofs.lemmas.List.Concat.{flat_map-cons}
use Rattle.std.proofs.lemmas.Option.{same_Some}
use Rattle.pq_model.specs.declared.action.Action.{Action}
use Rattle.pq_model.specs.declared.message.Message.{Message}
use Rattle.pq_model.specs.declared.message.Message.TheVariants.{Flow, Group as Grouping, Barrier}
use Rattle.pq_model.specs.Mods.{FlowValue, GroupValue}
use Rattle.pq_model.specs.Lawful.{IsLawfulBucket, IsLawfulContent, IsLawfulGroup, IsLawfulGrouping, IsLawfulMessage}
use Rattle.pq_model.specs.declared.group_mod.GroupCommand.{GroupCommand}
use Rattle.pq_model.specs.declared.group_mod.GroupCommand.TheVariants.{Add as AddGroup, Modify, Delete}
use Rattle.pq_model.specs.Spelling.{actions_bytes, apply_bytes, goto_bytes, match_bytes, flow_code, flow_body, bucket_bytes, group_code}
use Rattle.pq_model.specs.Spelling.{group_body, with_header, message_bytes}
use Rattle.pq_flowmod.specs.Reading.{IsReadable, message_kind, message_xid, message_body}
use Rattle.pq_oxm.proofs.Numbers.{reads_16, reads_32}

-- a bucket tells its length, and its actions are after its header
pub record IsBucket (bytes actions : List ℕ) (size : ℕ) : Type 0 where
  pub told : from_be_bytes w16 (get_or bytes 0 0 ∷ get_or bytes 1 0 ∷ []) ≡ size
  pub long : 16 ≤ size
  pub within : size ≤ length bytes
  pub inside : take (size - 16) (drop 16 bytes) ≡ actions

pub bucket_sized : (actions : List Action) (more : List ℕ) → length (bucket_bytes actions) < 2 ^ 16
    → IsBucket (bucket_bytes actions ++ more) (actions_bytes actions) (length (bucket_bytes actions))
unfolding bucket_bytes
bucket_sized actions more short =
    let spelled : List ℕ = actions_bytes actions in
    let size : ℕ = 16 + length spelled in
    let long : length (bucket_bytes actions) ≡ size = omega arith in
    rw long (record {
      told = reads_16.again size (omega (arith, short, long));
      long = omega arith;
      within = omega (arith, length-append spelled more);
      inside = take_at spelled more (size - 16) (omega arith);
    })

-- the instructions of an entry
pub record HasActions (bytes actions behind : List ℕ) : Type 0 where
  pub kind : get_or bytes 1 0 ≡ 4
  pub size : ℕ
  pub told : from_be_bytes w16 (get_or bytes 2 0 ∷ get_or bytes 3 0 ∷ []) ≡ size
  pub long : 8 ≤ size
  pub within : size ≤ length bytes
  pub inside : take (size - 8) (drop 8 bytes) ≡ actions
  pub rest : drop size bytes ≡ behind

pub has_actions : (a : Action) (others : List Action) (behind : List ℕ) → length (apply_bytes (a ∷ others) ++ behind) < 2 ^ 16
    → HasActions (apply_bytes (a ∷ others) ++ behind) (actions_bytes (a ∷ others)) behind
unfolding apply_bytes
has_actions a others behind short =
    let spelled : List ℕ = actions_bytes (a ∷ others) in
    let count : ℕ = 8 + length spelled in
    record {
      kind = refl;
      size = count;
      told = reads_16.again count (omega (arith, short, length-append spelled behind));
      long = omega arith;
      within = omega (arith, length-append spelled behind);
      inside = take_at spelled behind (count - 8) (omega arith);
      rest = drop_at (0 ∷ 4 ∷ (to_be_bytes w16 count ++ replicate 4 0 ++ spelled)) behind count (omega arith);
    }

-- a flow mod after its header
pub record IsFlow (body : List ℕ) (f : FlowValue) : Type 0 where
  pub long : 40 ≤ length body
  pub cookie : f.cookie < 2 ^ 64 → from_be_bytes w64 (take 8 body) ≡ f.cookie
  pub table : get_or body 16 0 ≡ f.table
  pub command : get_or body 17 0 ≡ flow_code f.command
  pub priority : f.priority < 2 ^ 16 → from_be_bytes w16 (take 2 (drop 22 body)) ≡ f.priority
  pub rest : drop 40 body ≡ match_bytes f.matching ++ (apply_bytes f.actions ++ goto_bytes f.goto)

regrouped : (a b c d e f g h i : List ℕ) → a ++ b ++ c ++ d ++ e ++ f ++ g ++ h ++ i ≡ (a ++ b ++ c ++ d ++ e ++ f) ++ (g ++ (h ++ i))
regrouped a b c d e f g h i = simp append_assoc

pub flow_parted : (body : List ℕ) (f : FlowValue) → body ≡ flow_body f → IsFlow body f
unfolding flow_body
flow_parted body f is =
    let front : List ℕ = to_be_bytes w64 f.cookie ++ replicate 8 0 ++ f.table ∷ flow_code f.command ∷ 0 ∷ 0 ∷ 0 ∷ 0 ∷ []
    ++ to_be_bytes w16 f.priority ++ replicate 12 0xff ++ replicate 4 0 in
    let behind : List ℕ = match_bytes f.matching ++ (apply_bytes f.actions ++ goto_bytes f.goto) in
    let parted : body ≡ front ++ behind = is
    ∙ regrouped (to_be_bytes w64 f.cookie) (replicate 8 0) (f.table ∷ flow_code f.command ∷ 0 ∷ 0 ∷ 0 ∷ 0 ∷ [])
    (to_be_bytes w16 f.priority) (replicate 12 0xff) (replicate 4 0) (match_bytes f.matching) (apply_bytes f.actions)
    (goto_bytes f.goto) in
    rw parted (record {
      long = omega arith;
      cookie = λ below. from_be_bytes-to_be_bytes_8 f.cookie below;
      table = refl;
      command = refl;
      priority = λ below. reads_16.again f.priority below;
      rest = refl;
    })

-- a group mod after its header
pub record IsGroup (body : List ℕ) (g : GroupValue) : Type 0 where
  pub long : 8 ≤ length body
  pub command : get_or body 1 0 ≡ group_code g.command
  pub group : g.group < 2 ^ 32 → from_be_bytes w32 (take 4 (drop 4 body)) ≡ g.group
  pub rest : drop 8 body ≡ flat_map bucket_bytes g.buckets

pub group_parted : (body : List ℕ) (g : GroupValue) → body ≡ group_body g → IsGroup body g
unfolding group_body
group_parted body g is = rw is (record {
  long = omega arith;
  command = refl;
  group = λ below. reads_32.again g.group below;
  rest = refl;
})

-- a message: its header, and what is after it
pub record IsMessage (bytes : List ℕ) (m : Message) : Type 0 where
  pub kind : get_or bytes 1 0 ≡ message_kind m
  pub told : from_be_bytes w16 (get_or bytes 2 0 ∷ get_or bytes 3 0 ∷ []) ≡ 8 + length (message_body m)
  pub xid : from_be_bytes w32 (take 4 (drop 4 bytes)) ≡ message_xid m
  pub within : 8 + length (message_body m) ≤ length bytes
  pub body : take (length (message_body m)) (drop 8 bytes) ≡ message_body m
  pub short : 8 + length (message_body m) < 2 ^ 16

xid_below : (m : Message) → IsLawfulContent m → message_xid m < 2 ^ 32
xid_below (Flow f) law = law.xid
xid_below (Grouping g) law = law.xid
xid_below (Barrier xid) law = law

spelled : (m : Message) → message_bytes m ≡ with_header (message_kind m) (message_xid m) (message_body m)
unfolding message_bytes
spelled (Flow f) = refl
spelled (Grouping g) = refl
spelled (Barrier xid) = refl

header_parted : (bytes : List ℕ) (m : Message) (more : List ℕ) (kind xid : ℕ) (body : List ℕ) → xid < 2 ^ 32
    → length (with_header kind xid body) < 2 ^ 16 → bytes ≡ with_header kind xid body ++ more →
    (get_or bytes 1 0 ≡ kind) × (from_be_bytes w16 (get_or bytes 2 0 ∷ get_or bytes 3 0 ∷ []) ≡ 8 + length body)
    × (from_be_bytes w32 (take 4 (drop 4 bytes)) ≡ xid)
    × (8 + length body ≤ length bytes) × (take (length body) (drop 8 bytes) ≡ body) × (8 + length body < 2 ^ 16)
unfolding with_header
header_parted bytes m more kind xid body below short is =
    rw is (
      refl,
      reads_16.again (8 + length body) (omega (arith, short)),
      reads_32.again xid below,
      omega (arith, length-append body more),
      take_at body more (length body) refl,
      omega (arith, short),
    )

pub message_parted : (bytes : List ℕ) (m : Message) (more : List ℕ) → IsLawfulMessage m → bytes ≡ message_bytes m ++ more → IsMessage bytes m
message_parted bytes m more law is =
    let parts = header_parted bytes m more (message_kind m) (message_xid m) (message_body m) (xid_below m law.content)
    (subst (λ (bs : List ℕ). length bs < 2 ^ 16) (spelled m) law.short) (is ∙ ap (λ (bs : List ℕ). bs ++ more) (spelled m)) in
    record { kind = parts.0; told = parts.1; xid = parts.2; within = parts.3; body = parts.4; short = parts.5 }

pub bucket_told : (bytes : List ℕ) (actions : List Action) (more : List ℕ) → length (bucket_bytes actions) < 2 ^ 16
    → bytes ≡ bucket_bytes actions ++ more → IsBucket bytes (actions_bytes actions) (length (bucket_bytes actions))
bucket_told bytes actions more short is = rw is (bucket_sized actions more short)

-- the actions of the bucket at the front, and what follows it
pub bucket_next : (rest : List ℕ) (size : ℕ) (actions : List Action) (more : List ℕ) → IsReadable actions → rest ≡ bucket_bytes actions ++ more →
    Some size ≡ Some (length (bucket_bytes actions))
    → (take (size - 16) (drop 16 rest) ≡ actions_bytes actions) × (take (length rest - size) (drop size rest) ≡ more)
bucket_next rest size actions more law is told =
    let long : length (bucket_bytes actions) ≡ size = sym (same_Some _ _ told) in
    let sized = bucket_told rest actions more law.1 is in (
      ap (λ (k : ℕ). take (k - 16) (drop 16 rest)) (sym long) ∙ sized.inside,
      take_rest rest size ∙ ap (drop size) is
          ∙ drop_at (bucket_bytes actions) more size long,
    )

-- a spelling has bytes
pub bucket_long : (actions : List Action) → IsReadable actions → 0 < length (bucket_bytes actions)
bucket_long actions law = omega (arith, (bucket_sized actions [] law.1).long)

-- the buckets of a message can be read
pub each_readable : (buckets : List (List Action)) → All IsLawfulBucket buckets → length (flat_map bucket_bytes buckets) < 2 ^ 16 → All IsReadable buckets
each_readable [] law short = All-nil IsReadable
each_readable (b ∷ bs) law short =
    let parts : length (flat_map bucket_bytes (b ∷ bs)) ≡ length (bucket_bytes b) + length (flat_map bucket_bytes bs) =
    ap length (flat_map-cons bucket_bytes b bs) ∙ length-append (bucket_bytes b) (flat_map bucket_bytes bs) in
    All-cons IsReadable b bs ((law 0 b (omega arith)).each, omega (arith, parts, short))
    (each_readable bs (All-tail IsLawfulBucket b bs law) (omega (arith, parts, short)))

-- the instructions of a message are short
pub instructions_short : (body : List ℕ) (f : FlowValue) → body ≡ flow_body f → length (flow_body f) < 2 ^ 16
    → length (apply_bytes f.actions ++ goto_bytes f.goto) < 2 ^ 16
instructions_short body f is short =
    let behind : List ℕ = apply_bytes f.actions ++ goto_bytes f.goto in
    omega (arith, short, ap length is, ap length (flow_parted body f is).rest, length-drop 40 body, length-append (match_bytes f.matching) behind)

-- the number of a group has 32 bits
pub group_below : (g : GroupValue) → IsLawfulGroup g → g.group < 2 ^ 32
group_below g law = by g.command law.command where
  by : (command : GroupCommand) → IsLawfulGrouping command g → g.group < 2 ^ 32
  by AddGroup allowed = omega (arith, allowed.0.1)
  by Modify allowed = omega (arith, allowed.0.1)
  by Delete allowed = elim allowed.0 [ inl number ↦ omega (arith, number.1) | inr all ↦ omega (arith, all) ]

-- the buckets of a message are short
pub buckets_short : (body : List ℕ) (g : GroupValue) → body ≡ group_body g → length (group_body g) < 2 ^ 16 → length (flat_map bucket_bytes g.buckets) < 2 ^ 16
buckets_short body g is short = omega (arith, short, ap length is, ap length (group_parted body g is).rest, length-drop 8 body)
