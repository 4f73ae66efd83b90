-- What table 1 sends for a packet with a tag.
use Rattle.std.proofs.Common.{◌≡◌, inl, inr, ℕ, Bool, true, false, if◌then◌else◌, List, [], ◌∷◌, ◌++◌, map, Some, None, All, refl, ap, ◌∙◌, append-nil}
use Rattle.std.proofs.lemmas.Bool.{false≢true}
use Rattle.std.specs.Prelude.{◌==◌}
use Rattle.std.specs.FinMap.{get}
use Rattle.std.specs.List.{AllByRecursion, flat_map}
use Rattle.std.specs.Option.{option_map}
use Rattle.std.specs.declared.option.Option.{Option}
use Rattle.std.proofs.lemmas.List.Elements.{recursion_from_All}
use Rattle.pq_lists.proofs.Holding.{all_weaker}
use Rattle.pq_fields.specs.declared.field.Field.TheVariants.{Port}
use Rattle.pq_fields.specs.Packet.{Numbers, Fit}
use Rattle.pq_model.specs.declared.tagged.Sent.{Sent}
use Rattle.pq_model.specs.Renewal.{added_groups}
use Rattle.pq_model.specs.SwitchMachine.{Entry, Groups, changed_by, buckets_in, emits, emits_in_bucket, runs, sent_by_entry, sent_onward}
use Rattle.pq_model.specs.Tagged.{TaggedPacket}
use Rattle.pq_rewrite.specs.declared.outgoing.Outgoing.{Outgoing}
use Rattle.pq_rewrite.specs.Rewriting.{ChangesAll}
use Rattle.pq_store.specs.Tree.{Tree, value}
use Rattle.pq_store.specs.Tree.Tree.{Tip, Fork}
use Rattle.pq_store.specs.Test.{passes}
use Rattle.pq_layout.specs.Actions.{buckets_of, tag_word}
use Rattle.pq_layout.specs.Messages.{Buckets, LeavingTrees, Rule, group_needed, group_number, groups_from, groups_of, is_without}
use Rattle.pq_layout.specs.Messages.{leaving_actions, leaving_entries, second_rule, second_rules}
use Rattle.pq_layout.specs.Sending.{copy_sent, said_by}
use Rattle.pq_layout.specs.Sound.{AllLeaves, AreSoundLeaving, IsMatchable, IsSoundCopy, IsSoundLeaving}
use Rattle.pq_lookup.specs.Lookup.{first_covering}
use Rattle.pq_lookup.proofs.Copying.{IsSendable, buckets-run, copy-runs, entry-emits}
use Rattle.pq_lookup.proofs.Grouped.{IsIn, first-in, group-there, in-groups}
use Rattle.pq_lookup.proofs.Tables.{IsTold, table-tells}
use Rattle.pq_lookup.proofs.Taken.{found, found-map, rule_of}

-- Rules in place of entries.

abbrev pub sent_by_rule : (ℕ → TaggedPacket → List Sent) → Groups → TaggedPacket → Option Rule → List Sent
sent_by_rule onward groups x None = []
sent_by_rule onward groups x (Some r) = runs (emits groups) r.actions x ++ sent_onward onward r.goto (changed_by r.actions x)

pub rule-sends : (onward : ℕ → TaggedPacket → List Sent) (groups : Groups) (x : TaggedPacket) (o : Option Entry)
    → sent_by_entry onward groups x o ≡ sent_by_rule onward groups x (option_map rule_of o)
rule-sends onward groups x None = refl
rule-sends onward groups x (Some e) = refl

-- What holds of leaves.

-- what holds of each leaf holds of the one that a packet reaches
all-value : {L : Type 0} (P : L → Type 0) (t : Tree L) → AllLeaves P t → (x : Numbers) → P (value t x)
all-value P (Tip l) h x = h
all-value P (Fork s y n) h x = by (passes s x) (all-value P y h.0 x) (all-value P n h.1 x)
  where
    by : (b : Bool) → P (value y x) → P (value n x) → P (if b then value y x else value n x)
    by true k l = k
    by false k l = l

-- and of what is said, where it holds of the default
pub said-holds : {L : Type 0} (P : L → Type 0) (default : L) → P default → (word : ℕ) (x : Numbers) (ps : List (ℕ × Tree L))
    → AllByRecursion (λ p. P (value p.1 x)) ps → P (said_by ps default word x)
said-holds P default h word x [] all = h
said-holds P default h word x (p ∷ ps) (here, all) = by (p.0 == word) (said-holds P default h word x ps all)
  where
    by : (b : Bool) → P (said_by ps default word x) → P (if b then value p.1 x else said_by ps default word x)
    by true k = here
    by false k = k

all-both : {A : Type 0} (P Q R : A → Type 0) → ((a : A) → P a → Q a → R a) → (xs : List A) → AllByRecursion P xs → AllByRecursion Q xs → AllByRecursion R xs
all-both P Q R h [] p q = tt
all-both P Q R h (x ∷ xs) (p, ps) (q, qs) = (h x p q, all-both P Q R h xs ps qs)

sendable : (x : Numbers) (c : Outgoing) → IsSoundCopy c → ChangesAll x c.writes → IsSendable x c
sendable x c sound changes = record { port = sound.port; other = λ p is. (changes Port p is).1 }

-- the copies that a tree says of a packet may be sent
tree-sendable : (x : Numbers) → Fit x → (p : ℕ × Tree (List Outgoing)) → IsSoundLeaving p.0 p.1 → AllByRecursion (IsSendable x) (value p.1 x)
tree-sendable x fit p sound =
    all-both IsSoundCopy (λ c. ChangesAll x c.writes) (IsSendable x) (sendable x) (value p.1 x)
    (recursion_from_All IsSoundCopy (value p.1 x) (all-value (All IsSoundCopy) p.1 sound.leaves x))
    (recursion_from_All (λ c. ChangesAll x c.writes) (value p.1 x) (sound.idle_free x fit))

module _ (second : LeavingTrees) (sound : AreSoundLeaving second) where
  each : AllByRecursion (λ p. IsSoundLeaving p.0 p.1) second
  each = recursion_from_All (λ p. IsSoundLeaving p.0 p.1) second sound.each

  matchable : AllByRecursion (λ p. IsMatchable p.1) second
  matchable = all_weaker (λ p. IsSoundLeaving p.0 p.1) (λ p. IsMatchable p.1) (λ p h. h.matchable) second each

  said-sendable : (word : ℕ) (x : Numbers) → Fit x → AllByRecursion (IsSendable x) (said_by second [] word x)
  said-sendable word x fit = said-holds (AllByRecursion (IsSendable x)) [] tt word x second
      (all_weaker (λ p. IsSoundLeaving p.0 p.1) (λ p. AllByRecursion (IsSendable x) (value p.1 x)) (tree-sendable x fit) second each)

  abbrev groups : List Buckets
  groups = groups_of (leaving_entries second)

  abbrev added : Groups
  added = added_groups (groups_from 4 1 groups)

  -- the actions of a leaf send its copies
  leaf-runs : (x : Numbers) (t : ℕ) (cs : List Outgoing) → AllByRecursion (IsSendable x) cs → ((b : Buckets) → group_needed cs ≡ Some b → IsIn b groups) →
      runs (emits added) (leaving_actions groups cs) (record { packet = x; vlan = Some t }) ≡ map (copy_sent x) cs
  leaf-runs x t [] all needed = refl
  leaf-runs x t (c ∷ []) (here, all) needed = copy-runs (emits added) (entry-emits added) x t c here
  leaf-runs x t (c ∷ d ∷ cs) all needed =
      let b = buckets_of (c ∷ d ∷ cs) in
      append-nil (flat_map (λ a. runs emits_in_bucket a (record { packet = x; vlan = Some t })) (buckets_in (get added (group_number groups b))))
      ∙ ap (λ o. flat_map (λ a. runs emits_in_bucket a (record { packet = x; vlan = Some t })) (buckets_in o)) (group-there b groups (needed b refl))
      ∙ buckets-run x t (c ∷ d ∷ cs) all

  without : (cs : List Outgoing) → is_without cs ≡ true → [] ≡ cs
  without [] h = refl
  without (c ∷ cs) h = absurd (false≢true h)

  module _ (onward : ℕ → TaggedPacket → List Sent) (x : Numbers) (fit : Fit x) (t : ℕ) where
    abbrev arrived : TaggedPacket
    arrived = record { packet = x; vlan = Some t }

    told-sends : (cs : List Outgoing) → AllByRecursion (IsSendable x) cs → IsTold is_without arrived (leaving_entries second) cs →
        sent_by_rule onward added arrived (option_map (second_rule groups) (first_covering arrived (leaving_entries second))) ≡ map (copy_sent x) cs
    told-sends cs all (inl told) = ap (λ o. sent_by_rule onward added arrived (option_map (second_rule groups) o)) told.0
        ∙ ap (map (copy_sent x)) (without cs told.1)
    told-sends cs all (inr told) =
        ap (λ o. sent_by_rule onward added arrived (option_map (second_rule groups) o)) told.1
        ∙ append-nil (runs (emits added) (leaving_actions groups cs) arrived)
        ∙ leaf-runs x t cs all
        (λ b needed. in-groups b (told.0, cs) needed (leaving_entries second)
        (first-in arrived (leaving_entries second) (told.0, cs) told.1))

    -- the rule that is found in table 1 sends what the tree with the packet's VLAN_VID word says
    pub leaving-sends : sent_by_rule onward added arrived (found arrived (second_rules second)) ≡ map (copy_sent x) (said_by second [] (tag_word t) x)
    leaving-sends =
        ap (sent_by_rule onward added arrived) (found-map arrived (second_rule groups) (λ e. refl) (leaving_entries second))
        ∙ told-sends (said_by second [] (tag_word t) x) (said-sendable (tag_word t) x fit) (table-tells is_without arrived [] refl second sound.words matchable)
