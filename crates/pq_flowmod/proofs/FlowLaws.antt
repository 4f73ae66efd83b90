-- What is read of a flow mod or a group mod is the one that is spelled.
use Rattle.std.proofs.Common.{◌≡◌, ℕ, ◌+◌, ◌^◌, ◌<◌, ◌≤◌, List, [], ◌∷◌, ◌++◌, length, get_or, drop, Option, None, Some, Result, Ok, Err}
use Rattle.std.proofs.Common.{refl, sym, ap, ◌∙◌, arith, inl, inr}
use Rattle.std.specs.Prelude.{IfOk, ◌⊎◌}
use Rattle.std.proofs.lemmas.List.{drop_at, drop-drop}
use Rattle.pq_model.specs.declared.action.Action.{Action}
use Rattle.pq_model.specs.declared.flow_mod.FlowCommand.{FlowCommand}
use Rattle.pq_model.specs.declared.group_mod.GroupCommand.{GroupCommand}
use Rattle.pq_model.specs.MatchFields.{MatchFields, IsLawfulMatch}
use Rattle.pq_model.specs.Mods.{FlowValue}
use Rattle.pq_model.specs.Spelling.{actions_bytes, apply_bytes, goto_bytes, match_bytes}
use Rattle.pq_oxm.specs.Standing.{StandsAt}
use Rattle.pq_oxm.proofs.Places.{followed}
use Rattle.pq_oxm.proofs.Whole.{one_match}
use Rattle.pq_flowmod.proofs.Parts.{HasActions, has_actions}

-- where no actions are applied
pub not_applied : (actions : List Action) (goto : Option ℕ) (bytes : List ℕ) → length (apply_bytes actions ++ goto_bytes goto) < 2 ^ 16
    → bytes ≡ apply_bytes actions ++ goto_bytes goto →
    ((length bytes < 8) ⊎ (get_or bytes 1 0 ≡ 4 → ⊥)) → ([] ≡ actions_bytes actions) × (bytes ≡ goto_bytes goto)
unfolding apply_bytes
not_applied [] goto bytes short is none = (refl, is)
not_applied (a ∷ others) goto bytes short is (inl less) =
    let parts = has_actions a others (goto_bytes goto) short in
    absurd (omega (arith, parts.long, parts.within, ap length is, less))
not_applied (a ∷ others) goto bytes short is (inr other) = absurd (other (ap (λ (bs : List ℕ). get_or bs 1 0) is))

-- where actions are applied
pub is_applied : (actions : List Action) (goto : Option ℕ) (bytes : List ℕ) → length (apply_bytes actions ++ goto_bytes goto) < 2 ^ 16
    → bytes ≡ apply_bytes actions ++ goto_bytes goto →
    8 ≤ length bytes → get_or bytes 1 0 ≡ 4 → HasActions bytes (actions_bytes actions) (goto_bytes goto)
unfolding apply_bytes goto_bytes
is_applied (a ∷ others) goto bytes short is long kind = rw is (has_actions a others (goto_bytes goto) short)
is_applied [] goto bytes short is long kind = absurd (by goto is) where
  by : (next : Option ℕ) → bytes ≡ apply_bytes [] ++ goto_bytes next → ⊥
  by None same = omega (arith, ap length same, long)
  by (Some table) same = omega (arith, ap (λ (bs : List ℕ). get_or bs 1 0) same, kind)

pub goes_nowhere : (goto : Option ℕ) (bytes : List ℕ) → bytes ≡ goto_bytes goto → length bytes < 8 → None ≡ goto
unfolding goto_bytes
goes_nowhere None bytes is less = refl
goes_nowhere (Some table) bytes is less = absurd (omega (arith, ap length is, less))

pub goes_on : (goto : Option ℕ) (bytes : List ℕ) → bytes ≡ goto_bytes goto → 8 ≤ length bytes → Some (get_or bytes 4 0) ≡ goto
unfolding goto_bytes
goes_on None bytes is long = absurd (omega (arith, ap length is, long))
goes_on (Some table) bytes is long = ap (λ (bs : List ℕ). Some (get_or bs 4 0)) is

-- the match that is after the numbers
pub match_next : (body : List ℕ) (found m : MatchFields) (end : ℕ) (more : List ℕ) → IsLawfulMatch found → IsLawfulMatch m →
    StandsAt body 40 (match_bytes found) → end ≡ 40 + length (match_bytes found) → drop 40 body ≡ match_bytes m ++ more → (found ≡ m) × (drop end body ≡ more)
match_next body found m end more law other stands ends is =
    let same : found ≡ m = one_match found m _ more law other (sym (followed body 40 (match_bytes found) stands) ∙ is) in
    let last : end ≡ 40 + length (match_bytes m) = ends ∙ ap (λ (x : MatchFields). 40 + length (match_bytes x)) same in (
      same,
      ap (λ (k : ℕ). drop k body) last ∙ sym (drop-drop (length (match_bytes m)) 40 body) ∙ ap (drop (length (match_bytes m))) is
          ∙ drop_at (match_bytes m) more (length (match_bytes m)) refl,
    )

same_command : (m n : FlowCommand) → Some m ≡ Some n → m ≡ n
same_command m n same = cc

-- the command that is told
pub command_is : (command other known : FlowCommand) → Some command ≡ Some other → command ≡ known → other ≡ known
command_is command other known same is = sym (same_command command other same) ∙ is

same_group_command : (m n : GroupCommand) → Some m ≡ Some n → m ≡ n
same_group_command m n same = cc

pub group_command_is : (command other known : GroupCommand) → Some command ≡ Some other → command ≡ known → other ≡ known
group_command_is command other known same is = sym (same_group_command command other same) ∙ is

pub flow_is : (f : FlowValue) (xid cookie table : ℕ) (command : FlowCommand) (priority : ℕ) (matching : MatchFields) (actions : List Action) (goto : Option ℕ) →
    xid ≡ f.xid → cookie ≡ f.cookie → table ≡ f.table → command ≡ f.command → priority ≡ f.priority → matching ≡ f.matching
    → actions ≡ f.actions → goto ≡ f.goto →
    record { xid = xid; cookie = cookie; table = table; command = command; priority = priority; matching = matching; actions = actions; goto = goto } ≡ f
flow_is f xid cookie table command priority matching actions goto x c t m p n a g =
    λ i. record { xid = x i; cookie = c i; table = t i; command = m i; priority = p i; matching = n i; actions = a i; goto = g i }

-- a fact of an answer that follows from another of it
pub if_ok : {A E : Type 0} (r : Result A E) (P Q : A → Type 0) → ((a : A) → P a → Q a) → IfOk r P → IfOk r Q
if_ok (Ok a) P Q f p = f a p
if_ok (Err e) P Q f p = tt
