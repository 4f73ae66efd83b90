-- The groups of entries, as copies.
use Rattle.std.specs.Prelude.{◌≡◌, ◌+◌, ℕ, true, List, [], ◌∷◌, map, slice_get}
use Rattle.std.specs.List.{AllZip}
use Rattle.std.specs.declared.option.Option.{Option}
use Rattle.std.specs.declared.option.Option.TheVariants.{None, Some}
use Rattle.indexmap.specs.IndexSet.{insert_key}
use Rattle.pq_fields.specs.Writes.{Written}
use Rattle.pq_model.specs.declared.action.Action.{Action}
use Rattle.pq_model.specs.declared.action.Action.TheVariants.{Group}
use Rattle.pq_model.specs.MatchFields.{MatchFields}
use Rattle.pq_rewrite.specs.declared.outgoing.OutKind.{OutKind}
use Rattle.pq_rewrite.specs.declared.outgoing.OutKind.TheVariants.{Send, CaptureOut}
use Rattle.pq_rewrite.specs.declared.outgoing.Outgoing.{Outgoing}
use Rattle.pq_rewrite.specs.Leaves.{copies_eq}
use Rattle.pq_store.specs.Tree.{Tree}
use Rattle.pq_store.specs.Tree.Tree.{Tip, Fork}
use Rattle.pq_layout.specs.Actions.{copy_actions}
use Rattle.pq_layout.specs.Messages.{Rule}

-- the leaf at a place, and the default where there is none
abbrev pub leaf_or : {L : Type 0} → L → Option (Tree L) → L
leaf_or default None = default
leaf_or default (Some (Tip l)) = l
leaf_or default (Some (Fork s y n)) = default

abbrev pub leaf_at : {L : Type 0} → L → List (Tree L) → ℕ → L
leaf_at default ts k = leaf_or default (slice_get ts k)

-- a leaf is at the place
abbrev pub IsLeafAt : {L : Type 0} → List (Tree L) → ℕ → Type 0
IsLeafAt {L} ts k = (l : L) × (slice_get ts k ≡ Some (Tip l))

-- the matches with their leaves
abbrev pub resolved : {L : Type 0} → L → List (Tree L) → List (MatchFields × ℕ) → List (MatchFields × L)
resolved default ts es = map (λ e. (e.0, leaf_at default ts e.1)) es

-- the writes of a copy as its bucket shows them: a written port doesn't matter to a copy that goes to the controller
abbrev pub shown_writes : OutKind → Written → Written
shown_writes Send w = w
shown_writes CaptureOut w = record w { port = None }

-- the copy as its bucket shows it
abbrev pub in_bucket : Outgoing → Outgoing
in_bucket c = record c { writes = shown_writes c.kind c.writes }

-- the copies of the group that a list of copies needs
abbrev pub group_copies : List Outgoing → Option (List Outgoing)
group_copies [] = None
group_copies (c ∷ []) = None
group_copies (c ∷ d ∷ cs) = Some (map in_bucket (c ∷ d ∷ cs))

-- the groups with one more, where one is needed that isn't there
abbrev pub with_group : List (List Outgoing) → Option (List Outgoing) → List (List Outgoing)
with_group groups None = groups
with_group groups (Some g) = insert_key copies_eq groups g

-- the groups with those of these lists of copies
abbrev pub with_groups : List (List Outgoing) → List (MatchFields × List Outgoing) → List (List Outgoing)
with_groups groups [] = groups
with_groups groups (e ∷ es) = with_groups (with_group groups (group_copies e.1)) es

-- the place of the group of these copies: none where they need none
abbrev pub IsPlace : List (List Outgoing) → List Outgoing → Option ℕ → Type 0
IsPlace groups cs None = group_copies cs ≡ None
IsPlace groups cs (Some p) = (g : List Outgoing) × (group_copies cs ≡ Some g) × (slice_get groups p ≡ Some g)

-- position by position the places of the groups of entries
abbrev pub ArePlaces : List (List Outgoing) → List (MatchFields × List Outgoing) → List (Option ℕ) → Type 0
ArePlaces groups es ps = AllZip (λ e p. IsPlace groups e.1 p) es ps

-- what was noted for the leaf at a place: the place of its group
abbrev pub IsNoted : List (List Outgoing) → List (Tree (List Outgoing)) → ℕ → ℕ → Type 0
IsNoted groups ts k p = IsPlace groups (leaf_at [] ts k) (Some p)

-- the actions of an entry with these copies, by the place of its group
abbrev pub placed_actions : List Outgoing → Option ℕ → List Action
placed_actions cs (Some p) = Group (p + 1) ∷ []
placed_actions [] None = []
placed_actions (c ∷ cs) None = copy_actions true c

abbrev pub placed_rule : MatchFields × List Outgoing → Option ℕ → Rule
placed_rule e p = record { matching = e.0; actions = placed_actions e.1 p; goto = None }

-- the rules of table 1, by the places of the groups
abbrev pub placed_rules : List (MatchFields × List Outgoing) → List (Option ℕ) → List Rule
placed_rules [] ps = []
placed_rules (e ∷ es) [] = []
placed_rules (e ∷ es) (p ∷ ps) = placed_rule e p ∷ placed_rules es ps
