-- The groups of entries as copies are the groups of their buckets.
use Rattle.std.proofs.Common.{◌≡◌, ℕ, zero, suc, ◌+◌, ◌<◌, ◌≤◌, Bool, true, false, not, if◌then◌else◌, List, [], ◌∷◌}
use Rattle.std.proofs.Common.{◌++◌, Some, None, length, map, filter, refl, sym, ap, subst, ◌∙◌, arith}
use Rattle.std.specs.Prelude.{All, IfSome, slice_get}
use Rattle.std.specs.List.{AllByRecursion, IsDistinct, cons_option, filter_map, list_any}
use Rattle.std.specs.declared.option.Option.{Option}
use Rattle.std.proofs.lemmas.List.{length-append}
use Rattle.std.proofs.lemmas.List.Elements.{All-from_recursion}
use Rattle.indexmap.specs.IndexSet.{insert_all, insert_key}
use Rattle.pq_model.specs.contracts.action.ActionPartialEq.TheImpl.{ghosts as actions}
use Rattle.pq_model.specs.declared.action.Action.TheVariants.{Group}
use Rattle.pq_model.specs.MatchFields.{MatchFields}
use Rattle.pq_fields.specs.Writes.{AllFit, Written}
use Rattle.pq_rewrite.specs.declared.outgoing.OutKind.{OutKind}
use Rattle.pq_rewrite.specs.declared.outgoing.OutKind.TheVariants.{Send, CaptureOut}
use Rattle.pq_rewrite.specs.declared.outgoing.Outgoing.{Outgoing}
use Rattle.pq_rewrite.specs.Leaves.{copies_eq, copies_equiv, same_copies}
use Rattle.pq_layout.specs.Actions.{buckets_of}
use Rattle.pq_layout.specs.Messages.{each_once, group_needed, group_number, groups_of, leaving_actions, same_buckets, second_rule}
use Rattle.pq_layout.specs.Sound.{IsSoundCopy}
use Rattle.pq_lookup.proofs.Grouped.{buckets_exact, buckets_itself}
use Rattle.pq_rules.specs.Grouping.{ArePlaces, IsPlace, group_copies, in_bucket, placed_actions, placed_rules, shown_writes, with_group, with_groups}
use Rattle.pq_rules.specs.Renewing.{AreFewPlaces, few}
use Rattle.pq_rules.proofs.OnceLemmas.{filter_made, once, once_distinct, once_keeps, taken_once}
use Rattle.pq_rules.proofs.ReadLemmas.{same_shown, shown_again, shown_buckets, shown_port}

-- sound copies that are as their buckets show them
pub record IsShown (g : List Outgoing) : Type 0 where
  pub sound : AllByRecursion IsSoundCopy g
  pub shown : map in_bucket g ≡ g

two_tests : (a b : Bool) → (a ≡ true → b ≡ true) → (b ≡ true → a ≡ true) → a ≡ b
two_tests true b into back = sym (into refl)
two_tests false true into back = back refl
two_tests false false into back = refl

-- their buckets compare as they do
same_tests : (g h : List Outgoing) → IsShown g → IsShown h → same_buckets (buckets_of g) (buckets_of h) ≡ copies_eq g h
same_tests g h first second =
    two_tests (same_buckets (buckets_of g) (buckets_of h)) (copies_eq g h)
    (λ same. subst (λ k. copies_eq g k ≡ true) (sym first.shown
    ∙ same_shown g h first.sound second.sound (buckets_exact (buckets_of g) (buckets_of h) same) ∙ second.shown) (copies_equiv.refl g))
    (λ same. subst (λ k. same_buckets (buckets_of g) (buckets_of k) ≡ true) (same_copies g h same) (buckets_itself (buckets_of g)))

-- Groups of entries.

AllShown : List (List Outgoing) → Type 0
AllShown gs = AllByRecursion IsShown gs

once_made : (gs : List (List Outgoing)) → AllShown gs → each_once (map buckets_of gs) ≡ map buckets_of (once copies_eq gs)
unfolding AllShown once
once_made [] all = refl
once_made (g ∷ gs) all =
    ap (λ l. buckets_of g ∷ filter (λ c. not (same_buckets (buckets_of g) c)) l) (once_made gs all.1)
    ∙ ap (λ l. buckets_of g ∷ l)
    (filter_made IsShown buckets_of (λ c. not (same_buckets (buckets_of g) c)) (λ h. not (copies_eq g h))
    (λ h shown. ap not (same_tests g h all.0 shown)) (once copies_eq gs)
    (once_keeps copies_eq IsShown gs all.1))

-- the groups that entries need, in order
needed : List (MatchFields × List Outgoing) → List (List Outgoing)
needed es = filter_map (λ e. group_copies e.1) es

needed_made : (es : List (MatchFields × List Outgoing)) → filter_map (λ e. group_needed e.1) es ≡ map buckets_of (needed es)
unfolding needed
needed_made [] = refl
needed_made (e ∷ es) = by e.1 (needed_made es)
  where
    by : (cs : List Outgoing) → filter_map (λ d. group_needed d.1) es ≡ map buckets_of (filter_map (λ d. group_copies d.1) es)
        → cons_option (group_needed cs) (filter_map (λ d. group_needed d.1) es)
        ≡ map buckets_of (cons_option (group_copies cs) (filter_map (λ d. group_copies d.1) es))
    by [] rest = rest
    by (c ∷ []) rest = rest
    by (c ∷ d ∷ cs) rest = (λ i. sym (shown_buckets (c ∷ d ∷ cs)) i ∷ rest i)

-- copies as their buckets show them
shown_fit : (k : OutKind) (w : Written) → AllFit w → AllFit (shown_writes k w)
shown_fit Send w fit = fit
shown_fit CaptureOut w fit = record {
  port = tt;
  eth_src = fit.eth_src;
  eth_dst = fit.eth_dst;
  ipv4_src = fit.ipv4_src;
  ipv4_dst = fit.ipv4_dst;
  tcp_src = fit.tcp_src;
  tcp_dst = fit.tcp_dst;
  udp_src = fit.udp_src;
  udp_dst = fit.udp_dst;
}

shown_sound : (cs : List Outgoing) → AllByRecursion IsSoundCopy cs → AllByRecursion IsSoundCopy (map in_bucket cs)
shown_sound [] sound = tt
shown_sound (c ∷ cs) sound = (
  record {
    tag = sound.0.tag;
    fit = shown_fit c.kind c.writes sound.0.fit;
    port = shown_port c.kind c.writes sound.0.port;
  },
  shown_sound cs sound.1,
)

group_shown : (cs g : List Outgoing) → AllByRecursion IsSoundCopy cs → group_copies cs ≡ Some g → IsShown g
group_shown [] g sound is = absurd cc
group_shown (c ∷ []) g sound is = absurd cc
group_shown (c ∷ d ∷ cs) g sound is =
    let one : map in_bucket (c ∷ d ∷ cs) ≡ g = cc in
    subst IsShown one (record { sound = shown_sound (c ∷ d ∷ cs) sound; shown = shown_again (c ∷ d ∷ cs) })

-- the copies of each entry are sound
abbrev pub SoundEntries : List (MatchFields × List Outgoing) → Type 0
SoundEntries es = AllByRecursion (λ e. AllByRecursion IsSoundCopy e.1) es

needed_shown : (es : List (MatchFields × List Outgoing)) → SoundEntries es → AllShown (needed es)
unfolding AllShown needed
needed_shown [] sound = tt
needed_shown (e ∷ es) sound = by (group_copies e.1) refl (needed_shown es sound.1)
  where
    by : (o : Option (List Outgoing)) → group_copies e.1 ≡ o → AllShown (needed es)
        → AllByRecursion IsShown (cons_option o (filter_map (λ d. group_copies d.1) es))
    by None is rest = rest
    by (Some g) is rest = (group_shown e.1 g sound.0 is, rest)

-- taken one after another
taken_needed : (es : List (MatchFields × List Outgoing)) (gs : List (List Outgoing)) → with_groups gs es ≡ insert_all copies_eq gs (needed es)
unfolding needed
taken_needed [] gs = refl
taken_needed (e ∷ es) gs = by (group_copies e.1) (λ hs. taken_needed es hs)
  where
    by : (o : Option (List Outgoing)) → ((hs : List (List Outgoing)) → with_groups hs es ≡ insert_all copies_eq hs (needed es))
        → with_groups (with_group gs o) es ≡ insert_all copies_eq gs
        (cons_option o (filter_map (λ d. group_copies d.1) es))
    by None rest = rest gs
    by (Some g) rest = rest (insert_key copies_eq gs g)

all_once : (es : List (MatchFields × List Outgoing)) → with_groups [] es ≡ once copies_eq (needed es)
all_once es = taken_needed es [] ∙ taken_once copies_eq same_copies copies_equiv.refl (needed es)

-- the groups that are taken have the buckets of the groups
pub groups_made : (es : List (MatchFields × List Outgoing)) → SoundEntries es → groups_of es ≡ map buckets_of (with_groups [] es)
groups_made es sound = ap each_once (needed_made es) ∙ once_made (needed es) (needed_shown es sound) ∙ ap (map buckets_of) (sym (all_once es))

-- all of them are sound and shown
pub groups_shown : (es : List (MatchFields × List Outgoing)) → SoundEntries es → AllByRecursion IsShown (with_groups [] es)
unfolding AllShown
groups_shown es sound = subst (AllByRecursion IsShown) (sym (all_once es)) (once_keeps copies_eq IsShown (needed es) (needed_shown es sound))

pub groups_distinct : (es : List (MatchFields × List Outgoing)) → IsDistinct copies_eq (with_groups [] es)
groups_distinct es = subst (IsDistinct copies_eq) (sym (all_once es)) (once_distinct copies_eq (needed es))

-- Numbers of groups.

differs : (g : List Outgoing) (gs : List (List Outgoing)) (h : List Outgoing) (p : ℕ) → AllByRecursion (λ k. copies_eq g k ≡ false) gs
    → slice_get gs p ≡ Some h → copies_eq g h ≡ false
differs g [] h p apart at = absurd cc
differs g (k ∷ gs) h zero apart at = let one : k ≡ h = cc in subst (λ l. copies_eq g l ≡ false) one apart.0
differs g (k ∷ gs) h (suc p) apart at = differs g gs h p apart.1 at

shown_at : (gs : List (List Outgoing)) (h : List Outgoing) (p : ℕ) → AllByRecursion IsShown gs → slice_get gs p ≡ Some h → IsShown h
shown_at [] h p all at = absurd cc
shown_at (k ∷ gs) h zero all at = let one : k ≡ h = cc in subst IsShown one all.0
shown_at (k ∷ gs) h (suc p) all at = shown_at gs h p all.1 at

-- a group at a place has the number after it
numbered : (gs : List (List Outgoing)) (h : List Outgoing) (p : ℕ) → IsDistinct copies_eq gs → AllByRecursion IsShown gs
    → slice_get gs p ≡ Some h → group_number (map buckets_of gs)
    (buckets_of h) ≡ p + 1
unfolding IsDistinct
numbered [] h p apart all at = absurd cc
numbered (k ∷ gs) h zero apart all at =
    let one : k ≡ h = cc in
    ap (λ b. if b then 1 else suc (group_number (map buckets_of gs) (buckets_of h)))
    (subst (λ l. same_buckets (buckets_of k) (buckets_of l) ≡ true) one (buckets_itself (buckets_of k)))
numbered (k ∷ gs) h (suc p) apart all at =
    let other : same_buckets (buckets_of k) (buckets_of h) ≡ false = same_tests k h all.0 (shown_at gs h p all.1 at) ∙ differs k gs h p apart.0 at in
    ap (λ b. if b then 1 else suc (group_number (map buckets_of gs) (buckets_of h))) other ∙ omega (arith, numbered gs h p apart.1 all.1 at)

-- the actions of an entry by the place of its group
actions_placed : (gs : List (List Outgoing)) (cs : List Outgoing) (p : Option ℕ) → IsDistinct copies_eq gs → AllByRecursion IsShown gs → IsPlace gs cs p
    → placed_actions cs p ≡ leaving_actions (map buckets_of gs) cs
actions_placed gs [] None apart all place = refl
actions_placed gs (c ∷ []) None apart all place = refl
actions_placed gs (c ∷ d ∷ cs) None apart all place = absurd cc
actions_placed gs [] (Some p) apart all place = absurd (let is = place.1 in cc)
actions_placed gs (c ∷ []) (Some p) apart all place = absurd (let is = place.1 in cc)
actions_placed gs (c ∷ d ∷ cs) (Some p) apart all place =
    let one : place.0 ≡ map in_bucket (c ∷ d ∷ cs) = let is = place.1 in cc in
    ap (λ n. Group n ∷ [])
    (sym (numbered gs place.0 p apart all place.2) ∙ ap (λ g. group_number (map buckets_of gs) (buckets_of g)) one
    ∙ ap (group_number (map buckets_of gs)) (shown_buckets (c ∷ d ∷ cs)))

pub rules_placed : (gs : List (List Outgoing)) (es : List (MatchFields × List Outgoing)) (ps : List (Option ℕ)) → IsDistinct copies_eq gs
    → AllByRecursion IsShown gs → ArePlaces gs es ps
    → placed_rules es ps ≡ map (second_rule (map buckets_of gs)) es
rules_placed gs [] ps apart all places = refl
rules_placed gs (e ∷ es) [] apart all places = absurd places
rules_placed gs (e ∷ es) (p ∷ ps) apart all places =
    (λ i. record { matching = e.0; actions = actions_placed gs e.1 p apart all places.0 i; goto = None } ∷ rules_placed gs es ps apart all places.1 i)

-- How many there are.

insert_length : (gs : List (List Outgoing)) (g : List Outgoing) → length (insert_key copies_eq gs g) ≤ length gs + 1
insert_length gs g = by (list_any (copies_eq g) gs)
  where
    by : (b : Bool) → length (if b then gs else gs ++ g ∷ []) ≤ length gs + 1
    by true = omega arith
    by false = omega (arith, length-append gs (g ∷ []))

pub groups_few : (es : List (MatchFields × List Outgoing)) (gs : List (List Outgoing)) → length (with_groups gs es) ≤ length gs + length es
groups_few [] gs = omega arith
groups_few (e ∷ es) gs = by (group_copies e.1) (λ hs. groups_few es hs)
  where
    by : (o : Option (List Outgoing)) → ((hs : List (List Outgoing)) → length (with_groups hs es) ≤ length hs + length es)
        → length (with_groups (with_group gs o) es) ≤ length gs + suc (length es)
    by None rest = omega (arith, rest gs)
    by (Some g) rest = omega (arith, rest (insert_key copies_eq gs g), insert_length gs g)

place_below : (gs : List (List Outgoing)) (p : ℕ) (g : List Outgoing) → slice_get gs p ≡ Some g → p < length gs
place_below [] p g at = absurd cc
place_below (h ∷ gs) zero g at = omega arith
place_below (h ∷ gs) (suc p) g at = omega (arith, place_below gs p g at)

places_below : (n : ℕ) (gs : List (List Outgoing)) (es : List (MatchFields × List Outgoing)) (ps : List (Option ℕ)) → length gs ≤ n
    → ArePlaces gs es ps → AllByRecursion
    (λ p. IfSome p (λ k. k < n)) ps
places_below n gs [] [] few places = tt
places_below n gs [] (p ∷ ps) few places = absurd places
places_below n gs (e ∷ es) [] few places = absurd places
places_below n gs (e ∷ es) (p ∷ ps) small places = (by p places.0, places_below n gs es ps small places.1)
  where
    by : (p : Option ℕ) → IsPlace gs e.1 p → IfSome p (λ k. k < n)
    by None place = tt
    by (Some k) place = omega (arith, small, place_below gs k place.0 place.2)

pub places_few : (gs : List (List Outgoing)) (es : List (MatchFields × List Outgoing)) (ps : List (Option ℕ)) → length gs ≤ few
    → ArePlaces gs es ps → AreFewPlaces ps
places_few gs es ps small places = All-from_recursion (λ p. IfSome p (λ n. n < few)) ps (places_below few gs es ps small places)

pub places_long : (gs : List (List Outgoing)) (es : List (MatchFields × List Outgoing)) (ps : List (Option ℕ)) → ArePlaces gs es ps → length ps ≡ length es
places_long gs [] [] places = refl
places_long gs [] (p ∷ ps) places = absurd places
places_long gs (e ∷ es) [] places = absurd places
places_long gs (e ∷ es) (p ∷ ps) places = ap suc (places_long gs es ps places.1)

-- the groups as `All` says it
pub groups_sound : (gs : List (List Outgoing)) → AllByRecursion IsShown gs → All (All IsSoundCopy) gs
groups_sound gs all = All-from_recursion (All IsSoundCopy) gs (each gs all)
  where
    each : (hs : List (List Outgoing)) → AllByRecursion IsShown hs → AllByRecursion (All IsSoundCopy) hs
    each [] all = tt
    each (h ∷ hs) all = (All-from_recursion IsSoundCopy h all.0.sound, each hs all.1)

-- what holds of the group of each entry holds of all groups
needed_all : (P : List Outgoing → Type 0) (es : List (MatchFields × List Outgoing))
    → AllByRecursion (λ e. (g : List Outgoing) → group_copies e.1 ≡ Some g → P g) es → AllByRecursion P (needed es)
unfolding needed
needed_all P [] all = tt
needed_all P (e ∷ es) all = by (group_copies e.1) (λ g is. all.0 g is) (needed_all P es all.1)
  where
    by : (o : Option (List Outgoing)) → ((g : List Outgoing) → o ≡ Some g → P g) → AllByRecursion P (filter_map (λ d. group_copies d.1) es) → AllByRecursion P
        (cons_option o (filter_map (λ d. group_copies d.1) es))
    by None here rest = rest
    by (Some g) here rest = (here g refl, rest)

pub groups_all : (P : List Outgoing → Type 0) (es : List (MatchFields × List Outgoing))
    → AllByRecursion (λ e. (g : List Outgoing) → group_copies e.1 ≡ Some g → P g) es → AllByRecursion P
    (with_groups [] es)
groups_all P es all = subst (AllByRecursion P) (sym (all_once es)) (once_keeps copies_eq P (needed es) (needed_all P es all))
