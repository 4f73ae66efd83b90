-- What a document adds to known numbers is what it states.
use Rattle.std.proofs.Common.{◌≡◌, ℕ, List, [], ◌∷◌, ◌++◌, Option, Some, None, refl, sym, ap, ◌∙◌}
use Rattle.std.specs.List.{flat_map}
use Rattle.std.proofs.lemmas.List.{map-append}
use Rattle.std.proofs.lemmas.List.Concat.{flat_map-cons}
use Rattle.pq_fields.specs.declared.field.Field.{Field}
use Rattle.pq_fields.specs.declared.field.Field.TheVariants.{Port}
use Rattle.pq_fields.specs.Pred.{PredTop, Preds, PredTree, preds}
use Rattle.pq_fields.specs.Pred.PredTop.{Always, Never, Equals, Leads, LeadsWide, Every, Some as AnyOf, Negated}
use Rattle.pq_fields.specs.Pred.Preds.{none as no_preds, put as add_pred}
use Rattle.pq_model.specs.Topology.{Switch, Topology}
use Rattle.pq_policy.specs.Policy.{PolicyTop, Pass, Discard, Spread, Only, Write, Forward, Choose, Either, InTurn, Policies}
use Rattle.pq_policy.specs.Policy.{none as no_policies, put as add_policy, PolicyTree, policies}
use Rattle.pq_query.specs.Groups.{Group}
use Rattle.pq_query.specs.Query.{QueryTop, Enters, Leaves, Passes, Ends, InTurn as Joined, Either as AnyQuery, Both, Other, Repeated}
use Rattle.pq_query.specs.Query.{Queries, none as no_queries, put as add_query, QueryTree, queries}
use Rattle.pq_values.specs.Known.{with_each, with_group, with_numbers, with_one, with_policies, with_policy, with_policy_top}
use Rattle.pq_values.specs.Known.{with_pred_top, with_preds, with_queries, with_query, with_query_top, with_side, with_switch}
use Rattle.pq_values.specs.Stated.{Stated, in_group, in_groups, in_policies, in_policy, in_policy_top, in_pred, in_pred_top, in_preds}
use Rattle.pq_values.specs.Stated.{in_queries, in_query, in_query_top, stated, stated_for}

-- all of these numbers are added, one after another
abbrev pub with_all : List Stated → List Stated → List Stated
with_all ss known = with_each with_one ss known

-- first those of one list, then those of another
both : (ss ts known : List Stated) → with_all (ss ++ ts) known ≡ with_all ts (with_all ss known)
both [] ts known = refl
both (s ∷ ss) ts known = both ss ts (with_one s known)

-- and those of three
three : (rs ss ts known : List Stated) → with_all (rs ++ (ss ++ ts)) known ≡ with_all ts (with_all ss (with_all rs known))
three rs ss ts known = both rs (ss ++ ts) known ∙ both ss ts (with_all rs known)

-- steps that add numbers add all of them
each_known : {A : Type 0} (step : A → List Stated → List Stated) (adds : A → List Stated)
    → ((x : A) (known : List Stated) → step x known ≡ with_all (adds x) known)
    → (xs : List A) (known : List Stated) → with_each step xs known ≡ with_all (flat_map adds xs) known
each_known step adds is [] known = refl
each_known step adds is (x ∷ xs) known =
    each_known step adds is xs (step x known)
    ∙ (ap (with_all (flat_map adds xs)) (is x known)
    ∙ (sym (both (adds x) (flat_map adds xs) known)
    ∙ ap (λ ss. with_all ss known) (sym (flat_map-cons adds x xs))))

numbers_known : (f : Field) (ns : List ℕ) (known : List Stated) → with_numbers f ns known ≡ with_all (stated_for f ns) known
numbers_known f [] known = refl
numbers_known f (n ∷ ns) known = numbers_known f ns (with_one (f, n) known)

-- Predicates.

pred_top_known : (top : PredTop) (known : List Stated) → with_pred_top top known ≡ with_all (in_pred_top top) known
pred_top_known Always known = refl
pred_top_known Never known = refl
pred_top_known (Equals f n) known = refl
pred_top_known (Leads f n len) known = refl
pred_top_known (LeadsWide f n len) known = refl
pred_top_known Every known = refl
pred_top_known AnyOf known = refl
pred_top_known Negated known = refl

preds_known : (ps : Preds) (known : List Stated) → with_preds ps known ≡ with_all (in_preds ps) known
preds_known no_preds known = refl
preds_known (add_pred top below rest) known =
    preds_known rest (with_preds below (with_pred_top top known))
    ∙ (ap (with_all (in_preds rest)) (preds_known below (with_pred_top top known) ∙ ap (with_all (in_preds below)) (pred_top_known top known))
    ∙ sym (three (in_pred_top top) (in_preds below) (in_preds rest) known))

pred_known : (p : PredTree) (known : List Stated) → with_preds (preds (p ∷ [])) known ≡ with_all (in_pred p) known
pred_known p known = preds_known (preds (p ∷ [])) known

-- Policies.

policy_top_known : (top : PolicyTop) (known : List Stated) → with_policy_top top known ≡ with_all (in_policy_top top) known
policy_top_known Pass known = refl
policy_top_known Discard known = refl
policy_top_known Spread known = refl
policy_top_known (Only p) known = pred_known p known
policy_top_known (Write f n) known = refl
policy_top_known (Forward n) known = refl
policy_top_known (Choose p) known = pred_known p known
policy_top_known Either known = refl
policy_top_known InTurn known = refl

policies_known : (ps : Policies) (known : List Stated) → with_policies ps known ≡ with_all (in_policies ps) known
policies_known no_policies known = refl
policies_known (add_policy top below rest) known =
    policies_known rest (with_policies below (with_policy_top top known))
    ∙ (ap (with_all (in_policies rest)) (policies_known below (with_policy_top top known) ∙ ap (with_all (in_policies below)) (policy_top_known top known))
    ∙ sym (three (in_policy_top top) (in_policies below) (in_policies rest) known))

policy_known : (p : PolicyTree) (known : List Stated) → with_policy p known ≡ with_all (in_policy p) known
policy_known p known = policies_known (policies (p ∷ [])) known

-- Queries.

group_known : (g : Group) (known : List Stated) → with_group g known ≡ with_all (in_group g) known
group_known g known = by g.values
  where
    by : (vs : Option (List ℕ))
        → with_group (record { field = g.field; values = vs }) known ≡ with_all (in_group (record { field = g.field; values = vs })) known
    by (Some ns) = numbers_known g.field ns known
    by None = refl

groups_known : (gs : List Group) (known : List Stated) → with_each with_group gs known ≡ with_all (in_groups gs) known
groups_known gs known = each_known with_group in_group group_known gs known

side_known : (p : PredTree) (gs : List Group) (known : List Stated) → with_side p gs known ≡ with_all (in_pred p ++ in_groups gs) known
side_known p gs known =
    groups_known gs (with_preds (preds (p ∷ [])) known)
    ∙ (ap (with_all (in_groups gs)) (pred_known p known)
    ∙ sym (both (in_pred p) (in_groups gs) known))

query_top_known : (top : QueryTop) (known : List Stated) → with_query_top top known ≡ with_all (in_query_top top) known
query_top_known (Enters p gs) known = side_known p gs known
query_top_known (Leaves p gs) known = side_known p gs known
query_top_known (Passes p gs q hs) known =
    side_known q hs (with_side p gs known)
    ∙ (ap (with_all (in_pred q ++ in_groups hs)) (side_known p gs known ∙ both (in_pred p) (in_groups gs) known)
    ∙ sym (three (in_pred p) (in_groups gs) (in_pred q ++ in_groups hs) known))
query_top_known (Ends p) known = pred_known p known
query_top_known Joined known = refl
query_top_known AnyQuery known = refl
query_top_known Both known = refl
query_top_known Other known = refl
query_top_known Repeated known = refl

queries_known : (qs : Queries) (known : List Stated) → with_queries qs known ≡ with_all (in_queries qs) known
queries_known no_queries known = refl
queries_known (add_query top below rest) known =
    queries_known rest (with_queries below (with_query_top top known))
    ∙ (ap (with_all (in_queries rest)) (queries_known below (with_query_top top known) ∙ ap (with_all (in_queries below)) (query_top_known top known))
    ∙ sym (three (in_query_top top) (in_queries below) (in_queries rest) known))

query_known : (q : QueryTree) (known : List Stated) → with_query q known ≡ with_all (in_query q) known
query_known q known = queries_known (queries (q ∷ [])) known

-- Documents.

switches_known : (ss : List Switch) (known : List Stated) → with_each with_switch ss known ≡ with_all (stated_for Port (flat_map (λ s. s.ports) ss)) known
switches_known [] known = refl
switches_known (s ∷ ss) known =
    let later = flat_map (λ t. t.ports) ss in
    let whole : stated_for Port (flat_map (λ t. t.ports) (s ∷ ss)) ≡ stated_for Port s.ports ++ stated_for Port later =
    ap (stated_for Port) (flat_map-cons (λ t. t.ports) s ss) ∙ map-append (λ n. (Port, n)) s.ports later in
    switches_known ss (with_switch s known)
    ∙ (ap (with_all (stated_for Port later)) (numbers_known Port s.ports known)
    ∙ (sym (both (stated_for Port s.ports) (stated_for Port later) known)
    ∙ ap (λ xs. with_all xs known) (sym whole)))

-- all numbers of a document, one after another
pub all_gathered : (T : Topology) (ps : List PolicyTree) (qs : List QueryTree)
    → with_each with_query qs (with_each with_policy ps (with_each with_switch T.switches [])) ≡ with_all (stated T ps qs) []
all_gathered T ps qs =
    let ports = stated_for Port (flat_map (λ s. s.ports) T.switches) in
    let parts : with_each with_policy ps (with_each with_switch T.switches []) ≡ with_all (flat_map in_policy ps) (with_all ports []) =
    each_known with_policy in_policy policy_known ps (with_each with_switch T.switches [])
    ∙ ap (with_all (flat_map in_policy ps)) (switches_known T.switches []) in
    each_known with_query in_query query_known qs (with_each with_policy ps (with_each with_switch T.switches []))
    ∙ (ap (with_all (flat_map in_query qs)) parts
    ∙ sym (three ports (flat_map in_policy ps) (flat_map in_query qs) []))
