-- How the logic keeps engines.
use Rattle.std.specs.Prelude.{◌≡◌, ℕ, zero, suc, List, [], refl}
use Rattle.std.specs.Coded.{Coded, code_by, coded×, coded_ℕ, coded_list}
use base.Stored.{Gv, gnil, gcons}
use Rattle.pq_fields.specs.declared.field.Field.{Field}
use Rattle.pq_fields.specs.declared.field.Field.TheVariants.{Switch}
use Rattle.pq_fields.specs.contracts.field.Field as fields
use Rattle.pq_fields.specs.Pred as pred
use Rattle.pq_fields.specs.Pred.{PredTop, PredTree, Preds, Always, Never, Equals, Leads, LeadsWide, Every, Negated}
use Rattle.pq_fields.specs.Writes.{Written}
use Rattle.pq_model.specs.Buckets.{Instance}
use Rattle.pq_model.specs.Install.{Install}
use Rattle.pq_model.specs.Topology.{Topology}
use Rattle.pq_model.specs.contracts.instance.Instance as instances
use Rattle.pq_auto.specs.Machine.{Machine}
use Rattle.pq_topo.specs.contracts.topology.Topology as topologies
use Rattle.pq_policy.specs.Policy as policy
use Rattle.pq_policy.specs.Policy.{PolicyTop, PolicyTree, Policies, Pass, Discard, Spread, Only, Write, Forward, Choose}
use Rattle.pq_query.specs.Groups.{Group}
use Rattle.pq_query.specs.contracts.group.Group as groups
use Rattle.pq_query.specs.Query as query
use Rattle.pq_query.specs.Query.{QueryTop, QueryTree, Queries, Enters, Leaves, Passes, Ends, Both, Other, Repeated}
use Rattle.pq_install.specs.contracts.install.Install as installs
use Rattle.pq_letters.specs.Letters.{LettersValue, letters_code}
use Rattle.pq_min.specs.contracts.classes.Classes as machines
use Rattle.pq_rewrite.specs.contracts.write_set.WriteSet as writes
use Rattle.pq_store.specs.Code.{coded_tree}
use Rattle.pq_store.specs.Tree.{Tree}
use Rattle.pq_store.specs.contracts.test.Test as tests
use Rattle.pq_sum.specs.Places.{Sum}
use Rattle.pq_compile.specs.Documents.{DocumentTree}
use Rattle.pq_compile.specs.Names.{Named}

-- Predicates: a top is kept as its number with its field and its numbers.

abbrev top_parts : PredTop → ℕ × (Field × (ℕ × ℕ))
top_parts Always = (0, (Switch, (0, 0)))
top_parts Never = (1, (Switch, (0, 0)))
top_parts (Equals f n) = (2, (f, (n, 0)))
top_parts (Leads f n len) = (3, (f, (n, len)))
top_parts (LeadsWide f n len) = (4, (f, (n, len)))
top_parts Every = (5, (Switch, (0, 0)))
top_parts pred.Some = (6, (Switch, (0, 0)))
top_parts Negated = (7, (Switch, (0, 0)))

abbrev top_by : ℕ → Field → ℕ → ℕ → PredTop
top_by zero f n len = Always
top_by (suc zero) f n len = Never
top_by (suc (suc zero)) f n len = Equals f n
top_by (suc (suc (suc zero))) f n len = Leads f n len
top_by (suc (suc (suc (suc zero)))) f n len = LeadsWide f n len
top_by (suc (suc (suc (suc (suc zero))))) f n len = Every
top_by (suc (suc (suc (suc (suc (suc zero)))))) f n len = pred.Some
top_by k f n len = Negated

pub top_again : (t : PredTop) → top_by (top_parts t).0 (top_parts t).1.0 (top_parts t).1.1.0 (top_parts t).1.1.1 ≡ t
top_again Always = refl
top_again Never = refl
top_again (Equals f n) = refl
top_again (Leads f n len) = refl
top_again (LeadsWide f n len) = refl
top_again Every = refl
top_again pred.Some = refl
top_again Negated = refl

abbrev pred_top_code : Coded PredTop
pred_top_code =
    code_by (ℕ × (Field × (ℕ × ℕ))) (coded× coded_ℕ (coded× fields.the_row.coded (coded× coded_ℕ coded_ℕ))) top_parts
    (λ p. top_by p.0 p.1.0 p.1.1.0 p.1.1.1) top_again

abbrev code_preds : Preds → Gv
code_preds pred.none = gnil
code_preds (pred.put top below rest) = gcons (gcons (pred_top_code.code top) (code_preds below)) (code_preds rest)

pub preds_inj : (p q : Preds) → code_preds p ≡ code_preds q → p ≡ q
preds_inj pred.none pred.none e = refl
preds_inj pred.none (pred.put t b r) e = cc
preds_inj (pred.put t b r) pred.none e = cc
preds_inj (pred.put s a p) (pred.put t b q) e = cc (pred_top_code.inj s t cc, preds_inj a b cc, preds_inj p q cc)

abbrev preds_code : Coded Preds
preds_code = record { code = code_preds; inj = preds_inj }

abbrev pred_code : Coded PredTree
pred_code = code_by (PredTop × Preds) (coded× pred_top_code preds_code) (λ p. (p.top, p.below)) (λ p. record { top = p.0; below = p.1 }) (λ _. refl)

-- Policies.

abbrev no_pred : PredTree
no_pred = pred.leaf Always

abbrev policy_parts : PolicyTop → ℕ × (PredTree × (Field × ℕ))
policy_parts Pass = (0, (no_pred, (Switch, 0)))
policy_parts Discard = (1, (no_pred, (Switch, 0)))
policy_parts Spread = (2, (no_pred, (Switch, 0)))
policy_parts (Only p) = (3, (p, (Switch, 0)))
policy_parts (Write f n) = (4, (no_pred, (f, n)))
policy_parts (Forward n) = (5, (no_pred, (Switch, n)))
policy_parts (Choose p) = (6, (p, (Switch, 0)))
policy_parts policy.Either = (7, (no_pred, (Switch, 0)))
policy_parts policy.InTurn = (8, (no_pred, (Switch, 0)))

abbrev policy_by : ℕ → PredTree → Field → ℕ → PolicyTop
policy_by zero p f n = Pass
policy_by (suc zero) p f n = Discard
policy_by (suc (suc zero)) p f n = Spread
policy_by (suc (suc (suc zero))) p f n = Only p
policy_by (suc (suc (suc (suc zero)))) p f n = Write f n
policy_by (suc (suc (suc (suc (suc zero))))) p f n = Forward n
policy_by (suc (suc (suc (suc (suc (suc zero)))))) p f n = Choose p
policy_by (suc (suc (suc (suc (suc (suc (suc zero))))))) p f n = policy.Either
policy_by k p f n = policy.InTurn

pub policy_again : (t : PolicyTop) → policy_by (policy_parts t).0 (policy_parts t).1.0 (policy_parts t).1.1.0 (policy_parts t).1.1.1 ≡ t
policy_again Pass = refl
policy_again Discard = refl
policy_again Spread = refl
policy_again (Only p) = refl
policy_again (Write f n) = refl
policy_again (Forward n) = refl
policy_again (Choose p) = refl
policy_again policy.Either = refl
policy_again policy.InTurn = refl

abbrev policy_top_code : Coded PolicyTop
policy_top_code =
    code_by (ℕ × (PredTree × (Field × ℕ))) (coded× coded_ℕ (coded× pred_code (coded× fields.the_row.coded coded_ℕ))) policy_parts
    (λ p. policy_by p.0 p.1.0 p.1.1.0 p.1.1.1) policy_again

abbrev code_policies : Policies → Gv
code_policies policy.none = gnil
code_policies (policy.put top below rest) = gcons (gcons (policy_top_code.code top) (code_policies below)) (code_policies rest)

pub policies_inj : (p q : Policies) → code_policies p ≡ code_policies q → p ≡ q
policies_inj policy.none policy.none e = refl
policies_inj policy.none (policy.put t b r) e = cc
policies_inj (policy.put t b r) policy.none e = cc
policies_inj (policy.put s a p) (policy.put t b q) e = cc (policy_top_code.inj s t cc, policies_inj a b cc, policies_inj p q cc)

abbrev policies_code : Coded Policies
policies_code = record { code = code_policies; inj = policies_inj }

abbrev policy_code : Coded PolicyTree
policy_code = code_by (PolicyTop × Policies) (coded× policy_top_code policies_code) (λ p. (p.top, p.below)) (λ p. record { top = p.0; below = p.1 }) (λ _. refl)

-- Queries.

abbrev no_groups : List Group
no_groups = []

abbrev query_parts : QueryTop → ℕ × ((PredTree × List Group) × (PredTree × List Group))
query_parts (Enters p gs) = (0, ((p, gs), (no_pred, no_groups)))
query_parts (Leaves p gs) = (1, ((p, gs), (no_pred, no_groups)))
query_parts (Passes p gs q hs) = (2, ((p, gs), (q, hs)))
query_parts (Ends p) = (3, ((p, no_groups), (no_pred, no_groups)))
query_parts query.InTurn = (4, ((no_pred, no_groups), (no_pred, no_groups)))
query_parts query.Either = (5, ((no_pred, no_groups), (no_pred, no_groups)))
query_parts Both = (6, ((no_pred, no_groups), (no_pred, no_groups)))
query_parts Other = (7, ((no_pred, no_groups), (no_pred, no_groups)))
query_parts Repeated = (8, ((no_pred, no_groups), (no_pred, no_groups)))

abbrev query_by : ℕ → PredTree → List Group → PredTree → List Group → QueryTop
query_by zero p gs q hs = Enters p gs
query_by (suc zero) p gs q hs = Leaves p gs
query_by (suc (suc zero)) p gs q hs = Passes p gs q hs
query_by (suc (suc (suc zero))) p gs q hs = Ends p
query_by (suc (suc (suc (suc zero)))) p gs q hs = query.InTurn
query_by (suc (suc (suc (suc (suc zero))))) p gs q hs = query.Either
query_by (suc (suc (suc (suc (suc (suc zero)))))) p gs q hs = Both
query_by (suc (suc (suc (suc (suc (suc (suc zero))))))) p gs q hs = Other
query_by k p gs q hs = Repeated

pub query_again : (t : QueryTop) → query_by (query_parts t).0 (query_parts t).1.0.0 (query_parts t).1.0.1 (query_parts t).1.1.0 (query_parts t).1.1.1 ≡ t
query_again (Enters p gs) = refl
query_again (Leaves p gs) = refl
query_again (Passes p gs q hs) = refl
query_again (Ends p) = refl
query_again query.InTurn = refl
query_again query.Either = refl
query_again Both = refl
query_again Other = refl
query_again Repeated = refl

abbrev query_top_code : Coded QueryTop
query_top_code =
    code_by (ℕ × ((PredTree × List Group) × (PredTree × List Group)))
    (coded× coded_ℕ (coded× (coded× pred_code (coded_list groups.the_row.coded)) (coded× pred_code (coded_list groups.the_row.coded))))
    query_parts (λ p. query_by p.0 p.1.0.0 p.1.0.1 p.1.1.0 p.1.1.1) query_again

abbrev code_queries : Queries → Gv
code_queries query.none = gnil
code_queries (query.put top below rest) = gcons (gcons (query_top_code.code top) (code_queries below)) (code_queries rest)

pub queries_inj : (p q : Queries) → code_queries p ≡ code_queries q → p ≡ q
queries_inj query.none query.none e = refl
queries_inj query.none (query.put t b r) e = cc
queries_inj (query.put t b r) query.none e = cc
queries_inj (query.put s a p) (query.put t b q) e = cc (query_top_code.inj s t cc, queries_inj a b cc, queries_inj p q cc)

abbrev queries_code : Coded Queries
queries_code = record { code = code_queries; inj = queries_inj }

abbrev query_code : Coded QueryTree
query_code = code_by (QueryTop × Queries) (coded× query_top_code queries_code) (λ q. (q.top, q.below)) (λ p. record { top = p.0; below = p.1 }) (λ _. refl)

-- Documents.

abbrev document_code : Coded DocumentTree
document_code =
    code_by (Topology × (List (Named PolicyTree) × List (Named QueryTree)))
    (coded× topologies.the_row.coded (coded× (coded_list (coded× (coded_list coded_ℕ) policy_code)) (coded_list (coded× (coded_list coded_ℕ) query_code))))
    (λ d. (d.topology, (d.parts, d.queries))) (λ p. record { topology = p.0; parts = p.1.0; queries = p.1.1 }) (λ _. refl)

-- Engines.

-- an engine: its document, the install of this, the trees of the store of the parts' diagrams, their sum, and what its queries tell apart
pub record EngineValue : Type 0 where
  pub document : DocumentTree
  pub install : Install
  pub forward : List (Tree (List Written))
  pub sum : Sum
  pub instances : List Instance
  pub letters : LettersValue
  pub classes : Machine

abbrev sum_code : Coded Sum
sum_code = code_by (List ℕ × List ℕ) (coded× (coded_list coded_ℕ) (coded_list coded_ℕ)) (λ s. (s.cells, s.slots))
    (λ p. record { cells = p.0; slots = p.1 }) (λ _. refl)

abbrev pub engine_code : Coded EngineValue
engine_code =
    code_by (DocumentTree × (Install × (List (Tree (List Written)) × (Sum × (List Instance × (LettersValue × Machine))))))
    (coded× document_code (coded× installs.the_row.coded (coded× (coded_list (coded_tree tests.the_row.coded writes.the_row.coded))
    (coded× sum_code (coded× (coded_list instances.the_row.coded) (coded× letters_code machines.the_row.coded))))))
    (λ e. (e.document, (e.install, (e.forward, (e.sum, (e.instances, (e.letters, e.classes)))))))
    (λ p. record {
      document = p.0;
      install = p.1.0;
      forward = p.1.1.0;
      sum = p.1.1.1.0;
      instances = p.1.1.1.1.0;
      letters = p.1.1.1.1.1.0;
      classes = p.1.1.1.1.1.1;
    })
    (λ _. refl)
