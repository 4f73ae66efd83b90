-- Edits of documents.
use Rattle.std.specs.Prelude.{ℕ, ◌^◌, ◌<◌, ◌≤◌, List, [], ◌∷◌, if◌then◌else◌, length, bytes_eq, IsTrue}
use Rattle.std.specs.List.{list_any}
use Rattle.pq_term.specs.Names.{is_name}
use Rattle.pq_pred.specs.Named.{MayStand}
use Rattle.pq_policy.specs.Policy.{IsLawfulPolicy, IsPolicyOver, PolicyTree, policy_tree}
use Rattle.pq_query.specs.Atoms.{query_atoms}
use Rattle.pq_query.specs.Lawful.{IsLawfulQuery, IsQueryOver}
use Rattle.pq_query.specs.Query.{QueryTree, query_tree}
use Rattle.pq_compile.specs.Documents.{DocumentTree}
use Rattle.pq_compile.specs.Lawful.{names_in}
use Rattle.pq_compile.specs.Names.{Named}
use Rattle.pq_edit.specs.declared.edit.Edit.{Edit}
use Rattle.pq_edit.specs.declared.edit.Edit.TheVariants.{PutPart, RemovePart, PutQuery, RemoveQuery}

-- an edit as plain data
pub data EditTree : Type 0 where
  PartPut : Named PolicyTree → EditTree
  PartRemoved : List ℕ → EditTree
  QueryPut : Named QueryTree → EditTree
  QueryRemoved : List ℕ → EditTree

abbrev pub edit_tree : Edit → EditTree
edit_tree (PutPart name policy) = PartPut (name, policy_tree policy)
edit_tree (RemovePart name) = PartRemoved name
edit_tree (PutQuery name query) = QueryPut (name, query_tree query)
edit_tree (RemoveQuery name) = QueryRemoved name

-- what is named, put in place of what has its name, or after all others where nothing has
abbrev pub put : {A : Type 0} → Named A → List (Named A) → List (Named A)
put new [] = new ∷ []
put new (n ∷ ns) = if bytes_eq n.0 new.0 then new ∷ ns else n ∷ put new ns

-- without the first that has the name
abbrev pub without : {A : Type 0} → List ℕ → List (Named A) → List (Named A)
without name [] = []
without name (n ∷ ns) = if bytes_eq n.0 name then ns else n ∷ without name ns

-- the document after the edit
abbrev pub edited : DocumentTree → EditTree → DocumentTree
edited d (PartPut p) = record { topology = d.topology; parts = put p d.parts; queries = d.queries }
edited d (PartRemoved name) = record { topology = d.topology; parts = without name d.parts; queries = d.queries }
edited d (QueryPut q) = record { topology = d.topology; parts = d.parts; queries = put q d.queries }
edited d (QueryRemoved name) = record { topology = d.topology; parts = d.parts; queries = without name d.queries }

-- the list has what is so named
abbrev pub IsNamedIn : {A : Type 0} → List ℕ → List (Named A) → Type 0
IsNamedIn name named = IsTrue (list_any (bytes_eq name) (names_in named))

-- a lawful part, for which there is room in the document
pub record IsLawfulPart (d : DocumentTree) (p : Named PolicyTree) : Type 0 where
  pub name : IsTrue (is_name p.0)
  pub policy : IsLawfulPolicy p.1
  pub named : IsPolicyOver (MayStand d.topology) p.1
  pub few : length (put p d.parts) ≤ 1024

-- a lawful query, for which there is room in the document, of fewer than 2^19 atoms
pub record IsLawfulNamedQuery (d : DocumentTree) (q : Named QueryTree) : Type 0 where
  pub name : IsTrue (is_name q.0)
  pub query : IsLawfulQuery q.1
  pub named : IsQueryOver (MayStand d.topology) q.1
  pub few : length (put q d.queries) ≤ 256
  pub atoms : query_atoms q.1 < 2 ^ 19

-- the edit may be made of the document: what it puts is lawful, and what it removes is there
abbrev pub IsLawfulEdit : DocumentTree → EditTree → Type 0
IsLawfulEdit d (PartPut p) = IsLawfulPart d p
IsLawfulEdit d (PartRemoved name) = IsNamedIn name d.parts
IsLawfulEdit d (QueryPut q) = IsLawfulNamedQuery d q
IsLawfulEdit d (QueryRemoved name) = IsNamedIn name d.queries
