-- Lawful documents.
use Rattle.std.specs.Prelude.{ℕ, ◌≤◌, List, map, length, All, bytes_eq, IsTrue}
use Rattle.std.specs.List.{IsDistinct}
use Rattle.pq_term.specs.Names.{is_name}
use Rattle.pq_topo.specs.Named.{IsNamedTopology}
use Rattle.pq_pred.specs.Named.{MayStand}
use Rattle.pq_policy.specs.Policy.{IsLawfulPolicy, IsPolicyOver}
use Rattle.pq_query.specs.Lawful.{IsLawfulQuery, IsQueryOver}
use Rattle.pq_compile.specs.Names.{Named}
use Rattle.pq_compile.specs.Documents.{DocumentTree}

-- names are names, and differ
pub record AreLawfulNames (names : List (List ℕ)) : Type 0 where
  pub each : All (λ name. IsTrue (is_name name)) names
  pub differ : IsDistinct bytes_eq names

-- the names of what is named
abbrev pub names_in : {A : Type 0} → List (Named A) → List (List ℕ)
names_in named = map (λ s. s.0) named

-- the topology is that of a network; there are at most 1,024 parts and 256 queries, and all of them are lawful, their switches are those of the network, and their ports are numbers of ports
pub record IsLawfulDocument (d : DocumentTree) : Type 0 where
  pub topology : IsNamedTopology d.topology
  pub few_parts : length d.parts ≤ 1024
  pub part_names : AreLawfulNames (names_in d.parts)
  pub parts : All (λ p. IsLawfulPolicy p.1) d.parts
  pub named_parts : All (λ p. IsPolicyOver (MayStand d.topology) p.1) d.parts
  pub few_queries : length d.queries ≤ 256
  pub query_names : AreLawfulNames (names_in d.queries)
  pub queries : All (λ q. IsLawfulQuery q.1) d.queries
  pub named_queries : All (λ q. IsQueryOver (MayStand d.topology) q.1) d.queries
