-- The install of a document.
use Rattle.std.specs.Prelude.{ℕ, ◌≤◌, List}
use Rattle.std.specs.List.{AllZip}
use Rattle.pq_model.specs.Install.{Install}
use Rattle.pq_model.specs.Topology.{Topology}
use Rattle.pq_policy.specs.Policy.{PolicyTree}
use Rattle.pq_query.specs.Instances.{instances_of}
use Rattle.pq_query.specs.Languages.{IsHeld}
use Rattle.pq_query.specs.Query.{QueryTree}
use Rattle.pq_layout.specs.Emission.{AreMessages, IsEmission}
use Rattle.pq_layout.specs.Leaves.{AreDepartures, Departures}
use Rattle.pq_layout.specs.Tagging.{IsTagging, Tagging}
use Rattle.pq_lookup.specs.Sent.{AreFilled}
use Rattle.pq_meaning.specs.Meaning.{departs}

-- departures of the parts as writes, and tags of the words of the queries, at most 4,094
pub record IsLaid (T : Topology) (ps : List PolicyTree) (qs : List QueryTree) (g : Tagging) (writes : Departures) : Type 0 where
  pub departures : AreDepartures (departs T ps) writes
  pub tagging : IsTagging (IsHeld qs (instances_of T qs)) g
  pub few : g.count ≤ 4094

-- the install of a topology with queries of these names, parts and queries
pub record IsCompiled (T : Topology) (names : List (List ℕ)) (ps : List PolicyTree) (qs : List QueryTree) (i : Install) : Type 0 where
  pub writes : Departures
  pub tags : Tagging
  pub laid : IsLaid T ps qs tags writes
  pub emission : IsEmission T names writes tags (instances_of T qs) i

-- the messages of each switch come from trees that entries can stand for
abbrev pub IsFilled : Topology → Tagging → Departures → Install → Type 0
IsFilled T g writes i = AllZip (λ s ms. (a : AreMessages T g writes s.datapath ms) × AreFilled a.first a.second) T.switches i.messages
