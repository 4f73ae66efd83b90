-- What a document means: where its parts send packets, and which words its queries hold.
use Rattle.std.specs.Prelude.{◌≡◌, ◌↔◌, ℕ, true, List, IsTrue, Some, slice_get}
use Rattle.pq_fields.specs.Packet.{Fit, Numbers}
use Rattle.pq_model.specs.Buckets.{Instance}
use Rattle.pq_model.specs.Classes.{IsPath}
use Rattle.pq_model.specs.Meaning.{Meaning}
use Rattle.pq_model.specs.Topology.{Topology, is_port}
use Rattle.pq_model.specs.Word.{Word}
use Rattle.pq_policy.specs.Policy.{IsListOf, PolicyTree}
use Rattle.pq_query.specs.Instances.{instances_of}
use Rattle.pq_query.specs.Language.{lang}
use Rattle.pq_query.specs.Query.{QueryTree}
use Rattle.pq_meaning.specs.Parts.{any_yields}

-- some part yields the second packet on the first, at a port of the first packet's switch
abbrev pub departs : Topology → List PolicyTree → Numbers → Numbers → Type 0
departs T ps x y = any_yields T ps x y × IsTrue (is_port T x.switch y.port)

-- the instance accepts just the words of packets that its query holds under its label
abbrev pub AcceptsHeld : List QueryTree → Meaning → Instance → Type 0
AcceptsHeld qs m inst =
    (q : QueryTree) → slice_get qs inst.query ≡ Some q → (w : Word) → IsPath w → (m.accepts inst w ≡ true) ↔ lang q inst.label w

-- the meaning of a topology with these parts and queries
pub record IsMeaning (T : Topology) (ps : List PolicyTree) (qs : List QueryTree) (m : Meaning) : Type 0 where
  pub topology : m.topology ≡ T
  pub departures : (x : Numbers) → Fit x → IsListOf (departs T ps x) (m.departs x)
  pub instances : m.instances ≡ instances_of T qs
  pub accepts : (i : ℕ) (inst : Instance) → slice_get m.instances i ≡ Some inst → AcceptsHeld qs m inst
