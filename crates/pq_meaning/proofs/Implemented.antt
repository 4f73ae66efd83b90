-- The install of a document implements its meaning.
use Rattle.std.proofs.Common.{ℕ, List, sym, subst}
use Rattle.pq_lists.proofs.Paired.{zip_weaker}
use Rattle.pq_model.specs.declared.message.Message.{Message}
use Rattle.pq_model.specs.Buckets.{Instance}
use Rattle.pq_model.specs.Headline.{Implements}
use Rattle.pq_model.specs.Install.{Install, IsLawfulTopology}
use Rattle.pq_model.specs.Meaning.{Meaning}
use Rattle.pq_model.specs.Topology.{Switch, Topology}
use Rattle.pq_policy.specs.Policy.{PolicyTree}
use Rattle.pq_query.specs.Instances.{instances_of}
use Rattle.pq_query.specs.Languages.{IsHeld}
use Rattle.pq_query.specs.Query.{QueryTree}
use Rattle.pq_layout.specs.Emission.{AreMessages, IsEmission}
use Rattle.pq_layout.specs.Leaves.{Departures}
use Rattle.pq_layout.specs.Tagging.{Tagging}
use Rattle.pq_layout.specs.Messages.{ArrivingTrees, LeavingTrees}
use Rattle.pq_lookup.specs.Sent.{AreFilled, SwitchSends}
use Rattle.pq_headline.specs.Sent.{AllSend, AreSending}
use Rattle.pq_headline.proofs.Implemented.{implemented}
use Rattle.pq_meaning.specs.Compiled.{IsCompiled, IsFilled}
use Rattle.pq_meaning.specs.Meaning.{IsMeaning}
use Rattle.pq_meaning.proofs.Meant.{laid_out}

module _ (sends : (first : ArrivingTrees) (second : LeavingTrees) → AreFilled first second → SwitchSends first second) where
  -- a switch whose messages come from trees that entries can stand for sends by them
  filled_send : (T : Topology) (g : Tagging) (writes : Departures) (s : Switch) (ms : List Message)
      → ((a : AreMessages T g writes s.datapath ms) × AreFilled a.first a.second) → AreSending T g writes s.datapath ms
  filled_send T g writes s ms (a, filled) = record { messages = a; send = sends a.first a.second filled ms a.messages }

  all_send : (T : Topology) (g : Tagging) (writes : Departures) (i : Install) → IsFilled T g writes i → AllSend T g writes i.messages
  all_send T g writes i filled =
      zip_weaker (λ s ms. (a : AreMessages T g writes s.datapath ms) × AreFilled a.first a.second)
      (λ s ms. AreSending T g writes s.datapath ms) (filled_send T g writes) T.switches i.messages filled

  pub compiled : (T : Topology) (names : List (List ℕ)) (ps : List PolicyTree) (qs : List QueryTree) (i : Install) (m : Meaning)
      → IsLawfulTopology T → (c : IsCompiled T names ps qs i) → IsFilled T c.tags c.writes i → IsMeaning T ps qs m → Implements i m
  compiled T names ps qs i m lawful c filled meaning =
      implemented T m (IsHeld qs (instances_of T qs)) c.tags c.writes names i (laid_out T ps qs m meaning lawful c.tags c.writes c.laid)
      (subst (λ (is : List Instance). IsEmission T names c.writes c.tags is i) (sym meaning.instances) c.emission)
      (all_send T c.tags c.writes i filled)
