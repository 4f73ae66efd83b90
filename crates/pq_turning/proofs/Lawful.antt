-- The messages between the installs of two documents are lawful: neither install adds more groups than there are numbers of groups.
use Rattle.std.proofs.Common.{List, [], ◌∷◌, All, length, sym, ap, subst, arith}
use Rattle.std.proofs.lemmas.List.{length-map}
use Rattle.std.proofs.lemmas.List.Elements.{All-from_recursion}
use Rattle.std.specs.List.{AllByRecursion, AllZip}
use Rattle.pq_model.specs.declared.message.Message.{Message}
use Rattle.pq_model.specs.Install.{Install}
use Rattle.pq_model.specs.Renewal.{Renewal, renewal_messages}
use Rattle.pq_model.specs.Topology.{Switch}
use Rattle.pq_delta.specs.Turning.{HasFewGroups, IsNumberedRenewal}
use Rattle.pq_delta.proofs.TurningLemmas.{renewal-groups}
use Rattle.pq_compile.specs.Compiled.{IsInstalled}
use Rattle.pq_compile.specs.Documents.{DocumentTree}
use Rattle.pq_turning.proofs.Turned.{FilledFor, Renews, renews}

numbered-few : (r : Renewal) → IsNumberedRenewal r → HasFewGroups (renewal_messages r)
numbered-few r h =
    let added = ap length (renewal-groups r h.renewing) in
    let long = length-map r.groups (λ g. g.buckets) in
    let few = h.few in
    omega (arith, added, long, few)

few-groups : (R : Switch → List Message → Type 0) → ((s : Switch) (ms : List Message) → R s ms → Renews ms)
    → (ss : List Switch) (lists : List (List Message)) → AllZip R ss lists → AllByRecursion HasFewGroups lists
few-groups R renew [] [] all = tt
few-groups R renew [] (ms ∷ lists) all = absurd all
few-groups R renew (s ∷ ss) [] all = absurd all
few-groups R renew (s ∷ ss) (ms ∷ lists) (here, rest) = (few (renew s ms here), few-groups R renew ss lists rest)
  where
    few : Renews ms → HasFewGroups ms
    few r = subst HasFewGroups (sym r.messages) (numbered-few r.renewal r.numbered)

-- the messages of a document's install to each switch add few groups
pub few-added : (d : DocumentTree) (i : Install) → IsInstalled d i → All HasFewGroups i.messages
few-added d i h = All-from_recursion HasFewGroups i.messages (few-groups (FilledFor d i h) (renews d i h) d.topology.switches i.messages h.filled)
