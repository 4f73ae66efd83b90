-- A small lawful install with a part of each sort.
use Rattle.std.specs.Prelude.{ℕ, ◌≡◌, ◌<◌, ◌≤◌, ◌^◌, List, [], ◌∷◌, codes, length, IsTrue}
use Rattle.std.specs.List.{IsDistinct}
use Rattle.std.proofs.Common.{arith, ap, inl, refl}
use Rattle.std.proofs.lemmas.List.Elements.{All-cons, All-nil}
use Rattle.pq_term.specs.Names.{is_name}
use Rattle.pq_model.specs.declared.action.Action.{Action}
use Rattle.pq_model.specs.declared.action.Action.TheVariants.{Output, PopVlan}
use Rattle.pq_model.specs.declared.group_mod.GroupCommand.TheVariants.{Add as AddGroup}
use Rattle.pq_model.specs.declared.message.Message.{Message}
use Rattle.pq_model.specs.declared.message.Message.TheVariants.{Group, Barrier}
use Rattle.pq_model.specs.MatchFields.{IsPortNumber}
use Rattle.pq_model.specs.Topology.{Switch, Link, Topology}
use Rattle.pq_model.specs.Buckets.{Instance}
use Rattle.pq_model.specs.TablesMachine.{Row}
use Rattle.pq_model.specs.Spelling.{action_bytes, bucket_bytes, group_body, with_header, message_bytes}
use Rattle.pq_model.specs.Lawful.{IsLawfulAction, IsLawfulBucket, IsLawfulMessage}
use Rattle.pq_model.specs.Install.{Install, IsLawfulSwitch, IsLawfulLink, IsLawfulTopology, IsLawfulPair, IsLawfulRow, IsLawfulList, IsLawfulInstall}
use Rattle.pq_topo.specs.Named.{IsNamedTopology}

-- two linked switches, the second with the highest datapath number and a group of two buckets, and two queries
abbrev west : Switch
west = record { name = codes "s1"; datapath = 1; ports = 1 ∷ 2 ∷ []; limit = 2000 }

abbrev east : Switch
east = record { name = codes "s2"; datapath = 18446744073709551615; ports = 1 ∷ []; limit = 2000 }

abbrev link : Link
link = record { first = (1, 2); second = (18446744073709551615, 1) }

abbrev pub linked_topology : Topology
linked_topology = record { switches = west ∷ east ∷ []; links = link ∷ [] }

abbrev numbered : Instance
numbered = record { query = 0; label = 10 ∷ 18446744073709551615 ∷ [] }

abbrev bare : Instance
bare = record { query = 1; label = [] }

abbrev row : Row
row = record { tag = 7; pairs = numbered ∷ bare ∷ [] }

-- a bucket that takes the header away and sends
abbrev bucket : ℕ → List Action
bucket port = PopVlan ∷ Output port ∷ []

abbrev pub two_buckets : Message
two_buckets = Group (record { xid = 4; command = AddGroup; group = 1; buckets = bucket 2 ∷ bucket 3 ∷ [] })

abbrev pub linked : Install
linked = record {
  topology = linked_topology;
  queries = codes "q1" ∷ codes "to_east" ∷ [];
  report = row ∷ [];
  messages = (Barrier 3 ∷ []) ∷ (two_buckets ∷ []) ∷ [];
}

-- They keep the rules.

west_is_lawful : IsLawfulSwitch west
west_is_lawful = (
  omega arith,
  (λ none. omega (arith, ap length none)),
  (omega arith, tt),
  All-cons IsPortNumber 1 (2 ∷ []) (omega arith, omega arith)
      (All-cons IsPortNumber 2 [] (omega arith, omega arith) (All-nil IsPortNumber)),
)

east_is_lawful : IsLawfulSwitch east
east_is_lawful = (omega arith, (λ none. omega (arith, ap length none)), tt, All-cons IsPortNumber 1 [] (omega arith, omega arith) (All-nil IsPortNumber))

linked_topology_is_lawful : IsLawfulTopology linked_topology
unfolding IsDistinct
linked_topology_is_lawful = record {
  few_switches = omega arith;
  few_ports = omega arith;
  switches = All-cons IsLawfulSwitch west (east ∷ []) west_is_lawful (All-cons IsLawfulSwitch east [] east_is_lawful (All-nil IsLawfulSwitch));
  ascending = (omega arith, tt);
  links = All-cons (IsLawfulLink linked_topology) link [] (refl, refl, refl) (All-nil (IsLawfulLink linked_topology));
  linked_once = ((refl, tt), (tt, tt));
  links_ascend = tt;
}

pub linked_topology_is_named : IsNamedTopology linked_topology
unfolding IsDistinct
linked_topology_is_named = record {
  lawful = linked_topology_is_lawful;
  names_differ = ((refl, tt), (tt, tt));
  limits = All-cons (λ s. s.limit ≤ 16384) west (east ∷ []) (omega arith)
      (All-cons (λ s. s.limit ≤ 16384) east [] (omega arith) (All-nil (λ s. s.limit ≤ 16384)));
}

bucket_is_lawful : (port : ℕ) → IsPortNumber port → IsLawfulBucket (bucket port)
bucket_is_lawful port fits = record {
  each = All-cons IsLawfulAction PopVlan (Output port ∷ []) tt (All-cons IsLawfulAction (Output port) [] (inl fits) (All-nil IsLawfulAction));
  placed = (omega arith, tt);
  sent = (PopVlan ∷ [], port, refl);
}

two_buckets-length : length (message_bytes two_buckets) ≡ 96
unfolding message_bytes with_header group_body bucket_bytes action_bytes
two_buckets-length = refl

two_buckets_are_lawful : IsLawfulMessage two_buckets
two_buckets_are_lawful = record {
  content = record {
    xid = omega arith;
    command = (
      (omega arith, omega arith),
      (
        (λ none. omega (arith, ap length none)),
        All-cons IsLawfulBucket (bucket 2) (bucket 3 ∷ []) (bucket_is_lawful 2 (omega arith, omega arith))
            (All-cons IsLawfulBucket (bucket 3) [] (bucket_is_lawful 3 (omega arith, omega arith)) (All-nil IsLawfulBucket)),
      ),
    );
  };
  short = omega (arith, two_buckets-length);
}

barrier-length : length (message_bytes (Barrier 3)) ≡ 8
unfolding message_bytes with_header
barrier-length = refl

only_one : (m : Message) → IsLawfulMessage m → IsLawfulList (m ∷ [])
only_one m lawful = (omega arith, All-cons IsLawfulMessage m [] lawful (All-nil IsLawfulMessage))

abbrev IsU64 : ℕ → Type 0
IsU64 n = n < 2 ^ 64

numbered_is_lawful : IsLawfulPair 2 numbered
numbered_is_lawful = (
  omega arith,
  omega arith,
  All-cons IsU64 10 (18446744073709551615 ∷ []) (omega arith) (All-cons IsU64 18446744073709551615 [] (omega arith) (All-nil IsU64)),
)

bare_is_lawful : IsLawfulPair 2 bare
bare_is_lawful = (omega arith, omega arith, All-nil IsU64)

row_is_lawful : IsLawfulRow 2 row
row_is_lawful = (
  omega arith,
  omega arith,
  (λ none. omega (arith, ap length none)),
  omega arith,
  All-cons (IsLawfulPair 2) numbered (bare ∷ []) numbered_is_lawful
      (All-cons (IsLawfulPair 2) bare [] bare_is_lawful (All-nil (IsLawfulPair 2))),
  (refl, tt),
)

abbrev Named : List ℕ → Type 0
Named name = IsTrue (is_name name)

pub linked_is_lawful : IsLawfulInstall linked
unfolding IsDistinct
linked_is_lawful = record {
  topology = linked_topology_is_lawful;
  few_queries = omega arith;
  names = All-cons Named (codes "q1") (codes "to_east" ∷ []) refl (All-cons Named (codes "to_east") [] refl (All-nil Named));
  names_differ = ((refl, tt), (tt, tt));
  rows = All-cons (IsLawfulRow 2) row [] row_is_lawful (All-nil (IsLawfulRow 2));
  tags_ascend = tt;
  listed = refl;
  messages = All-cons IsLawfulList (Barrier 3 ∷ []) ((two_buckets ∷ []) ∷ [])
      (only_one (Barrier 3) (record { content = omega arith; short = omega (arith, barrier-length) }))
      (All-cons IsLawfulList (two_buckets ∷ []) [] (only_one two_buckets two_buckets_are_lawful) (All-nil IsLawfulList));
}
