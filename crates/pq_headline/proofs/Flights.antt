-- What the departures of a packet put in flight and deliver, by the tables and by the meaning.
use Rattle.std.proofs.Common.{◌≡◌, ◌∙◌, ◌<◌, ◌^◌, ℕ, Bool, true, false, cond, ◌&&◌, if◌then◌else◌, List, [], ◌∷◌, ◌++◌, map, refl, sym, ap, inr, arith}
use Rattle.std.specs.Prelude.{is_some, is_none, IsTrue}
use Rattle.std.specs.List.{AllByRecursion}
use Rattle.std.specs.declared.option.Option.{Option}
use Rattle.std.specs.declared.option.Option.TheVariants.{None, Some}
use Rattle.std.proofs.lemmas.List.Elements.{recursion_from_All}
use Rattle.pq_fields.specs.Packet.{Numbers, Fit, numbers}
use Rattle.pq_model.specs.Classes.{IsPath, has_even_length}
use Rattle.pq_model.specs.Headline.{plain}
use Rattle.pq_model.specs.Install.{AscendsBy, IsLawfulLink, IsLawfulSwitch, IsLawfulTopology}
use Rattle.pq_model.specs.Meaning.{arrival, arrivals, deliveries, moved_to}
use Rattle.pq_model.specs.Simulation.{Pairwise}
use Rattle.pq_model.specs.TablesMachine.{carried, carried_all, delivered_of}
use Rattle.pq_model.specs.Tagged.{tagged_numbers}
use Rattle.pq_model.specs.Topology.{Topology, is_port, peer}
use Rattle.pq_model.specs.Word.{Out, Word}
use Rattle.pq_model.proofs.Pairs.{Pairwise-append}
use Rattle.pq_layout.specs.Tagging.{Tagging, tag_of}
use Rattle.pq_headline.specs.LaidOut.{IsTraced, Matches}
use Rattle.pq_headline.proofs.Copied.{departed_as}
use Rattle.pq_headline.proofs.LeavingPackets.{IsDeparting}
use Rattle.pq_headline.proofs.Ends.{peer_linked, peer_port, port_numbers}
use Rattle.pq_headline.proofs.Keys.{packets_decide}
use Rattle.pq_headline.proofs.Paths.{left_even, left_path, left_tag}

-- departures with their headers ascend as the departures do
pub departed_ascend : (T : Topology) (g : Tagging) (a : ℕ) (ys : List Numbers) → AscendsBy numbers ys → AscendsBy tagged_numbers (map (departed_as T g a) ys)
departed_ascend T g a [] up = tt
departed_ascend T g a (y ∷ []) up = tt
departed_ascend T g a (y ∷ z ∷ ys) up = (packets_decide (departed_as T g a y) (departed_as T g a z) up.0, departed_ascend T g a (z ∷ ys) up.1)

-- a packet at the other end of a link is one still
pub moved_fit : (T : Topology) → IsLawfulTopology T → (y : Numbers) → Fit y → (e : ℕ × ℕ) → IsTrue (is_port T e.0 e.1) → Fit (moved_to y e)
moved_fit T lawful y fit e port =
    let told = port_numbers T.switches e.0 e.1 (recursion_from_All IsLawfulSwitch T.switches lawful.switches) port in
    let short : e.1 < 2 ^ 32 = omega (arith, told.1.1) in
    record {
      switch = told.0;
      port = short;
      eth_type = fit.eth_type;
      ip_proto = fit.ip_proto;
      eth_src = fit.eth_src;
      eth_dst = fit.eth_dst;
      ipv4_src = fit.ipv4_src;
      ipv4_dst = fit.ipv4_dst;
      tcp_src = fit.tcp_src;
      tcp_dst = fit.tcp_dst;
      udp_src = fit.udp_src;
      udp_dst = fit.udp_dst;
      ipv6_src = fit.ipv6_src;
      ipv6_dst = fit.ipv6_dst;
    }

module _ (T : Topology) (lawful : IsLawfulTopology T) (g : Tagging) (v : Word) (path : IsPath v) (odd : has_even_length v ≡ false) where
  abbrev tag_here : ℕ
  tag_here = tag_of g v

  -- a departure that comes over a link has the tag of its path
  one_carried : (y : Numbers) → Fit y → (o : Option (ℕ × ℕ)) → peer T y.switch y.port ≡ o
      → Pairwise (Matches T g) (arrival (v ++ Out y ∷ []) y o) (carried (record { packet = y; vlan = if is_some o then Some (g.after tag_here y) else None }) o)
  one_carried y fit None is = tt
  one_carried y fit (Some e) is =
      let port = peer_port T T.links y.switch y.port e (recursion_from_All (IsLawfulLink T) T.links lawful.links) is in
      let traced : IsTraced T g (v ++ Out y ∷ []) (moved_to y e) (record { packet = moved_to y e; vlan = Some (g.after tag_here y) }) = record {
        packet = refl;
        fit = moved_fit T lawful y fit e port;
        path = left_path v y path odd fit;
        even = left_even v y path odd fit;
        port = port;
        tag = inr (peer_linked T.links y.switch y.port e is, ap (λ n. Some n) (sym (left_tag g v y)));
      } in
      (traced, tt)

  -- what is put in flight corresponds
  pub carried_match : (ys : List Numbers) → AllByRecursion Fit ys → Pairwise (Matches T g) (arrivals T v ys) (carried_all T (map (departed_as T g tag_here) ys))
  carried_match [] fits = tt
  carried_match (y ∷ ys) fits =
      Pairwise-append (Matches T g) (arrival (v ++ Out y ∷ []) y (peer T y.switch y.port)) (carried (departed_as T g tag_here y) (peer T y.switch y.port))
      (arrivals T v ys) (carried_all T (map (departed_as T g tag_here) ys))
      (one_carried y fits.0 (peer T y.switch y.port) refl) (carried_match ys fits.1)

-- what is delivered is equal, without headers
pub delivered_same : (T : Topology) (g : Tagging) (a : ℕ) (x : Numbers) (ys : List Numbers) → AllByRecursion (IsDeparting T x) ys
    → delivered_of T (map (departed_as T g a) ys) ≡ map plain (deliveries T ys)
delivered_same T g a x [] leave = refl
delivered_same T g a x (y ∷ ys) leave = by (is_port T y.switch y.port) (peer T y.switch y.port) port (delivered_same T g a x ys leave.1)
  where
    port : is_port T y.switch y.port ≡ true
    port = ap (λ d. is_port T d y.port) leave.0.switch ∙ leave.0.port

    by : (q : Bool) (o : Option (ℕ × ℕ)) → q ≡ true → delivered_of T (map (departed_as T g a) ys) ≡ map plain (deliveries T ys)
        → cond (q && is_none o) (record { packet = y; vlan = if is_some o then Some (g.after a y) else None } ∷ delivered_of T (map (departed_as T g a) ys))
        (delivered_of T (map (departed_as T g a) ys))
        ≡ map plain (cond (is_none o) (y ∷ deliveries T ys) (deliveries T ys))
    by true None is more = ap (λ l. plain y ∷ l) more
    by true (Some e) is more = more
    by false o is more = absurd cc
