-- Counts over lists that are seen by a function of each, as vectors are by their items.
use Rattle.std.proofs.Common.{◌≡◌, ℕ, ◌+◌, ◌<◌, ◌≤◌, Bool, true, false, List, [], ◌∷◌, ◌++◌, length, map, take, get_or, ap, refl, sym, ◌∙◌, arith}
use Rattle.std.specs.Prelude.{cond, filter, sum_by}
use Rattle.std.proofs.lemmas.List.{map_more, take-map}
use Rattle.std.proofs.lemmas.List.Sums.{sum_by-take-le, sum_by_push}
use Rattle.pq_model.specs.declared.message.Message.{Message}
use Rattle.pq_model.specs.Install.{Install, port_count, spelling}
use Rattle.pq_inspect.specs.Inspection.{count, is_flow_add, is_group_add}
use Rattle.pq_summary.specs.declared.summary.Counts.{Counts}
use Rattle.pq_summary.specs.Summary.{summary_of}

-- the sum so far with one more is no more than the whole sum
pub within_whole : {V A : Type 0} (size : A → ℕ) (f : V → A) (vs : List V) (i : ℕ) (v : V) → v ≡ get_or vs i v → i < length vs
    → sum_by size (map f (take i vs)) + size (f v) ≤ sum_by size (map f vs)
within_whole size f vs i v read below =
    let longer : take (i + 1) (map f vs) ≡ map f (take i vs) ++ f v ∷ [] =
    take-map f (i + 1) vs ∙ map_more f vs i v below ∙ ap (λ (x : _). map f (take i vs) ++ f x ∷ []) (sym read) in
    let first : sum_by size (take (i + 1) (map f vs)) ≤ sum_by size (map f vs) = sum_by-take-le size (map f vs) (i + 1) in
    let same : sum_by size (take (i + 1) (map f vs)) ≡ sum_by size (map f (take i vs) ++ f v ∷ []) = ap (sum_by size) longer in
    omega (arith, first, same, sum_by_push size (map f (take i vs)) (f v))

-- what is counted is no more than there is
pub few_counted : (test : Message → Bool) (ms : List Message) → count test ms ≤ length ms
few_counted test [] = omega arith
few_counted test (m ∷ ms) = by (few_counted test ms) (test m)
  where
    by : count test ms ≤ length ms → (b : Bool) → length (cond b (m ∷ filter test ms) (filter test ms)) ≤ length (m ∷ ms)
    by few true = omega (arith, few)
    by few false = omega (arith, few)

-- a summary has the numbers of the install
pub summary_made : (counts : Counts) (i : Install) (switches ports links entries groups messages bytes : ℕ)
    → switches ≡ length i.topology.switches → ports ≡ port_count i.topology.switches → links ≡ length i.topology.links
    → entries ≡ sum_by (count is_flow_add) i.messages → groups ≡ sum_by (count is_group_add) i.messages → messages ≡ sum_by length i.messages
    → bytes ≡ length (spelling i)
    → record {
      switches = switches;
      ports = ports;
      links = links;
      parts = counts.parts;
      queries = counts.queries;
      instances = counts.instances;
      classes = counts.classes;
      entries = entries;
      groups = groups;
      messages = messages;
      bytes = bytes;
    } ≡ summary_of counts i
unfolding summary_of
summary_made counts i switches ports links entries groups messages bytes a b c d e f g = rw (a, b, c, d, e, f, g) refl
