-- No number of an inspection is a float, so its text is known.
use Rattle.std.specs.Prelude.{◌≡◌, false, List, [], ◌∷◌, map, zip}
use Rattle.std.proofs.Common.{refl}
use Rattle.serde_json.specs.Data.{Data, string}
use Rattle.serde_json.specs.View.{items_of}
use Rattle.serde_json.specs.Written.{has_float, items_have_float}
use Rattle.pq_model.specs.Buckets.{Instance}
use Rattle.pq_model.specs.TablesMachine.{Row}
use Rattle.pq_model.specs.Topology.{Link, Switch}
use Rattle.pq_model.specs.declared.message.Message.{Message}
use Rattle.pq_model.specs.Install.{Install, link_numbers}
use Rattle.pq_inspect.specs.Inspection.{natural, link_data, pair_data, row_data, message_data, switch_data, inspection}

in_list : {A : Type 0} (shown : A → Data) → ((x : A) → has_float (shown x) ≡ false) → (xs : List A) → items_have_float (items_of (map shown xs)) ≡ false
in_list shown none [] = refl
in_list shown none (x ∷ xs) = rw (none x, in_list shown none xs) refl

pub in_link : (l : Link) → has_float (link_data l) ≡ false
in_link l = in_list natural (λ n. refl) (link_numbers l)

pub in_pair : (i : Instance) → has_float (pair_data i) ≡ false
in_pair i = rw (in_list natural (λ n. refl) i.label) refl

pub in_row : (row : Row) → has_float (row_data row) ≡ false
in_row row = rw (in_list pair_data in_pair row.pairs) refl

in_switch : (s : Switch × List Message) → has_float (switch_data s) ≡ false
in_switch s = rw (in_list message_data (λ m. refl) s.1, in_list natural (λ n. refl) s.0.ports) refl

pub in_inspection : (i : Install) → has_float (inspection i) ≡ false
unfolding inspection
in_inspection i = rw (
  in_list link_data in_link i.topology.links,
  in_list string (λ name. refl) i.queries,
  in_list row_data in_row i.report,
  in_list switch_data in_switch (zip i.topology.switches i.messages),
) refl
