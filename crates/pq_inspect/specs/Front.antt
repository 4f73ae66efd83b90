-- The text of an inspection up to its switches.
use Rattle.std.specs.Prelude.{ℕ, List, ◌++◌, codes}
use Rattle.serde_json.specs.Data.{string}
use Rattle.serde_json.specs.Written.{compact_text}
use Rattle.pq_model.specs.Topology.{Link}
use Rattle.pq_model.specs.TablesMachine.{Row}
use Rattle.pq_inspect.specs.Inspection.{list, link_data, row_data}

-- the links, the names of the queries and the report, each after its key
unfoldable pub front_text : List Link → List (List ℕ) → List Row → List ℕ
front_text links queries report =
    codes "{\"links\":" ++ compact_text (list link_data links)
    ++ codes ",\"queries\":" ++ compact_text (list string queries)
    ++ codes ",\"report\":" ++ compact_text (list row_data report)
    ++ codes ",\"switches\":"
