-- What the row or the switch that a search found tells, and what is known where there is none.
use Rattle.std.specs.Prelude.{◌≡◌, ◌≢◌, ℕ, ◌<◌, List, [], ◌∷◌, length, get_or, map, suc, zero, refl}
use Rattle.std.proofs.Common.{arith}
use Rattle.std.proofs.lemmas.Bool.Decides.{nat_tests}
use Rattle.std.proofs.lemmas.List.Elements.{All-tail}
use Rattle.pq_model.specs.Lawful.{Ascends}
use Rattle.pq_model.specs.Topology.{Switch}
use Rattle.pq_model.specs.SwitchMachine.{Tables, no_tables, copies, sends}
use Rattle.pq_model.specs.Tagged.{TaggedPacket}
use Rattle.pq_model.specs.TablesMachine.{Report, Row, pairs_of}
use Rattle.pq_topo.proofs.Ascending.{rest_ascends}
use Rattle.pq_net.specs.Network.{tables_in}
use Rattle.pq_net.specs.Searches.{IsAt, IsNowhere}
use Rattle.pq_net.proofs.Searched.{rises_above}

-- the row that was found has the instances of its tag
pub row_found : (rows : Report) (tag i : ℕ) (r : Row) → Ascends (map (λ row. row.tag) rows) → IsAt (λ row. row.tag) rows tag i
    → pairs_of rows tag ≡ (get_or rows i r).pairs
row_found [] tag i r up at = grind (arith, at.0)
row_found (row ∷ rows) tag zero r up at = grind (arith, nat_tests, at.1 row)
row_found (row ∷ rows) tag (suc i) r up at =
    let below : i < length rows = omega (arith, at.0) in
    let later = row_found rows tag i r (rest_ascends row.tag (map (λ row. row.tag) rows) up) (below, at.1) in
    let above : row.tag < (get_or rows i row).tag = rises_above (λ row. row.tag) row rows i row up below in
    let differs : row.tag < tag = omega (arith, above, at.1 row) in
    grind (arith, nat_tests, later, differs)

-- where no row has the tag it has no instances
pub row_absent : (rows : Report) (tag : ℕ) → IsNowhere (λ row. row.tag) rows tag → pairs_of rows tag ≡ []
row_absent [] tag none = refl
row_absent (row ∷ rows) tag none =
    let rest = row_absent rows tag (All-tail (λ row. row.tag ≢ tag) row rows none) in
    let differs : row.tag ≢ tag = none 0 row (omega arith) in
    grind (arith, nat_tests, rest, differs)

-- at the place of the switch that was found are its tables
pub switch_found : (ss : List Switch) (tables : List Tables) (d i : ℕ) (t : Tables) → Ascends (map (λ s. s.datapath) ss)
    → length tables ≡ length ss → IsAt (λ s. s.datapath) ss d i → tables_in ss tables d ≡ get_or tables i t
switch_found [] tables d i t up listed at = grind (arith, at.0)
switch_found (s ∷ ss) [] d i t up listed at = grind (arith, listed)
switch_found (s ∷ ss) (u ∷ tables) d zero t up listed at = grind (arith, nat_tests, at.1 s)
switch_found (s ∷ ss) (u ∷ tables) d (suc i) t up listed at =
    let below : i < length ss = omega (arith, at.0) in
    let later = switch_found ss tables d i t (rest_ascends s.datapath (map (λ s. s.datapath) ss) up) (omega (arith, listed)) (below, at.1) in
    let above : s.datapath < (get_or ss i s).datapath = rises_above (λ s. s.datapath) s ss i s up below in
    let differs : s.datapath < d = omega (arith, above, at.1 s) in
    grind (arith, nat_tests, later, differs)

-- where no switch has the number its tables are empty
pub switch_absent : (ss : List Switch) (tables : List Tables) (d : ℕ) → IsNowhere (λ s. s.datapath) ss d → tables_in ss tables d ≡ no_tables
switch_absent [] tables d none = refl
switch_absent (x ∷ ss) [] d none = refl
switch_absent (x ∷ ss) (y ∷ tables) d none =
    let rest = switch_absent ss tables d (All-tail (λ s. s.datapath ≢ d) x ss none) in
    let differs : x.datapath ≢ d = none 0 x (omega arith) in
    grind (arith, nat_tests, rest, differs)

-- empty tables send nothing
pub none_sent : (x : TaggedPacket) → sends no_tables x ≡ []
unfolding copies
none_sent x = refl
