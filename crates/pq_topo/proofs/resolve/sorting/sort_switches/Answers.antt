use Rattle.std.proofs.Common.{◌≡◌, ℕ, List, [], ◌∷◌, ap, ◌∙◌, rules}
use Rattle.std.proofs.lemmas.List.Sorted.{answers_always}
use Rattle.std.proofs.lemmas.Result.{on_ok_weaker}
use Rattle.std.specs.Ordering.{is_lt, nat_cmp}
use Rattle.pq_model.specs.Topology.{Switch}
use Rattle.pq_model.proofs.Sorted.{before_is_order, sorted_stably}
use Rattle.pq_topo.proofs.Compared.{less_is_before}
use Rattle.pq_topo.proofs.resolve.sorting.sort_switches.Goals as goal

abbrev key : Switch → List ℕ
key = λ s. s.datapath ∷ []

-- the closure answers as the numbers compare, so a stable sort by it is the sort by the numbers
pub returns : goal.returns
returns c =
    let before = c.args.switches.now.items in
    let order = before_is_order key in
    let answers = answers_always _ _ _ (λ f a r g h.
    let compared : r ≡ nat_cmp a.0.now.datapath a.1.0.now.datapath = search rules in
    ap is_lt compared ∙ less_is_before a.0.now.datapath a.1.0.now.datapath) in
    on_ok_weaker c.sort_by.result (λ sorted.
    sorted_stably key before c.sort_by.new.self.items (sorted _ order answers) (c.sort_by.ensures.stable _ order answers)) c.sort_by.ensures.sorted
