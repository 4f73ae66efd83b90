use Rattle.std.proofs.Common.{map, length, sym, ap, subst, ◌∙◌}
use Rattle.std.proofs.lemmas.List.{length-map}
use Rattle.pq_expr.specs.Expr.{expr_tree}
use Rattle.pq_auto.specs.Machine.{Machine}
use Rattle.pq_auto.specs.Rests.{after, held, rests, whole}
use Rattle.pq_auto.specs.Searched.{IsSearched}
use Rattle.pq_auto.specs.Tables.{lists}
use Rattle.pq_auto.proofs.Assembled.{is_machine}
use Rattle.pq_auto.proofs.FewRests.{few_states}
use Rattle.pq_auto.proofs.Found.{all_rests}
use Rattle.pq_auto.proofs.Steps.{steps_within, no_more_rows}
use Rattle.pq_auto.proofs.Tellings.{found_explores}
use Rattle.pq_auto.proofs.single.explored.Goals as goal

pub invariant_of-result : goal.invariant_of-result
invariant_of-result g c =
    let alphabet = map (λ v. v.items) c.args.alphabet.now in
    let t : Machine = record {
      letters = length c.args.alphabet.now;
      rows = lists c.in_ok-rows.rows.items;
      even = c.in_ok-even.even.items;
      accepted = map (λ list. list.items) c.in_ok-accepted.accepted.items;
    } in
    let evens = c.in_ok-even.ensures ∙ ap (λ ks. map (λ r. r.even) (rests ks)) c.as_slice-keys.ensures.keys in
    let accepts = c.in_ok-accepted.ensures ∙ ap (λ ks. map held (rests ks)) c.as_slice-keys.ensures.keys in
    let all = all_rests c.in_ok-rows.states.keys c.in_ok-rows.rows.items c.in_ok-rows.ensures.all in
    is_machine (after alphabet) (whole (expr_tree c.args.expr.now)) t (rests c.in_ok-rows.states.keys) c.in_ok-rows.ensures.searched all
    (λ r. r.even) held evens accepts

pub returns-clause-table : goal.returns-clause-table
returns-clause-table g c =
    let alphabet = map (λ v. v.items) c.args.alphabet.now in
    let expr = expr_tree c.args.expr.now in
    let keys = rests c.in_ok-rows.states.keys in
    let t : Machine = record {
      letters = length c.args.alphabet.now;
      rows = lists c.in_ok-rows.rows.items;
      even = c.in_ok-even.even.items;
      accepted = map (λ list. list.items) c.in_ok-accepted.accepted.items;
    } in
    let evens = c.in_ok-even.ensures ∙ ap (λ ks. map (λ r. r.even) (rests ks)) c.as_slice-keys.ensures.keys in
    let accepts = c.in_ok-accepted.ensures ∙ ap (λ ks. map held (rests ks)) c.as_slice-keys.ensures.keys in
    let count = sym (length-map c.args.alphabet.now (λ v. v.items)) in
    let searched = subst (λ n. IsSearched (after alphabet) (whole expr) n keys t.rows) count c.in_ok-rows.ensures.searched in
    let all = all_rests c.in_ok-rows.states.keys c.in_ok-rows.rows.items c.in_ok-rows.ensures.all in (
      found_explores alphabet expr keys t count c.in_ok-rows.ensures.searched all evens accepts,
      few_states alphabet expr c.in_ok-rows.states.keys t searched all c.in_ok-rows.ensures.alike c.in_ok-rows.ensures.rests c.as_slice-keys.ensures.unique,
    )

pub returns-clause-counted : goal.returns-clause-counted
returns-clause-counted g c =
    let alphabet = map (λ v. v.items) c.args.alphabet.now in
    let expr = expr_tree c.args.expr.now in
    let few = no_more_rows (after alphabet) (whole expr) (length c.args.alphabet.now) c.in_ok-rows.states.keys c.in_ok-rows.rows.items
    c.in_ok-rows.ensures.searched c.in_ok-rows.ensures.all in
    steps_within expr c.in_ok-rows.states.keys c.args.steps.now c.search.new.steps (length c.in_ok-rows.rows.items)
    (length c.args.alphabet.now) c.in_ok-rows.ensures.counted few c.in_ok-rows.ensures.alike c.in_ok-rows.ensures.rests
    c.as_slice-keys.ensures.unique
