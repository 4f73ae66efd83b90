use Rattle.std.proofs.Common.{map, ap, ◌∙◌}
use Rattle.pq_auto.specs.Machine.{Machine}
use Rattle.pq_auto.specs.Tables.{accepting, begin, is_even_key, lists, steps}
use Rattle.pq_auto.proofs.Assembled.{is_machine, says_parity, says_accepting}
use Rattle.pq_auto.proofs.FewStates.{few_rows}
use Rattle.pq_auto.proofs.Found.{all_rows}
use Rattle.pq_auto.proofs.Keys.{each_once}
use Rattle.pq_auto.proofs.Searched.{is_numbered}
use Rattle.pq_auto.proofs.product.product.Goals as goal

pub invariant_of-table : goal.invariant_of-table
invariant_of-table c =
    let a : Machine = record {
      letters = c.args.letters;
      rows = lists c.in_ok-rows.rows.items;
      even = c.in_ok-even.even.items;
      accepted = map (λ list. list.items) c.in_ok-accepted.accepted.items;
    } in
    let keys = lists c.in_ok-rows.states.keys in
    let all = all_rows c.in_ok-rows.states.keys c.in_ok-rows.rows.items c.in_ok-rows.ensures.all in
    let evens = c.in_ok-even.ensures ∙ ap (λ ks. map is_even_key (lists ks)) c.as_slice-keys.ensures.keys in
    let accepts = c.in_ok-accepted.ensures ∙ ap (λ ks. map (accepting c.args.tables.now) (lists ks)) c.as_slice-keys.ensures.keys in
    is_machine (steps c.args.tables.now) (begin c.args.tables.now) a keys c.in_ok-rows.ensures.searched all is_even_key
    (accepting c.args.tables.now) evens accepts

pub invariant_of-result : goal.invariant_of-result
invariant_of-result c =
    let a : Machine = record {
      letters = c.args.letters;
      rows = lists c.in_ok-rows.rows.items;
      even = c.in_ok-even.even.items;
      accepted = map (λ list. list.items) c.in_ok-accepted.accepted.items;
    } in
    let keys = lists c.in_ok-rows.states.keys in
    let all = all_rows c.in_ok-rows.states.keys c.in_ok-rows.rows.items c.in_ok-rows.ensures.all in
    let evens = c.in_ok-even.ensures ∙ ap (λ ks. map is_even_key (lists ks)) c.as_slice-keys.ensures.keys in
    let accepts = c.in_ok-accepted.ensures ∙ ap (λ ks. map (accepting c.args.tables.now) (lists ks)) c.as_slice-keys.ensures.keys in (
      is_machine (steps c.args.tables.now) (begin c.args.tables.now) a keys c.in_ok-rows.ensures.searched all is_even_key
          (accepting c.args.tables.now) evens accepts,
      is_numbered (steps c.args.tables.now) (begin c.args.tables.now) a keys c.in_ok-rows.ensures.searched all
          (each_once c.in_ok-rows.states.keys c.as_slice-keys.ensures.unique),
    )

pub returns-clause-even : goal.returns-clause-even
returns-clause-even c =
    let a : Machine = record {
      letters = c.args.letters;
      rows = lists c.in_ok-rows.rows.items;
      even = c.in_ok-even.even.items;
      accepted = map (λ list. list.items) c.in_ok-accepted.accepted.items;
    } in
    let keys = lists c.in_ok-rows.states.keys in
    let all = all_rows c.in_ok-rows.states.keys c.in_ok-rows.rows.items c.in_ok-rows.ensures.all in
    let evens = c.in_ok-even.ensures ∙ ap (λ ks. map is_even_key (lists ks)) c.as_slice-keys.ensures.keys in
    let accepts = c.in_ok-accepted.ensures ∙ ap (λ ks. map (accepting c.args.tables.now) (lists ks)) c.as_slice-keys.ensures.keys in
    says_parity c.args.tables.now a keys c.in_ok-rows.ensures.searched all evens accepts

pub returns-clause-accepted : goal.returns-clause-accepted
returns-clause-accepted c =
    let a : Machine = record {
      letters = c.args.letters;
      rows = lists c.in_ok-rows.rows.items;
      even = c.in_ok-even.even.items;
      accepted = map (λ list. list.items) c.in_ok-accepted.accepted.items;
    } in
    let keys = lists c.in_ok-rows.states.keys in
    let all = all_rows c.in_ok-rows.states.keys c.in_ok-rows.rows.items c.in_ok-rows.ensures.all in
    let evens = c.in_ok-even.ensures ∙ ap (λ ks. map is_even_key (lists ks)) c.as_slice-keys.ensures.keys in
    let accepts = c.in_ok-accepted.ensures ∙ ap (λ ks. map (accepting c.args.tables.now) (lists ks)) c.as_slice-keys.ensures.keys in
    says_accepting c.args.tables.now a keys c.in_ok-rows.ensures.searched all evens accepts

pub returns-clause-few : goal.returns-clause-few
returns-clause-few c =
    let a : Machine = record {
      letters = c.args.letters;
      rows = lists c.in_ok-rows.rows.items;
      even = c.in_ok-even.even.items;
      accepted = map (λ list. list.items) c.in_ok-accepted.accepted.items;
    } in
    let all = all_rows c.in_ok-rows.states.keys c.in_ok-rows.rows.items c.in_ok-rows.ensures.all in
    few_rows c.args.tables.now a c.in_ok-rows.states.keys c.in_ok-rows.ensures.searched all c.as_slice-keys.ensures.unique
