use Rattle.std.proofs.Common.{ℕ, ◌-◌, ◌≡◌, ◌∙◌, List, length, take, drop, get_or, Some, sym, subst}
use Rattle.pq_fields.specs.declared.field.Field.{Field}
use Rattle.pq_fields.specs.declared.field.Field.TheVariants.{Switch}
use Rattle.pq_fields.specs.Writes.{with_write, written_in}
use Rattle.pq_store.specs.Store.{HasAt}
use Rattle.pq_rewrite.specs.Settled.{IsSettledFrom}
use Rattle.pq_rewrite.proofs.SettledTrees.{first_and_rest, settled_fit, settled_next}
use Rattle.pq_rewrite.proofs.Standing.{has_still}
use Rattle.pq_rewrite.proofs.settled.+settled_from.Goals as goal
use Rattle.pq_rewrite.proofs.settled.+settled_from.Goals.{In_ok-yes-in-Some}

-- the first of the fields
abbrev first_of : List Field → Field
first_of fields = get_or fields 0 Switch

-- and those after it
abbrev later_of : List Field → List Field
later_of fields = take (length fields - 1) (drop 1 fields)

-- a number is to be written into the first field
number_is : (t : ℕ) (c : In_ok-yes-in-Some t) → written_in (first_of c.args.fields.now) c.args.writes.now ≡ Some c.in-Some.value
number_is t c = sym c.get.ensures.number ∙ c.in-Some.is

-- one tree writes it
yes_there : (t : ℕ) (c : In_ok-yes-in-Some t)
    → HasAt (IsSettledFrom (later_of c.args.fields.now) c.args.writes.now
    (with_write (first_of c.args.fields.now) c.in-Some.value c.args.done)) c.settled_from-in-Some-2.new.store c.in_ok-yes-in-Some.yes
yes_there t c =
    subst (λ done. HasAt (IsSettledFrom (later_of c.args.fields.now) c.args.writes.now done) c.settled_from-in-Some-2.new.store c.in_ok-yes-in-Some.yes)
    c.set.ensures c.in_ok-yes-in-Some.ensures.settled

-- the other doesn't
no_there : (t : ℕ) (c : In_ok-yes-in-Some t)
    → HasAt (IsSettledFrom (later_of c.args.fields.now) c.args.writes.now c.args.done) c.settled_from-in-Some-2.new.store
    c.in_ok-no-in-Some.no
no_there t c =
    has_still (IsSettledFrom (later_of c.args.fields.now) c.args.writes.now c.args.done) c.settled_from-in-Some.new.store
    c.settled_from-in-Some-2.new.store c.in_ok-no-in-Some.no
    c.in_ok-yes-in-Some.ensures.keeps c.in_ok-no-in-Some.ensures.settled

pub where_changed-requires-clause-fit : goal.where_changed-requires-clause-fit
where_changed-requires-clause-fit t c =
    let at = (goal.at.where_changed-requires-clause-fit t c).In_ok-yes-in-Some in
    settled_fit (first_of c.args.fields.now) c.in-Some.value (later_of c.args.fields.now) c.args.writes.now c.args.done (number_is t at)
    c.settled_from-in-Some-2.new.store c.in_ok-yes-in-Some.yes c.in_ok-no-in-Some.no (yes_there t at) (no_there t at)

pub returns-in_ok-id-in-Some-clause-settled : goal.returns-in_ok-id-in-Some-clause-settled
returns-in_ok-id-in-Some-clause-settled t c =
    let at = (goal.at.returns-in_ok-id-in-Some-clause-settled t c).In_ok-yes-in-Some in
    subst (λ fields. HasAt (IsSettledFrom fields c.args.writes.now c.args.done) c.where_changed.new.store c.in_ok-id-in-Some.id)
    (first_and_rest c.args.fields.now Switch c.in-len1-up.len_at_least)
    (settled_next (first_of c.args.fields.now) c.in-Some.value (later_of c.args.fields.now) c.args.writes.now c.args.done (number_is t at)
    c.settled_from-in-Some-2.new.store c.where_changed.new.store c.in_ok-yes-in-Some.yes c.in_ok-no-in-Some.no c.in_ok-id-in-Some.id
    (yes_there t at) (no_there t at) c.in_ok-id-in-Some.ensures.chooses)
