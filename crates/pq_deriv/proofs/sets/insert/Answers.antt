use Rattle.std.proofs.Common.{ℕ, Vec, Global}
use Rattle.std.specs.Ordering.{nat_cmp}
use Rattle.std.specs.Cmp.Lexicographic.{slice_cmp, nat_list_cmp_total}
use Rattle.pq_deriv.specs.Choices.{IsOneOf}
use Rattle.pq_deriv.proofs.Members.{had, inserted}
use Rattle.pq_deriv.proofs.Inserted.{all_put, searchable, ascends_put}
use Rattle.pq_deriv.proofs.sets.insert.Goals as goal

pub returns-in-Ok-clause-tests : goal.returns-in-Ok-clause-tests
returns-in-Ok-clause-tests c =
    let within = rw c.deref.ensures.value at c.in-Ok.ensures.bound in
    let equal = rw c.deref.ensures.value at c.in-Ok.ensures.ok in
    λ t. had {V = Vec ℕ Global} (λ r. r.items) t c.args.rest.items c.args.set.now.items c.in-Ok.field-0 within equal

pub returns-in-Ok-clause-members : goal.returns-in-Ok-clause-members
returns-in-Ok-clause-members c = λ U one members. members

pub returns-clause-tests : goal.returns-clause-tests
returns-clause-tests c = λ t. rw c.in_ok-insert.ensures.items (inserted {V = Vec ℕ Global} (λ r. r.items) t c.args.rest c.args.set.now.items c.in-Err.place)

pub returns-clause-members : goal.returns-clause-members
returns-clause-members c =
    let set = c.args.set.now.items in
    let rest = c.args.rest in
    let i = c.in-Err.place in
    let bound = rw c.deref.ensures.value at c.in-Err.ensures.bound in
    let position = rw c.deref.ensures.value at c.in-Err.ensures.position in
    λ U one members. rw c.in_ok-insert.ensures.items (
      ascends_put {V = Vec ℕ Global} (λ r. r.items) (slice_cmp nat_cmp) nat_list_cmp_total set rest i members.0 bound
          (position (searchable {V = Vec ℕ Global} (λ r. r.items) (slice_cmp nat_cmp) nat_list_cmp_total set rest.items members.0)),
      all_put {V = Vec ℕ Global} (λ r. r.items) (IsOneOf U) set rest i members.1 one,
    )
