use Rattle.std.proofs.Common.{Some, ap, map, sym, ◌∙◌}
use Rattle.pq_delta.specs.Exact.{buckets_exact}
use Rattle.pq_delta.proofs.unchanged.add_same_group.Goals as goal

pub returns-in-Some-Some : goal.returns-in-Some-Some
returns-in-Some-Some c same =
    let here = c.in-Some-Some in
    let same = buckets_exact (map (λ b. b.items) c.deref.result.now) (map (λ b. b.items) c.deref-in-Some-Some.result.now) (sym c.same_buckets.ensures ∙ same) in
    let one = sym (ap (λ g. g.buckets) c.one.view_is) ∙ sym (ap (λ bs. map (λ b. b.items) bs) c.deref.ensures.value) in
    let other = ap (λ bs. map (λ b. b.items) bs) c.deref-in-Some-Some.ensures.value ∙ ap (λ g. g.buckets) c.other.view_is in
    here.ensures ∙ ap Some (one ∙ same ∙ other) ∙ sym here.ensures'
