use Rattle.std.proofs.Common.{◌≡◌, List, ℕ, map, ap, sym, subst, ◌∙◌}
use Rattle.pq_auto.specs.Leading.{GivesFirst, key_in, leader_in, row_in}
use Rattle.pq_auto.specs.Refinement.{row_of}
use Rattle.pq_auto.proofs.Leaders.{next_stays, next_first, firsts_after, unlike}
use Rattle.pq_auto.proofs.leading.next_leader.Goals as goal
use Rattle.pq_auto.proofs.leading.next_leader.Goals.{In_ok-first}

abbrev keys : In_ok-first → List (List ℕ)
keys c = map (λ k. k.items) c.args.seen.now.keys

abbrev more : In_ok-first → List (List ℕ)
more c = map (λ k. k.items) c.first_with.new.seen.keys

-- the first state with the state's key
gives : (c : In_ok-first)
    → GivesFirst (keys c) c.args.firsts.now.items (key_in c.args.table.now c.args.leaders.now c.args.state) c.args.state c.in_ok-first.first
    (more c) c.first_with.new.firsts.items
gives c = subst (λ k. GivesFirst (keys c) c.args.firsts.now.items k c.args.state c.in_ok-first.first (more c) c.first_with.new.firsts.items)
    c.in_ok-key.ensures c.in_ok-first.ensures

-- the state leaves its leader
moves : (c : In_ok-first) → row_in c.args.table.now c.args.leaders.now c.args.state ≡ row_in c.args.table.now c.args.leaders.now
    (leader_in c.args.leaders.now c.args.state) → ⊥
moves c same =
    let f = leader_in c.args.leaders.now in
    unlike (map f c.row.result.now) (map f c.row-2.result.now) c.lead_alike.result c.lead_alike.ensures c.if-lead_alike.false
    (ap (map f) c.row.ensures.row ∙ same ∙ sym (ap (map f) (c.row-2.ensures.row ∙ ap (row_of c.args.table.now) c.number_at-leader.ensures)))

pub returns-clause-next : goal.returns-clause-next
returns-clause-next c =
    next_first c.args.table.now c.args.leaders.now (keys c) (more c) c.args.firsts.now.items c.first_with.new.firsts.items c.requires.firsts
    c.args.state c.in_ok-first.first (gives c) (moves c)

pub returns-clause-firsts : goal.returns-clause-firsts
returns-clause-firsts c =
    firsts_after c.args.table.now c.args.leaders.now (keys c)
    (more c) c.args.firsts.now.items c.first_with.new.firsts.items c.requires.firsts c.args.state c.in_ok-first.first c.requires.state
    (gives c)

pub returns-clause-stays : goal.returns-clause-stays
returns-clause-stays c =
    next_stays c.args.table.now c.args.leaders.now (keys c) (more c) c.args.firsts.now.items c.first_with.new.firsts.items c.requires.firsts
    c.args.state c.in_ok-first.first (gives c)
