use Rattle.std.proofs.Common.{◌≡◌, ◌∙◌, ◌-◌, false, List, length, take, drop, get_or, sym, subst, arith}
use Rattle.std.proofs.lemmas.List.Elements.{All-drop, All-take}
use Rattle.pq_fields.specs.declared.field.Field.{Field}
use Rattle.pq_fields.specs.declared.field.Field.TheVariants.{Switch}
use Rattle.pq_fields.specs.Packet.{is_wide}
use Rattle.pq_rewrite.proofs.SettledTrees.{first_and_rest}
use Rattle.pq_join.specs.Overwriting.{SetsAllAt}
use Rattle.pq_join.proofs.Puts.{restricts_within, sets_more}
use Rattle.pq_join.proofs.overwriting.+with_headers.Goals as goal

-- the first of the fields
abbrev first_of : List Field → Field
first_of fields = get_or fields 0 Switch

-- and those after it
abbrev later_of : List Field → List Field
later_of fields = take (length fields - 1) (drop 1 fields)

pub with_headers-requires-in-Some : goal.with_headers-requires-in-Some
with_headers-requires-in-Some g t c κs within =
    let whole : length c.args.fields.now ≡ t = c.decreases in
    let there = restricts_within _ _ c.args.store.now c.restrict.new.store c.args.node c.in_ok-set-in-Some.set c.requires.node
    c.in_ok-set-in-Some.ensures.restricts in
    let narrow = All-take (λ f. is_wide f ≡ false) (length c.args.fields.now - 1) (drop 1 c.args.fields.now)
    (All-drop (λ f. is_wide f ≡ false) 1 c.args.fields.now c.requires.narrow) in
    (omega (arith, whole, c.in-len1-up.len_at_least), (within, (there, narrow)))

pub returns-in_ok-id-in-Some-clause-sets : goal.returns-in_ok-id-in-Some-clause-sets
returns-in_ok-id-in-Some-clause-sets g t c =
    subst (λ fields. SetsAllAt fields c.args.writes.now c.args.store.now c.args.node c.with_headers-in-Some.new.store c.in_ok-id-in-Some.id)
    (first_and_rest c.args.fields.now Switch c.in-len1-up.len_at_least)
    (sets_more (first_of c.args.fields.now) c.in-Some.value (later_of c.args.fields.now) c.args.writes.now c.args.store.now
    c.restrict.new.store c.with_headers-in-Some.new.store
    c.args.node c.in_ok-set-in-Some.set c.in_ok-id-in-Some.id (sym c.get.ensures.number
    ∙ c.in-Some.is) c.in_ok-set-in-Some.ensures.restricts c.in_ok-id-in-Some.ensures.sets)
