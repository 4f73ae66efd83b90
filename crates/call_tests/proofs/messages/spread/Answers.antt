use Rattle.std.specs.Prelude.{ℕ, List, [], ◌∷◌, All}
use Rattle.std.proofs.Common.{rules, arith, refl, inl}
use Rattle.std.proofs.lemmas.List.Elements.{All-nil, All-cons}
use Rattle.pq_model.specs.declared.action.Action.{Action}
use Rattle.pq_model.specs.declared.action.Action.TheVariants.{Output, PopVlan}
use Rattle.pq_model.specs.declared.group_mod.GroupCommand.TheVariants.{Add}
use Rattle.pq_model.specs.declared.message.Message.TheVariants.{Group}
use Rattle.pq_model.specs.MatchFields.{IsPortNumber}
use Rattle.pq_model.specs.Lawful.{IsLawfulAction, IsLawfulBucket, IsLawfulMessage}
use Rattle.pq_model.specs.Spelling.{message_bytes, with_header, group_body, bucket_bytes, action_bytes}
use Rattle.call_tests.proofs.messages.spread.Goals as goal

-- the actions that take the VLAN header away and send to a port
abbrev untagged : ℕ → List Action
untagged port = PopVlan ∷ Output port ∷ []

untagged_is_lawful : (port : ℕ) → IsPortNumber port → IsLawfulBucket (untagged port)
untagged_is_lawful port is_port = record {
  each = All-cons IsLawfulAction PopVlan (Output port ∷ []) tt (All-cons IsLawfulAction (Output port) [] (inl is_port) (All-nil IsLawfulAction));
  placed = (omega arith, tt);
  sent = (PopVlan ∷ [], port, refl);
}

both_are_lawful : All IsLawfulBucket (untagged 2 ∷ untagged 3 ∷ [])
both_are_lawful = All-cons IsLawfulBucket (untagged 2) (untagged 3 ∷ []) (untagged_is_lawful 2 (search rules))
    (All-cons IsLawfulBucket (untagged 3) [] (untagged_is_lawful 3 (search rules)) (All-nil IsLawfulBucket))

spread_is_lawful : IsLawfulMessage (Group (record { xid = 4; command = Add; group = 1; buckets = untagged 2 ∷ untagged 3 ∷ [] }))
unfolding message_bytes with_header group_body bucket_bytes action_bytes
spread_is_lawful = record {
  content = record {
    xid = omega arith;
    command = (search rules, (search rules, both_are_lawful));
  };
  short = omega arith;
}

pub returns : goal.returns
returns c = rw (c.in_ok-vec.ensures.items, c.in_ok-second.ensures.items, c.in_ok-third.ensures.items) spread_is_lawful
