use Rattle.std.specs.Prelude.{List, [], ◌∷◌}
use Rattle.std.proofs.Common.{rules, arith, refl, inl}
use Rattle.std.proofs.lemmas.List.Elements.{All-nil, All-cons}
use Rattle.pq_model.specs.declared.action.Action.{Action}
use Rattle.pq_model.specs.declared.action.Action.TheVariants.{Output}
use Rattle.pq_model.specs.declared.group_mod.GroupCommand.TheVariants.{Modify}
use Rattle.pq_model.specs.declared.message.Message.TheVariants.{Group}
use Rattle.pq_model.specs.Lawful.{IsLawfulAction, IsLawfulBucket, IsLawfulMessage}
use Rattle.pq_model.specs.Spelling.{message_bytes, with_header, group_body, bucket_bytes, action_bytes}
use Rattle.call_tests.proofs.switches.modify_group.Goals as goal

abbrev fourth : List Action
fourth = Output 4 ∷ []

fourth_is_lawful : IsLawfulBucket fourth
fourth_is_lawful = record { each = All-cons IsLawfulAction (Output 4) [] (inl (search rules)) (All-nil IsLawfulAction); placed = tt; sent = ([], 4, refl) }

message_is_lawful : IsLawfulMessage (Group (record { xid = 6; command = Modify; group = 1; buckets = fourth ∷ [] }))
unfolding message_bytes with_header group_body bucket_bytes action_bytes
message_is_lawful = record {
  content = record {
    xid = omega arith;
    command = (search rules, (search rules, All-cons IsLawfulBucket fourth [] fourth_is_lawful (All-nil IsLawfulBucket)));
  };
  short = omega arith;
}

pub returns : goal.returns
returns c = rw (c.in_ok-vec.ensures.items, c.in_ok-fourth.ensures.items) message_is_lawful
