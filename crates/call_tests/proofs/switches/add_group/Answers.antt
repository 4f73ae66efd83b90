use Rattle.std.specs.Prelude.{ℕ, List, [], ◌∷◌, All}
use Rattle.std.proofs.Common.{rules, arith, refl, inl}
use Rattle.std.proofs.lemmas.List.Elements.{All-nil, All-cons}
use Rattle.pq_model.specs.declared.action.Action.{Action}
use Rattle.pq_model.specs.declared.action.Action.TheVariants.{Output, PushVlan, SetVlan}
use Rattle.pq_model.specs.declared.group_mod.GroupCommand.TheVariants.{Add}
use Rattle.pq_model.specs.declared.message.Message.TheVariants.{Group}
use Rattle.pq_model.specs.MatchFields.{IsPortNumber}
use Rattle.pq_model.specs.Lawful.{IsLawfulAction, IsLawfulBucket, IsLawfulMessage}
use Rattle.pq_model.specs.Spelling.{message_bytes, with_header, group_body, bucket_bytes, action_bytes}
use Rattle.call_tests.proofs.switches.add_group.Goals as goal

abbrev second : List Action
second = PushVlan ∷ SetVlan 0x1002 ∷ Output 2 ∷ []

abbrev third : List Action
third = Output 3 ∷ []

sends_to : (port : ℕ) → IsPortNumber port → All IsLawfulAction (Output port ∷ [])
sends_to port h = All-cons IsLawfulAction (Output port) [] (inl h) (All-nil IsLawfulAction)

second_is_lawful : IsLawfulBucket second
second_is_lawful = record {
  each = All-cons IsLawfulAction PushVlan (SetVlan 0x1002 ∷ Output 2 ∷ []) tt
      (All-cons IsLawfulAction (SetVlan 0x1002) (Output 2 ∷ []) (search rules) (sends_to 2 (search rules)));
  placed = (omega arith, (omega arith, tt));
  sent = (PushVlan ∷ SetVlan 0x1002 ∷ [], 2, refl);
}

third_is_lawful : IsLawfulBucket third
third_is_lawful = record { each = sends_to 3 (search rules); placed = tt; sent = ([], 3, refl) }

message_is_lawful : IsLawfulMessage (Group (record { xid = 5; command = Add; group = 1; buckets = second ∷ third ∷ [] }))
unfolding message_bytes with_header group_body bucket_bytes action_bytes
message_is_lawful = record {
  content = record {
    xid = omega arith;
    command = (
      search rules,
      (
        search rules,
        All-cons IsLawfulBucket second (third ∷ []) second_is_lawful
            (All-cons IsLawfulBucket third [] third_is_lawful (All-nil IsLawfulBucket)),
      ),
    );
  };
  short = omega arith;
}

pub returns : goal.returns
returns c = rw (c.in_ok-vec.ensures.items, c.in_ok-second.ensures.items, c.in_ok-third.ensures.items) message_is_lawful
