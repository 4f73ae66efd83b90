use Rattle.pq_delta.specs.Changes.{changes}
use Rattle.pq_delta.proofs.AssemblyLemmas.{appended, assembled, assembled_long}
use Rattle.pq_delta.proofs.switch.change_messages.Goals as goal

pub returns : goal.returns
returns c =
    let m0 = c.new-messages.result.items in
    let m1 = c.push_removed.new.messages.items in
    let m2 = c.push_group_deletes.new.messages.items in
    let m3 = c.push_barrier.new.messages.items in
    let m4 = c.push_groups.new.messages.items in
    let m5 = c.push_barrier-2.new.messages.items in
    let m6 = c.push_added.new.messages.items in
    let m7 = c.push_barrier-3.new.messages.items in
    let h =
    appended c.args.old.now c.args.new.now c.in_ok-old_keys.old_keys.keys c.in_ok-new_keys.new_keys.keys c.group_count.result c.group_count-2.result
    c.in_ok-old_keys.ensures c.in_ok-new_keys.ensures c.group_count.ensures c.group_count-2.ensures m0 m1 m2 m3 m4 m5 m6 m7 c.new-messages.ensures.items
    c.in_ok-push_removed.ensures c.in_ok-push_group_deletes.ensures c.in_ok-push_barrier.ensures.appended c.in_ok-push_groups.ensures
    c.in_ok-push_barrier-2.ensures.appended
    c.in_ok-push_added.ensures c.in_ok-push_barrier-3.ensures.appended in
    record {
      messages = assembled (changes c.args.old.now c.args.new.now) m1 m2 m3 m4 m5 m6 m7 h;
      long = assembled_long (changes c.args.old.now c.args.new.now) m1 m2 m3 m4 m5 m6 m7 h;
      few = c.in_ok-push_barrier-3.ensures.few;
    }
