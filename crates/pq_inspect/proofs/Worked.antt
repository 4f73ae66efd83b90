-- Inspections written out by hand, against the definition.
use Rattle.std.specs.Prelude.{◌≡◌, [], codes}
use Rattle.std.specs.Fmt.{digits}
use Rattle.std.proofs.Common.{refl}
use Rattle.serde_json.proofs.OnLiterals.{serde_json_on_literals}
use Rattle.pq_model.specs.Spelling.{match_bytes, match_oxms, action_bytes, apply_bytes, goto_bytes, bucket_bytes, flow_body, group_body}
use Rattle.pq_model.specs.Spelling.{with_header, message_bytes}
use Rattle.pq_model.specs.Install.{Install}
use Rattle.pq_model.proofs.Examples.{tiny_old}
use Rattle.pq_inspect.specs.Inspection.{inspection, inspection_text}
use Rattle.pq_inspect.proofs.Linked.{linked}

-- nothing at all
abbrev nothing : Install
nothing = record { topology = record { switches = []; links = [] }; queries = []; report = []; messages = [] }

nothing-inspected : inspection_text nothing ≡ codes "{\"links\":[],\"queries\":[],\"report\":[],\"switches\":[]}\n"
unfolding inspection serde_json_on_literals
nothing-inspected = refl

-- one switch, with two entries
tiny_old-inspected : inspection_text tiny_old
    ≡ codes "{\"links\":[],\"queries\":[],\"report\":[],\"switches\":[{\"datapath\":1,\"entries\":2,\"groups\":0,\"messages\":[\"040e00380000000100000000000000000000000000000000ff03000000000000ffffffffffffffffffffffff000000000001000400000000\",\"040f00100000000200020000fffffffc\",\"0414000800000003\",\"0414000800000004\",\"040e00600000000500000000000000000000000000000000000000000000ffffffffffffffffffffffffffff0000000000010012800000040000000180000c020000000000000000000400180000000000000010000000020000000000000000\",\"040e00400000000600000000000000000000000000000000000000000000fffeffffffffffffffffffffffff000000000001000a80000c020000000000000000\",\"0414000800000007\"],\"ports\":[1,2]}]}\n"
unfolding inspection serde_json_on_literals digits message_bytes with_header flow_body group_body bucket_bytes match_bytes match_oxms
    action_bytes apply_bytes goto_bytes
tiny_old-inspected = refl

-- with links, names and a report
linked-inspected : inspection_text linked
    ≡ codes "{\"links\":[[1,2,18446744073709551615,1]],\"queries\":[\"q1\",\"to_east\"],\"report\":[{\"pairs\":[{\"label\":[10,18446744073709551615],\"query\":0},{\"label\":[],\"query\":1}],\"tag\":7}],\"switches\":[{\"datapath\":1,\"entries\":0,\"groups\":0,\"messages\":[\"0414000800000003\"],\"ports\":[1,2]},{\"datapath\":18446744073709551615,\"entries\":0,\"groups\":1,\"messages\":[\"040f006000000004000000000000000100280000ffffffffffffffff0000000000120008000000000000001000000002000000000000000000280000ffffffffffffffff00000000001200080000000000000010000000030000000000000000\"],\"ports\":[1]}]}\n"
unfolding inspection serde_json_on_literals digits message_bytes with_header group_body bucket_bytes action_bytes
linked-inspected = refl
