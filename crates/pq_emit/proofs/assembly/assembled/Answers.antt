use Rattle.std.proofs.Common.{map, sym, subst, ◌∙◌}
use Rattle.std.specs.List.{AllZip}
use Rattle.std.proofs.lemmas.List.{length-map}
use Rattle.std.proofs.lemmas.Slice.Zip.{AllZip-long}
use Rattle.pq_join.specs.Tags.{tagging_of}
use Rattle.pq_layout.specs.Emission.{AreMessages}
use Rattle.pq_lookup.specs.Sent.{AreFilled}
use Rattle.pq_emit.specs.Switches.{IsFilledBy, trees_at, trees_of}
use Rattle.pq_emit.proofs.Concluded.{all_filled, all_messages_of, fault_told, no_fault}
use Rattle.pq_emit.proofs.Located.{all_located}
use Rattle.pq_emit.proofs.assembly.assembled.Goals as goal

pub returns-in-Err-clause-cause : goal.returns-in-Err-clause-cause
returns-in-Err-clause-cause c = λ a writes at.
    let T = c.args.topology.now in
    let g = tagging_of a c.args.classes.now in
    fault_told T g writes (trees_of c.args.first.now c.args.second.now c.args.trees.now)
    (all_located T g writes c.args.first.now c.args.second.now c.args.trees.now at)
    c.in-Err.fault c.in-Err.ensures.cause

pub install_of-requires-clause-listed : goal.install_of-requires-clause-listed
install_of-requires-clause-listed c =
    let all = trees_of c.args.first.now c.args.second.now c.args.trees.now in
    sym (length-map c.in-Ok.messages.items (λ ms. ms.items)) ∙ AllZip-long IsFilledBy all (map (λ ms. ms.items) c.in-Ok.messages.items) c.in-Ok.ensures.messages
    ∙ length-map c.args.trees.now (trees_at c.args.first.now c.args.second.now) ∙ c.requires.listed

pub returns-in-Ok-install_of-clause-ok : goal.returns-in-Ok-install_of-clause-ok
returns-in-Ok-install_of-clause-ok c = λ a writes at.
    let T = c.args.topology.now in
    let g = tagging_of a c.args.classes.now in
    let made = c.in-Ok-install_of.ensures in
    let all = trees_of c.args.first.now c.args.second.now c.args.trees.now in
    record {
      topology = made.topology;
      queries = made.names;
      report = made.report a;
      messages = subst (λ ms. AllZip (λ s m. AreMessages T g writes s.datapath m) T.switches ms) (sym made.messages)
          (all_messages_of T g writes all (map (λ ms. ms.items) c.in-Ok.messages.items)
          (all_located T g writes c.args.first.now c.args.second.now c.args.trees.now at) c.in-Ok.ensures.messages);
    }

pub returns-in-Ok-install_of-clause-filled : goal.returns-in-Ok-install_of-clause-filled
returns-in-Ok-install_of-clause-filled c = λ a writes at.
    let T = c.args.topology.now in
    let g = tagging_of a c.args.classes.now in
    let all = trees_of c.args.first.now c.args.second.now c.args.trees.now in
    subst (λ ms. AllZip (λ s m. (a : AreMessages T g writes s.datapath m) × AreFilled a.first a.second) T.switches ms) (sym c.in-Ok-install_of.ensures.messages)
    (all_filled T g writes all (map (λ ms. ms.items) c.in-Ok.messages.items)
    (all_located T g writes c.args.first.now c.args.second.now c.args.trees.now at) c.in-Ok.ensures.messages)

pub returns-in-Ok-install_of-clause-complete : goal.returns-in-Ok-install_of-clause-complete
returns-in-Ok-install_of-clause-complete c = λ a writes at.
    let T = c.args.topology.now in
    let g = tagging_of a c.args.classes.now in
    no_fault T g writes (trees_of c.args.first.now c.args.second.now c.args.trees.now)
    (all_located T g writes c.args.first.now c.args.second.now c.args.trees.now at) c.in-Ok.ensures.complete
