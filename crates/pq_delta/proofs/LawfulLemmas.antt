-- Messages of a delta are lawful where those of the installs are.
use Rattle.std.proofs.Common.{◌≡◌, ℕ, ◌^◌, ◌<◌, List, [], ◌∷◌, All, refl, subst, arith}
use Rattle.std.specs.List.{AllByRecursion, cons_option}
use Rattle.std.proofs.lemmas.List.Elements.{recursion_from_All}
use Rattle.pq_model.specs.declared.flow_mod.FlowCommand.{FlowCommand}
use Rattle.pq_model.specs.declared.flow_mod.FlowCommand.TheVariants.{Add as AddFlow, DeleteAll, DeleteStrict}
use Rattle.pq_model.specs.declared.message.Message.{Message}
use Rattle.pq_model.specs.declared.message.Message.TheVariants.{Flow, Group, Barrier}
use Rattle.pq_model.specs.Lawful.{IsLawfulMessage}
use Rattle.pq_model.specs.Mods.{FlowValue}
use Rattle.pq_model.specs.Spelling.{flow_body, message_bytes, with_header}
use Rattle.pq_model.specs.SwitchMachine.{Entry, entry_of}
use Rattle.pq_delta.specs.Added.{entries_added, entry_by}
use Rattle.pq_delta.specs.Changes.{add_of}

-- an entry whose Add is lawful
abbrev pub IsLawfulEntry : Entry → Type 0
IsLawfulEntry e = IsLawfulMessage (Flow (add_of 0 e))

-- an Add with another transaction id
pub renumbered : (x y : ℕ) (e : Entry) → y < 2 ^ 32 → IsLawfulMessage (Flow (add_of x e)) → IsLawfulMessage (Flow (add_of y e))
unfolding message_bytes with_header flow_body
renumbered x y e small h = record {
  content = record { xid = small; cookie = h.content.cookie; priority = h.content.priority; matching = h.content.matching; command = h.content.command };
  short = h.short;
}

add_is : (f : FlowValue) → f.command ≡ AddFlow → f ≡ add_of f.xid (entry_of f)
add_is f is = λ i. record {
  xid = f.xid;
  cookie = f.cookie;
  table = f.table;
  command = is i;
  priority = f.priority;
  matching = f.matching;
  actions = f.actions;
  goto = f.goto;
}

pub lawful_entry : (f : FlowValue) → f.command ≡ AddFlow → IsLawfulMessage (Flow f) → IsLawfulEntry (entry_of f)
lawful_entry f is h = renumbered f.xid 0 (entry_of f) (omega arith) (subst (λ g. IsLawfulMessage (Flow g)) (add_is f is) h)

-- the entries that lawful messages add are lawful
pub lawful_entries : (ms : List Message) → All IsLawfulMessage ms → AllByRecursion IsLawfulEntry (entries_added ms)
lawful_entries ms all = each ms (recursion_from_All IsLawfulMessage ms all)
  where
    added : (c : FlowCommand) (f : FlowValue) (rest : List Entry) → f.command ≡ c → IsLawfulMessage (Flow f)
        → AllByRecursion IsLawfulEntry rest → AllByRecursion IsLawfulEntry (cons_option (entry_by c f) rest)
    added AddFlow f rest is h all = (lawful_entry f is h, all)
    added DeleteAll f rest is h all = all
    added DeleteStrict f rest is h all = all

    each : (ns : List Message) → AllByRecursion IsLawfulMessage ns → AllByRecursion IsLawfulEntry (entries_added ns)
    each [] all = tt
    each (Flow f ∷ ns) (here, rest) = added f.command f (entries_added ns) refl here (each ns rest)
    each (Group g ∷ ns) (here, rest) = each ns rest
    each (Barrier x ∷ ns) (here, rest) = each ns rest
