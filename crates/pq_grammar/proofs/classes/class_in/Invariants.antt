use Rattle.std.proofs.Common.{◌≡◌, drop, map}
use Rattle.pq_grammar.specs.Classes.{class_in}
use Rattle.pq_grammar.proofs.classes.class_in.Given as goal

-- the rest of the table tells what all of it does
abbrev pub invariant-loop-spelling : goal.invariant-loop-spelling
invariant-loop-spelling l = class_in (map (λ e. (e.0.now, e.1)) (drop l.spelling-index l.table)) l.other l.text
    ≡ class_in (map (λ e. (e.0.now, e.1)) l.table) l.other l.text
