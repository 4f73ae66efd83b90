use Rattle.std.proofs.Common.{true, ◌∙◌}
use Rattle.pq_letters.proofs.Spelled.{least_alternates, lesser_word, not_before_least, same_letters}
use Rattle.pq_letters.proofs.laws.least_packets_spell_letters.Goals as goal

pub returns-clause-letters : goal.returns-clause-letters
returns-clause-letters c w fit = same_letters c.args.letters.now c.count.ensures.lettered w fit

pub returns-clause-word : goal.returns-clause-word
returns-clause-word c w fit is = least_alternates c.args.letters.now true w ∙ is

pub returns-clause-least : goal.returns-clause-least
returns-clause-least c w fit = not_before_least c.args.letters.now c.count.ensures.lettered w fit

pub returns-clause-order : goal.returns-clause-order
returns-clause-order c v w v_fit w_fit less = lesser_word c.args.letters.now c.count.ensures.lettered v w w_fit less
