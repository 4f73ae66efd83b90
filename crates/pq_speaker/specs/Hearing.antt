-- What is left to do when some messages of a piece were heard.
use Rattle.std.specs.Prelude.{List, [], ◌++◌, ℕ}
use Rattle.pq_speaker.specs.declared.talk.Talk.{Talk}
use Rattle.pq_speaker.specs.Division.{divided}
use Rattle.pq_speaker.specs.Rules.{Session, Effect, replies_bytes}
use Rattle.pq_speaker.specs.Speaking.{effects}

-- how far the session is, the bytes that are not whole message, and all that is sent
pub record Passed : Type 0 where
  pub talk : Talk
  pub rest : List ℕ
  pub sent : List ℕ

abbrev pub passed_with : Session → List ℕ → Effect → List ℕ → Passed
passed_with s sent e rest = record { talk = e.talk; rest = rest; sent = sent ++ replies_bytes s.messages e.replies }

-- after all whole messages of these bytes, when so much was sent before
abbrev pub passed : Session → List ℕ → Talk → List ℕ → Passed
passed s sent talk bytes = passed_with s sent (effects s talk (divided [] bytes).messages) (divided [] bytes).rest
