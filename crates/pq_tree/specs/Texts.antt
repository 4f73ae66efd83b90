-- What a token is in a text, also where it does not lie in it.
use Rattle.std.specs.Prelude.{ℕ, ◌+◌, if◌then◌else◌, List, [], length, nat_le}
use Rattle.pq_term.specs.declared.token.Token.{Token}
use Rattle.pq_term.specs.Tokens.{text_of}
use Rattle.pq_grammar.specs.declared.class.Class.{Class}
use Rattle.pq_grammar.specs.Classes.{class_of_text}

-- the token's bytes where it lies within the text, and none where it does not
abbrev pub text_in : List ℕ → Token → List ℕ
text_in bytes t = if nat_le (t.at + t.len) (length bytes) then text_of bytes t else []

-- the class of a token of its kind with this text
abbrev pub class_in_text : List ℕ → Token → Class
class_in_text bytes t = class_of_text t.kind (text_in bytes t)
