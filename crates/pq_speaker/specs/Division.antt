-- Headers, and how bytes are divided into messages (OpenFlow 1.3.5, section 7.1).
use Rattle.std.specs.Prelude.{ℕ, Bool, List, [], ◌∷◌, ◌++◌, length, get_or, take, drop, nat_le, ◌==◌, ◌&&◌, if◌then◌else◌}
use Rattle.std.specs.Int.{w16, w32, from_be_bytes}
use Rattle.pq_speaker.specs.declared.header.Header.{Header}

-- the header that begins these bytes, if they are eight or more
abbrev pub header_of : List ℕ → Header
header_of bytes = record {
  version = get_or bytes 0 0;
  kind = get_or bytes 1 0;
  length = from_be_bytes w16 (take 2 (drop 2 bytes));
  xid = from_be_bytes w32 (take 4 (drop 4 bytes));
}

-- the bytes are one message: a header is there, and they are as many as it says
abbrev pub is_whole : List ℕ → Bool
is_whole bytes = nat_le 8 (length bytes) && (length bytes == (header_of bytes).length)

-- whole messages, and what is not a whole message after them
pub record Division : Type 0 where
  pub messages : List (List ℕ)
  pub rest : List ℕ

-- no whole message
abbrev pub uncut : List ℕ → Division
uncut bytes = record { messages = []; rest = bytes }

abbrev pub with_first : List ℕ → Division → Division
with_first m d = record { messages = m ∷ d.messages; rest = d.rest }

-- the division of bytes that come after others: a message ends with the byte that makes it whole
abbrev pub divided : (before bytes : List ℕ) → Division
divided before [] = uncut before
divided before (b ∷ bytes) =
    if is_whole (before ++ b ∷ [])
    then with_first (before ++ b ∷ []) (divided [] bytes)
    else divided (before ++ b ∷ []) bytes
