-- Packets whose fields are set to the numbers that are written, and diagrams on such packets.
use Rattle.std.specs.Prelude.{ℕ, ◌≡◌, List, [], ◌∷◌, Some, slice_get}
use Rattle.std.specs.Option.{unwrap_or}
use Rattle.pq_fields.specs.declared.field.Field.{Field}
use Rattle.pq_fields.specs.Packet.{Numbers, number_in, with_number}
use Rattle.pq_fields.specs.Writes.{Written, written_in}
use Rattle.pq_store.specs.declared.test.Test.{Test}
use Rattle.pq_store.specs.Tree.{Tree, value, IsTested}
use Rattle.pq_store.specs.Store.{HasAt}

-- the packet with each number set, whether or not it has the field
abbrev pub put : Written → Numbers → Numbers
put w x =
    record x {
      port = unwrap_or w.port x.port;
      eth_src = unwrap_or w.eth_src x.eth_src;
      eth_dst = unwrap_or w.eth_dst x.eth_dst;
      ipv4_src = unwrap_or w.ipv4_src x.ipv4_src;
      ipv4_dst = unwrap_or w.ipv4_dst x.ipv4_dst;
      tcp_src = unwrap_or w.tcp_src x.tcp_src;
      tcp_dst = unwrap_or w.tcp_dst x.tcp_dst;
      udp_src = unwrap_or w.udp_src x.udp_src;
      udp_dst = unwrap_or w.udp_dst x.udp_dst;
    }

-- the packet with the number for one field set
abbrev pub put_one : Field → Written → Numbers → Numbers
put_one f w x = with_number f (unwrap_or (written_in f w) (number_in f x)) x

-- and those for some fields
abbrev pub put_all : List Field → Written → Numbers → Numbers
put_all [] w x = x
put_all (f ∷ fs) w x = put_one f w (put_all fs w x)

-- the tree has on each packet the value of the other on a packet made of it, and tests only what that tests
pub record IsMoved {L : Type 0} (move : Numbers → Numbers) (t r : Tree L) : Type 0 where
  pub gives : (x : Numbers) → value r x ≡ value t (move x)
  pub tests : (s : Test) → IsTested s r → IsTested s t

module _ {L : Type 0} where
  abbrev pub MovesAt : (Numbers → Numbers) → List (Tree L) → ℕ → List (Tree L) → ℕ → Type 0
  MovesAt move old k new id = (t : Tree L) → slice_get old k ≡ Some t → HasAt (IsMoved move t) new id

  -- on packets with the numbers for these fields set
  abbrev pub SetsAllAt : List Field → Written → List (Tree L) → ℕ → List (Tree L) → ℕ → Type 0
  SetsAllAt fs w old k new id = MovesAt (put_all fs w) old k new id

  -- on packets with all numbers set
  abbrev pub OverwritesAt : Written → List (Tree L) → ℕ → List (Tree L) → ℕ → Type 0
  OverwritesAt w old k new id = MovesAt (put w) old k new id
