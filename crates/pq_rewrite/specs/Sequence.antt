-- The steps to a sequence of two trees.
use Rattle.std.specs.Prelude.{ℕ, ◌≡◌, Bool, ◌&&◌, ◌==◌, List, Some, slice_get}
use Rattle.std.specs.List.{All, Any}
use Rattle.std.specs.Option.{option_and, option_or, option_xor}
use Rattle.pq_fields.specs.declared.field.Field.{Field}
use Rattle.pq_fields.specs.Order.{writes_eq}
use Rattle.pq_fields.specs.Packet.{Numbers, Fit}
use Rattle.pq_fields.specs.Writes.{Written, AllFit, on}
use Rattle.pq_store.specs.Tree.{Tree, value, IsPartOf}
use Rattle.pq_store.specs.Tree.Tree.{Tip}
use Rattle.pq_store.specs.Store.{HasAt}
use Rattle.pq_store.specs.Room.{HasRoom, Within}
use Rattle.pq_rewrite.specs.Rewriting.{ChangesAll, CoversWrites, Gives, IsGiven, IsWrittenBy}

-- the numbers of the second, and those of the first in the other fields
abbrev pub over : Written → Written → Written
over v w =
    record {
      port = option_or w.port v.port;
      eth_src = option_or w.eth_src v.eth_src;
      eth_dst = option_or w.eth_dst v.eth_dst;
      ipv4_src =
          option_or w.ipv4_src v.ipv4_src;
      ipv4_dst = option_or w.ipv4_dst v.ipv4_dst;
      tcp_src = option_or w.tcp_src v.tcp_src;
      tcp_dst =
          option_or w.tcp_dst v.tcp_dst;
      udp_src = option_or w.udp_src v.udp_src;
      udp_dst = option_or w.udp_dst v.udp_dst;
    }

-- the numbers of one alone, in fields that the other doesn't write
abbrev pub once : Written → Written → Written
once v w =
    record {
      port = option_xor v.port w.port;
      eth_src = option_xor v.eth_src w.eth_src;
      eth_dst = option_xor v.eth_dst w.eth_dst;
      ipv4_src =
          option_xor v.ipv4_src w.ipv4_src;
      ipv4_dst = option_xor v.ipv4_dst w.ipv4_dst;
      tcp_src = option_xor v.tcp_src w.tcp_src;
      tcp_dst =
          option_xor v.tcp_dst w.tcp_dst;
      udp_src = option_xor v.udp_src w.udp_src;
      udp_dst = option_xor v.udp_dst w.udp_dst;
    }

-- the numbers of the second, in fields that both write
abbrev pub twice : Written → Written → Written
twice v w =
    record {
      port = option_and v.port w.port;
      eth_src = option_and v.eth_src w.eth_src;
      eth_dst = option_and v.eth_dst w.eth_dst;
      ipv4_src =
          option_and v.ipv4_src w.ipv4_src;
      ipv4_dst = option_and v.ipv4_dst w.ipv4_dst;
      tcp_src = option_and v.tcp_src w.tcp_src;
      tcp_dst =
          option_and v.tcp_dst w.tcp_dst;
      udp_src = option_and v.udp_src w.udp_src;
      udp_dst = option_and v.udp_dst w.udp_dst;
    }

-- the writes change the packet, and those that come next change the packet written
pub record AreReady (x : Numbers) (w : Written) (ws : List Written) : Type 0 where
  pub first : ChangesAll x w
  pub next : IsGiven (on w x) (IsWrittenBy (on w x) ws) ws

-- and so do each of these writes and what the tree has for the packet written
abbrev pub AllReady : Numbers → Tree (List Written) → List Written → Type 0
AllReady x u ws = All (λ w. AreReady x w (value u (on w x))) ws

-- two pairs of writes and an id are one
abbrev pub same_move : Written × ℕ → Written × ℕ → Bool
same_move p q = writes_eq p.0 q.0 && (p.1 == q.1)

-- the numbers that are tested, and at each leaf those that are written and those in prerequisites, are among these
pub record CoversLeaves (ns : Field → List ℕ) (t : Tree (List Written)) : Type 0 where
  pub tests : Within ns t
  pub leaves : (l : List Written) → IsPartOf (Tip l) t → All (λ w. AllFit w × CoversWrites ns w) l

-- writes may come after others: they fit, and there is room for their numbers and those in prerequisites.
abbrev pub FitInTurn : List Written → Type 0
FitInTurn ws = All AllFit ws × HasRoom (λ ns. All (CoversWrites ns) ws)

-- where the writes change the packet, the tree gives the packet written by the first and by one of the others
pub record IsInTurn (w : Written) (ws : List Written) (t : Tree (List Written)) : Type 0 where
  pub giving : (x : Numbers) → Fit x → ChangesAll x w → All (ChangesAll (on w x)) ws → IsGiven x (λ y. Any (λ v. y ≡ on v (on w x)) ws) (value t x)
  pub tests : (ns : Field → List ℕ) → All (CoversWrites ns) ws → Within ns t

-- there is room for the numbers of writes and of a tree that follows.
abbrev pub FitAsFollowed : Written → Tree (List Written) → Type 0
FitAsFollowed w u = HasRoom (λ ns. CoversWrites ns w × CoversLeaves ns u)

abbrev pub FitAsFollowedAt : Written → List (Tree (List Written)) → ℕ → Type 0
FitAsFollowedAt w ts k = (u : Tree (List Written)) → slice_get ts k ≡ Some u → FitAsFollowed w u

-- where the writes change the packet, the tree gives what the other gives of the packet written
pub record IsFollowed (w : Written) (u r : Tree (List Written)) : Type 0 where
  pub giving : (x : Numbers) → Fit x → AreReady x w (value u (on w x)) → IsGiven x (Gives u (on w x)) (value r x)
  pub tests : (ns : Field → List ℕ) → CoversWrites ns w → CoversLeaves ns u → Within ns r

pub record IsFollowedAt (w : Written) (ts : List (Tree (List Written))) (k id : ℕ) : Type 0 where
  pub tree : Tree (List Written)
  pub followed : Tree (List Written)
  pub tree_is : slice_get ts k ≡ Some tree
  pub followed_is : slice_get ts id ≡ Some followed
  pub follows : IsFollowed w tree followed

-- there is room for the numbers of each of these writes and of a tree that follows.
abbrev pub FitAsFollowedEach : List Written → Tree (List Written) → Type 0
FitAsFollowedEach ws u = HasRoom (λ ns. All (CoversWrites ns) ws × CoversLeaves ns u)

abbrev pub FitAsFollowedEachAt : List Written → List (Tree (List Written)) → ℕ → Type 0
FitAsFollowedEachAt ws ts k = (u : Tree (List Written)) → slice_get ts k ≡ Some u → FitAsFollowedEach ws u

-- where the writes change the packet, the tree gives what the other gives of the packets written
pub record IsFollowedEach (ws : List Written) (u r : Tree (List Written)) : Type 0 where
  pub giving : (x : Numbers) → Fit x → AllReady x u ws → IsGiven x (λ y. Any (λ w. Gives u (on w x) y) ws) (value r x)
  pub tests : (ns : Field → List ℕ) → All (CoversWrites ns) ws → CoversLeaves ns u → Within ns r

abbrev pub FollowsEachAt : List Written → List (Tree (List Written)) → ℕ → List (Tree (List Written)) → ℕ → Type 0
FollowsEachAt ws old k new id = (u : Tree (List Written)) → slice_get old k ≡ Some u → HasAt (IsFollowedEach ws u) new id

-- there is room for the numbers of a tree and of one that follows.
abbrev pub FitAsSequence : Tree (List Written) → Tree (List Written) → Type 0
FitAsSequence t u = HasRoom (λ ns. CoversLeaves ns t × CoversLeaves ns u)

abbrev pub FitAsSequenceAt : List (Tree (List Written)) → ℕ → ℕ → Type 0
FitAsSequenceAt ts i j = (t u : Tree (List Written)) → slice_get ts i ≡ Some t → slice_get ts j ≡ Some u → FitAsSequence t u

-- where the writes of the first change the packet, the tree gives what the second gives of the packets that the first gives
pub record IsInSequence (t u r : Tree (List Written)) : Type 0 where
  pub giving : (x : Numbers) → Fit x → AllReady x u (value t x) → IsGiven x (λ y. Any (λ w. Gives u (on w x) y) (value t x)) (value r x)
  pub tests : (ns : Field → List ℕ) → CoversLeaves ns t → CoversLeaves ns u → Within ns r

pub record IsSequencedAt (ts : List (Tree (List Written))) (k j id : ℕ) : Type 0 where
  pub tree : Tree (List Written)
  pub second : Tree (List Written)
  pub sequenced : Tree (List Written)
  pub tree_is : slice_get ts k ≡ Some tree
  pub second_is : slice_get ts j ≡ Some second
  pub sequenced_is : slice_get ts id ≡ Some sequenced
  pub sequence : IsInSequence tree second sequenced
