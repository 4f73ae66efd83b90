-- Letters of packets: classes of packets of which the same predicates hold.
use Rattle.std.specs.Prelude.{ℕ, ◌<◌, ◌≡◌, Bool, true, false, List, [], Option, Some, map, length, slice_get, All}
use Rattle.std.specs.Prelude.{refl}
use Rattle.std.specs.Coded.{Coded, code_by, coded×, coded_ℕ, coded_bool, coded_list}
use Rattle.std.specs.List.{AllPairs}
use Rattle.std.proofs.Math.ListN.{get_or}
use Rattle.pq_fields.specs.declared.field.Field.{Field}
use Rattle.pq_fields.specs.Packet.{Numbers, Fit, zero_packet}
use Rattle.pq_fields.specs.contracts.packet.Packet as packet
use Rattle.pq_store.specs.contracts.test.Test as tests
use Rattle.pq_store.specs.Code.{coded_tree}
use Rattle.pq_store.specs.Least.{precedes}
use Rattle.pq_store.specs.Store.{HasAt, value_at}
use Rattle.pq_store.specs.Tree.{Tree, value}
use Rattle.pq_store.specs.Room.{Within}

-- letters as plain data: the trees of their store and the place of their diagram, and of each letter which predicates hold and the least packet
pub record LettersValue : Type 0 where
  pub trees : List (Tree ℕ)
  pub root : ℕ
  pub signatures : List (List Bool)
  pub least : List Numbers

-- letters are kept as the tuple of these
abbrev pub letters_code : Coded LettersValue
letters_code =
    code_by (List (Tree ℕ) × (ℕ × (List (List Bool) × List Numbers)))
    (coded× (coded_list (coded_tree tests.the_row.coded coded_ℕ))
    (coded× coded_ℕ (coded× (coded_list (coded_list coded_bool)) (coded_list packet.the_row.coded))))
    (λ a. (a.trees, (a.root, (a.signatures, a.least)))) (λ p. record { trees = p.0; root = p.1.0; signatures = p.1.1.0; least = p.1.1.1 }) (λ _. refl)

-- the letter of a packet
abbrev pub letter_at : LettersValue → Numbers → Option ℕ
letter_at a x = value_at a.trees a.root x

-- the packet is the first of the letter, in packet order
pub record IsLeastOf (a : LettersValue) (letter : ℕ) (x : Numbers) : Type 0 where
  pub fit : Fit x
  pub has : letter_at a x ≡ Some letter
  pub least : (y : Numbers) → Fit y → letter_at a y ≡ Some letter → precedes y x ≡ false

-- each packet has a letter, each letter a packet; letters ascend by least packet, and their signatures differ
pub record IsLettered (a : LettersValue) : Type 0 where
  pub root : a.root < length a.trees
  pub signed : length a.signatures ≡ length a.least
  pub whole : (x : Numbers) → Fit x → (letter : ℕ) × (letter < length a.least) × (letter_at a x ≡ Some letter)
  pub each : (letter : ℕ) → letter < length a.least → IsLeastOf a letter (get_or a.least letter zero_packet)
  pub ascending : AllPairs (λ x y. precedes x y ≡ true) a.least
  pub differ : (i j : ℕ) → i < length a.least → j < length a.least → get_or a.signatures i [] ≡ get_or a.signatures j [] → i ≡ j

-- which of the trees are true of the packet
abbrev pub truths : List (Tree Bool) → Numbers → List Bool
truths us x = map (λ u. value u x) us

-- the signature of a packet's letter says which of the trees are true of it, and the letters' diagram tests only what they test
pub record IsPartition (us : List (Tree Bool)) (a : LettersValue) : Type 0 where
  pub tells : (x : Numbers) (letter : ℕ) → Fit x → letter_at a x ≡ Some letter → get_or a.signatures letter [] ≡ truths us x
  pub tests : (t : Tree ℕ) → slice_get a.trees a.root ≡ Some t → (ns : Field → List ℕ) → All (Within ns) us → Within ns t

-- the tree has of each packet which of the others are true, and tests only what they test
pub record IsSigned (us : List (Tree Bool)) (t : Tree (List Bool)) : Type 0 where
  pub gives : (x : Numbers) → value t x ≡ truths us x
  pub tests : (ns : Field → List ℕ) → All (Within ns) us → Within ns t

abbrev pub SignedAt : List (Tree Bool) → List (Tree (List Bool)) → ℕ → Type 0
SignedAt us ts id = HasAt (IsSigned us) ts id
