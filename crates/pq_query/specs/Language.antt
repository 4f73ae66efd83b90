-- Which words a query holds under a label (after NSDI 2016, Compiling Path Queries).
use Rattle.std.specs.Prelude.{◌≡◌, ◌≢◌, ℕ, zero, suc, ◌⊎◌, Bool, true, false, ◌&&◌, List, [], ◌∷◌, ◌++◌, length, take, drop}
use Rattle.pq_fields.specs.Packet.{Numbers}
use Rattle.pq_fields.specs.Pred.{PredTree, Equals, holds, leaf}
use Rattle.pq_model.specs.Word.{In, Out, Word, is_word}
use Rattle.pq_query.specs.Groups.{Group}
use Rattle.pq_query.specs.Labels.{top_groups, groups_of}
use Rattle.pq_query.specs.Query.{QueryTop, Enters, Leaves, Passes, Ends, InTurn, Either, Both, Other, Repeated, Queries, none, put, QueryTree}

-- Joining.

-- the word ends in an In
abbrev pub ends_inward : Word → Bool
ends_inward [] = false
ends_inward (In x ∷ []) = true
ends_inward (Out x ∷ []) = false
ends_inward (o ∷ p ∷ w) = ends_inward (p ∷ w)

-- w is u and then v, which isn't empty; after a u that ends in an In, as the flag says, an Out with some packet is between them
abbrev pub Linked : Bool → Word → Word → Word → Type 0
Linked true u v w = (x : Numbers) × (w ≡ u ++ Out x ∷ v)
Linked false u v w = w ≡ u ++ v

-- w joins u and v
abbrev pub Joins : Word → Word → Word → Type 0
Joins u [] w = w ≡ u
Joins u (o ∷ v) w = Linked (ends_inward u) u (o ∷ v) w

-- w joins this many words of the language
abbrev pub Rounds : (Word → Type 0) → ℕ → Word → Type 0
Rounds L zero w = w ≡ []
Rounds L (suc n) w = (u : Word) × (v : Word) × Joins u v w × L u × Rounds L n v

-- Atoms.

-- the packet has, in each of the grouped fields, its value of the label
abbrev pub meets : List Group → List ℕ → Numbers → Bool
meets [] label x = true
meets (g ∷ gs) [] x = false
meets (g ∷ gs) (n ∷ label) x = holds (leaf (Equals g.field n)) x && meets gs label x

-- the predicate holds of the packet, and so do the tests of the grouped fields for the values of the label
abbrev pub Fulfils : PredTree → List Group → List ℕ → Numbers → Type 0
Fulfils p gs label x = (holds p x ≡ true) × (meets gs label x ≡ true)

-- the word is In x, Out y
abbrev pub IsHop : Word → Numbers → Numbers → Type 0
IsHop w x y = w ≡ In x ∷ Out y ∷ []

-- Queries.

-- how operands act together: as any one of them, as all of them, joined one after another, or the first alone
pub data Joint : Type 0 where
  AnyOne : Joint
  All : Joint
  Joined : Joint
  First : Joint

-- whether a query with this top holds the word under the label, where the operands act so together
abbrev pub Holds : QueryTop → (Joint → List ℕ → Word → Type 0) → List ℕ → Word → Type 0
Holds (Enters p gs) Operands label w = (x : Numbers) × (w ≡ In x ∷ []) × Fulfils p gs label x
Holds (Leaves p gs) Operands label w = (x : Numbers) × (y : Numbers) × IsHop w x y × Fulfils p gs label y × (y.port ≢ 0)
Holds (Passes p gs q hs) Operands label w = (x : Numbers) × (y : Numbers) × IsHop w x y × Fulfils p gs (take (length gs) label) x
    × Fulfils q hs (drop (length gs) label) y × (y.port ≢ 0)
Holds (Ends p) Operands label w = (x : Numbers) × (y : Numbers) × IsHop w x y × (holds p x ≡ true) × (y.port ≡ 0)
Holds InTurn Operands label w = Operands Joined label w
Holds Either Operands label w = Operands AnyOne label w
Holds Both Operands label w = Operands All label w
Holds Other Operands label w = (is_word w ≡ true) × (Operands First label w → ⊥)
Holds Repeated Operands label w = (n : ℕ) × Rounds (Operands First label) n w

-- the number of grouped fields of a query: its share of a label
abbrev pub share : QueryTop → Queries → ℕ
share top below = length (top_groups top ++ groups_of below)

-- whether the queries together hold the word; each takes its own share of the label, in text order
abbrev pub HoldTogether : Queries → Joint → List ℕ → Word → Type 0
HoldTogether none AnyOne label w = ⊥
HoldTogether none All label w = Unit {0}
HoldTogether none Joined label w = w ≡ []
HoldTogether none First label w = ⊥
HoldTogether (put top below rest) AnyOne label w =
    Holds top (HoldTogether below) (take (share top below) label) w ⊎ HoldTogether rest AnyOne (drop (share top below) label) w
HoldTogether (put top below rest) All label w = Holds top (HoldTogether below) (take (share top below) label) w
    × HoldTogether rest All (drop (share top below) label) w
HoldTogether (put top below rest) Joined label w = (u : Word) × (v : Word) × Joins u v w × Holds top (HoldTogether below)
    (take (share top below) label) u × HoldTogether rest Joined (drop (share top below) label) v
HoldTogether (put top below rest) First label w = Holds top (HoldTogether below) (take (share top below) label) w

-- whether the query holds the word under the label
abbrev pub lang : QueryTree → List ℕ → Word → Type 0
lang q label w = Holds q.top (HoldTogether q.below) label w
