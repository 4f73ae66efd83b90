-- Lists in which each is related to the next, and what may follow them.
use Rattle.std.specs.Prelude.{◌≡◌, ℕ, ◌-◌, ◌<◌, ◌↔◌, IsTrue, List, [], ◌∷◌, ◌++◌, length, map, slice_get, MatchOption}
use Rattle.std.proofs.Common.{arith, suc}
use Rattle.pq_fields.specs.Packet.{is_before}
use Rattle.pq_model.specs.Lawful.{Ascends}
use Rattle.pq_model.specs.Install.{AscendsBy}
use Rattle.pq_install.specs.Following.{AtLast}

-- each is related to the next
abbrev pub Chain : {X : Type 0} → (X → X → Type 0) → List X → Type 0
Chain R [] = Unit {0}
Chain R (x ∷ []) = Unit {0}
Chain R (x ∷ y ∷ zs) = R x y × Chain R (y ∷ zs)

-- one follows a chain where it is related to the last
pub chain_more : {X : Type 0} (R : X → X → Type 0) (xs : List X) (x : X) → Chain R (xs ++ x ∷ []) ↔ Chain R xs × AtLast (λ y. R y x) xs
chain_more R [] x = (λ c. (tt, tt), λ c. tt)
chain_more R (y ∷ []) x = (λ c. (tt, c.0), λ c. (c.1, tt))
chain_more R (y ∷ z ∷ zs) x =
    let later = chain_more R (z ∷ zs) x in
    (λ c. let l = later.0 c.1 in ((c.0, l.0), l.1), λ c. (c.0.0, later.1 (c.0.1, c.1)))

-- what holds of the last that a slice tells
pub at_last : {X : Type 0} (P : X → Type 0) (xs : List X) → MatchOption (slice_get xs (length xs - 1)) (Unit {0}) P ↔ AtLast P xs
at_last P [] = (λ m. tt, λ m. tt)
at_last P (x ∷ []) = (λ m. m, λ m. m)
at_last P (x ∷ y ∷ zs) =
    let one_less : length (x ∷ y ∷ zs) - 1 ≡ suc (length (y ∷ zs) - 1) = omega arith in
    rw one_less (at_last P (y ∷ zs))

-- keys that ascend are a chain
pub ascending_chain : {X : Type 0} (key : X → ℕ) (xs : List X) → Ascends (map key xs) ↔ Chain (λ x y. key x < key y) xs
ascending_chain key [] = (λ c. tt, λ c. tt)
ascending_chain key (x ∷ []) = (λ c. tt, λ c. tt)
ascending_chain key (x ∷ y ∷ zs) =
    let later = ascending_chain key (y ∷ zs) in
    (λ c. (c.0, later.0 c.1), λ c. (c.0, later.1 c.1))

-- and lists as keys likewise
pub ascending_by_chain : {X : Type 0} (key : X → List ℕ) (xs : List X) → AscendsBy key xs ↔ Chain (λ x y. IsTrue (is_before (key x) (key y))) xs
ascending_by_chain key [] = (λ c. tt, λ c. tt)
ascending_by_chain key (x ∷ []) = (λ c. tt, λ c. tt)
ascending_by_chain key (x ∷ y ∷ zs) =
    let later = ascending_by_chain key (y ∷ zs) in
    (λ c. (c.0, later.0 c.1), λ c. (c.0, later.1 c.1))
