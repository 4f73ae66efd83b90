-- The messages that a delta lists for a switch.
use Rattle.std.proofs.Common.{◌≡◌, ◌∙◌, ◌≤◌, ◌<◌, ℕ, Bool, true, false, ◌==◌, if◌then◌else◌, List, [], ◌∷◌, map, refl, sym, ap, arith}
use Rattle.std.proofs.lemmas.Bool.Decides.{nat_tests}
use Rattle.std.specs.List.{AllByRecursion, AllZip}
use Rattle.pq_model.specs.declared.message.Message.{Message}
use Rattle.pq_model.specs.Install.{messages_in}
use Rattle.pq_model.specs.Lawful.{Ascends}
use Rattle.pq_model.specs.Topology.{Switch}
use Rattle.pq_delta.specs.Delta.{deltas, switch_delta, with_switch}
use Rattle.pq_turning.specs.Edits.{listed_for}

abbrev Others : ℕ → List Switch → Type 0
Others n ss = AllByRecursion (λ s. (s.datapath == n) ≡ false) ss

differs : (m n x : ℕ) → n ≤ x → x < m → (m == n) ≡ false
differs m n x low above = grind (arith, nat_tests)

-- the later ones have greater numbers
above : (n x : ℕ) (ss : List Switch) → n ≤ x → Ascends (x ∷ map (λ s. s.datapath) ss) → Others n ss
above n x [] low rising = tt
above n x (s ∷ ss) low (here, rest) = (differs s.datapath n x low here, above n s.datapath ss (omega (arith, low, here)) rest)

rests : (s : Switch) (ss : List Switch) → Ascends (s.datapath ∷ map (λ s. s.datapath) ss) → Ascends (map (λ s. s.datapath) ss)
rests s [] rising = tt
rests s (t ∷ ss) (here, rest) = rest

with-other : (d n : ℕ) → (d == n) ≡ false → (ms : List Message) (rest : List (ℕ × List Message)) → listed_for (with_switch d ms rest) n ≡ listed_for rest n
with-other d n other [] rest = refl
with-other d n other (m ∷ ms) rest = ap (λ b. if b then m ∷ ms else listed_for rest n) other

with-own : (d n : ℕ) → (d == n) ≡ true → (ms : List Message) (rest : List (ℕ × List Message)) → listed_for rest n ≡ []
    → listed_for (with_switch d ms rest) n ≡ ms
with-own d n own [] rest none = none
with-own d n own (m ∷ ms) rest none = ap (λ b. if b then m ∷ ms else listed_for rest n) own

unlisted : (n : ℕ) (ss : List Switch) (olds news : List (List Message)) → Others n ss → listed_for (deltas ss olds news) n ≡ []
unlisted n [] olds news others = refl
unlisted n (s ∷ ss) [] news others = refl
unlisted n (s ∷ ss) (old ∷ olds) [] others = refl
unlisted n (s ∷ ss) (old ∷ olds) (new ∷ news) (here, rest) =
    with-other s.datapath n here (switch_delta old new) (deltas ss olds news) ∙ unlisted n ss olds news rest

pub nothing-between : switch_delta [] [] ≡ []
unfolding switch_delta
nothing-between = refl

module _ (R Q : Switch → List Message → Type 0) where
  pub listed : (ss : List Switch) (olds news : List (List Message)) → Ascends (map (λ s. s.datapath) ss) → AllZip R ss olds → AllZip Q ss news
      → (n : ℕ) → listed_for (deltas ss olds news) n ≡ switch_delta (messages_in ss olds n) (messages_in ss news n)
  listed [] olds news rising all more n = sym nothing-between
  listed (s ∷ ss) [] news rising all more n = absurd all
  listed (s ∷ ss) (old ∷ olds) [] rising all more n = absurd more
  listed (s ∷ ss) (old ∷ olds) (new ∷ news) rising all more n = by (s.datapath == n) refl (listed ss olds news (rests s ss rising) all.1 more.1 n)
    where
      by : (b : Bool) → (s.datapath == n) ≡ b → listed_for (deltas ss olds news) n ≡ switch_delta (messages_in ss olds n) (messages_in ss news n)
          → listed_for (with_switch s.datapath (switch_delta old new) (deltas ss olds news)) n
          ≡ switch_delta (if b then old else messages_in ss olds n) (if b then new else messages_in ss news n)
      by true own later =
          let is : s.datapath ≡ n = grind (arith, nat_tests) in
          with-own s.datapath n own (switch_delta old new) (deltas ss olds news)
          (unlisted n ss olds news (above n s.datapath ss (omega (arith, is)) rising))
      by false other later = with-other s.datapath n other (switch_delta old new) (deltas ss olds news) ∙ later
