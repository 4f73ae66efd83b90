-- What letters of packets and an automaton over them tell of words of packets.
use Rattle.std.specs.Prelude.{◌≡◌, ◌↔◌, ℕ, suc, ◌<◌, List, [], Some, length, map}
use Rattle.std.specs.List.{Contains}
use Rattle.std.proofs.Math.ListN.{get_or}
use Rattle.pq_fields.specs.Packet.{Fit, Numbers}
use Rattle.pq_fields.specs.Pred.{PredTree, holds}
use Rattle.pq_model.specs.Classes.{Languages, HasClasses, IsPath, IsTag, has_even_length}
use Rattle.pq_model.specs.Lawful.{Ascends}
use Rattle.pq_model.specs.Word.{Word}
use Rattle.pq_expr.specs.Expr.{ExprTree}
use Rattle.pq_auto.specs.Exploration.{half_steps, holding}
use Rattle.pq_auto.specs.Machine.{Machine, AllBelow, IsLeastMachine, IsMachine, accepted_at, has_even_length as has_even_count, is_even_at, reached}
use Rattle.pq_auto.specs.Numbering.{IsNumbered}
use Rattle.pq_letters.specs.Letters.{LettersValue, letter_at}
use Rattle.pq_letters.specs.Words.{letters_of}

-- the class of a word: the state that the letters of its packets lead to
abbrev pub class_of : LettersValue → Machine → Word → ℕ
class_of a m w = reached m (letters_of a w)

-- these are the instances that hold the word, ascending
pub record AreHolding (Ls : Languages) (w : Word) (is : List ℕ) : Type 0 where
  pub ascend : Ascends is
  pub exact : (i : ℕ) → Contains is i ↔ Ls i w

-- of each packet its letter says which of the predicates hold
abbrev pub TellPreds : List PredTree → LettersValue → Type 0
TellPreds ps a = (x : Numbers) (letter : ℕ) → Fit x → letter_at a x ≡ Some letter → get_or a.signatures letter [] ≡ map (λ p. holds p x) ps

-- the least automaton over the letters that says of each word its parity and which of the expressions hold it
pub record IsAutomatonOf (es : List ExprTree) (a : LettersValue) (m : Machine) : Type 0 where
  pub letters : m.letters ≡ length a.least
  pub machine : IsMachine m
  pub numbered : IsNumbered m
  pub least : IsLeastMachine m
  pub even : (w : List ℕ) → AllBelow m.letters w → is_even_at m (reached m w) ≡ has_even_count w
  pub accepted : (w : List ℕ) → AllBelow m.letters w → accepted_at m (reached m w) ≡ holding es (half_steps a.signatures w)

-- the class of the word says its parity, which instances hold it, and its tag
pub record IsTold (Ls : Languages) (a : LettersValue) (m : Machine) (w : Word) : Type 0 where
  pub within : class_of a m w < length m.rows
  pub even : is_even_at m (class_of a m w) ≡ has_even_length w
  pub accepted : AreHolding Ls w (accepted_at m (class_of a m w))
  pub tag : IsTag Ls w (suc (class_of a m w))

-- the automaton's states are the classes of words, over these letters, and each is that of some word
pub record AreClasses (Ls : Languages) (a : LettersValue) (m : Machine) : Type 0 where
  pub letters : m.letters ≡ length a.least
  pub told : (w : Word) → IsPath w → IsTold Ls a m w
  pub reached : (c : ℕ) → c < length m.rows → (w : Word) × IsPath w × (class_of a m w ≡ c)
  pub count : HasClasses Ls (length m.rows)
