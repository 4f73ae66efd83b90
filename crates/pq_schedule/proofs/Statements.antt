-- Statements read word after word are the statements of all words.
use Rattle.std.proofs.Common.{◌≡◌, ℕ, ◌+◌, Bool, true, false, List, [], ◌∷◌, suc, leb, refl, ap, ◌∙◌, arith}
use Rattle.std.proofs.Math.Dec.{leb-zero}
use Rattle.std.specs.Prelude.{fold, ◌&&◌, if◌then◌else◌, option_and_then, option_map, Option, Some, None}
use Rattle.pq_model.specs.Tagged.{TaggedPacket}
use Rattle.pq_schedule.specs.declared.key.Key.{Key}
use Rattle.pq_schedule.specs.declared.injection.Stated.{Stated as Partial}
use Rattle.pq_schedule.specs.Lines.{Statement, statement_with, statement_of, statements_of, key_number, place_of, ascend, with_key}
use Rattle.pq_schedule.specs.Lines.{with_statement, with_statements}
use Rattle.pq_schedule.specs.Stated.{stated_under, stated_by, stated_all}

-- the keys ascend, and the first isn't before this place
abbrev ascend_from : ℕ → List Statement → Bool
ascend_from next [] = true
ascend_from next (s ∷ ss) = leb next (place_of s.key) && ascend_from (place_of s.key + 1) ss

-- the packet with all statements, where their keys ascend from the place on
abbrev packet_from : Partial → List Statement → Option TaggedPacket
packet_from x ss = if ascend_from x.next ss then Some (fold with_statement x.packet ss) else None

-- the packet with one more statement, whose key may not be before the least place
abbrev stated_next : Partial → Statement → Option Partial
stated_next x s = if leb x.next (place_of s.key) then Some (record { packet = with_statement x.packet s; next = place_of s.key + 1 }) else None

-- without a number nothing is stated
abbrev nothing : Option Partial
nothing = None

neither : (b : Bool) → (if b then nothing else nothing) ≡ nothing
neither true = refl
neither false = refl

-- a word states what its statement is
under_is : (x : Partial) (key : Option Key) (value : Option (List ℕ)) → stated_under x key value ≡ option_and_then (stated_next x) (statement_with key value)
under_is x None value = refl
under_is x (Some key) None = refl
under_is x (Some key) (Some value) = on (key_number key value) where
  on : (number : Option ℕ)
      → (if leb x.next (place_of key) then option_map {U = Partial} (λ p. record { packet = p; next = place_of key + 1 })
      (option_map (λ n. with_key key n x.packet) number) else None)
      ≡ option_and_then (stated_next x) (option_map {U = Statement} (λ n. record { key = key; number = n }) number)
  on None = neither (leb x.next (place_of key))
  on (Some n) = refl

-- the first statement, and then the others
packet_step : (x : Partial) (s : Statement) (ss : List Statement) → option_and_then (λ y. packet_from y ss) (stated_next x s) ≡ packet_from x (s ∷ ss)
packet_step x s ss = by (leb x.next (place_of s.key)) where
  by : (b : Bool) → option_and_then (λ y. packet_from y ss)
      (if b then Some (record { packet = with_statement x.packet s; next = place_of s.key + 1 }) else None)
      ≡ (if (b && ascend_from (place_of s.key + 1) ss) then Some (fold with_statement x.packet (s ∷ ss)) else None)
  by true = refl
  by false = refl

-- with any first word, where the words after it are done
words_step : (x : Partial) (first : Option Statement) (rest : Option (List Statement)) →
    option_and_then (λ y. option_and_then (packet_from y) rest) (option_and_then (stated_next x) first)
    ≡ option_and_then (packet_from x) (option_and_then (λ s. option_map (λ ss. s ∷ ss) rest) first)
words_step x None rest = refl
words_step x (Some s) (Some ss) = packet_step x s ss
words_step x (Some s) None = none (stated_next x s) where
  none : (y : Option Partial) → option_and_then (λ z. option_and_then (packet_from z) None) y ≡ None
  none None = refl
  none (Some y) = refl

-- word after word
stated_from : (x : Partial) (words : List (List ℕ)) → stated_all x words ≡ option_and_then (packet_from x) (statements_of words)
stated_from x [] = refl
stated_from x (word ∷ words) = ap (λ f. option_and_then f (stated_by x word)) (λ i y. stated_from y words i)
    ∙ ap (option_and_then (λ y. option_and_then (packet_from y) (statements_of words))) (under_is x _ _)
    ∙ words_step x (statement_of word) (statements_of words)

-- ascending keys ascend from 0 on
behind : (s : Statement) (ss : List Statement) → ascend_from (place_of s.key + 1) ss ≡ ascend (s ∷ ss)
behind s [] = refl
behind s (t ∷ rest) =
    let next : place_of s.key + 1 ≡ suc (place_of s.key) = omega arith in
    λ i. leb (next i) (place_of t.key) && behind t rest i

ascend_is : (ss : List Statement) → ascend_from 0 ss ≡ ascend ss
ascend_is [] = refl
ascend_is (s ∷ ss) = ap (λ b. b && ascend_from (place_of s.key + 1) ss) (leb-zero (place_of s.key)) ∙ behind s ss

-- all words together
pub stated_is : (x : TaggedPacket) (words : List (List ℕ))
    → stated_all (record { packet = x; next = 0 }) words ≡ option_and_then (with_statements x) (statements_of words)
stated_is x words = stated_from (record { packet = x; next = 0 }) words
    ∙ ap (λ f. option_and_then f (statements_of words)) (λ i ss. if (ascend_is ss i) then Some (fold with_statement x ss) else None)
