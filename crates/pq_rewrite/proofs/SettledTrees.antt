-- Trees that write field by field.
use Rattle.std.proofs.Common.{ℕ, ◌≤◌, ◌-◌, ◌≡◌, ◌∙◌, Bool, true, false, List, [], ◌∷◌, length, take, drop, get_or, Some, if◌then◌else◌}
use Rattle.std.proofs.Common.{refl, sym, ap, subst, arith}
use Rattle.std.proofs.lemmas.List.{take_rest}
use Rattle.pq_fields.specs.declared.field.Field.{Field}
use Rattle.pq_fields.specs.declared.field.Field.TheVariants.{Switch, Port, EthType, IpProto, EthSrc, EthDst, Ipv4Src, Ipv4Dst, TcpSrc}
use Rattle.pq_fields.specs.declared.field.Field.TheVariants.{TcpDst, UdpSrc, UdpDst, Ipv6Src, Ipv6Dst}
use Rattle.pq_fields.specs.Packet.{Numbers}
use Rattle.pq_fields.specs.Writes.{Written, AllFit, is_writable, no_writes, on, with_write, written_in}
use Rattle.pq_store.specs.Tree.{Tree}
use Rattle.pq_store.specs.Store.{HasAt}
use Rattle.pq_rewrite.specs.Choices.{ChoosesByAt, FitByAt, IsChoiceBy, change_needs, differs}
use Rattle.pq_rewrite.specs.Rewriting.{IsGiven}
use Rattle.pq_rewrite.specs.Settled.{IsSettled, IsSettledFrom, with_change, with_changes}
use Rattle.pq_rewrite.proofs.Needed.{numbers_cover, numbers_few, numbers_of}
use Rattle.pq_rewrite.proofs.Settling.{changes_given, is_among, steps_change}
use Rattle.pq_rewrite.proofs.Standing.{has_there}

-- a list that isn't empty is its first and the rest
pub first_and_rest : {X : Type 0} (xs : List X) (d : X) → 1 ≤ length xs → get_or xs 0 d ∷ take (length xs - 1) (drop 1 xs) ≡ xs
first_and_rest [] d some = absurd (omega arith)
first_and_rest (x ∷ xs) d some = ap (λ ys. x ∷ ys) (take_rest (x ∷ xs) 1)

module _ (f : Field) (n : ℕ) (fs : List Field) (w done : Written) (is : written_in f w ≡ Some n) where
  -- two of them may come together in a choice by whether a written field changes
  pub settled_fit : (ts : List (Tree (List Written))) (i j : ℕ) → HasAt (IsSettledFrom fs w (with_write f n done)) ts i
      → HasAt (IsSettledFrom fs w done) ts j → FitByAt (change_needs f n) ts i j
  settled_fit ts i j first second y m y_is m_is =
      let ns = numbers_of w in
      let left = has_there (IsSettledFrom fs w (with_write f n done)) ts i y first y_is in
      let right = has_there (IsSettledFrom fs w done) ts j m second m_is in
      record { numbers = ns; few = numbers_few w; within = (numbers_cover w f n is, left.tests ns (numbers_cover w), right.tests ns (numbers_cover w)) }

  -- the choice writes the field too, where it changes
  settled_joined : (y m r : Tree (List Written)) → IsSettledFrom fs w (with_write f n done) y → IsSettledFrom fs w done m
      → IsChoiceBy (differs f n) (change_needs f n) y m r
      → IsSettledFrom (f ∷ fs) w done r
  settled_joined y m r first second choice = record {
    gives = λ x fit.
        choice.gives x fit
        ∙ ((λ k. if differs f n x then first.gives x fit k else second.gives x fit k)
        ∙ (by x (differs f n x) ∙ ap (λ o. with_changes fs w x (with_change f o x done) ∷ []) (sym is)));
    tests = λ ns covers. choice.tests ns (covers f n is) (first.tests ns covers) (second.tests ns covers);
  }
    where
      by : (x : Numbers) (b : Bool) → (if b then with_changes fs w x (with_write f n done) ∷ [] else with_changes fs w x done ∷ [])
          ≡ with_changes fs w x (if b then with_write f n done else done) ∷ []
      by x true = refl
      by x false = refl

  -- so it does at its place
  pub settled_next : (ts new : List (Tree (List Written))) (i j id : ℕ) → HasAt (IsSettledFrom fs w (with_write f n done)) ts i
      → HasAt (IsSettledFrom fs w done) ts j
      → ChoosesByAt (differs f n) (change_needs f n) ts i j new id → HasAt (IsSettledFrom (f ∷ fs) w done) new id
  settled_next ts new i j id first second chooses =
      let chosen = chooses first.0 second.0 first.1 second.1 in
      (chosen.0, chosen.1, settled_joined first.0 second.0 chosen.0 first.2 second.2 chosen.2)

-- the fields that can be written, in field order
abbrev pub writable_fields : List Field
writable_fields = Port ∷ EthSrc ∷ EthDst ∷ Ipv4Src ∷ Ipv4Dst ∷ TcpSrc ∷ TcpDst ∷ UdpSrc ∷ UdpDst ∷ []

-- each of them is one of these
pub all_writable : (f : Field) → is_writable f ≡ true → is_among f writable_fields ≡ true
all_writable Switch writable = writable
all_writable Port writable = refl
all_writable EthType writable = writable
all_writable IpProto writable = writable
all_writable EthSrc writable = refl
all_writable EthDst writable = refl
all_writable Ipv4Src writable = refl
all_writable Ipv4Dst writable = refl
all_writable TcpSrc writable = refl
all_writable TcpDst writable = refl
all_writable UdpSrc writable = refl
all_writable UdpDst writable = refl
all_writable Ipv6Src writable = writable
all_writable Ipv6Dst writable = writable

-- a tree that writes all of them from nothing writes what changes each packet
pub settled_whole : (w : Written) (t : Tree (List Written)) → AllFit w → IsSettledFrom writable_fields w no_writes t → IsSettled w t
settled_whole w t fits from = record {
  giving = λ x fit. subst (IsGiven x (λ y. y ≡ on w x))
      (sym (from.gives x fit ∙ ap (λ v. v ∷ []) (steps_change writable_fields w x all_writable))) (changes_given w x fits);
  tests = from.tests;
}
